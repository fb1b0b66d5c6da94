-- What a line of an answer text adds to what the lines before it gave, or the cause against it.
use Rattle.std.specs.Prelude.{ℕ, suc, ◌++◌, ℤ, pos, int_lt, Bool, true, false, not, ◌&&◌, nat_lt, nat_le, List, [], ◌∷◌, length, map, replicate, set, Option, None, Some, Result, Ok, Err, if◌then◌else◌, codes, bytes_eq, slice_index_or}
use Rattle.fractions.specs.Width.{fits}
use Rattle.text_grammar.specs.Grammars.{Grammar, SpellsBy, IsFirstBadBy}
use Rattle.text_grammar.specs.Outcomes.{◌>>=◌, refused_where, or_cause}
use Rattle.text_grammar.specs.Printing.{line_of, text_of}
use Rattle.cert_grammar.specs.declared.due.Due.{Due}
use Rattle.cert_grammar.specs.declared.due.Due.TheVariants.{Header, RouteLine, ClaimLine, Over, Vals, Ons, Steps, LastLine, TreeLine, Nodes, Nothing}
use Rattle.cert_grammar.specs.declared.due.ClaimKind.{ClaimKind}
use Rattle.cert_grammar.specs.declared.due.ClaimKind.TheVariants.{IsBest, IsEmpty, IsEndless}
use Rattle.cert_grammar.specs.declared.cause.CertCause.{CertCause}
use Rattle.cert_grammar.specs.declared.cause.CertCause.TheVariants as cause
use Rattle.answers.specs.declared.answer.Route.{Route}
use Rattle.answers.specs.declared.answer.Route.TheVariants.{BigM}
use Rattle.cert_grammar.specs.Claims.{route_of, spelled_value, answer_lines}
use Rattle.answers.specs.declared.answer.Answer.{Answer}
use Rattle.answers.specs.declared.claim.Claim.{Claim}
use Rattle.answers.specs.declared.claim.Claim.TheVariants.{Best, Empty, Endless}
use Rattle.cert_grammar.specs.ExactLines.{ExactLine, exact_lines}
use Rattle.cert_grammar.specs.Trees.{TreeTaken, tree_open, with_words}
use Rattle.cert_grammar.specs.Wholes.{whole_of}

-- what the lines so far gave
pub record AnswerTaken : Type 0 where
  pub due : Due
  pub route : Route
  pub kind : ClaimKind
  pub over : ℤ
  pub nums : List ℤ
  pub truths : List Bool
  pub ray : List ℤ
  pub tree : TreeTaken

-- before the first line, over so many Booleans
abbrev pub nothing_taken : ℕ → AnswerTaken
nothing_taken booleans = record { due = Header; route = BigM; kind = IsEmpty; over = pos 1; nums = []; truths = replicate booleans false; ray = []; tree = tree_open }

-- the words are these two
abbrev pub are_two : List ℕ → List ℕ → List (List ℕ) → Bool
are_two first second (a ∷ b ∷ []) = bytes_eq a first && bytes_eq b second
are_two first second _ = false

-- the words are this one alone
abbrev pub is_one : List ℕ → List (List ℕ) → Bool
is_one word (a ∷ []) = bytes_eq a word
is_one word _ = false

-- the second word of a line of two that begins with this one
abbrev pub second_of : List ℕ → List (List ℕ) → Option (List ℕ)
second_of first (a ∷ b ∷ []) = if bytes_eq a first then Some b else None
second_of first _ = None

-- a word has a byte; a blank too many leaves one that has none
abbrev pub is_filled : List ℕ → Bool
is_filled [] = false
is_filled (b ∷ bs) = true

-- the name and the number of a line of three words
abbrev pub third_of : List ℕ → List (List ℕ) → Option (List ℕ × List ℕ)
third_of first (a ∷ b ∷ c ∷ []) = if bytes_eq a first && is_filled b then Some (b, c) else None
third_of first _ = None

-- the name of a line of two words that begins with `on`
abbrev pub on_name : List (List ℕ) → Option (List ℕ)
on_name (a ∷ b ∷ []) = if bytes_eq a (codes "on") && is_filled b then Some b else None
on_name _ = None

-- the number of a line on the name that is due
abbrev pub named_number : List ℕ → List ℕ → List (List ℕ) → Result ℤ CertCause
named_number first name words = do
  parts ← or_cause cause.Form (third_of first words)
  z ← or_cause cause.Form (whole_of parts.1)
  due ← refused_where (not (bytes_eq parts.0 name)) cause.Name
  number ← refused_where (not (fits z)) cause.Number
  Ok z

-- the line behind the last of so many
abbrev pub behind_vals : ℕ → List ℤ → Due
behind_vals n nums = if nat_lt (length nums) n then Vals else Ons 0

-- the line behind the last of so many steps
abbrev pub behind_steps : ℕ → List ℤ → Due
behind_steps n ray = if nat_lt (length ray) n then Steps else LastLine

-- the same, with this line due
abbrev pub at_due : Due → AnswerTaken → AnswerTaken
at_due due t = record t { due = due }

-- what the first line adds
abbrev pub header_line : AnswerTaken → List (List ℕ) → Result AnswerTaken CertCause
header_line t words = if are_two (codes "gdp-answer") (codes "1") words then Ok (at_due RouteLine t) else Err cause.Form

-- what the line of the route adds
abbrev pub route_line : AnswerTaken → List (List ℕ) → Result AnswerTaken CertCause
route_line t words = do
  word ← or_cause cause.Form (second_of (codes "route") words)
  route ← or_cause cause.Form (route_of word)
  Ok (at_due ClaimLine (record t { route = route }))

-- what the line of the claim adds
abbrev pub claim_line : AnswerTaken → List (List ℕ) → Result AnswerTaken CertCause
claim_line t words =
    if is_one (codes "empty") words then Ok (at_due TreeLine t)
    else (if is_one (codes "endless") words then Ok (at_due Over (record t { kind = IsEndless }))
    else (or_cause cause.Form (second_of (codes "best") words) >>= (λ word. spelled_value word >>= (λ value. Ok (at_due Over (record t { kind = IsBest value }))))))

-- what the line of the denominator adds
abbrev pub over_line : ℕ → AnswerTaken → List (List ℕ) → Result AnswerTaken CertCause
over_line n t words = do
  word ← or_cause cause.Form (second_of (codes "over") words)
  z ← or_cause cause.Form (whole_of word)
  number ← refused_where (not (int_lt (pos 0) z && fits z)) cause.Number
  Ok (at_due (behind_vals n []) (record t { over = z }))

-- what the line of the next variable adds
abbrev pub val_line : List (List ℕ) → AnswerTaken → List (List ℕ) → Result AnswerTaken CertCause
val_line names t words = do
  z ← named_number (codes "val") (slice_index_or names (length t.nums) []) words
  Ok (at_due (behind_vals (length names) (t.nums ++ z ∷ [])) (record t { nums = t.nums ++ z ∷ [] }))

-- what the line of the next step adds
abbrev pub step_line : List (List ℕ) → AnswerTaken → List (List ℕ) → Result AnswerTaken CertCause
step_line names t words = do
  z ← named_number (codes "step") (slice_index_or names (length t.ray) []) words
  Ok (at_due (behind_steps (length names) (t.ray ++ z ∷ [])) (record t { ray = t.ray ++ z ∷ [] }))

-- the place of a name from a place on
abbrev pub place_from : ℕ → ℕ → List ℕ → List (List ℕ) → Option ℕ
place_from least k name [] = None
place_from least k name (n ∷ ns) = if nat_le least k && bytes_eq name n then Some k else place_from least (suc k) name ns

-- what the line before the nodes adds
abbrev pub tree_line : AnswerTaken → List (List ℕ) → Result AnswerTaken CertCause
tree_line t words = if is_one (codes "tree") words then Ok (at_due Nodes t) else Err cause.Form

-- behind the Booleans comes the tree, or the first step
abbrev pub behind_ons : List (List ℕ) → AnswerTaken → ClaimKind → List (List ℕ) → Result AnswerTaken CertCause
behind_ons names t IsEndless words = step_line names t words
behind_ons names t kind words = tree_line t words

-- what the line of a Boolean adds, or the line behind those
abbrev pub on_line : List (List ℕ) → List (List ℕ) → AnswerTaken → ℕ → List (List ℕ) → Option (List ℕ) → Result AnswerTaken CertCause
on_line names booleans t least words None = behind_ons names t t.kind words
on_line names booleans t least words (Some name) = do
  id ← or_cause cause.Name (place_from least 0 name booleans)
  Ok (at_due (Ons (suc id)) (record t { truths = set t.truths id true }))

-- the line behind that of a node
abbrev pub behind_nodes : TreeTaken → Due
behind_nodes tree = if tree.ended then Nothing else Nodes

-- what the line of a node adds, or that of the end
abbrev pub node_line : AnswerTaken → List (List ℕ) → Result AnswerTaken CertCause
node_line t words = do
  tree ← with_words t.tree words
  Ok (at_due (behind_nodes tree) (record t { tree = tree }))

-- what the end of a claim without a proof adds
abbrev pub last_line : AnswerTaken → List (List ℕ) → Result AnswerTaken CertCause
last_line t words = if is_one (codes "end") words then Ok (at_due Nothing t) else Err cause.Form

-- what a line with these words adds, by what is due
abbrev pub due_line : List (List ℕ) → List (List ℕ) → AnswerTaken → Due → List (List ℕ) → Result AnswerTaken CertCause
due_line names booleans t Header words = header_line t words
due_line names booleans t RouteLine words = route_line t words
due_line names booleans t ClaimLine words = claim_line t words
due_line names booleans t Over words = over_line (length names) t words
due_line names booleans t Vals words = val_line names t words
due_line names booleans t (Ons least) words = on_line names booleans t least words (on_name words)
due_line names booleans t Steps words = step_line names t words
due_line names booleans t LastLine words = last_line t words
due_line names booleans t TreeLine words = tree_line t words
due_line names booleans t Nodes words = node_line t words
due_line names booleans t Nothing words = Err cause.Form

-- what a line adds; a line that no newline ends is refused
unfoldable pub with_line : List (List ℕ) → List (List ℕ) → AnswerTaken → ExactLine → Result AnswerTaken CertCause
with_line names booleans t line = do
  ended ← refused_where (not line.is_ended) cause.Form
  due_line names booleans t t.due line.words

-- the claim that the lines gave
abbrev pub claim_of : AnswerTaken → ClaimKind → Claim
claim_of t (IsBest value) = Best (record { over = t.over; nums = t.nums }) t.truths value t.tree.nodes
claim_of t IsEmpty = Empty t.tree.nodes
claim_of t IsEndless = Endless (record { over = t.over; nums = t.nums }) t.truths t.ray

-- no line is due
abbrev pub is_nothing : Due → Bool
is_nothing Nothing = true
is_nothing _ = false

-- the answer that the lines gave; a text that ends early is refused there
unfoldable pub answer_after : AnswerTaken → Result Answer CertCause
answer_after t = do
  end ← refused_where (not (is_nothing t.due)) cause.Form
  Ok (record { route = t.route; claim = claim_of t t.kind })

-- the grammar of answer texts over variables and Booleans with these names
abbrev pub answer_grammar : List (List ℕ) → List (List ℕ) → Grammar ExactLine AnswerTaken Answer CertCause
answer_grammar names booleans = record { start = nothing_taken (length booleans); step = λ line t l. with_line names booleans t l; finish = answer_after }

-- the text spells the answer
abbrev pub SpellsAnswer : List (List ℕ) → List (List ℕ) → List ℕ → Answer → Type 0
SpellsAnswer names booleans text a = SpellsBy (answer_grammar names booleans) (exact_lines text) a

-- the first bad line of a text, or its end, and the cause
abbrev pub IsFirstBadOfAnswer : List (List ℕ) → List (List ℕ) → List ℕ → ℕ → CertCause → Type 0
IsFirstBadOfAnswer names booleans text line cause = IsFirstBadBy (answer_grammar names booleans) (exact_lines text) line cause

-- the words of a line with single blanks
abbrev pub exact_text_line : List (List ℕ) → List ℕ
exact_text_line [] = []
exact_text_line (w ∷ ws) = line_of w ws

-- the text of an answer
unfoldable pub answer_text_of : List (List ℕ) → List (List ℕ) → Answer → List ℕ
answer_text_of names booleans a = text_of (map exact_text_line (answer_lines names booleans a))
