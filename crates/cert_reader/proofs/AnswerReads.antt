-- What the lines of an answer give, step by step.
use Rattle.std.proofs.Common.{◌≡◌, ℕ, suc, ◌+◌, ◌≤◌, ℤ, pos, negsuc, int_lt, ◌≤ℤ◌, Bool, true, false, not, ◌&&◌, if◌then◌else◌, List, [], ◌∷◌, ◌++◌, length, map, codes, Option, None, Some, Result, Ok, Err, refl, ap, sym, ◌∙◌, ◌⊎◌, inl, inr, arith}
use Rattle.std.specs.Prelude.{set, slice_index_or, nat_lt}
use Rattle.std.proofs.lemmas.Bool.Decides.{nat_tests}
use Rattle.std.proofs.lemmas.Int.{ints}
use Rattle.std.proofs.lemmas.List.{set_past}
use Rattle.fractions.specs.Fraction.{Fraction}
use Rattle.fractions.specs.Width.{fits}
use Rattle.text_grammar.specs.Grammars.{SpellsBy, IsFirstBadBy}
use Rattle.text_grammar.specs.Outcomes.{◌>>=◌, refused_where, or_cause}
use Rattle.text_reader.proofs.Following.{IsLeft, one_taken, bad_line, good_end, bad_end}
use Rattle.cert_grammar.specs.declared.cause.CertCause.{CertCause}
use Rattle.cert_grammar.specs.declared.cause.CertCause.TheVariants as cause
use Rattle.answers.specs.declared.answer.Route.{Route}
use Rattle.cert_grammar.specs.Answers.{AnswerTaken, at_due, are_two, is_one, second_of, named_number, claim_line, over_line, val_line, step_line, on_line, tree_line, behind_vals, behind_steps, behind_ons, behind_nodes, place_from, due_line, with_line, is_nothing, answer_after, answer_grammar}
use Rattle.cert_grammar.specs.declared.due.Due.{Due}
use Rattle.cert_grammar.specs.declared.due.Due.TheVariants.{Header, RouteLine, ClaimLine, Over, Vals, Ons, Steps, LastLine, TreeLine, Nodes, Nothing}
use Rattle.cert_grammar.specs.declared.due.ClaimKind.{ClaimKind}
use Rattle.cert_grammar.specs.declared.due.ClaimKind.TheVariants.{IsBest, IsEmpty, IsEndless}
use Rattle.lp_rows.specs.Points.{PointValue, point_made}
use Rattle.lp_rows.specs.declared.points.PointError.{PointError}
use Rattle.lp_rows.specs.declared.points.PointError.TheVariants as point_error
use Rattle.cert_grammar.specs.Claims.{route_of, spelled_value}
use Rattle.answers.specs.declared.answer.Answer.{Answer}
use Rattle.answers.specs.declared.claim.Claim.TheVariants.{Best, Empty, Endless}
use Rattle.cert_grammar.specs.ExactLines.{exact_line, exact_lines, pieces_of}
use Rattle.proof_tree.specs.declared.proof.Node.{Node}
use Rattle.cert_grammar.specs.Trees.{TreeTaken, with_words}
use Rattle.cert_grammar.specs.Wholes.{whole_of}
use Rattle.cert_grammar.specs.Answers.{header_line, route_line, last_line, node_line}
use Rattle.cert_reader.specs.AnswerReads.{is_endless, is_kept, pushed}
use Rattle.cert_lines.specs.LineReads.{over_of}

-- numbers
pub pushed_bad : (numbers : List ℤ) (first name : List ℕ) (words : List (List ℕ)) (c : CertCause) → Err c ≡ named_number first name words → pushed numbers first name words ≡ Err c
pushed_bad numbers first name words c e = ap (λ (r : Result ℤ CertCause). r >>= (λ z. Ok (numbers ++ z ∷ []))) (sym e)

pub pushed_one : (numbers : List ℤ) (first name : List ℕ) (words : List (List ℕ)) (z : ℤ) → Ok z ≡ named_number first name words → pushed numbers first name words ≡ Ok (numbers ++ z ∷ [])
pushed_one numbers first name words z e = ap (λ (r : Result ℤ CertCause). r >>= (λ z. Ok (numbers ++ z ∷ []))) (sym e)

pub set_beyond : (truths : List Bool) (place : ℕ) → length truths ≤ place → truths ≡ set truths place true
set_beyond truths place le = sym (set_past truths place true le)

-- the first line
pub header_bad : (t : AnswerTaken) (words : List (List ℕ)) → are_two (codes "gdp-answer") (codes "1") words ≡ false → header_line t words ≡ Err cause.Form
header_bad t words e = rw e refl

pub header_good : (t : AnswerTaken) (words : List (List ℕ)) → are_two (codes "gdp-answer") (codes "1") words ≡ true → header_line t words ≡ Ok (at_due RouteLine t)
header_good t words e = rw e refl

-- the route
pub route_bad : (t : AnswerTaken) (words : List (List ℕ)) → second_of (codes "route") words ≡ None → route_line t words ≡ Err cause.Form
route_bad t words e = rw e refl

pub route_none : (t : AnswerTaken) (words : List (List ℕ)) (word : List ℕ) → second_of (codes "route") words ≡ Some word → None ≡ route_of word → route_line t words ≡ Err cause.Form
route_none t words word e n = rw (e, ← n) refl

pub route_good : (t : AnswerTaken) (words : List (List ℕ)) (word : List ℕ) (r : Route) → second_of (codes "route") words ≡ Some word → Some r ≡ route_of word → route_line t words ≡ Ok (at_due ClaimLine (record t { route = r }))
route_good t words word r e s = rw (e, ← s) refl

-- the claim
pub claim_empty : (t : AnswerTaken) (words : List (List ℕ)) → is_one (codes "empty") words ≡ true → claim_line t words ≡ Ok (at_due TreeLine t)
claim_empty t words e = rw e refl

pub claim_endless : (t : AnswerTaken) (words : List (List ℕ)) → is_one (codes "empty") words ≡ false → is_one (codes "endless") words ≡ true → claim_line t words ≡ Ok (at_due Over (record t { kind = IsEndless }))
claim_endless t words e f = rw (e, f) refl

pub claim_form : (t : AnswerTaken) (words : List (List ℕ)) → is_one (codes "empty") words ≡ false → is_one (codes "endless") words ≡ false → second_of (codes "best") words ≡ None → claim_line t words ≡ Err cause.Form
claim_form t words e f n = rw (e, f, n) refl

pub claim_bad : (t : AnswerTaken) (words : List (List ℕ)) (word : List ℕ) (c : CertCause) → is_one (codes "empty") words ≡ false → is_one (codes "endless") words ≡ false → second_of (codes "best") words ≡ Some word → Err c ≡ spelled_value word → claim_line t words ≡ Err c
claim_bad t words word c e f s v = rw (e, f, s, ← v) refl

pub claim_best : (t : AnswerTaken) (words : List (List ℕ)) (word : List ℕ) (value : Fraction) → is_one (codes "empty") words ≡ false → is_one (codes "endless") words ≡ false → second_of (codes "best") words ≡ Some word → Ok value ≡ spelled_value word
    → claim_line t words ≡ Ok (at_due Over (record t { kind = IsBest value }))
claim_best t words word value e f s v = rw (e, f, s, ← v) refl

-- the denominator
over_with : (n : ℕ) (t : AnswerTaken) (words : List (List ℕ)) → over_line n t words ≡ (or_cause cause.Form (second_of (codes "over") words) >>= (λ word. over_of word >>= (λ z. Ok (at_due (behind_vals n []) (record t { over = z })))))
over_with n t words = go (second_of (codes "over") words)
  where
    at_word : (o : Option ℤ) → (or_cause cause.Form o >>= (λ z. refused_where (not (int_lt (pos 0) z && fits z)) cause.Number >>= (λ _. Ok (at_due (behind_vals n []) (record t { over = z })))))
        ≡ ((or_cause cause.Form o >>= (λ z. refused_where (not (int_lt (pos 0) z && fits z)) cause.Number >>= (λ _. Ok z))) >>= (λ z. Ok (at_due (behind_vals n []) (record t { over = z }))))
    at_word None = refl
    at_word (Some z) = at_number (int_lt (pos 0) z && fits z)
      where
        at_number : (b : Bool) → (refused_where (not b) cause.Number >>= (λ _. Ok (at_due (behind_vals n []) (record t { over = z })))) ≡ ((refused_where (not b) cause.Number >>= (λ _. Ok z)) >>= (λ z. Ok (at_due (behind_vals n []) (record t { over = z }))))
        at_number true = refl
        at_number false = refl

    go : (o : Option (List ℕ)) → (or_cause cause.Form o >>= (λ word. or_cause cause.Form (whole_of word) >>= (λ z. refused_where (not (int_lt (pos 0) z && fits z)) cause.Number >>= (λ _. Ok (at_due (behind_vals n []) (record t { over = z }))))))
        ≡ (or_cause cause.Form o >>= (λ word. over_of word >>= (λ z. Ok (at_due (behind_vals n []) (record t { over = z })))))
    go None = refl
    go (Some word) = at_word (whole_of word)

pub over_form : (n : ℕ) (t : AnswerTaken) (words : List (List ℕ)) → second_of (codes "over") words ≡ None → over_line n t words ≡ Err cause.Form
over_form n t words e = over_with n t words ∙ rw e refl

pub over_bad : (n : ℕ) (t : AnswerTaken) (words : List (List ℕ)) (word : List ℕ) (c : CertCause) → second_of (codes "over") words ≡ Some word → Err c ≡ over_of word → over_line n t words ≡ Err c
over_bad n t words word c e f = over_with n t words ∙ rw (e, ← f) refl

pub over_good : (n : ℕ) (t : AnswerTaken) (words : List (List ℕ)) (word : List ℕ) (z : ℤ) → second_of (codes "over") words ≡ Some word → Ok z ≡ over_of word → over_line n t words ≡ Ok (at_due (behind_vals n []) (record t { over = z }))
over_good n t words word z e f = over_with n t words ∙ rw (e, ← f) refl

-- the numbers
val_with : (names : List (List ℕ)) (t : AnswerTaken) (words : List (List ℕ)) → val_line names t words ≡ (pushed t.nums (codes "val") (slice_index_or names (length t.nums) []) words >>= (λ zs. Ok (at_due (behind_vals (length names) zs) (record t { nums = zs }))))
val_with names t words = go (named_number (codes "val") (slice_index_or names (length t.nums) []) words)
  where
    go : (r : Result ℤ CertCause) → (r >>= (λ z. Ok (at_due (behind_vals (length names) (t.nums ++ z ∷ [])) (record t { nums = t.nums ++ z ∷ [] })))) ≡ ((r >>= (λ z. Ok (t.nums ++ z ∷ []))) >>= (λ zs. Ok (at_due (behind_vals (length names) zs) (record t { nums = zs }))))
    go (Ok z) = refl
    go (Err c) = refl

pub val_bad : (names : List (List ℕ)) (t : AnswerTaken) (words : List (List ℕ)) (c : CertCause) → pushed t.nums (codes "val") (slice_index_or names (length t.nums) []) words ≡ Err c → val_line names t words ≡ Err c
val_bad names t words c e = val_with names t words ∙ rw e refl

pub val_good : (names : List (List ℕ)) (t : AnswerTaken) (words : List (List ℕ)) (zs : List ℤ) → pushed t.nums (codes "val") (slice_index_or names (length t.nums) []) words ≡ Ok zs → val_line names t words ≡ Ok (at_due (behind_vals (length names) zs) (record t { nums = zs }))
val_good names t words zs e = val_with names t words ∙ rw e refl

-- the steps
step_with : (names : List (List ℕ)) (t : AnswerTaken) (words : List (List ℕ)) → step_line names t words ≡ (pushed t.ray (codes "step") (slice_index_or names (length t.ray) []) words >>= (λ zs. Ok (at_due (behind_steps (length names) zs) (record t { ray = zs }))))
step_with names t words = go (named_number (codes "step") (slice_index_or names (length t.ray) []) words)
  where
    go : (r : Result ℤ CertCause) → (r >>= (λ z. Ok (at_due (behind_steps (length names) (t.ray ++ z ∷ [])) (record t { ray = t.ray ++ z ∷ [] })))) ≡ ((r >>= (λ z. Ok (t.ray ++ z ∷ []))) >>= (λ zs. Ok (at_due (behind_steps (length names) zs) (record t { ray = zs }))))
    go (Ok z) = refl
    go (Err c) = refl

pub step_bad : (names : List (List ℕ)) (t : AnswerTaken) (words : List (List ℕ)) (c : CertCause) → pushed t.ray (codes "step") (slice_index_or names (length t.ray) []) words ≡ Err c → step_line names t words ≡ Err c
step_bad names t words c e = step_with names t words ∙ rw e refl

pub step_good : (names : List (List ℕ)) (t : AnswerTaken) (words : List (List ℕ)) (zs : List ℤ) → pushed t.ray (codes "step") (slice_index_or names (length t.ray) []) words ≡ Ok zs → step_line names t words ≡ Ok (at_due (behind_steps (length names) zs) (record t { ray = zs }))
step_good names t words zs e = step_with names t words ∙ rw e refl

-- the line before the nodes
pub tree_bad : (t : AnswerTaken) (words : List (List ℕ)) → is_one (codes "tree") words ≡ false → tree_line t words ≡ Err cause.Form
tree_bad t words e = rw e refl

pub tree_good : (t : AnswerTaken) (words : List (List ℕ)) → is_one (codes "tree") words ≡ true → tree_line t words ≡ Ok (at_due Nodes t)
tree_good t words e = rw e refl

-- the Booleans
pub ons_endless : (names : List (List ℕ)) (t : AnswerTaken) (k : ClaimKind) (words : List (List ℕ)) → is_endless k ≡ true → step_line names t words ≡ behind_ons names t k words
ons_endless names t (IsBest value) words e = absurd (cc e)
ons_endless names t IsEmpty words e = absurd (cc e)
ons_endless names t IsEndless words e = refl

pub ons_tree : (names : List (List ℕ)) (t : AnswerTaken) (k : ClaimKind) (words : List (List ℕ)) → is_endless k ≡ false → tree_line t words ≡ behind_ons names t k words
ons_tree names t (IsBest value) words e = refl
ons_tree names t IsEmpty words e = refl
ons_tree names t IsEndless words e = absurd (cc e)

pub on_none : (names booleans : List (List ℕ)) (t : AnswerTaken) (least : ℕ) (words : List (List ℕ)) (o : Option (List ℕ)) → o ≡ None → behind_ons names t t.kind words ≡ on_line names booleans t least words o
on_none names booleans t least words o e = rw e refl

pub on_unknown : (names booleans : List (List ℕ)) (t : AnswerTaken) (least : ℕ) (words : List (List ℕ)) (o : Option (List ℕ)) (name : List ℕ) → o ≡ Some name → None ≡ place_from least 0 name booleans → on_line names booleans t least words o ≡ Err cause.Name
on_unknown names booleans t least words o name e n = rw (e, ← n) refl

pub on_known : (names booleans : List (List ℕ)) (t : AnswerTaken) (least : ℕ) (words : List (List ℕ)) (o : Option (List ℕ)) (name : List ℕ) (place : ℕ) → o ≡ Some name → Some place ≡ place_from least 0 name booleans
    → on_line names booleans t least words o ≡ Ok (at_due (Ons (suc place)) (record t { truths = set t.truths place true }))
on_known names booleans t least words o name place e s = rw (e, ← s) refl

-- the end
pub last_bad : (t : AnswerTaken) (words : List (List ℕ)) → is_one (codes "end") words ≡ false → last_line t words ≡ Err cause.Form
last_bad t words e = rw e refl

pub last_good : (t : AnswerTaken) (words : List (List ℕ)) → is_one (codes "end") words ≡ true → last_line t words ≡ Ok (at_due Nothing t)
last_good t words e = rw e refl

-- the nodes
pub node_bad : (t : AnswerTaken) (words : List (List ℕ)) (c : CertCause) → with_words t.tree words ≡ Err c → node_line t words ≡ Err c
node_bad t words c e = rw e refl

pub node_good : (t : AnswerTaken) (words : List (List ℕ)) (tree : TreeTaken) → with_words t.tree words ≡ Ok tree → node_line t words ≡ Ok (at_due (behind_nodes tree) (record t { tree = tree }))
node_good t words tree e = rw e refl

-- any line
pub line_open : (names booleans : List (List ℕ)) (t : AnswerTaken) (word : List ℕ) (ended : Bool) → ended ≡ false → with_line names booleans t (exact_line (word, ended)) ≡ Err cause.Form
unfolding with_line
line_open names booleans t word ended e = rw e refl

pub line_ended : (names booleans : List (List ℕ)) (t : AnswerTaken) (word : List ℕ) (ended : Bool) → ended ≡ true → with_line names booleans t (exact_line (word, ended)) ≡ due_line names booleans t t.due ((exact_line (word, true)).words)
unfolding with_line
line_ended names booleans t word ended e = rw e refl

-- what is kept
pub kept_vals : (n : ℕ) (nums : List ℤ) (k : ClaimKind) (ended : Bool) → is_kept (behind_vals n nums) k ended ≡ true
kept_vals n nums k ended = go (nat_lt (length nums) n)
  where
    go : (b : Bool) → is_kept (if b then Vals else Ons 0) k ended ≡ true
    go true = refl
    go false = refl

pub kept_steps : (n : ℕ) (ray : List ℤ) (k : ClaimKind) (ended : Bool) → is_endless k ≡ true → is_kept (behind_steps n ray) k ended ≡ true
kept_steps n ray k ended e = go (nat_lt (length ray) n)
  where
    go : (b : Bool) → is_kept (if b then Steps else LastLine) k ended ≡ true
    go true = e
    go false = e

pub kept_nodes : (tree : TreeTaken) (k : ClaimKind) → is_kept (behind_nodes tree) k tree.ended ≡ true
kept_nodes tree k = go tree.ended k
  where
    go : (b : Bool) (k : ClaimKind) → is_kept (if b then Nothing else Nodes) k b ≡ true
    go true (IsBest value) = refl
    go true IsEmpty = refl
    go true IsEndless = refl
    go false k = refl

pub kept_ended : (due : Due) (k : ClaimKind) (ended : Bool) → is_kept due k ended ≡ true → is_nothing due ≡ true → is_endless k ≡ false → ended ≡ true
kept_ended Nothing (IsBest value) ended e f g = e
kept_ended Nothing IsEmpty ended e f g = e
kept_ended Nothing IsEndless ended e f g = absurd (cc g)
kept_ended Header k ended e f g = absurd (cc f)
kept_ended RouteLine k ended e f g = absurd (cc f)
kept_ended ClaimLine k ended e f g = absurd (cc f)
kept_ended Over k ended e f g = absurd (cc f)
kept_ended Vals k ended e f g = absurd (cc f)
kept_ended (Ons least) k ended e f g = absurd (cc f)
kept_ended Steps k ended e f g = absurd (cc f)
kept_ended LastLine k ended e f g = absurd (cc f)
kept_ended TreeLine k ended e f g = absurd (cc f)
kept_ended Nodes k ended e f g = absurd (cc f)

-- the point
below_one : (n : ℕ) → 1 ≤ n → nat_lt n 1 ≡ false
below_one n some = grind (arith, nat_tests)

not_less : (z : ℤ) → pos 1 ≤ℤ z → int_lt z (pos 1) ≡ false
not_less (pos n) le = below_one n (omega (arith, ints, le))
not_less (negsuc n) le = absurd (omega (arith, ints, le))

positive_made : (over : ℤ) (nums : List ℤ) → pos 1 ≤ℤ over → point_made over nums ≡ Ok (record { over = over; nums = nums })
positive_made over nums le = rw (not_less over le) refl

pub point_is : (over : ℤ) (nums : List ℤ) (point : PointValue) → pos 1 ≤ℤ over → (Ok point ≡ point_made over nums) ⊎ (Ok point ≡ Err point_error.Memory) → point ≡ record { over = over; nums = nums }
point_is over nums point le (inl e) =
    let made : PointValue = record { over = over; nums = nums } in
    let same : Ok point ≡ Ok made = e ∙ positive_made over nums le in
    cc same
point_is over nums point le (inr e) = absurd (cc e)

abbrev point_err : PointError → Result PointValue PointError
point_err e = Err e

pub never_over : (over : ℤ) (nums : List ℤ) → pos 1 ≤ℤ over → (Err point_error.Over ≡ point_made over nums) ⊎ (point_err point_error.Over ≡ Err point_error.Memory) → ⊥
never_over over nums le (inl e) =
    let made : PointValue = record { over = over; nums = nums } in
    let wrong : point_err point_error.Over ≡ Ok made = e ∙ positive_made over nums le in
    cc wrong
never_over over nums le (inr e) = cc e

-- what is given at the end
pub given_early : (t : AnswerTaken) → is_nothing t.due ≡ false → answer_after t ≡ Err cause.Form
unfolding answer_after
given_early t e = rw e refl

pub given_best : (t : AnswerTaken) (value : Fraction) (point : PointValue) (nodes : List Node) → is_nothing t.due ≡ true → t.kind ≡ IsBest value → point ≡ record { over = t.over; nums = t.nums } → nodes ≡ t.tree.nodes
    → answer_after t ≡ Ok (record { route = t.route; claim = Best point t.truths value nodes })
unfolding answer_after
given_best t value point nodes e k p n = rw (e, k, p, n) refl

pub given_empty : (t : AnswerTaken) (nodes : List Node) → is_nothing t.due ≡ true → t.kind ≡ IsEmpty → nodes ≡ t.tree.nodes → answer_after t ≡ Ok (record { route = t.route; claim = Empty nodes })
unfolding answer_after
given_empty t nodes e k n = rw (e, k, n) refl

pub given_endless : (t : AnswerTaken) (point : PointValue) → is_nothing t.due ≡ true → t.kind ≡ IsEndless → point ≡ record { over = t.over; nums = t.nums } → answer_after t ≡ Ok (record { route = t.route; claim = Endless point t.truths t.ray })
unfolding answer_after
given_endless t point e k p = rw (e, k, p) refl

-- the loop, over the words of a line
pub line_taken : (names booleans : List (List ℕ)) (text left rest word : List ℕ) (ended : Bool) (line : ℕ) (t next : AnswerTaken) → IsLeft (answer_grammar names booleans) (exact_lines text) line t (exact_lines left) → pieces_of left ≡ (word, ended) ∷ pieces_of rest → with_line names booleans t (exact_line (word, ended)) ≡ Ok next
    → IsLeft (answer_grammar names booleans) (exact_lines text) (line + 1) next (exact_lines rest)
line_taken names booleans text left rest word ended line t next is cut step = one_taken (answer_grammar names booleans) (exact_lines text) (exact_lines left) (exact_lines rest) line (exact_line (word, ended)) t next is (ap (map exact_line) cut) step

pub line_bad : (names booleans : List (List ℕ)) (text left rest word : List ℕ) (ended : Bool) (line : ℕ) (t : AnswerTaken) (c : CertCause) → IsLeft (answer_grammar names booleans) (exact_lines text) line t (exact_lines left) → pieces_of left ≡ (word, ended) ∷ pieces_of rest → with_line names booleans t (exact_line (word, ended)) ≡ Err c
    → IsFirstBadBy (answer_grammar names booleans) (exact_lines text) line c
line_bad names booleans text left rest word ended line t c is cut step = bad_line (answer_grammar names booleans) (exact_lines text) (exact_lines left) (exact_lines rest) line (exact_line (word, ended)) t c is (ap (map exact_line) cut) step

none_left : (left : List ℕ) → length left ≡ 0 → exact_lines left ≡ []
none_left [] e = refl
none_left (b ∷ bs) e = absurd (omega (arith, e))

pub end_good : (names booleans : List (List ℕ)) (text left : List ℕ) (line : ℕ) (t : AnswerTaken) (a : Answer) → IsLeft (answer_grammar names booleans) (exact_lines text) line t (exact_lines left) → length left ≡ 0 → answer_after t ≡ Ok a → SpellsBy (answer_grammar names booleans) (exact_lines text) a
end_good names booleans text left line t a is none given = good_end (answer_grammar names booleans) (exact_lines text) (exact_lines left) line t a is (none_left left none) given

pub end_bad : (names booleans : List (List ℕ)) (text left : List ℕ) (line : ℕ) (t : AnswerTaken) (c : CertCause) → IsLeft (answer_grammar names booleans) (exact_lines text) line t (exact_lines left) → length left ≡ 0 → answer_after t ≡ Err c → IsFirstBadBy (answer_grammar names booleans) (exact_lines text) line c
end_bad names booleans text left line t c is none given = bad_end (answer_grammar names booleans) (exact_lines text) (exact_lines left) line t c is (none_left left none) given
