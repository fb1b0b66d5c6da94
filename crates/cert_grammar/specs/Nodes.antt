-- The nodes of a proof, and the words of their lines.
use Rattle.std.specs.Prelude.{ℕ, suc, ◌^◌, ℤ, Bool, not, ◌&&◌, ◌==◌, nat_le, nat_lt, nat_eq, unsigned_abs, List, [], ◌∷◌, ◌++◌, Option, None, Some, Result, Ok, if◌then◌else◌, codes, bytes_eq}
use Rattle.std.specs.List.{list_all}
use Rattle.std.specs.Fmt.{decimal}
use Rattle.fractions.specs.Width.{fits}
use Rattle.proof_tree.specs.declared.path.Split.TheVariants as split
use Rattle.proof_tree.specs.declared.proof.Node.{Node}
use Rattle.proof_tree.specs.declared.proof.Node.TheVariants as node
use Rattle.text_grammar.specs.Bytes.{front, rest}
use Rattle.text_grammar.specs.Outcomes.{◌>>=◌, refused_where, or_cause}
use Rattle.text_grammar.specs.Printing.{whole_word}
use Rattle.cert_grammar.specs.declared.cause.CertCause.{CertCause}
use Rattle.cert_grammar.specs.declared.cause.CertCause.TheVariants as cause
use Rattle.cert_grammar.specs.Wholes.{natural_of, whole_of}

-- a multiplier and its row
abbrev pub pair_word : ℕ × ℤ → List ℕ
pair_word p = decimal p.0 ++ 58 ∷ whole_word p.1

-- the words of multipliers
abbrev pub pair_words : List (ℕ × ℤ) → List (List ℕ)
pair_words [] = []
pair_words (p ∷ ps) = pair_word p ∷ pair_words ps

-- the words of a node's line
abbrev pub node_words : Node → List (List ℕ)
node_words (node.Split (split.Int column at)) = codes "int" ∷ decimal column ∷ whole_word at ∷ []
node_words (node.Split (split.Truth id)) = codes "truth" ∷ decimal id ∷ []
node_words (node.Refuted mults) = codes "refuted" ∷ pair_words mults
node_words (node.Bounded scale mults) = codes "bounded" ∷ whole_word scale ∷ pair_words mults
node_words (node.LogicFalse place) = codes "logic" ∷ decimal place ∷ []

infixl 10 ◌>?>◌
-- goes on with what there is
abbrev pub ◌>?>◌ : {A B : Type 0} → Option A → (A → Option B) → Option B
None >?> f = None
(Some x) >?> f = f x

-- behind a row's number comes a colon, and behind it the multiplier
abbrev pub behind_colon : ℕ → List ℕ → Option (ℕ × ℤ)
behind_colon row [] = None
behind_colon row (b ∷ bs) = whole_of bs >?> (λ m. Some (row, m))

-- the multiplier that a word spells
abbrev pub pair_of : List ℕ → Option (ℕ × ℤ)
pair_of word = natural_of (front (λ b. not (b == 58)) word) >?> (λ row. behind_colon row (rest (λ b. not (b == 58)) word))

-- the row is at least this one, and the multiplier is not 0
abbrev pub is_next : ℕ → ℕ × ℤ → Bool
is_next least p = nat_le least p.0 && not (nat_eq (unsigned_abs p.1) 0)

-- the multiplier, if it may come next
abbrev pub if_next : ℕ → ℕ × ℤ → Option (ℕ × ℤ)
if_next least p = if is_next least p then Some p else None

-- multipliers other than 0 of rows that ascend strictly from the least
abbrev pub pairs_from : ℕ → List (List ℕ) → Option (List (ℕ × ℤ))
pairs_from least [] = Some []
pairs_from least (w ∷ ws) = (pair_of w >?> if_next least) >?> (λ p. pairs_from (suc p.0) ws >?> (λ ps. Some (p ∷ ps)))

-- the forms of the lines of nodes
abbrev pub int_form : List (List ℕ) → Option Node
int_form (column ∷ at ∷ []) = natural_of column >?> (λ j. whole_of at >?> (λ k. Some (node.Split (split.Int j k))))
int_form _ = None

-- the form of a split on a Boolean
abbrev pub truth_form : List (List ℕ) → Option Node
truth_form (id ∷ []) = natural_of id >?> (λ n. Some (node.Split (split.Truth n)))
truth_form _ = None

-- the form of a false place
abbrev pub logic_form : List (List ℕ) → Option Node
logic_form (place ∷ []) = natural_of place >?> (λ n. Some (node.LogicFalse n))
logic_form _ = None

-- the form of a scale and multipliers
abbrev pub bounded_form : List (List ℕ) → Option Node
bounded_form [] = None
bounded_form (scale ∷ ws) = whole_of scale >?> (λ s. pairs_from 0 ws >?> (λ ps. Some (node.Bounded s ps)))

-- the node that a line spells, whatever the size of its numbers
abbrev pub form_of : List (List ℕ) → Option Node
form_of [] = None
form_of (w ∷ ws) =
    if bytes_eq w (codes "int") then int_form ws
    else (if bytes_eq w (codes "truth") then truth_form ws
    else (if bytes_eq w (codes "refuted") then (pairs_from 0 ws >?> (λ ps. Some (node.Refuted ps)))
    else (if bytes_eq w (codes "bounded") then bounded_form ws
    else (if bytes_eq w (codes "logic") then logic_form ws
    else None))))

-- a number of 32 bits
abbrev pub is_short : ℕ → Bool
is_short n = nat_lt n (2 ^ 32)

-- both numbers of a multiplier fit
abbrev pub pair_fits : ℕ × ℤ → Bool
pair_fits p = is_short p.0 && fits p.1

-- those of each multiplier fit
abbrev pub are_short : List (ℕ × ℤ) → Bool
are_short ps = list_all pair_fits ps

-- each number fits its type
abbrev pub node_fits : Node → Bool
node_fits (node.Split (split.Int column at)) = is_short column && fits at
node_fits (node.Split (split.Truth id)) = is_short id
node_fits (node.Refuted mults) = are_short mults
node_fits (node.Bounded scale mults) = fits scale && are_short mults
node_fits (node.LogicFalse place) = is_short place

-- the node of a line, or the first cause that it is none
unfoldable pub node_of : List (List ℕ) → Result Node CertCause
node_of words = do
  n ← or_cause cause.Form (form_of words)
  number ← refused_where (not (node_fits n)) cause.Number
  Ok n
