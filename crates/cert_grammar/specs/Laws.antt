-- Laws of proofs as they are written. Each is the contract of a function of `laws`.
use Rattle.std.specs.Prelude.{◌≡◌, ℕ, ◌<◌, ℤ, pos, negsuc, int_lt, Bool, true, false, not, ◌&&◌, ◌||◌, ◌==◌, List, [], ◌∷◌, length, bytes_eq}
use Rattle.std.specs.List.{list_all, list_any}
use Rattle.fractions.specs.Fraction.{Fraction}
use Rattle.fractions.specs.Width.{fits}
use Rattle.lp_rows.specs.Points.{PointValue}
use Rattle.text_grammar.specs.Grammars.{SpellsBy, IsExact}
use Rattle.cert_grammar.specs.Answers.{is_filled, answer_grammar, answer_text_of, SpellsAnswer}
use Rattle.cert_grammar.specs.Claims.{is_lowest_spelling}
use Rattle.answers.specs.declared.answer.Answer.{Answer}
use Rattle.answers.specs.declared.claim.Claim.{Claim}
use Rattle.answers.specs.declared.claim.Claim.TheVariants.{Best, Empty, Endless}
use Rattle.proof_tree.specs.declared.proof.Node.{Node}
use Rattle.cert_grammar.specs.Trees.{tree_grammar, tree_lines}
use Rattle.proof_tree.specs.Tree.{is_proof}
use Rattle.cert_grammar.specs.Nodes.{node_fits}

-- the nodes are a proof, and their numbers fit
pub record IsFittingProof (nodes : List Node) : Type 0 where
  pub proof : is_proof nodes ≡ true
  pub fit : list_all node_fits nodes ≡ true

-- the lines of a proof spell that proof
abbrev pub WrittenTree : Type 0
WrittenTree = (nodes : List Node) → IsFittingProof nodes → SpellsBy tree_grammar (tree_lines nodes) nodes

-- lines that spell a proof are the lines of that proof
abbrev pub TreeIsWritten : Type 0
TreeIsWritten = (lines : List (List (List ℕ))) (nodes : List Node) → SpellsBy tree_grammar lines nodes → IsFittingProof nodes × (lines ≡ tree_lines nodes)

-- a word without blanks and newlines
abbrev pub is_exact_word : List ℕ → Bool
is_exact_word word = list_all (λ b. not (b == 10) && not (b == 32)) word

-- each is a word without blanks and newlines
abbrev pub are_exact_words : List (List ℕ) → Bool
are_exact_words [] = true
are_exact_words (w ∷ ws) = is_exact_word w && are_exact_words ws

-- no name stands twice
abbrev pub are_distinct : List (List ℕ) → Bool
are_distinct [] = true
are_distinct (n ∷ ns) = not (list_any (bytes_eq n) ns) && are_distinct ns

-- a denominator is 1, or at least 2 and in lowest terms with the numerator
abbrev pub is_written_den : ℤ → ℤ → Bool
is_written_den p (pos q) = (q == 1) || is_lowest_spelling p q
is_written_den p (negsuc q) = false

-- a value whose parts fit, in lowest terms
abbrev pub is_value : Fraction → Bool
is_value f = fits f.num && (fits f.den && is_written_den f.num f.den)

-- a point with a number for each name and a truth for each Boolean
pub record IsPointOf (names booleans : List (List ℕ)) (point : PointValue) (truths : List Bool) : Type 0 where
  pub positive : int_lt (pos 0) point.over ≡ true
  pub over_fits : fits point.over ≡ true
  pub nums_fit : list_all fits point.nums ≡ true
  pub nums_long : length point.nums ≡ length names
  pub truths_long : length truths ≡ length booleans

-- a ray with a number for each name
pub record IsRayOf (names : List (List ℕ)) (ray : List ℤ) : Type 0 where
  pub fit : list_all fits ray ≡ true
  pub long : length ray ≡ length names

-- a claim with a number for each name, a truth for each Boolean, and a proof
abbrev pub IsClaim : List (List ℕ) → List (List ℕ) → Claim → Type 0
IsClaim names booleans (Best point truths value nodes) = (is_value value ≡ true) × (IsPointOf names booleans point truths × IsFittingProof nodes)
IsClaim names booleans (Empty nodes) = IsFittingProof nodes
IsClaim names booleans (Endless point truths ray) = IsPointOf names booleans point truths × IsRayOf names ray

-- Names that may stand in an answer: there is a variable, a name has a byte, and no blank and no newline, and no Boolean has
-- the name of another.
pub record AreNamed (names booleans : List (List ℕ)) : Type 0 where
  pub some : 0 < length names
  pub names_filled : list_all is_filled names ≡ true
  pub booleans_filled : list_all is_filled booleans ≡ true
  pub names_plain : are_exact_words names ≡ true
  pub booleans_plain : are_exact_words booleans ≡ true
  pub distinct : are_distinct booleans ≡ true

-- an answer over names that may stand in a line
pub record IsAnswer (names booleans : List (List ℕ)) (a : Answer) : Type 0 where
  pub named : AreNamed names booleans
  pub claim : IsClaim names booleans a.claim

-- the text of an answer spells that answer
abbrev pub WrittenAnswer : Type 0
WrittenAnswer = (names booleans : List (List ℕ)) (a : Answer) → IsAnswer names booleans a → SpellsAnswer names booleans (answer_text_of names booleans a) a

-- a text spells at most one answer, or has one first bad line, and never both
abbrev pub AnswersExact : Type 0
AnswersExact = (names booleans : List (List ℕ)) → IsExact (answer_grammar names booleans)

-- a text that spells an answer is the text of that answer
abbrev pub AnswerIsWritten : Type 0
AnswerIsWritten = (names booleans : List (List ℕ)) (text : List ℕ) (a : Answer) → SpellsAnswer names booleans text a → text ≡ answer_text_of names booleans a

-- a text spells only an answer that has a number for each variable and a truth for each Boolean, and whose proof is one
abbrev pub AnswerIsSound : Type 0
AnswerIsSound = (names booleans : List (List ℕ)) (text : List ℕ) (a : Answer) → SpellsAnswer names booleans text a → IsClaim names booleans a.claim
