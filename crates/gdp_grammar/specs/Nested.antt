-- How the tree of a model is nested: as the lines of its text are.
use Rattle.std.specs.Prelude.{◌≡◌, ◌<◌, ◌⊎◌, ℕ, ◌+◌, Bool, true, List, [], ◌∷◌, map, length, Option, None, Some}
use Rattle.lp_rows.specs.Rows.{RowValue}
use Rattle.propositions.specs.Tree.{PropTree}
use Rattle.model_tree.specs.Tree.{BlockTree, block, Disjunctions, no_disjunctions, disjunction, Disjuncts, no_disjuncts, disjunct}
use Rattle.model_tree.specs.Values.{ModelTree}
use Rattle.text_grammar.specs.Lines.{lines_of}
use Rattle.gdp_grammar.specs.Owners.{LineKind, Kinds, kinds_of, is_row, is_logic, is_disjunction, is_disjunct, IsOwner, IsNested}
use Rattle.gdp_grammar.specs.Said.{IsBlockSaid}
use Rattle.gdp_grammar.specs.Declaring.{form_at}
use Rattle.gdp_grammar.specs.Spelling.{Spells}

-- the number stands in the list
abbrev pub StandsIn : ℕ → List ℕ → Type 0
StandsIn k [] = ⊥
StandsIn k (x ∷ xs) = (x ≡ k) ⊎ StandsIn k xs

-- each number is less than those after it
abbrev pub Ascends : List ℕ → Type 0
Ascends [] = Unit {0}
Ascends (x ∷ xs) = ((k : ℕ) → StandsIn k xs → x < k) × Ascends xs

-- these are, in order, the lines before line n that pass the test and have this owner, and no others
pub record AreOwned (kinds : Kinds) (test : LineKind → Bool) (o : Option ℕ) (n : ℕ) (lines : List ℕ) : Type 0 where
  pub in_order : Ascends lines
  pub each_owned : (k : ℕ) → StandsIn k lines → (k < n) × (test (kinds k) ≡ true) × IsOwner kinds k o
  pub each_there : (k : ℕ) → k < n → test (kinds k) ≡ true → IsOwner kinds k o → StandsIn k lines

-- these are the rows, the propositions, the disjunctions and the disjuncts that stand before line n and have this owner
pub record Owns (kinds : Kinds) (n : ℕ) (o : Option ℕ) (rows props disjunctions disjuncts : List ℕ) : Type 0 where
  pub rows_are : AreOwned kinds is_row o n rows
  pub props_are : AreOwned kinds is_logic o n props
  pub disjunctions_are : AreOwned kinds is_disjunction o n disjunctions
  pub disjuncts_are : AreOwned kinds is_disjunct o n disjuncts

-- the marks of rows, of propositions, of disjunctions and of disjuncts
abbrev pub row_marks : List (RowValue × ℕ) → List ℕ
row_marks rows = map (λ r. r.1) rows

abbrev pub prop_marks : List (PropTree × ℕ) → List ℕ
prop_marks props = map (λ q. q.1) props

abbrev pub disjunction_marks : Disjunctions → List ℕ
disjunction_marks no_disjunctions = []
disjunction_marks (disjunction head js ds) = head.mark ∷ disjunction_marks ds

abbrev pub disjunct_marks : Disjuncts → List ℕ
disjunct_marks no_disjuncts = []
disjunct_marks (disjunct head b js) = head.mark ∷ disjunct_marks js

-- A block has the rows, propositions and disjunctions that its owner has, which has no disjuncts; a disjunction has the
-- disjuncts that its line has, which has none of the others; and so below.
abbrev mutual
  pub IsBlockOf : Kinds → ℕ → Option ℕ → BlockTree → Type 0
  IsBlockOf kinds n o (block items ds) = Owns kinds n o (row_marks items.rows) (prop_marks items.props) (disjunction_marks ds) [] × AreDisjunctionsOf kinds n ds

  pub AreDisjunctionsOf : Kinds → ℕ → Disjunctions → Type 0
  AreDisjunctionsOf kinds n no_disjunctions = Unit {0}
  AreDisjunctionsOf kinds n (disjunction head js ds) = Owns kinds n (Some head.mark) [] [] [] (disjunct_marks js) × AreDisjunctsOf kinds n js × AreDisjunctionsOf kinds n ds

  pub AreDisjunctsOf : Kinds → ℕ → Disjuncts → Type 0
  AreDisjunctsOf kinds n no_disjuncts = Unit {0}
  AreDisjunctsOf kinds n (disjunct head b js) = IsBlockOf kinds n (Some head.mark) b × AreDisjunctsOf kinds n js

-- The lines of the text are nested, and the model's tree is nested as they are: each block, disjunction and disjunct
-- has as its own, in order, what stands in the lines that its line owns. The root has the lines without an owner. Each
-- row, proposition, disjunction and disjunct is what its line says.
pub record IsNestedAs (text : List ℕ) (m : ModelTree) : Type 0 where
  pub nested : IsNested (kinds_of text) (length (lines_of text) + 1)
  pub root : IsBlockOf (kinds_of text) (length (lines_of text) + 1) None m.root
  pub said : IsBlockSaid m.vars m.booleans (form_at (lines_of text)) m.root

-- a model that a text spells is nested as its lines are
abbrev pub NestedAsSpelled : Type 0
NestedAsSpelled = (text : List ℕ) (m : ModelTree) → Spells text m → IsNestedAs text m
