-- Laws of the canonical text. Each is the contract of a function of `canonical_laws`.
use Rattle.std.specs.Prelude.{◌≡◌, ℕ, true, List, map}
use Rattle.lp_rows.specs.Rows.{RowValue}
use Rattle.propositions.specs.Tree.{PropTree}
use Rattle.model_tree.specs.Sound.{IsSound, is_stored}
use Rattle.model_tree.specs.Tree.{BlockTree, block, Disjunctions, no_disjunctions, disjunction, Disjuncts, no_disjuncts, disjunct}
use Rattle.model_tree.specs.Values.{GoalValue, ModelTree}
use Rattle.model_tree.specs.Variables.{VarValue, BooleanValue}
use Rattle.gdp_grammar.specs.Canonical.{canonical_text}
use Rattle.gdp_grammar.specs.CanonicalWorked as worked
use Rattle.gdp_grammar.specs.Spelling.{Spells}

-- rows without their marks
abbrev pub unmarked_rows : List (RowValue × ℕ) → List (RowValue × ℕ)
unmarked_rows rows = map (λ r. (r.0, 0)) rows

-- propositions without their marks
abbrev pub unmarked_props : List (PropTree × ℕ) → List (PropTree × ℕ)
unmarked_props props = map (λ q. (q.0, 0)) props

-- a block without marks, and so what is below it
abbrev mutual
  pub unmarked_block : BlockTree → BlockTree
  unmarked_block (block items ds) = block (record { rows = unmarked_rows items.rows; props = unmarked_props items.props }) (unmarked_disjunctions ds)

  pub unmarked_disjunctions : Disjunctions → Disjunctions
  unmarked_disjunctions no_disjunctions = no_disjunctions
  unmarked_disjunctions (disjunction head js ds) =
      disjunction (record { mode = head.mode; mark = 0 }) (unmarked_disjuncts js) (unmarked_disjunctions ds)

  pub unmarked_disjuncts : Disjuncts → Disjuncts
  unmarked_disjuncts no_disjuncts = no_disjuncts
  unmarked_disjuncts (disjunct head b js) = disjunct (record { indicator = head.indicator; mark = 0 }) (unmarked_block b) (unmarked_disjuncts js)

-- variables, Booleans and a goal without their marks
abbrev pub unmarked_vars : List VarValue → List VarValue
unmarked_vars vars = map (λ v. (v.0, v.1, v.2, 0)) vars

abbrev pub unmarked_booleans : List BooleanValue → List BooleanValue
unmarked_booleans booleans = map (λ b. (b.0, 0)) booleans

abbrev pub unmarked_goal : GoalValue → GoalValue
unmarked_goal goal = record { sense = goal.sense; terms = goal.terms; constant = goal.constant; scale = goal.scale; mark = 0 }

-- a model without marks
abbrev pub unmarked : ModelTree → ModelTree
unmarked m = record { vars = unmarked_vars m.vars; booleans = unmarked_booleans m.booleans; goal = unmarked_goal m.goal; root = unmarked_block m.root }

-- two models are the same but for their marks
abbrev pub AreSame : ModelTree → ModelTree → Type 0
AreSame m n = unmarked m ≡ unmarked n

-- The canonical text of a model spells a model that is the same but for its marks.
abbrev pub CanonicalSpells : Type 0
CanonicalSpells = (m : ModelTree) → IsSound m → is_stored m.root ≡ true → (n : ModelTree) × Spells (canonical_text m) n × AreSame n m

-- Models that are the same but for their marks have the same canonical text.
abbrev pub CanonicalIgnoresMarks : Type 0
CanonicalIgnoresMarks = (m n : ModelTree) → AreSame n m → canonical_text n ≡ canonical_text m

-- What the canonical text of a model spells is the model but for its marks, and has the same canonical text.
abbrev pub CanonicalAgain : Type 0
CanonicalAgain = (m n : ModelTree) → IsSound m → is_stored m.root ≡ true → Spells (canonical_text m) n → AreSame n m × (canonical_text n ≡ canonical_text m)

-- Three models and their canonical texts.
pub record CanonicalTexts : Type 0 where
  pub plant : canonical_text worked.plant ≡ worked.plant_text
  pub nest : canonical_text worked.nest ≡ worked.nest_text
  pub alone : canonical_text worked.alone ≡ worked.alone_text
