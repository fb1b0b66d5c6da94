-- The indicators of a disjunction, one more at a time.
use Rattle.std.proofs.Common.{◌≡◌, ℕ, pos, List, [], ◌∷◌, ◌++◌, length, refl, ap, ◌+◌, ◌<◌, None, drop, get_or, add-one, drop-cons}
use Rattle.model_tree.specs.declared.tree.Disjunction.{Disjunction}
use Rattle.propositions.specs.declared.tree.Prop.{Prop}
use Rattle.model_tree.specs.declared.tree.Mode.{Mode}
use Rattle.model_tree.specs.declared.tree.Mode.TheVariants.{Or, Xor}
use Rattle.emission.specs.declared.literals.Literal.{Literal}
use Rattle.block_tree.specs.Tree.{BlockTree, DisjunctHead, Disjuncts, disjunct, disjunction, no_disjuncts}
use Rattle.block_tree.specs.View.{disjunction_of, disjunctions_of, props_of}
use Rattle.emission.proofs.Running.{runs_as, runs_then}
use Rattle.emission.specs.Items.{Guard, always, stand}
use Rattle.emission.specs.Run.{Runs, State}
use Rattle.emission.specs.Sums.{column, minus, number, plus}
use Rattle.hybrid_rewrite.specs.Blocks.{demand, indicators, selection}
use Rattle.hybrid_rewrite.specs.Ranges.{rel_by}
use Rattle.logic_to_rows.specs.Emitted.{emitted, literal}
use Rattle.propositions.specs.Tree.{PropTree}
use Rattle.propositions.specs.View.{prop_tree}

-- the sum of the indicators, taken apart
pub indicators_level : (first : ℕ) (head : DisjunctHead) (b : BlockTree) (js : Disjuncts) → indicators first (disjunct head b js) ≡ plus (column (pos 1) (first + head.indicator)) (indicators first js)
unfolding indicators
indicators_level first head b js = refl

pub indicators_none : (first : ℕ) → indicators first no_disjuncts ≡ number (pos 0)
unfolding indicators
indicators_none first = refl

-- the selection at the root, and that under a Boolean
pub root_selection : (first : ℕ) (mode : Mode) (js : Disjuncts) → selection first always mode js ≡ stand (rel_by mode) (plus (indicators first js) (number minus)) ∷ []
root_selection first Xor js = refl
root_selection first Or js = refl

pub props_level : (ps : List (Prop × ℕ)) (i : ℕ) (p : Prop × ℕ) → i < length ps → p ≡ get_or ps i p → props_of (drop i ps) ≡ (prop_tree p.0, p.1) ∷ props_of (drop (i + 1) ps)
props_level ps i p h e = rw (add-one, drop-cons ps i p, ← e) refl

pub disjunctions_level : (ds : List Disjunction) (i : ℕ) (d : Disjunction) → i < length ds → d ≡ get_or ds i d → disjunctions_of (drop i ds) ≡ disjunction (disjunction_of d).0 (disjunction_of d).1 (disjunctions_of (drop (i + 1) ds))
disjunctions_level ds i d h e = rw (add-one, drop-cons ds i d, ← e) refl

-- a proposition and what is demanded of it
pub prop_runs : (first : ℕ) (on : Guard) (q : PropTree) (a b c : State) (l : Literal) → Runs (emitted first (length a.milp.cols) q) a b → (b.halt ≡ None → l ≡ literal first (length a.milp.cols) q) → Runs (demand first on l ∷ []) b c →
    Runs (emitted first (length a.milp.cols) q ++ (demand first on (literal first (length a.milp.cols) q) ∷ [])) a c
prop_runs first on q a b c l x e y =
    runs_then (emitted first (length a.milp.cols) q) (demand first on (literal first (length a.milp.cols) q) ∷ []) a b c x
    (runs_as (demand first on l ∷ []) (demand first on (literal first (length a.milp.cols) q) ∷ []) b c (λ h. ap (λ m. demand first on m ∷ []) (e h)) y)
