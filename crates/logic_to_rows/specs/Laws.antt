-- What the items of a proposition promise.
use Rattle.std.specs.Prelude.{◌≡◌, ◌<◌, ◌+◌, ◌<ℤ◌, ◌↔◌, ℕ, ℤ, pos, true}
use Rattle.block_tree.specs.Satisfied.{PointOf}
use Rattle.emission.specs.Items.{AreMeant, Meets}
use Rattle.emission.specs.Literals.{literal_times}
use Rattle.emission.specs.Sums.{pick, value}
use Rattle.logic_to_rows.specs.Emitted.{emitted, literal}
use Rattle.propositions.specs.Tree.{PropTree}
use Rattle.propositions.specs.Truth.{are_ids_below, truth_of}

-- the numbers read the proposition's items and its literal as the point does
pub record IsExactAt (first n : ℕ) (p : PropTree) (s : PointOf) (w : ℕ → ℤ) : Type 0 where
  pub met : Meets (emitted first n p) s.over w ↔ AreMeant (emitted first n p) s w
  pub literal_is : AreMeant (emitted first n p) s w → value (literal_times (pos 1) (literal first n p)) s.over w ≡ pick (truth_of p s.truths) s.over

-- Where the Booleans have their truth at the columns from `first` on, the items are met exactly where each new column is
-- 1 or 0 as what it stands for is true or false, and then the literal is 1 exactly where the proposition is true.
abbrev pub PropositionsAreExact : Type 0
PropositionsAreExact = (count first n : ℕ) (p : PropTree) (s : PointOf) (w : ℕ → ℤ) → pos 0 <ℤ s.over → ((k : ℕ) → k < count → w (first + k) ≡ pick (s.truths k) s.over) → are_ids_below count p ≡ true → IsExactAt first n p s w
