-- Mixes of the disjuncts of a disjunction at the root, and the rows of its hull, with the indicators as real columns.
use Rattle.std.specs.Prelude.{◌≡◌, ℕ, ◌+◌, ℤ, pos, ◌+ℤ◌, ◌*ℤ◌, ◌≤ℤ◌, ◌<ℤ◌, true, ◌↔◌, List, [], ◌∷◌, ◌++◌, length}
use Rattle.lp_rows.specs.Holding.{holds_at}
use Rattle.lp_rows.specs.Rows.{RowValue}
use Rattle.model_tree.specs.declared.tree.Mode.TheVariants.{Xor}
use Rattle.block_tree.specs.Occurs.{occurs_within}
use Rattle.block_tree.specs.Tree.{Disjuncts, no_disjuncts, disjunct}
use Rattle.block_tree.specs.View.{rows_in}
use Rattle.emission.specs.Items.{Item, Meets, always, where_true}
use Rattle.bigm_rewrite.specs.Relaxed.{Setting, rows_items}
use Rattle.hull_rewrite.specs.Distinct.{Distinct, stands_in}
use Rattle.hull_rewrite.specs.Copies.{low_of, high_of, expansion, place}
use Rattle.hybrid_rewrite.specs.Blocks.{selection}
use Rattle.hybrid_rewrite.specs.Rewritten.{same_place}

-- the rows hold at numbers q over a weight
abbrev pub RowsAt : List (RowValue × ℕ) → (ℕ → ℤ) → ℤ → Type 0
RowsAt [] q weight = Unit {0}
RowsAt (r ∷ rs) q weight = (holds_at r.0 weight q ≡ true) × RowsAt rs q weight

-- q over its weight lies in the box and satisfies the rows; where the weight is 0 it is 0
pub record IsPart (g : Setting) (vs : List ℕ) (rows : List (RowValue × ℕ)) (weight : ℤ) (q : ℕ → ℤ) : Type 0 where
  pub nonneg : pos 0 ≤ℤ weight
  pub zero_at : weight ≡ pos 0 → (j : ℕ) → stands_in j vs ≡ true → q j ≡ pos 0
  pub low : pos 0 <ℤ weight → (j : ℕ) → stands_in j vs ≡ true → (low_of g j *ℤ weight) ≤ℤ q j
  pub high : pos 0 <ℤ weight → (j : ℕ) → stands_in j vs ≡ true → q j ≤ℤ (high_of g j *ℤ weight)
  pub rows_hold : pos 0 <ℤ weight → RowsAt rows q weight

-- a weight and numbers for each disjunct: they are its part
abbrev pub AreParts : Setting → List ℕ → Disjuncts → List (ℤ × (ℕ → ℤ)) → Type 0
AreParts g vs no_disjuncts [] = Unit {0}
AreParts g vs no_disjuncts (p ∷ ps) = ⊥
AreParts g vs (disjunct head b js) [] = ⊥
AreParts g vs (disjunct head b js) (p ∷ ps) = IsPart g vs (rows_in b) p.0 p.1 × AreParts g vs js ps

-- the sum of the weights, and that of the numbers of variable j
abbrev pub weights_sum : List (ℤ × (ℕ → ℤ)) → ℤ
weights_sum [] = pos 0
weights_sum (p ∷ ps) = p.0 +ℤ weights_sum ps

abbrev pub lists_sum : ℕ → List (ℤ × (ℕ → ℤ)) → ℤ
lists_sum j [] = pos 0
lists_sum j (p ∷ ps) = p.1 j +ℤ lists_sum j ps

-- values x over d are a mix, with the factor k, of weights and lists
pub record IsMixOf (g : Setting) (vs : List ℕ) (js : Disjuncts) (d : ℤ) (x : ℕ → ℤ) (k : ℤ) (ps : List (ℤ × (ℕ → ℤ))) : Type 0 where
  pub weights : weights_sum ps ≡ k *ℤ d
  pub lists : (j : ℕ) → stands_in j vs ≡ true → lists_sum j ps ≡ k *ℤ x j
  pub parts : AreParts g vs js ps

-- the rows of each disjunct over its copies
abbrev pub hull_rows : Setting → List ℕ → ℕ → Disjuncts → List Item
hull_rows g vs i no_disjuncts = []
hull_rows g vs i (disjunct head b js) = rows_items g (place vs i) (where_true head.indicator) (where_true head.indicator) (rows_in b) ++ hull_rows g vs (i + length vs) js

-- the indicators' columns are not negative
abbrev pub AreNonneg : ℕ → Disjuncts → (ℕ → ℤ) → Type 0
AreNonneg first no_disjuncts w = Unit {0}
AreNonneg first (disjunct head b js) w = (pos 0 ≤ℤ w (first + head.indicator)) × AreNonneg first js w

-- numbers that meet the hull's rows, whose copies begin at column i
pub record IsHullPoint (g : Setting) (vs : List ℕ) (i : ℕ) (js : Disjuncts) (d : ℤ) (w : ℕ → ℤ) : Type 0 where
  pub selected : Meets (selection g.first always Xor js) d w
  pub nonneg : AreNonneg g.first js w
  pub copies_meet : Meets (expansion g same_place always always i vs js) d w
  pub rows_meet : Meets (hull_rows g vs i js) d w

-- w has the weights in the indicators' columns and the lists in the copies
abbrev pub Carries : Setting → List ℕ → ℕ → Disjuncts → List (ℤ × (ℕ → ℤ)) → (ℕ → ℤ) → Type 0
Carries g vs i no_disjuncts [] w = Unit {0}
Carries g vs i no_disjuncts (p ∷ ps) w = ⊥
Carries g vs i (disjunct head b js) [] w = ⊥
Carries g vs i (disjunct head b js) (p ∷ ps) w =
    ((w (g.first + head.indicator) ≡ p.0) × ((j : ℕ) → stands_in j vs ≡ true → w (place vs i j) ≡ p.1 j)) × Carries g vs (i + length vs) js ps w

-- The rows of a hull say what mixes are (Balas): numbers over k d, of which the variables' are k times x and that carry weights and lists, meet the hull's rows exactly where
-- these are a mix that gives x over d
abbrev pub HullsAreMixes : Type 0
HullsAreMixes =
    (g : Setting) (vs : List ℕ) (i : ℕ) (js : Disjuncts) (d : ℤ) (x : ℕ → ℤ) (k : ℤ) (ps : List (ℤ × (ℕ → ℤ))) (w : ℕ → ℤ) →
    Distinct vs → ((j : ℕ) → occurs_within j js ≡ true → stands_in j vs ≡ true) → Carries g vs i js ps w → ((j : ℕ) → stands_in j vs ≡ true → w j ≡ k *ℤ x j) →
    IsHullPoint g vs i js (k *ℤ d) w ↔ IsMixOf g vs js d x k ps
