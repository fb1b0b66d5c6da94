-- What a sound model's ids are: variables and Booleans that it has.
use Rattle.std.proofs.Common.{◌≡◌, ℕ, ℤ, Bool, true, false, ◌&&◌, ◌||◌, nat_lt, ◌==◌, List, [], ◌∷◌, arith, refl, ◌<◌, length}
use Rattle.std.proofs.lemmas.Bool.Decides.{nat_tests}
use Rattle.block_tree.specs.Occurs.{occurs_below, occurs_in_block, occurs_in_rows, occurs_within}
use Rattle.block_tree.specs.PropLimits.{is_prop_sound}
use Rattle.block_tree.specs.Scaling.{has_id}
use Rattle.block_tree.specs.Sound.{are_disjunctions_sound, are_disjuncts_sound, are_props_sound, are_rows_below, is_block_sound, is_filled}
use Rattle.block_tree.specs.Tree.{BlockTree, Disjunctions, Disjuncts, block, disjunct, disjunction, no_disjunctions, no_disjuncts}
use Rattle.block_tree.specs.Values.{ModelTree}
use Rattle.bound_propagation.proofs.Declarations.{ArePositive}
use Rattle.hybrid_rewrite.proofs.Exactness.{booleans_below, disjunctions_booleans, disjuncts_booleans, props_below}
use Rattle.lp_rows.specs.Holding.{ids_below}
use Rattle.lp_rows.specs.Rows.{RowValue}
use Rattle.milps.proofs.Columned.{and_left, and_right, and_true}
use Rattle.propositions.specs.Tree.{PropTree}
use Rattle.propositions.specs.Truth.{are_ids_below}

either : {X : Type 0} (a b : Bool) → (a ≡ true → X) → (b ≡ true → X) → (a || b) ≡ true → X
either true b f g h = f refl
either false b f g h = g h

same_below : (n j k : ℕ) → nat_lt k n ≡ true → (j == k) ≡ true → j < n
same_below n j k e f = grind (arith, nat_tests)

pub terms_below : (n : ℕ) (ts : List (ℕ × ℤ)) → ids_below n ts ≡ true → (j : ℕ) → has_id j ts ≡ true → j < n
terms_below n [] e j h = cc
terms_below n (t ∷ ts) e j h =
    either (j == t.0) (has_id j ts)
    (λ a. same_below n j t.0 (and_left (nat_lt t.0 n) (ids_below n ts) e) a)
    (λ a. terms_below n ts (and_right (nat_lt t.0 n) (ids_below n ts) e) j a) h

rows_below : (n : ℕ) (rs : List (RowValue × ℕ)) → are_rows_below n rs ≡ true → (j : ℕ) → occurs_in_rows j rs ≡ true → j < n
rows_below n [] e j h = cc
rows_below n (r ∷ rs) e j h =
    either (has_id j r.0.terms) (occurs_in_rows j rs)
    (λ a. terms_below n r.0.terms (and_left (ids_below n r.0.terms) (are_rows_below n rs) e) j a)
    (λ a. rows_below n rs (and_right (ids_below n r.0.terms) (are_rows_below n rs) e) j a) h

mutual
  pub block_vars : (n m : ℕ) (b : BlockTree) → is_block_sound n m b ≡ true → (j : ℕ) → occurs_in_block j b ≡ true → j < n
  block_vars n m (block items ds) e j h =
      let y = and_right (are_rows_below n items.rows) (are_props_sound m items.props && are_disjunctions_sound n m ds) e in
      either (occurs_in_rows j items.rows) (occurs_below j ds)
      (λ a. rows_below n items.rows (and_left (are_rows_below n items.rows) (are_props_sound m items.props && are_disjunctions_sound n m ds) e) j a)
      (λ a. disjunctions_vars n m ds (and_right (are_props_sound m items.props) (are_disjunctions_sound n m ds) y) j a) h

  disjunctions_vars : (n m : ℕ) (ds : Disjunctions) → are_disjunctions_sound n m ds ≡ true → (j : ℕ) → occurs_below j ds ≡ true → j < n
  disjunctions_vars n m no_disjunctions e j h = cc
  disjunctions_vars n m (disjunction head js ds) e j h =
      let x = and_left (is_filled js && are_disjuncts_sound n m js) (are_disjunctions_sound n m ds) e in
      either (occurs_within j js) (occurs_below j ds)
      (λ a. disjuncts_vars n m js (and_right (is_filled js) (are_disjuncts_sound n m js) x) j a)
      (λ a. disjunctions_vars n m ds (and_right (is_filled js && are_disjuncts_sound n m js) (are_disjunctions_sound n m ds) e) j a) h

  pub disjuncts_vars : (n m : ℕ) (js : Disjuncts) → are_disjuncts_sound n m js ≡ true → (j : ℕ) → occurs_within j js ≡ true → j < n
  disjuncts_vars n m no_disjuncts e j h = cc
  disjuncts_vars n m (disjunct head b js) e j h =
      let x = and_left (nat_lt head.indicator m && is_block_sound n m b) (are_disjuncts_sound n m js) e in
      either (occurs_in_block j b) (occurs_within j js)
      (λ a. block_vars n m b (and_right (nat_lt head.indicator m) (is_block_sound n m b) x) j a)
      (λ a. disjuncts_vars n m js (and_right (nat_lt head.indicator m && is_block_sound n m b) (are_disjuncts_sound n m js) e) j a) h

props_booleans : (m : ℕ) (qs : List (PropTree × ℕ)) → are_props_sound m qs ≡ true → props_below m qs ≡ true
props_booleans m [] e = refl
props_booleans m (q ∷ qs) e =
    let x = and_left (is_prop_sound m q.0) (are_props_sound m qs) e in
    and_true (are_ids_below m q.0) (props_below m qs) (and_left (are_ids_below m q.0) _ x) (props_booleans m qs (and_right (is_prop_sound m q.0) (are_props_sound m qs) e))

mutual
  pub block_booleans : (n m : ℕ) (b : BlockTree) → is_block_sound n m b ≡ true → booleans_below m b ≡ true
  block_booleans n m (block items ds) e =
      let y = and_right (are_rows_below n items.rows) (are_props_sound m items.props && are_disjunctions_sound n m ds) e in
      and_true (props_below m items.props) (disjunctions_booleans m ds)
      (props_booleans m items.props (and_left (are_props_sound m items.props) (are_disjunctions_sound n m ds) y))
      (disjunctions_known n m ds (and_right (are_props_sound m items.props) (are_disjunctions_sound n m ds) y))

  disjunctions_known : (n m : ℕ) (ds : Disjunctions) → are_disjunctions_sound n m ds ≡ true → disjunctions_booleans m ds ≡ true
  disjunctions_known n m no_disjunctions e = refl
  disjunctions_known n m (disjunction head js ds) e =
      let x = and_left (is_filled js && are_disjuncts_sound n m js) (are_disjunctions_sound n m ds) e in
      and_true (disjuncts_booleans m js) (disjunctions_booleans m ds)
      (disjuncts_known n m js (and_right (is_filled js) (are_disjuncts_sound n m js) x))
      (disjunctions_known n m ds (and_right (is_filled js && are_disjuncts_sound n m js) (are_disjunctions_sound n m ds) e))

  disjuncts_known : (n m : ℕ) (js : Disjuncts) → are_disjuncts_sound n m js ≡ true → disjuncts_booleans m js ≡ true
  disjuncts_known n m no_disjuncts e = refl
  disjuncts_known n m (disjunct head b js) e =
      let x = and_left (nat_lt head.indicator m && is_block_sound n m b) (are_disjuncts_sound n m js) e in
      and_true (nat_lt head.indicator m) (booleans_below m b && disjuncts_booleans m js)
      (and_left (nat_lt head.indicator m) (is_block_sound n m b) x)
      (and_true (booleans_below m b) (disjuncts_booleans m js)
      (block_booleans n m b (and_right (nat_lt head.indicator m) (is_block_sound n m b) x))
      (disjuncts_known n m js (and_right (nat_lt head.indicator m && is_block_sound n m b) (are_disjuncts_sound n m js) e)))

-- what the rewrite needs of a model: ids are in range, ends have positive denominators, and so has the goal
pub record IsModel (m : ModelTree) : Type 0 where
  pub vars : (j : ℕ) → occurs_in_block j m.root ≡ true → j < length m.vars
  pub booleans : booleans_below (length m.booleans) m.root ≡ true
  pub ends : ArePositive m.vars
