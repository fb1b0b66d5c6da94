-- Whether a point is one of the model's rests on the numbers of its variables alone.
use Rattle.std.proofs.Common.{◌≡◌, ◌<◌, ◌≤◌, ℕ, ◌+◌, ℤ, ◌*ℤ◌, Bool, true, ◌&&◌, List, [], ◌∷◌, length, nat_lt, if◌then◌else◌, refl, ◌∙◌, ap, arith}
use Rattle.std.proofs.lemmas.Bool.Decides.{nat_tests}
use Rattle.int_linear.specs.Terms.{dot}
use Rattle.lp_rows.specs.Holding.{ids_below, stands, holds_at}
use Rattle.lp_rows.specs.Rows.{RowValue}
use Rattle.point_tests.specs.Satisfied.{PointOf, vars_take, rows_hold, props_hold, true_count, mode_allows, is_off, is_satisfied, are_disjunctions_satisfied, are_disjuncts_satisfied}
use Rattle.model_tree.specs.Sound.{are_rows_below, are_props_sound, is_filled, is_block_sound, are_disjunctions_sound, are_disjuncts_sound}
use Rattle.model_tree.specs.Tree.{BlockTree, block, Disjunctions, no_disjunctions, disjunction, Disjuncts, no_disjuncts, disjunct}
use Rattle.model_tree.specs.Variables.{VarValue}
use Rattle.int_linear.proofs.Bools.{and_first, and_second}
use Rattle.model_claims.specs.Laws.{PointByNumbers}

abbrev the_point : ℤ → (ℕ → ℤ) → (ℕ → Bool) → PointOf
the_point over v truths = record { over = over; nums = v; truths = truths }

vars_same : (vs : List VarValue) (n j : ℕ) (v w : ℕ → ℤ) (over : ℤ) → j + length vs ≤ n → ((i : ℕ) → i < n → v i ≡ w i) → vars_take vs j v over ≡ vars_take vs j w over
vars_same [] n j v w over l same = refl
vars_same (x ∷ vs) n j v w over l same = rw (same j (omega arith), vars_same vs n (j + 1) v w over (omega arith) same) refl

pub dot_same : (n : ℕ) (ts : List (ℕ × ℤ)) (v w : ℕ → ℤ) → ids_below n ts ≡ true → ((j : ℕ) → j < n → v j ≡ w j) → dot ts v ≡ dot ts w
dot_same n [] v w h same = refl
dot_same n (t ∷ ts) v w h same =
    let below : t.0 < n = (let b = and_first (nat_lt t.0 n) (ids_below n ts) h in grind (arith, nat_tests)) in
    rw (same t.0 below, dot_same n ts v w (and_second (nat_lt t.0 n) (ids_below n ts) h) same) refl

rows_same : (n : ℕ) (rs : List (RowValue × ℕ)) (v w : ℕ → ℤ) (over : ℤ) (truths : ℕ → Bool) → are_rows_below n rs ≡ true → ((j : ℕ) → j < n → v j ≡ w j) → rows_hold rs (the_point over v truths) ≡ rows_hold rs (the_point over w truths)
rows_same n [] v w over truths h same = refl
rows_same n (r ∷ rs) v w over truths h same =
    let here : holds_at r.0 over v ≡ holds_at r.0 over w = ap (λ z. stands r.0.rel z (r.0.right *ℤ over)) (dot_same n r.0.terms v w (and_first (ids_below n r.0.terms) (are_rows_below n rs) h) same) in
    ap (λ b. b && rows_hold rs (the_point over v truths)) here
    ∙ ap (λ b. holds_at r.0 over w && b) (rows_same n rs v w over truths (and_second (ids_below n r.0.terms) (are_rows_below n rs) h) same)

mutual
  block_same : (n k : ℕ) (b : BlockTree) (v w : ℕ → ℤ) (over : ℤ) (truths : ℕ → Bool) → is_block_sound n k b ≡ true → ((j : ℕ) → j < n → v j ≡ w j) → is_satisfied b (the_point over v truths) ≡ is_satisfied b (the_point over w truths)
  block_same n k (block items ds) v w over truths h same =
      let props = are_props_sound k items.props in
      let rest = and_second (are_rows_below n items.rows) (props && are_disjunctions_sound n k ds) h in
      ap (λ b. b && (props_hold items.props truths && are_disjunctions_satisfied ds (the_point over v truths))) (rows_same n items.rows v w over truths (and_first (are_rows_below n items.rows) (props && are_disjunctions_sound n k ds) h) same)
      ∙ ap (λ b. rows_hold items.rows (the_point over w truths) && (props_hold items.props truths && b)) (disjunctions_same n k ds v w over truths (and_second props (are_disjunctions_sound n k ds) rest) same)

  disjunctions_same : (n k : ℕ) (ds : Disjunctions) (v w : ℕ → ℤ) (over : ℤ) (truths : ℕ → Bool) → are_disjunctions_sound n k ds ≡ true → ((j : ℕ) → j < n → v j ≡ w j)
      → are_disjunctions_satisfied ds (the_point over v truths) ≡ are_disjunctions_satisfied ds (the_point over w truths)
  disjunctions_same n k no_disjunctions v w over truths h same = refl
  disjunctions_same n k (disjunction head js ds) v w over truths h same =
      let here = and_first (is_filled js && are_disjuncts_sound n k js) (are_disjunctions_sound n k ds) h in
      ap (λ b. mode_allows head.mode (true_count js truths) && b && are_disjunctions_satisfied ds (the_point over v truths)) (disjuncts_same n k js v w over truths (and_second (is_filled js) (are_disjuncts_sound n k js) here) same)
      ∙ ap (λ b. mode_allows head.mode (true_count js truths) && are_disjuncts_satisfied js (the_point over w truths) && b)
      (disjunctions_same n k ds v w over truths (and_second (is_filled js && are_disjuncts_sound n k js) (are_disjunctions_sound n k ds) h) same)

  disjuncts_same : (n k : ℕ) (js : Disjuncts) (v w : ℕ → ℤ) (over : ℤ) (truths : ℕ → Bool) → are_disjuncts_sound n k js ≡ true → ((j : ℕ) → j < n → v j ≡ w j)
      → are_disjuncts_satisfied js (the_point over v truths) ≡ are_disjuncts_satisfied js (the_point over w truths)
  disjuncts_same n k no_disjuncts v w over truths h same = refl
  disjuncts_same n k (disjunct head b js) v w over truths h same =
      let here = and_first (nat_lt head.indicator k && is_block_sound n k b) (are_disjuncts_sound n k js) h in
      ap (λ z. (if truths head.indicator then z else is_off b truths) && are_disjuncts_satisfied js (the_point over v truths)) (block_same n k b v w over truths (and_second (nat_lt head.indicator k) (is_block_sound n k b) here) same)
      ∙ ap (λ z. (if truths head.indicator then is_satisfied b (the_point over w truths) else is_off b truths) && z)
      (disjuncts_same n k js v w over truths (and_second (nat_lt head.indicator k && is_block_sound n k b) (are_disjuncts_sound n k js) h) same)

pub point_by_numbers : PointByNumbers
point_by_numbers m over v w truths s same =
    ap (λ b. b && is_satisfied m.root (the_point over v truths)) (vars_same m.vars (length m.vars) 0 v w over (omega arith) same)
    ∙ ap (λ b. vars_take m.vars 0 w over && b) (block_same (length m.vars) (length m.booleans) m.root v w over truths s.root same)
