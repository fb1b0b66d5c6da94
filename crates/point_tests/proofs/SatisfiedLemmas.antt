-- What the verdict tells of the point, and what a point of a model is.
use Rattle.std.proofs.Common.{◌≡◌, ℕ, ◌+◌, ℤ, Bool, true, false, not, ◌&&◌, List, [], ◌∷◌, ◌++◌, map, Result, Ok, Err, refl, ◌∙◌, if◌then◌else◌}
use Rattle.std.proofs.lemmas.List.{map-append}
use Rattle.lp_rows.specs.Holding.{holds_at, row_fits}
use Rattle.lp_rows.specs.Rows.{RowValue}
use Rattle.propositions.specs.Tree.{PropTree}
use Rattle.propositions.specs.Truth.{truth_of}
use Rattle.point_tests.specs.declared.verdicts.Verdict.{Verdict}
use Rattle.point_tests.specs.declared.verdicts.Verdict.TheVariants.{Holds, FailsAt}
use Rattle.point_tests.specs.declared.verdicts.SumWide.{SumWide}
use Rattle.point_tests.specs.Satisfied.{PointOf, is_above, is_below, is_of_kind, vars_take, rows_hold, props_hold, true_count, mode_allows, is_off, are_disjunctions_off, are_disjuncts_off, is_satisfied, are_disjunctions_satisfied, are_disjuncts_satisfied, is_model_point}
use Rattle.point_tests.specs.Tests.{Test, passes, fails, verdict_of, test_of, sized_test, end_fits, tests_of_vars, test_of_row, test_of_prop, test_of_off, tests_of_block, tests_of_disjunctions, tests_of_disjuncts, tests_of, Tells}
use Rattle.model_tree.specs.Tree.{BlockTree, block, Disjunctions, no_disjunctions, disjunction, Disjuncts, no_disjuncts, disjunct, below, below_disjunctions, below_disjuncts}
use Rattle.model_tree.specs.Values.{ModelTree}
use Rattle.model_tree.specs.Variables.{VarValue}
use Rattle.model_tree.proofs.Bools.{both, and_true}
use Rattle.point_tests.proofs.TestsLemmas.{first_of, verdict-append}

and_assoc : (a b c : Bool) → ((a && b) && c) ≡ (a && (b && c))
and_assoc true b c = refl
and_assoc false b c = refl

-- two verdicts, one after the other, tell of both conditions
both_tell : (a b : Result Verdict SumWide) (x y : Bool) → Tells a x → Tells b y → Tells (first_of a b) (x && y)
both_tell (Ok Holds) b x y p q = rw p q
both_tell (Ok (FailsAt mark)) b x y p q = rw p
both_tell (Err e) b x y p q = tt

appended : (xs ys : List Test) (x y : Bool) → Tells (verdict_of xs) x → Tells (verdict_of ys) y → Tells (verdict_of (xs ++ ys)) (x && y)
appended xs ys x y p q = rw (verdict-append xs ys) (both_tell (verdict_of xs) (verdict_of ys) x y p q)

test_tells : (holds : Bool) (mark : ℕ) (ts : List Test) (y : Bool) → Tells (verdict_of ts) y → Tells (verdict_of (test_of holds mark ∷ ts)) (holds && y)
test_tells true mark ts y q = q
test_tells false mark ts y q = refl

sized_tells : (fit holds : Bool) (mark : ℕ) (ts : List Test) (y : Bool) → Tells (verdict_of ts) y → Tells (verdict_of (sized_test fit holds mark ∷ ts)) (holds && y)
sized_tells true holds mark ts y q = test_tells holds mark ts y q
sized_tells false holds mark ts y q = tt

vars_tell : (vs : List VarValue) (j : ℕ) (nums : ℕ → ℤ) (over : ℤ) → Tells (verdict_of (tests_of_vars vs j nums over)) (vars_take vs j nums over)
vars_tell [] j nums over = refl
vars_tell (v ∷ vs) j nums over =
    let low = is_above v.2.low (nums j) over in
    let high = is_below v.2.high (nums j) over in
    let kind = is_of_kind v.1 (nums j) over in
    let rest = vars_take vs (j + 1) nums over in
    let e : ((low && high && kind) && rest) ≡ (low && (high && (kind && rest))) =
    and_assoc (low && high) kind rest ∙ and_assoc low high (kind && rest) in
    rw e
    (sized_tells (end_fits v.2.low (nums j) over) low v.3 _ (high && (kind && rest))
    (sized_tells (end_fits v.2.high (nums j) over) high v.3 _ (kind && rest)
    (test_tells kind v.3 _ rest (vars_tell vs (j + 1) nums over))))

rows_tell : (rows : List (RowValue × ℕ)) (p : PointOf) → Tells (verdict_of (map (test_of_row p) rows)) (rows_hold rows p)
rows_tell [] p = refl
rows_tell (r ∷ rs) p = sized_tells (row_fits r.0 p.over p.nums) (holds_at r.0 p.over p.nums) r.1 (map (test_of_row p) rs) (rows_hold rs p) (rows_tell rs p)

props_tell : (props : List (PropTree × ℕ)) (truths : ℕ → Bool) → Tells (verdict_of (map (test_of_prop truths) props)) (props_hold props truths)
props_tell [] truths = refl
props_tell (q ∷ qs) truths = test_tells (truth_of q.0 truths) q.1 (map (test_of_prop truths) qs) (props_hold qs truths) (props_tell qs truths)

off_tells : (on : Bool) (mark : ℕ) (ts : List Test) (y : Bool) → Tells (verdict_of ts) y → Tells (verdict_of ((if on then fails mark else passes) ∷ ts)) (not on && y)
off_tells true mark ts y q = refl
off_tells false mark ts y q = q

mutual
  block_off : (b : BlockTree) (truths : ℕ → Bool) → Tells (verdict_of (map (test_of_off truths) (below b))) (is_off b truths)
  block_off (block items ds) truths = disjunctions_off ds truths

  disjunctions_off : (ds : Disjunctions) (truths : ℕ → Bool) → Tells (verdict_of (map (test_of_off truths) (below_disjunctions ds))) (are_disjunctions_off ds truths)
  disjunctions_off no_disjunctions truths = refl
  disjunctions_off (disjunction head js ds) truths =
      rw (map-append (test_of_off truths) (below_disjuncts js) (below_disjunctions ds))
      (appended (map (test_of_off truths) (below_disjuncts js)) (map (test_of_off truths) (below_disjunctions ds)) (are_disjuncts_off js truths) (are_disjunctions_off ds truths)
      (disjuncts_off js truths) (disjunctions_off ds truths))

  disjuncts_off : (js : Disjuncts) (truths : ℕ → Bool) → Tells (verdict_of (map (test_of_off truths) (below_disjuncts js))) (are_disjuncts_off js truths)
  disjuncts_off no_disjuncts truths = refl
  disjuncts_off (disjunct head b js) truths =
      rw (map-append (test_of_off truths) (below b) (below_disjuncts js), and_assoc (not (truths head.indicator)) (is_off b truths) (are_disjuncts_off js truths))
      (off_tells (truths head.indicator) head.mark (map (test_of_off truths) (below b) ++ map (test_of_off truths) (below_disjuncts js)) (is_off b truths && are_disjuncts_off js truths)
      (appended (map (test_of_off truths) (below b)) (map (test_of_off truths) (below_disjuncts js)) (is_off b truths) (are_disjuncts_off js truths)
      (block_off b truths) (disjuncts_off js truths)))

-- of two, the one that the truth chooses
chosen : (on : Bool) (xs ys : List Test) (x y : Bool) → Tells (verdict_of xs) x → Tells (verdict_of ys) y → Tells (verdict_of (if on then xs else ys)) (if on then x else y)
chosen true xs ys x y p q = p
chosen false xs ys x y p q = q

mutual
  block_tells : (b : BlockTree) (p : PointOf) → Tells (verdict_of (tests_of_block b p)) (is_satisfied b p)
  block_tells (block items ds) p =
      appended (map (test_of_row p) items.rows) (map (test_of_prop p.truths) items.props ++ tests_of_disjunctions ds p)
      (rows_hold items.rows p) (props_hold items.props p.truths && are_disjunctions_satisfied ds p)
      (rows_tell items.rows p)
      (appended (map (test_of_prop p.truths) items.props) (tests_of_disjunctions ds p) (props_hold items.props p.truths) (are_disjunctions_satisfied ds p)
      (props_tell items.props p.truths) (disjunctions_tell ds p))

  disjunctions_tell : (ds : Disjunctions) (p : PointOf) → Tells (verdict_of (tests_of_disjunctions ds p)) (are_disjunctions_satisfied ds p)
  disjunctions_tell no_disjunctions p = refl
  disjunctions_tell (disjunction head js ds) p =
      rw (and_assoc (mode_allows head.mode (true_count js p.truths)) (are_disjuncts_satisfied js p) (are_disjunctions_satisfied ds p))
      (test_tells (mode_allows head.mode (true_count js p.truths)) head.mark (tests_of_disjuncts js p ++ tests_of_disjunctions ds p) (are_disjuncts_satisfied js p && are_disjunctions_satisfied ds p)
      (appended (tests_of_disjuncts js p) (tests_of_disjunctions ds p) (are_disjuncts_satisfied js p) (are_disjunctions_satisfied ds p)
      (disjuncts_tell js p) (disjunctions_tell ds p)))

  disjuncts_tell : (js : Disjuncts) (p : PointOf) → Tells (verdict_of (tests_of_disjuncts js p)) (are_disjuncts_satisfied js p)
  disjuncts_tell no_disjuncts p = refl
  disjuncts_tell (disjunct head b js) p =
      appended (if p.truths head.indicator then tests_of_block b p else map (test_of_off p.truths) (below b)) (tests_of_disjuncts js p)
      (if p.truths head.indicator then is_satisfied b p else is_off b p.truths) (are_disjuncts_satisfied js p)
      (chosen (p.truths head.indicator) (tests_of_block b p) (map (test_of_off p.truths) (below b)) (is_satisfied b p) (is_off b p.truths)
      (block_tells b p) (block_off b p.truths))
      (disjuncts_tell js p)

pub model_tells : (m : ModelTree) (p : PointOf) → Tells (verdict_of (tests_of m p)) (is_model_point m p)
model_tells m p =
    appended (tests_of_vars m.vars 0 p.nums p.over) (tests_of_block m.root p) (vars_take m.vars 0 p.nums p.over) (is_satisfied m.root p)
    (vars_tell m.vars 0 p.nums p.over) (block_tells m.root p)

-- What a point of a model is, in parts: each variable takes its number, and the root block is satisfied.
pub record PointParts (m : ModelTree) (p : PointOf) : Type 0 where
  pub variables : vars_take m.vars 0 p.nums p.over ≡ true
  pub root : is_satisfied m.root p ≡ true

pub model_point_parts : (m : ModelTree) (p : PointOf) → is_model_point m p ≡ true → PointParts m p
model_point_parts m p h = let parts = both (vars_take m.vars 0 p.nums p.over) (is_satisfied m.root p) h in record { variables = parts.0; root = parts.1 }

pub model_point_of : (m : ModelTree) (p : PointOf) → PointParts m p → is_model_point m p ≡ true
model_point_of m p parts = and_true (vars_take m.vars 0 p.nums p.over) (is_satisfied m.root p) parts.variables parts.root
