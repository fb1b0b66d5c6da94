-- What a sound model's root keeps.
use Rattle.hull_rewrite.specs.Expanded.{are_indicators_below}
use Rattle.std.proofs.Common.{◌≡◌, ℕ, ◌^◌, ◌≤◌, true, ◌&&◌, nat_lt, nat_le, List, [], ◌∷◌, length, refl, arith}
use Rattle.std.proofs.lemmas.Bool.Decides.{nat_tests}
use Rattle.milps.proofs.Columned.{and_left, and_right, and_true}
use Rattle.propositions.specs.Sizes.{greatest_number_of}
use Rattle.propositions.specs.Tree.{PropTree, PropTrees, atom, negated, paired, listed, no_props, prop}
use Rattle.propositions.specs.Truth.{are_all_ids_below, are_ids_below}
use Rattle.block_tree.specs.PropLimits.{is_shallow_prop, is_prop_sound, has_small_numbers, has_fair_lists}
use Rattle.block_tree.specs.Sound.{IsSound, are_disjunctions_sound, are_disjuncts_sound, are_props_sound, are_rows_below, is_block_sound, is_filled}
use Rattle.block_tree.specs.Tree.{BlockTree, Disjunctions, Disjuncts, block, disjunct, disjunction, no_disjunctions, no_disjuncts}
use Rattle.block_tree.specs.Values.{ModelTree}
use Rattle.hybrid_rewrite.specs.Chosen.{are_disjunctions_fit, are_disjuncts_fit, is_block_fit}
use Rattle.hybrid_rewrite.specs.Ranges.{are_props_small, is_prop_small}

less_more : (k m : ℕ) → m ≤ 2 ^ 31 → nat_lt k m ≡ true → nat_lt k (2 ^ 31) ≡ true
less_more k m h e = grind (arith, nat_tests)

mutual
  ids_more : (m : ℕ) (p : PropTree) → m ≤ 2 ^ 31 → are_ids_below m p ≡ true → are_ids_below (2 ^ 31) p ≡ true
  ids_more m (atom k) h e = less_more k m h e
  ids_more m (negated p) h e = ids_more m p h e
  ids_more m (paired c p q) h e =
      and_true (are_ids_below (2 ^ 31) p) (are_ids_below (2 ^ 31) q) (ids_more m p h (and_left (are_ids_below m p) (are_ids_below m q) e)) (ids_more m q h (and_right (are_ids_below m p) (are_ids_below m q) e))
  ids_more m (listed c ps) h e = all_ids_more m ps h e

  all_ids_more : (m : ℕ) (ps : PropTrees) → m ≤ 2 ^ 31 → are_all_ids_below m ps ≡ true → are_all_ids_below (2 ^ 31) ps ≡ true
  all_ids_more m no_props h e = refl
  all_ids_more m (prop p ps) h e =
      and_true (are_ids_below (2 ^ 31) p) (are_all_ids_below (2 ^ 31) ps) (ids_more m p h (and_left (are_ids_below m p) (are_all_ids_below m ps) e)) (all_ids_more m ps h (and_right (are_ids_below m p) (are_all_ids_below m ps) e))

prop_small : (m : ℕ) (p : PropTree) → m ≤ 2 ^ 31 → is_prop_sound m p ≡ true → is_prop_small p ≡ true
prop_small m p h e =
    let x = and_right (are_ids_below m p) (has_small_numbers p && (is_shallow_prop p && has_fair_lists p)) e in
    and_true (are_ids_below (2 ^ 31) p) (nat_le (greatest_number_of p) 1000) (ids_more m p h (and_left (are_ids_below m p) (has_small_numbers p && (is_shallow_prop p && has_fair_lists p)) e))
    (and_left (has_small_numbers p) (is_shallow_prop p && has_fair_lists p) x)

pub props_small : (m : ℕ) (qs : List (PropTree × ℕ)) → m ≤ 2 ^ 31 → are_props_sound m qs ≡ true → are_props_small qs ≡ true
props_small m [] h e = refl
props_small m (q ∷ qs) h e =
    and_true (is_prop_small q.0) (are_props_small qs) (prop_small m q.0 h (and_left (is_prop_sound m q.0) (are_props_sound m qs) e)) (props_small m qs h (and_right (is_prop_sound m q.0) (are_props_sound m qs) e))

pub indicators_small : (n m : ℕ) (js : Disjuncts) → m ≤ 2 ^ 31 → are_disjuncts_sound n m js ≡ true → are_indicators_below (2 ^ 31) js ≡ true
indicators_small n m no_disjuncts h e = refl
indicators_small n m (disjunct head b js) h e =
    let x = and_left (nat_lt head.indicator m && is_block_sound n m b) (are_disjuncts_sound n m js) e in
    and_true (nat_lt head.indicator (2 ^ 31)) (are_indicators_below (2 ^ 31) js) (less_more head.indicator m h (and_left (nat_lt head.indicator m) (is_block_sound n m b) x))
    (indicators_small n m js h (and_right (nat_lt head.indicator m && is_block_sound n m b) (are_disjuncts_sound n m js) e))

mutual
  pub block_fits : (n m : ℕ) (b : BlockTree) → m ≤ 2 ^ 31 → is_block_sound n m b ≡ true → is_block_fit n b ≡ true
  block_fits n m (block items ds) h e =
      let y = and_right (are_rows_below n items.rows) (are_props_sound m items.props && are_disjunctions_sound n m ds) e in
      and_true (are_rows_below n items.rows) (are_props_small items.props && are_disjunctions_fit n ds) (and_left (are_rows_below n items.rows) (are_props_sound m items.props && are_disjunctions_sound n m ds) e)
      (and_true (are_props_small items.props) (are_disjunctions_fit n ds) (props_small m items.props h (and_left (are_props_sound m items.props) (are_disjunctions_sound n m ds) y))
      (disjunctions_fit n m ds h (and_right (are_props_sound m items.props) (are_disjunctions_sound n m ds) y)))

  disjunctions_fit : (n m : ℕ) (ds : Disjunctions) → m ≤ 2 ^ 31 → are_disjunctions_sound n m ds ≡ true → are_disjunctions_fit n ds ≡ true
  disjunctions_fit n m no_disjunctions h e = refl
  disjunctions_fit n m (disjunction head js ds) h e =
      let x = and_left (is_filled js && are_disjuncts_sound n m js) (are_disjunctions_sound n m ds) e in
      let y = and_right (is_filled js) (are_disjuncts_sound n m js) x in
      and_true (are_indicators_below (2 ^ 31) js && are_disjuncts_fit n js) (are_disjunctions_fit n ds)
      (and_true (are_indicators_below (2 ^ 31) js) (are_disjuncts_fit n js) (indicators_small n m js h y) (disjuncts_fit n m js h y))
      (disjunctions_fit n m ds h (and_right (is_filled js && are_disjuncts_sound n m js) (are_disjunctions_sound n m ds) e))

  disjuncts_fit : (n m : ℕ) (js : Disjuncts) → m ≤ 2 ^ 31 → are_disjuncts_sound n m js ≡ true → are_disjuncts_fit n js ≡ true
  disjuncts_fit n m no_disjuncts h e = refl
  disjuncts_fit n m (disjunct head b js) h e =
      let x = and_left (nat_lt head.indicator m && is_block_sound n m b) (are_disjuncts_sound n m js) e in
      and_true (nat_lt head.indicator (2 ^ 31) && is_block_fit n b) (are_disjuncts_fit n js)
      (and_true (nat_lt head.indicator (2 ^ 31)) (is_block_fit n b) (less_more head.indicator m h (and_left (nat_lt head.indicator m) (is_block_sound n m b) x)) (block_fits n m b h (and_right (nat_lt head.indicator m) (is_block_sound n m b) x)))
      (disjuncts_fit n m js h (and_right (nat_lt head.indicator m && is_block_sound n m b) (are_disjuncts_sound n m js) e))

few_booleans : (m : ℕ) → m ≤ 200 → m ≤ 2 ^ 31
few_booleans m h = omega (arith, h)

-- a sound model's root fits
pub root_fits : (m : ModelTree) → IsSound m → is_block_fit (length m.vars) m.root ≡ true
root_fits m s = block_fits (length m.vars) (length m.booleans) m.root (few_booleans (length m.booleans) s.few_booleans) s.root
