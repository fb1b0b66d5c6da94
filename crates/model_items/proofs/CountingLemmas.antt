-- How many items there are: as many as conditions, and few in a model.
use Rattle.std.proofs.Common.{◌≡◌, ℕ, suc, ◌+◌, ◌<◌, ◌≤◌, true, ◌&&◌, ◌==◌, List, [], ◌∷◌, map, length, drop, get_or, nat_lt, Option, Some, refl, arith, add-one, drop-cons}
use Rattle.std.proofs.lemmas.Bool.Decides.{nat_tests}
use Rattle.std.proofs.lemmas.List.{length-map, length-append}
use Rattle.propositions.specs.Sizes.{node_count_of}
use Rattle.propositions.specs.Tree.{PropTree, atom, negated, paired, listed}
use Rattle.model_tree.specs.declared.tree.Disjunct.{Disjunct}
use Rattle.model_tree.specs.declared.tree.Disjunction.{Disjunction}
use Rattle.model_items.specs.Items.{enforced, conditions_in, conditions_of_disjunctions, conditions_of_disjuncts}
use Rattle.model_items.specs.steps.Picking.{item_total, item_total_below, item_total_within}
use Rattle.model_tree.specs.Sound.{are_rows_below, are_props_sound, is_filled, is_block_sound, are_disjunctions_sound, are_disjuncts_sound, are_last_of, IsSound}
use Rattle.model_tree.specs.Tree.{DisjunctHead, BlockTree, block, Disjunctions, no_disjunctions, disjunction, Disjuncts, no_disjuncts, disjunct, nodes_of_props, node_total, node_total_below, node_total_within, below, below_disjunctions, below_disjuncts}
use Rattle.model_tree.specs.Values.{ModelTree}
use Rattle.model_tree.specs.View.{disjunction_of, disjunct_of, disjunctions_of, disjuncts_of}
use Rattle.model_tree.proofs.Bools.{first_holds, second_holds}

mutual
  pub block_counted : (y : Option ℕ) (b : BlockTree) → length (conditions_in y b) ≡ item_total b
  block_counted y (block items ds) =
      rw (length-append (map (λ q. enforced y q.0) items.props) (conditions_of_disjunctions y ds), length-map items.props (λ q. enforced y q.0), disjunctions_counted y ds) refl

  pub disjunctions_counted : (y : Option ℕ) (ds : Disjunctions) → length (conditions_of_disjunctions y ds) ≡ item_total_below ds
  disjunctions_counted y no_disjunctions = refl
  disjunctions_counted y (disjunction head js ds) =
      let a = length-append (conditions_of_disjuncts js) (conditions_of_disjunctions y ds) in
      let b = disjuncts_counted js in
      let c = disjunctions_counted y ds in
      omega (arith, a, b, c)

  pub disjuncts_counted : (js : Disjuncts) → length (conditions_of_disjuncts js) ≡ item_total_within js
  disjuncts_counted no_disjuncts = refl
  disjuncts_counted (disjunct head b js) =
      let a = length-append (conditions_in (Some head.indicator) b) (conditions_of_disjuncts js) in
      let c = block_counted (Some head.indicator) b in
      let d = disjuncts_counted js in
      omega (arith, a, c, d)

a_node : (p : PropTree) → 1 ≤ node_count_of p
a_node (atom k) = omega arith
a_node (negated p) = omega arith
a_node (paired c p q) = omega arith
a_node (listed c ps) = omega arith

few_props : (qs : List (PropTree × ℕ)) → length qs ≤ nodes_of_props qs
few_props [] = omega arith
few_props (q ∷ qs) = let a = a_node q.0 in let b = few_props qs in omega (arith, a, b)

-- 1 where there is a disjunct
abbrev pub one_if_filled : Disjuncts → ℕ
one_if_filled no_disjuncts = 0
one_if_filled (disjunct head b js) = 1

one_is_filled : (js : Disjuncts) → is_filled js ≡ true → one_if_filled js ≡ 1
one_is_filled no_disjuncts h = cc
one_is_filled (disjunct head b js) h = refl

-- an item is a proposition, which has a node, or a disjunction, which has a disjunct
mutual
  few_in : (n m : ℕ) (b : BlockTree) → is_block_sound n m b ≡ true → item_total b ≤ node_total b + length (below b)
  few_in n m (block items ds) h =
      let k = second_holds (are_props_sound m items.props) (are_disjunctions_sound n m ds) (second_holds (are_rows_below n items.rows) (are_props_sound m items.props && are_disjunctions_sound n m ds) h) in
      let a = few_props items.props in
      let c = few_below n m ds k in
      omega (arith, a, c)

  few_below : (n m : ℕ) (ds : Disjunctions) → are_disjunctions_sound n m ds ≡ true → item_total_below ds ≤ node_total_below ds + length (below_disjunctions ds)
  few_below n m no_disjunctions h = omega arith
  few_below n m (disjunction head js ds) h =
      let k = first_holds (is_filled js && are_disjuncts_sound n m js) (are_disjunctions_sound n m ds) h in
      let o = one_is_filled js (first_holds (is_filled js) (are_disjuncts_sound n m js) k) in
      let a = few_within n m js (second_holds (is_filled js) (are_disjuncts_sound n m js) k) in
      let c = few_below n m ds (second_holds (is_filled js && are_disjuncts_sound n m js) (are_disjunctions_sound n m ds) h) in
      let l = length-append (below_disjuncts js) (below_disjunctions ds) in
      omega (arith, o, a, c, l)

  few_within : (n m : ℕ) (js : Disjuncts) → are_disjuncts_sound n m js ≡ true
      → item_total_within js + one_if_filled js ≤ node_total_within js + length (below_disjuncts js)
  few_within n m no_disjuncts h = omega arith
  few_within n m (disjunct head b js) h =
      let k = first_holds (nat_lt head.indicator m && is_block_sound n m b) (are_disjuncts_sound n m js) h in
      let a = few_in n m b (second_holds (nat_lt head.indicator m) (is_block_sound n m b) k) in
      let c = few_within n m js (second_holds (nat_lt head.indicator m && is_block_sound n m b) (are_disjuncts_sound n m js) h) in
      let l = length-append (below b) (below_disjuncts js) in
      omega (arith, a, c, l)

last_are_few : (m : ℕ) (heads : List DisjunctHead) → are_last_of m heads ≡ true → length heads ≤ m
last_are_few m [] h = omega arith
last_are_few m (head ∷ heads) h =
    let e = first_holds (head.indicator + suc (length heads) == m) (are_last_of m heads) h in
    grind (arith, nat_tests)

pub few_items : (m : ModelTree) → IsSound m → item_total m.root ≤ 5200
few_items m s =
    let a = few_in (length m.vars) (length m.booleans) m.root s.root in
    let c = last_are_few (length m.booleans) (below m.root) s.indicators in
    let d = s.few_nodes in
    let e = s.few_booleans in
    omega (arith, a, c, d, e)

pub disjunctions_add : (ds : List Disjunction) (i : ℕ) (d : Disjunction) → i < length ds → d ≡ get_or ds i d
    → item_total_below (disjunctions_of (drop i ds)) ≡ suc (item_total_within (disjunction_of d).1) + item_total_below (disjunctions_of (drop (i + 1) ds))
disjunctions_add ds i d h e = rw (add-one, drop-cons ds i d, ← e) refl

pub disjuncts_add : (js : List Disjunct) (i : ℕ) (j : Disjunct) → i < length js → j ≡ get_or js i j
    → item_total_within (disjuncts_of (drop i js)) ≡ item_total (disjunct_of j).1 + item_total_within (disjuncts_of (drop (i + 1) js))
disjuncts_add js i j h e = rw (add-one, drop-cons js i j, ← e) refl
