-- What a builder keeps where a proposition is added, and how its nodes are counted.
use Rattle.std.proofs.Common.{◌≡◌, ℕ, ◌+◌, ◌≤◌, true, false, not, ◌&&◌, ◌||◌, List, [], ◌∷◌, ◌++◌, length, Option, None, refl, ap, arith, min, nat_le, is_some, ◌<◌}
use Rattle.std.proofs.lemmas.Bool.Decides.{nat_tests}
use Rattle.outcomes.specs.Calls.{refuse_if}
use Rattle.propositions.specs.Sizes.{node_count_of}
use Rattle.propositions.specs.Tree.{PropTree}
use Rattle.propositions.specs.Truth.{are_ids_below}
use Rattle.propositions.specs.View.{prop_tree}
use Rattle.propositions.specs.declared.tree.Prop.{Prop}
use Rattle.model_tree.specs.declared.errors.BuildError.{BuildError}
use Rattle.model_tree.specs.declared.errors.BuildError.TheVariants.{Place, NameUnknown, Number, Nesting, Limit}
use Rattle.model_builder.specs.Building.{OpenBlock, OpenDisjunction, BuildingValue}
use Rattle.model_tree.specs.PropLimits.{has_small_numbers, is_shallow_prop, has_fair_lists, is_prop_sound}
use Rattle.model_builder.specs.Props.{nodes_so_far, refusal_of_prop, prop_outcome}
use Rattle.model_tree.specs.Sound.{are_rows_below, are_props_sound, are_disjunctions_sound}
use Rattle.model_builder.specs.Whole.{IsNested, IsWhole}
use Rattle.model_tree.specs.Tree.{nodes_of_props}
use Rattle.model_tree.specs.View.{disjunctions, props_of}
use Rattle.model_builder.proofs.WholeLemmas.{unless_keeps, refuses_not, block_parts, block_whole}
use Rattle.model_tree.proofs.Bools.{and_true, neither, not_false, all_append}

pub nodes_of_props-push : (qs : List (PropTree × ℕ)) (q : PropTree × ℕ) → nodes_of_props (qs ++ q ∷ []) ≡ nodes_of_props qs + node_count_of q.0
nodes_of_props-push [] q = omega arith
nodes_of_props-push (x ∷ xs) q = omega (arith, nodes_of_props-push xs q)

prop_nested : (m : ℕ) (inner : OpenBlock) (props : List (PropTree × ℕ)) (opened : Option OpenDisjunction) (outer : List (OpenBlock × OpenDisjunction))
    → IsNested m inner opened outer → IsNested m (record inner { props = props }) opened outer
prop_nested m inner props opened outer n = record {
  few_around = n.few_around;
  shallow = n.shallow;
  shallow_opened = n.shallow_opened;
  shallow_around = n.shallow_around;
  indicators = n.indicators;
  earlier = n.earlier;
  earlier_opened = n.earlier_opened;
  earlier_around = n.earlier_around;
}

within_limit : (n most : ℕ) → not (nat_le n most) ≡ false → n ≤ most
within_limit n most h = le_true n most (not_false (nat_le n most) h)
  where
    le_true : (a b : ℕ) → nat_le a b ≡ true → a ≤ b
    le_true a b e = grind (arith, nat_tests)

pub prop_keeps_whole : (p : PropTree) (mark : ℕ) (b : BuildingValue) → IsWhole b → IsWhole (prop_outcome p mark b).1
prop_keeps_whole p mark b w =
    let n = length b.vars in
    let m = length b.booleans in
    let next : BuildingValue = record b { inner = record b.inner { props = b.inner.props ++ (p, mark) ∷ [] } } in
    unless_keeps IsWhole (refusal_of_prop p b) b tt next w (λ h.
    let room = nat_le (nodes_so_far b + node_count_of p) 5000 in
    let limit : Option BuildError = refuse_if (not (has_fair_lists p) || not room) Limit None in
    let place = refuses_not (is_some b.opened) Place (refuse_if (not (are_ids_below m p)) NameUnknown (refuse_if (not (has_small_numbers p)) Number (refuse_if (not (is_shallow_prop p)) Nesting limit))) h in
    let known = refuses_not (not (are_ids_below m p)) NameUnknown (refuse_if (not (has_small_numbers p)) Number (refuse_if (not (is_shallow_prop p)) Nesting limit)) place.1 in
    let number = refuses_not (not (has_small_numbers p)) Number (refuse_if (not (is_shallow_prop p)) Nesting limit) known.1 in
    let nesting = refuses_not (not (is_shallow_prop p)) Nesting limit number.1 in
    let small = refuses_not (not (has_fair_lists p) || not room) Limit None nesting.1 in
    let fair = neither (not (has_fair_lists p)) (not room) small.0 in
    let sound : is_prop_sound m p ≡ true =
    and_true (are_ids_below m p) (has_small_numbers p && (is_shallow_prop p && has_fair_lists p)) (not_false (are_ids_below m p) known.0)
    (block_whole (has_small_numbers p) (is_shallow_prop p) (has_fair_lists p) (not_false (has_small_numbers p) number.0) (not_false (is_shallow_prop p) nesting.0) (not_false (has_fair_lists p) fair.0)) in
    let x = block_parts (are_rows_below n b.inner.rows) (are_props_sound m b.inner.props) (are_disjunctions_sound n m (disjunctions b.inner.closed)) w.inner in
    let y : are_props_sound m next.inner.props ≡ true =
    all_append (λ q. is_prop_sound m q.0) b.inner.props ((p, mark) ∷ []) x.1 (and_true (is_prop_sound m p) true sound refl) in
    let l = within_limit (nodes_so_far b + node_count_of p) 5000 fair.1 in
    let e = nodes_of_props-push b.inner.props (p, mark) in
    record {
      few_variables = w.few_variables;
      few_booleans = w.few_booleans;
      few_rows = w.few_rows;
      few_nodes = omega (arith, e, l);
      names = w.names;
      bounds = w.bounds;
      ends = w.ends;
      scale = w.scale;
      nested = prop_nested m b.inner next.inner.props b.opened b.outer w.nested;
      goal = w.goal;
      inner = block_whole (are_rows_below n b.inner.rows) (are_props_sound m next.inner.props) (are_disjunctions_sound n m (disjunctions b.inner.closed)) x.0 y x.2;
      opened = w.opened;
      placed = w.placed;
      outer = w.outer;
      stored = w.stored;
      opened_stored = w.opened_stored;
      outer_stored = w.outer_stored;
    })

-- one more proposition's nodes, as they are counted in the stored list
pub nodes_added : (qs : List (Prop × ℕ)) (q : Prop × ℕ) (p : PropTree) → prop_tree q.0 ≡ p → nodes_of_props (props_of (qs ++ q ∷ [])) ≡ nodes_of_props (props_of qs) + node_count_of p
nodes_added [] q p e = omega (arith, ap node_count_of e)
nodes_added (x ∷ xs) q p e = omega (arith, nodes_added xs q p e)

-- a saturated sum that is small is the sum
pub not_saturated : (total count counted sum most : ℕ) → 5000 < most → counted ≡ min count most → sum ≡ min (total + counted) most → sum ≤ 5000 → sum ≡ total + count
not_saturated total count counted sum most l c s h = grind (arith, nat_tests)
