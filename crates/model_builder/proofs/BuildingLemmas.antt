-- A builder that is new is whole, and so is the model that is made of one.
use Rattle.std.proofs.Common.{◌≡◌, ℕ, true, not, Option, Some, None, length, refl, arith}
use Rattle.std.proofs.lemmas.List.Elements.{All-nil}
use Rattle.std.specs.Option.{ForSome}
use Rattle.outcomes.specs.Calls.{refuse_if}
use Rattle.model_tree.specs.declared.errors.BuildError.TheVariants.{Missing, Unclosed}
use Rattle.model_builder.specs.Building.{BuildingValue, new_building, is_at_root, refusal_of_finish, built_model, goal_of}
use Rattle.model_tree.specs.Sound.{is_empty, are_rows_below, are_props_sound, are_disjunctions_sound, is_goal_sound, IsScaleLeast, IsSound}
use Rattle.model_tree.specs.Bounds.{AreEndsLowest}
use Rattle.model_builder.specs.Whole.{is_given_sound, IsWhole}
use Rattle.model_tree.specs.Values.{GoalValue}
use Rattle.model_tree.specs.View.{disjunctions}
use Rattle.model_builder.proofs.EarlierLemmas.{sound_names}
use Rattle.model_builder.proofs.WholeLemmas.{block_parts, refuses_not}
use Rattle.model_tree.proofs.Bools.{not_false}
use Rattle.model_builder.proofs.PlacesLemmas.{nothing_nested, root_shallow, root_indicators, root_earlier}
use Rattle.model_tree.proofs.GoalLemmas.{none_least}

none_given : (g : GoalValue) → None ≡ Some g → ⊥
none_given g e = cc

pub new_is_whole : IsWhole new_building
new_is_whole = record {
  few_variables = omega arith;
  few_booleans = omega arith;
  few_rows = omega arith;
  few_nodes = omega arith;
  names = refl;
  bounds = refl;
  ends = All-nil (λ v. AreEndsLowest v.2);
  scale = λ g e. absurd (none_given g e);
  nested = nothing_nested 0 new_building.inner refl;
  goal = refl;
  inner = refl;
  opened = refl;
  placed = refl;
  outer = refl;
  stored = refl;
  opened_stored = refl;
  outer_stored = refl;
}

scale_is_least : (g : Option GoalValue) → ForSome g IsScaleLeast → IsScaleLeast (goal_of g)
scale_is_least None h = none_least
scale_is_least (Some g) h = h g refl

goal_is_sound : (n : ℕ) (g : Option GoalValue) → is_given_sound n g ≡ true → is_goal_sound n (goal_of g) ≡ true
goal_is_sound n None h = refl
goal_is_sound n (Some g) h = h

pub built_is_sound : (b : BuildingValue) → IsWhole b → refusal_of_finish b ≡ None → IsSound (built_model b)
built_is_sound b w h =
    let p = refuses_not (not (is_at_root b)) Unclosed (refuse_if (is_empty b.vars) Missing None) h in
    let q = refuses_not (is_empty b.vars) Missing None p.1 in
    let parts = block_parts (are_rows_below (length b.vars) b.inner.rows) (are_props_sound (length b.booleans) b.inner.props) (are_disjunctions_sound (length b.vars) (length b.booleans) (disjunctions b.inner.closed)) w.inner in
    record {
      some_variable = q.0;
      few_variables = w.few_variables;
      few_booleans = w.few_booleans;
      few_rows = omega (arith, w.few_rows);
      few_nodes = omega (arith, w.few_nodes);
      names = w.names;
      bounds = w.bounds;
      ends = w.ends;
      goal = goal_is_sound (length b.vars) b.goal w.goal;
      scale = scale_is_least b.goal w.scale;
      root = w.inner;
      stored = w.stored;
      shallow = root_shallow (length b.booleans) b (not_false (is_at_root b) p.0) w.nested;
      indicators = root_indicators (length b.booleans) b (not_false (is_at_root b) p.0) w.nested;
      earlier = root_earlier (length b.booleans) b (sound_names (length b.booleans) b.inner.props parts.1) w.nested;
    }
