use Rattle.std.proofs.Common.{rules, ap, ◌≡◌, ◌≢◌, ◌∙◌, ◌==◌, ℕ, ℤ, List, [], length, true, FitsSigned}
use Rattle.std.proofs.lemmas.Int.{to_z-of_z}
use mir.Syntax.{w128}
use Rattle.model_tree.specs.Values.{model_tree}
use Rattle.gdp_grammar.specs.Canonical.{var_names}
use Rattle.gdp_printer.proofs.Texts.{on_ok, goal_put}
use Rattle.gdp_printer.proofs.sums.put_goal_sum.Goals as goal

pub returns : goal.returns
returns c =
    let f : FitsSigned w128 c.goal_scale-scale.result = search rules in
    let g : FitsSigned w128 c.constant-2.result = search rules in
    let some : c.args.model.now.goal.terms ≢ [] = λ z.
    let t : c.is_empty.result ≡ true = c.is_empty.ensures ∙ ap (λ (xs : List (ℕ × ℤ)). length xs == 0) (c.terms.ensures ∙ z) in
    absurd (cc (t, c.if-is_empty.false)) in
    on_ok c.put_constant.result
    (λ e. goal_put (var_names (model_tree c.args.model.now)) c.args.model.now.goal.terms c.args.model.now.goal.scale c.args.model.now.goal.constant c.args.text.now c.put_sum.new.text c.put_constant.new.text some
    (rw (to_z-of_z w128 c.goal_scale-scale.result f, c.goal_scale-scale.ensures.scale, c.terms-2.ensures) at c.in_ok-put_sum.ensures)
    (rw (to_z-of_z w128 c.goal_scale-scale.result f, c.goal_scale-scale.ensures.scale, to_z-of_z w128 c.constant-2.result g, c.constant-2.ensures) at e))
    c.put_constant.ensures
