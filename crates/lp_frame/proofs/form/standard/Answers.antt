use Rattle.std.proofs.Common.{◌≡◌, true, rules, arith, subst, sym}
use Rattle.std.proofs.lemmas.Grind.{common_steps}
use Rattle.lp_frame.specs.Standard.{Standard, is_standard, standard_of, SamePoints}
use Rattle.lp_frame.proofs.Points.{few_cols, same_points, standard_is_standard}
use Rattle.lp_frame.proofs.form.standard.Goals as goal

pub split_count-requires : goal.split_count-requires
split_count-requires c = rw c.as_slice-cols.ensures (few_cols c.args.force.now c.requires)

pub invariant_of-result : goal.invariant_of-result
invariant_of-result c =
    let form : Standard = record { columns = c.split_count.result; rows = c.in_ok-rows.rows; goal = c.in_ok-goal.goal } in
    let same : form ≡ standard_of c.args.force.now = first_of (search rules, grind (arith, common_steps)) in
    subst (λ (s : Standard). is_standard s ≡ true) (sym same) (standard_is_standard c.args.force.now c.requires)

pub returns-clause-points : goal.returns-clause-points
returns-clause-points c =
    let form : Standard = record { columns = c.split_count.result; rows = c.in_ok-rows.rows; goal = c.in_ok-goal.goal } in
    let same : form ≡ standard_of c.args.force.now = first_of (search rules, grind (arith, common_steps)) in
    subst (λ (s : Standard). SamePoints c.args.force.now s) (sym same) (same_points c.args.force.now c.requires)
