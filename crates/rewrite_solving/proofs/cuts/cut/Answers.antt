use Rattle.std.proofs.Common.{rules, ◌≡◌, ◌∙◌, length, FitsSigned}
use Rattle.std.proofs.lemmas.Int.{to_z-of_z}
use mir.Syntax.{w128}
use Rattle.model_tree.specs.Values.{model_tree}
use Rattle.lp_rows.specs.Points.{PointValue}
use Rattle.lowest_terms.proofs.Rows.{made_is}
use Rattle.rewrite_solving.specs.Cuts.{numbers_of, truths_of}
use Rattle.rewrite_solving.proofs.Places.{is_cut}
use Rattle.rewrite_solving.proofs.cuts.cut.Goals as goal

pub returns-in-Ok : goal.returns-in-Ok
returns-in-Ok c =
    let m = model_tree c.args.model.now in
    let x : PointValue = c.args.at.now in
    let o : FitsSigned w128 c.over.result = search rules in
    let v : c.over.result ≡ x.over = c.over.ensures.value in
    let n : c.in_ok-nums.nums ≡ numbers_of x.nums (length c.args.model.now.vars) = search rules in
    let t : c.in_ok-truths.truths ≡ truths_of x.nums (length c.args.model.now.vars) (length c.args.model.now.booleans) = search rules in
    let made = made_is c.over.result c.in_ok-nums.nums c.in-Ok.point (rw (to_z-of_z w128 c.over.result o, c.as_slice.ensures) at c.in-Ok.ensures) in
    is_cut m x c.in-Ok.point c.in_ok-truths.truths (made ∙ (λ i. record { over = v i; nums = n i })) t
