use Rattle.std.proofs.Common.{rules, ◌≡◌, length, IfOk}
use Rattle.model_tree.specs.Values.{model_tree}
use Rattle.rewrite_solving.specs.Cuts.{numbers_of}
use Rattle.rewrite_solving.proofs.Places.{if_ray}
use Rattle.rewrite_solving.proofs.cuts.cut_ray.Goals as goal

pub returns : goal.returns
returns c =
    let h : IfOk c.numbers.result (λ out. out ≡ numbers_of c.args.ray.now (length c.args.model.now.vars)) = search rules in
    if_ray (model_tree c.args.model.now) c.args.ray.now c.numbers.result h
