use Rattle.std.proofs.Common.{◌≡◌, ◌++◌, ◌∷◌, []}
use Rattle.lp_answers.proofs.Written.{best_written}
use Rattle.lp_answers.proofs.texts.write_best.Goals as goal

pub returns : goal.returns
returns c =
    let end : c.end_line.new.out ≡ c.put_value.new.text ++ 10 ∷ [] = cc c.in_ok-end_line.ensures.whole in
    best_written c.args.names.now c.args.at.now c.args.value c.in_ok-text.text c.put_value.new.text c.end_line.new.out c.put_point.new.text c.append.new.self
    c.in_ok-text.ensures c.in_ok-put_value.ensures end c.in_ok-put_point.ensures c.in_ok-append.ensures.ok
