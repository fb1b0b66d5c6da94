use Rattle.lp_answers.proofs.Written.{endless_written}
use Rattle.lp_answers.proofs.texts.write_endless.Goals as goal

pub returns : goal.returns
returns c =
    endless_written c.args.names.now c.args.at.now c.args.steps.now c.in_ok-text.text c.put_point.new.text c.put_numbers.new.text c.append.new.self
    c.in_ok-text.ensures c.in_ok-put_point.ensures (rw c.as_slice.ensures at c.in_ok-put_numbers.ensures) c.in_ok-append.ensures.ok
