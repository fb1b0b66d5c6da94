use Rattle.lp_answers.specs.Points.{AreFirst}
use Rattle.lp_answers.proofs.points.first_numbers.Given as goal

abbrev pub invariant-loop-place : goal.invariant-loop-place
invariant-loop-place l = AreFirst l.place l.numbers l.first
