use Rattle.std.proofs.Common.{◌≡◌, drop}
use Rattle.lp_rows.specs.Rows.{ascends_from}
use Rattle.lp_rows.proofs.rows.do_ids_ascend.Given as goal

abbrev pub invariant-loop-term : goal.invariant-loop-term
invariant-loop-term l = ascends_from l.least (drop l.term-index l.terms) ≡ ascends_from 0 l.terms
