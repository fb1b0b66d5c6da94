-- A move keeps a tableau one of its force's standard form.
use Rattle.lp_frame.specs.declared.force.Force.{Force}
use Rattle.lp_frame.specs.Standard.{standard_of}
use Rattle.exact_simplex.specs.Table.{Table}
use Rattle.exact_simplex.specs.Run.{Pair, IsMoved}
use Rattle.exact_simplex.proofs.Moving.{move_keeps_form}
use Rattle.search_rules.specs.Claims.{IsReached}

pub moved_reached : (force : Force) (t : Table) (pair : Pair) (u : Table) → IsReached force t → IsMoved t pair u → IsReached force u
moved_reached force t pair u r m = record { sound = m.sound; form = move_keeps_form (standard_of force) t pair u r.sound r.form m }
