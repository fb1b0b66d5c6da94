use Rattle.std.proofs.Common.{◌≡◌, ℕ, ◌+◌, ◌-◌, vec_len}
use Rattle.milp_forces.specs.Trails.{kept}
use Rattle.milp_forces.proofs.trail.grow.Given as goal

abbrev pub invariant-room : goal.invariant-room
invariant-room l = (j : ℕ) → kept l.table.items j ≡ kept l.initial.table.items j

abbrev pub decreases-room : goal.decreases-room
decreases-room l = (l.column + 1) - vec_len l.table
