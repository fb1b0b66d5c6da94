-- No run of items runs out of memory: only its code does.
use Rattle.std.proofs.Common.{◌≡◌, Bool, true, false, not, ◌&&◌, ◌||◌, nat_lt, List, [], ◌∷◌, ◌++◌, length, Option, Some, None, if◌then◌else◌}
use Rattle.std.specs.Prelude.{◌+◌}
use Rattle.outcomes.specs.Calls.{refuse_if}
use Rattle.lp_rows.specs.Rows.{are_storable, is_storable}
use Rattle.milps.specs.declared.builder.MilpError.TheVariants.{Coefficient, TooBig as too_big}
use Rattle.milps.specs.Building.{bounds_of, height, height_of, width, width_of}
use Rattle.milps.specs.Milps.{MilpValue, normal_row, normal_terms}
use Rattle.emission.specs.declared.halts.Halt.{Halt}
use Rattle.emission.specs.declared.halts.Halt.TheVariants.{Unfit, Memory}
use Rattle.emission.specs.Items.{Item, Refusal, col, no_bound, refused, row, too_wide}
use Rattle.emission.specs.Run.{State, act, halted, is_fit, refused_by, run, step, taken, unless_halted}
use Rattle.hybrid_rewrite.specs.Compiled.{RunsNeverLackMemory}
use Rattle.hybrid_rewrite.specs.Rewritten.{listed_rewrite}
use Rattle.hybrid_rewrite.proofs.Finishing.{start}

abbrev Lacks : State → Type 0
Lacks s = s.halt ≡ Some Memory

col_lacks : (b : Bool) (s : State) (next : MilpValue) → (Lacks s → ⊥) → Lacks (taken (refuse_if b too_big None) s next) → ⊥
col_lacks true s next g u = cc
col_lacks false s next g u = g u

row_lacks : (t a b : Bool) (s : State) (next : MilpValue) → (Lacks s → ⊥) → Lacks (if t then taken (refuse_if a Coefficient (refuse_if b too_big None)) s next else halted s Unfit) → ⊥
row_lacks true true b s next g u = cc
row_lacks true false true s next g u = cc
row_lacks true false false s next g u = g u
row_lacks false a b s next g u = cc

refused_lacks : (r : Refusal) (s : State) → Lacks (halted s (refused_by r)) → ⊥
refused_lacks (no_bound m v) s u = cc
refused_lacks (too_wide m) s u = cc

step_lacks : (h : Option Halt) (i : Item) (s : State) → (Lacks s → ⊥) → Lacks (unless_halted h s (act i s)) → ⊥
step_lacks (Some h) i s g u = g u
step_lacks None (col i c m) s g u = col_lacks (nat_lt 4000 (width s.milp.cols + width_of c.sign) || nat_lt 3000 (height s.milp + bounds_of c.kind)) s (record s.milp { cols = s.milp.cols ++ c ∷ [] }) g u
step_lacks None (row r) s g u =
    row_lacks (is_fit (length s.milp.cols) r.terms) (not (are_storable (normal_terms r.terms) && is_storable r.right)) (nat_lt 3000 (height s.milp + height_of r.rel)) s (record s.milp { rows = s.milp.rows ++ normal_row r ∷ [] }) g u
step_lacks None (refused r) s g u = refused_lacks r s u

run_lacks : (is : List Item) (s : State) → (Lacks s → ⊥) → Lacks (run is s) → ⊥
run_lacks [] s g u = g u
run_lacks (i ∷ is) s g u = run_lacks is (step i s) (λ x. step_lacks s.halt i s g x) u

pub runs_never_lack_memory : RunsNeverLackMemory
runs_never_lack_memory m hulled u = run_lacks (listed_rewrite m hulled) start (λ x. cc) u
