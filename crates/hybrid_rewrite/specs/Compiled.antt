-- What compiling a model answers: the listed program, or the first refusal in the order of emission.
use Rattle.std.specs.Prelude.{◌≡◌, ◌≢◌, ℕ, Bool, true, List, Option, None, Some, Result, Ok, Err, length}
use Rattle.outcomes.specs.Calls.{refused_or}
use Rattle.milps.specs.Milps.{MilpValue}
use Rattle.block_tree.specs.Sound.{IsSound}
use Rattle.block_tree.specs.Tree.{Disjuncts}
use Rattle.block_tree.specs.Values.{ModelTree}
use Rattle.emission.specs.declared.halts.Halt.{Halt}
use Rattle.emission.specs.declared.halts.Halt.TheVariants.{NoBound, TooWide, TooBig, Unfit, Memory}
use Rattle.hull_rewrite.specs.Choices.{flags_in}
use Rattle.hybrid_rewrite.specs.declared.errors.CompileError.{CompileError}
use Rattle.hybrid_rewrite.specs.declared.errors.CompileError.TheVariants as error
use Rattle.hybrid_rewrite.specs.Laws.{rewritten}
use Rattle.hybrid_rewrite.specs.Rewritten.{listed_milp}

-- a program, whether each disjunction is rewritten by hull in the order of the text, and how many variables and Booleans
-- the model has
pub record CompiledValue : Type 0 where
  pub milp : MilpValue
  pub hulled : List Bool
  pub vars : ℕ
  pub booleans : ℕ

-- the listed program, or why its emission halts
abbrev pub emitted_by : ModelTree → (Disjuncts → Bool) → Result MilpValue Halt
emitted_by m hulled = refused_or (rewritten m hulled).halt (listed_milp m hulled)

-- why a model is not compiled; that a row is unfit never comes, as the law `rewrites_are_fit` says
abbrev pub error_by : Halt → CompileError
error_by (NoBound mark var) = error.NoBound mark var
error_by (TooWide mark) = error.MTooWide mark
error_by TooBig = error.TooBig
error_by Unfit = error.TooBig
error_by Memory = error.Memory

-- the listed program, or the first refusal in the order of emission
abbrev pub compiled_by : Option Halt → CompiledValue → Result CompiledValue CompileError
compiled_by None value = Ok value
compiled_by (Some halt) value = Err (error_by halt)

abbrev pub compiled : ModelTree → (Disjuncts → Bool) → Result CompiledValue CompileError
compiled m hulled = compiled_by (rewritten m hulled).halt (record { milp = listed_milp m hulled; hulled = flags_in hulled m.root; vars = length m.vars; booleans = length m.booleans })

-- For every flagging, no row of the rewrite is one that the builder would not take.
abbrev pub RewritesAreFit : Type 0
RewritesAreFit = (m : ModelTree) (hulled : Disjuncts → Bool) → IsSound m → (rewritten m hulled).halt ≢ Some Unfit

-- For every flagging, no halt of the rewrite is that of memory, which the code alone wants.
abbrev pub RunsNeverLackMemory : Type 0
RunsNeverLackMemory = (m : ModelTree) (hulled : Disjuncts → Bool) → (rewritten m hulled).halt ≢ Some Memory
