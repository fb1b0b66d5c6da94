-- What solving a model by a route answers.
use Rattle.std.specs.Prelude.{◌≡◌, ℕ, Result, Ok, Err}
use Rattle.model_tree.specs.Values.{ModelTree}
use Rattle.answers.specs.declared.answer.Route.{Route}
use Rattle.answers.specs.declared.answer.Route.TheVariants.{BigM, Hull, Hybrid, Logic}
use Rattle.hull_rewrite.specs.declared.choices.Choice.TheVariants as choice
use Rattle.hybrid_rewrite.specs.declared.errors.CompileError.{CompileError}
use Rattle.hybrid_rewrite.specs.declared.errors.CompileError.TheVariants.{Memory}
use Rattle.rewrite_solving.specs.declared.reached.Reached.{Reached}
use Rattle.rewrite_solving.specs.Solutions.{IsCompiledSolution}
use Rattle.gdp_solve.specs.Logic.{IsLogicSolution}

-- what solving by logic answers; the model is not compiled, so there is no refusal but running out of memory
abbrev pub IsItsOwnSolution : ModelTree → ℕ → Result Reached CompileError → Type 0
IsItsOwnSolution m steps (Ok reached) = IsLogicSolution m steps reached
IsItsOwnSolution m steps (Err refusal) = refusal ≡ Memory

-- a solution by the route, with at most so many steps
abbrev pub IsSolution : ModelTree → Route → ℕ → Result Reached CompileError → Type 0
IsSolution m BigM steps result = IsCompiledSolution m choice.BigM steps result
IsSolution m Hull steps result = IsCompiledSolution m choice.Hull steps result
IsSolution m Hybrid steps result = IsCompiledSolution m choice.Hybrid steps result
IsSolution m Logic steps result = IsItsOwnSolution m steps result
