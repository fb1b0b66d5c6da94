-- What `make` and `bench` write.
use Rattle.std.proofs.Common.{ℕ, List, Result, Ok, Err}
use Rattle.answers.specs.declared.answer.Route.{Route}
use Rattle.gdp_solve.specs.Solved.{IsSolution}
use Rattle.gdp_solve.proofs.Right.{claims_are_right}
use Rattle.hybrid_rewrite.specs.declared.errors.CompileError.{CompileError}
use Rattle.model_maker.specs.Generated.{generated}
use Rattle.rewrite_solving.specs.declared.reached.Reached.{Reached}
use Rattle.rewrite_solving.specs.declared.reached.Reached.TheVariants.{Claimed, GaveUp}
use Rattle.gdp_commands.specs.declared.status.Status.TheVariants as status
use Rattle.gdp_commands.specs.Bench.{BenchedSays}
use Rattle.gdp_commands.specs.MakeLaws.{BenchesTruly, IsBenchedAs, MakesExactly}
use Rattle.gdp_commands.proofs.SolveLaws.{refused_is, done_is_not_refused}

pub makes_exactly : MakesExactly
makes_exactly seed size contents written says = says.1

benched : (route : Route) (steps seed size : ℕ) (r : Result Reached CompileError) (written : List ℕ) → IsSolution (generated seed size) route steps r
    → BenchedSays (generated seed size) route seed size r status.Done written → IsBenchedAs route seed size written
benched route steps seed size (Ok (Claimed claim)) written solved says = record { claim = claim; text = says.1; right = claims_are_right (generated seed size) route steps claim solved }
benched route steps seed size (Ok (GaveUp log stop)) written solved says = absurd (cc says.0)
benched route steps seed size (Err error) written solved says = absurd (done_is_not_refused (refused_is (generated seed size) error status.Done written says))

pub benches_truly : BenchesTruly
benches_truly route steps seed size contents written says = benched route steps seed size says.0 written says.1 says.2
