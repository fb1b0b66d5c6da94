-- What `bench ROUTE STEPS SEED SIZE` answers.
use Rattle.std.specs.Prelude.{ℕ, List, [], ◌∷◌, Result, Ok, Err, codes}
use Rattle.std.specs.Fmt.{decimal}
use Rattle.answers.specs.declared.answer.Route.{Route}
use Rattle.answers.specs.declared.claim.Claim.{Claim}
use Rattle.answers.specs.declared.claim.Claim.TheVariants.{Best, Empty, Endless}
use Rattle.cert_grammar.specs.Claims.{route_word, value_word}
use Rattle.gdp_solve.specs.Solved.{IsSolution}
use Rattle.hybrid_rewrite.specs.declared.errors.CompileError.{CompileError}
use Rattle.model_maker.specs.Generated.{generated}
use Rattle.model_tree.specs.Values.{ModelTree}
use Rattle.rewrite_solving.specs.declared.reached.Reached.{Reached}
use Rattle.rewrite_solving.specs.declared.reached.Reached.TheVariants.{Claimed, GaveUp}
use Rattle.text_grammar.specs.Printing.{line_of, text_of}
use Rattle.gdp_commands.specs.declared.status.Status.TheVariants as status
use Rattle.gdp_commands.specs.Compile.{RefusedSays}
use Rattle.gdp_commands.specs.Table.{Answer, For, Is}

-- the line of a claim: its value, or that there is none
abbrev pub claim_line : Claim → List ℕ
claim_line (Best at truths value proof) = line_of (codes "best") (value_word value ∷ [])
claim_line (Empty proof) = codes "empty"
claim_line (Endless at truths ray) = codes "endless"

-- three lines: which model, which route, and what came of it
abbrev pub bench_text : Route → (seed size : ℕ) → List ℕ → List ℕ
bench_text route seed size last = text_of
    (line_of (codes "seed") (decimal seed ∷ codes "size" ∷ decimal size ∷ []) ∷ line_of (codes "route") (route_word route ∷ []) ∷ last ∷ [])

-- what solving the model answers
abbrev pub BenchedSays : ModelTree → Route → (seed size : ℕ) → Result Reached CompileError → Answer
BenchedSays m route seed size (Ok (Claimed claim)) = Is status.Done (bench_text route seed size (claim_line claim))
BenchedSays m route seed size (Ok (GaveUp log stop)) = Is status.GaveUp (bench_text route seed size (codes "gave up"))
BenchedSays m route seed size (Err error) = RefusedSays m error

-- what comes of a solution of the model that the seed and the size give
abbrev pub BenchSays : Route → (steps seed size : ℕ) → Answer
BenchSays route steps seed size = For (IsSolution (generated seed size) route steps) (BenchedSays (generated seed size) route seed size)
