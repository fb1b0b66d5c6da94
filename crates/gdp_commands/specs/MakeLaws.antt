-- What `make` and `bench` promise of what they write.
use Rattle.std.specs.Prelude.{◌≡◌, ℕ, List}
use Rattle.answers.specs.declared.answer.Route.{Route}
use Rattle.answers.specs.declared.claim.Claim.{Claim}
use Rattle.gdp_grammar.specs.Canonical.{canonical_text}
use Rattle.gdp_io.specs.Shelf.{Contents}
use Rattle.gdp_solve.specs.Laws.{IsRightClaim}
use Rattle.model_maker.specs.Generated.{generated}
use Rattle.gdp_commands.specs.declared.status.Status.TheVariants.{Done}
use Rattle.gdp_commands.specs.Answers.{Says}
use Rattle.gdp_commands.specs.Bench.{bench_text, claim_line}
use Rattle.gdp_commands.specs.Table.{IsOne}
use Rattle.gdp_commands.specs.Words.Form.{Make, Bench}

-- What `make` answers with status 0 is the canonical text of the model that the seed and the size give.
abbrev pub MakesExactly : Type 0
MakesExactly =
    (seed size : ℕ) (contents : Contents) (written : List ℕ) →
    Says (Make seed size) contents Done written → written ≡ canonical_text (generated seed size)

-- the last of the three lines is that of a claim, which is true of the model and which the checker accepts
pub record IsBenchedAs (route : Route) (seed size : ℕ) (written : List ℕ) : Type 0 where
  pub claim : Claim
  pub text : written ≡ bench_text route seed size (claim_line claim)
  pub right : IsRightClaim (generated seed size) route claim

-- What `bench` answers with status 0 is what is best of that model, that it has no point, or that its goal improves without
-- end.
abbrev pub BenchesTruly : Type 0
BenchesTruly =
    (route : Route) (steps seed size : ℕ) (contents : Contents) (written : List ℕ) →
    Says (Bench route steps seed size) contents Done written → IsBenchedAs route seed size written

-- The words fix what `bench` answers.
abbrev pub BenchesOnce : Type 0
BenchesOnce = (route : Route) (steps seed size : ℕ) (contents : Contents) → IsOne (Says (Bench route steps seed size) contents)
