-- What a whole search answers beside its log.
use Rattle.std.specs.Prelude.{◌≡◌, ℕ, List, Err}
use Rattle.exact_simplex.specs.declared.log.Event.{Event}
use Rattle.search_rules.specs.declared.outcome.Answer.{Answer}
use Rattle.search_rules.specs.declared.outcome.Answer.TheVariants.{Done, Endless, Stopped}
use Rattle.search_rules.specs.Claims.{Words, found_at}
use Rattle.search_rules.specs.Machine.{Meaning, Rest, Stage, resting, ended, IsLegalLog}
use Rattle.search_rules.specs.Outcomes.{IsRightOutcome, outcome_at}
use Rattle.search_rules.specs.Problem.{Problem, words_of}
use Rattle.search_rules.specs.Solved.{IsDepthLog, EndsAs, Completes}

-- A true claim with its proof, or a true ray.
abbrev pub AnswersTruly : Words → Answer → Type 0
AnswersTruly w (Done outcome) = IsRightOutcome w outcome
AnswersTruly w (Endless at truths ray) = w.endless (found_at at truths) ray
AnswersTruly w (Stopped stop) = Unit {0}

-- A log of this kind is complete, with the outcome of the rest that it comes to, or with the ray; or it stops.
abbrev pub AnswersBy : (List Event → Stage → Type 0) → ℕ → List Event → Answer → Type 0
AnswersBy leads steps log (Done outcome) = (rest : Rest) × (outcome ≡ outcome_at rest) × Completes leads steps log (resting rest)
AnswersBy leads steps log (Endless at truths ray) = Completes leads steps log (ended at truths ray)
AnswersBy leads steps log (Stopped stop) = EndsAs leads steps log (Err stop)

-- what a search whose logs are of this kind answers
abbrev pub IsAnswerBy : (List Event → Stage → Type 0) → Problem → Meaning → ℕ → List Event → Answer → Type 0
IsAnswerBy leads w m steps log answer = AnswersTruly (words_of w m) answer × AnswersBy leads steps log answer

-- what a search in depth order answers
abbrev pub IsAnswer : Problem → Meaning → ℕ → List Event → Answer → Type 0
IsAnswer w m steps log answer = IsAnswerBy (IsDepthLog m) w m steps log answer

-- what a search in any order answers
abbrev pub IsAnswerInAnyOrder : Problem → Meaning → ℕ → List Event → Answer → Type 0
IsAnswerInAnyOrder w m steps log answer = IsAnswerBy (IsLegalLog m) w m steps log answer

-- whatever its order, one log has one answer
abbrev pub OneAnswerOfLog : Type 0
OneAnswerOfLog = (m : Meaning) (steps : ℕ) (log : List Event) (a b : Answer) → AnswersBy (IsLegalLog m) steps log a → AnswersBy (IsLegalLog m) steps log b → a ≡ b

-- the budget and the meaning of the nodes fix the log in depth order and its answer
abbrev pub AnswersOnce : Type 0
AnswersOnce = (m : Meaning) (steps : ℕ) (xs ys : List Event) (a b : Answer) → AnswersBy (IsDepthLog m) steps xs a → AnswersBy (IsDepthLog m) steps ys b → (xs ≡ ys) × (a ≡ b)
