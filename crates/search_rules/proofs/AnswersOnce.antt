-- One log has one answer, and the budget and the nodes fix what a search in depth order answers.
use Rattle.std.proofs.Common.{◌≡◌, ℕ, ℤ, Bool, List, [], ◌∷◌, length, refl, sym, ap, ◌∙◌, subst, Result, Ok, Err}
use Rattle.lp_rows.specs.Points.{PointValue}
use Rattle.exact_simplex.specs.declared.log.Event.{Event}
use Rattle.answers.specs.declared.stop.Stop.{Stop}
use Rattle.search_rules.specs.declared.outcome.Answer.{Answer}
use Rattle.search_rules.specs.declared.outcome.Answer.TheVariants.{Done, Endless, Stopped}
use Rattle.search_rules.specs.Machine.{Meaning, Rest, Stage, resting, ended, start, IsLegal, IsLegalLog}
use Rattle.search_rules.specs.Outcomes.{outcome_at}
use Rattle.search_rules.specs.Solved.{IsDepthLog, Ends, EndsAs}
use Rattle.search_rules.specs.Answered.{AnswersBy, OneAnswerOfLog, AnswersOnce}
use Rattle.search_rules.proofs.Determined.{IsReachedAt, step_reached}
use Rattle.search_rules.proofs.Deeper.{deep_legal}
use Rattle.search_rules.proofs.Readings.{one_log_one_stage}
use Rattle.search_rules.proofs.OneAnswer.{one_answer, one_end}

-- how the log of an answer ends
abbrev end_of : Answer → Result (Unit {0}) Stop
end_of (Done outcome) = Ok tt
end_of (Endless at truths ray) = Ok tt
end_of (Stopped stop) = Err stop

ends_so : (leads : List Event → Stage → Type 0) (steps : ℕ) (log : List Event) (a : Answer) → AnswersBy leads steps log a → EndsAs leads steps log (end_of a)
ends_so leads steps log (Done outcome) i = record { stage = resting i.0; leads_to = i.2.leads_to; within = i.2.within; ends = i.2.complete }
ends_so leads steps log (Endless at truths ray) i = record { stage = ended at truths ray; leads_to = i.leads_to; within = i.within; ends = i.complete }
ends_so leads steps log (Stopped stop) i = i

-- the tableau that a legal log comes to was reached
legal_reached : (m : Meaning) (s t : Stage) (xs : List Event) → IsReachedAt m s → IsLegal m s xs t → IsReachedAt m t
legal_reached m s t [] r d = subst (IsReachedAt m) d r
legal_reached m s t (x ∷ xs) r d = legal_reached m d.0 t xs (step_reached m s x d.0 r d.1.0) d.1.1

-- one log ends in one way
end_same : (m : Meaning) (steps : ℕ) (log : List Event) (r q : Result (Unit {0}) Stop) → EndsAs (IsLegalLog m) steps log r → EndsAs (IsLegalLog m) steps log q → r ≡ q
end_same m steps log r q a b =
    let e : b.stage ≡ a.stage = one_log_one_stage m log b.stage a.stage b.leads_to a.leads_to in
    one_end m a.stage (length log) steps r q (legal_reached m (resting start) a.stage log tt a.leads_to) a.ends (subst (λ t. Ends t (length log) steps q) e b.ends)

-- the parts of a stage
one_rest : (r q : Rest) → resting r ≡ resting q → r ≡ q
one_rest r q e = cc

no_ray : (r : Rest) (at : PointValue) (truths : List Bool) (ray : List ℤ) → resting r ≡ ended at truths ray → ⊥
no_ray r at truths ray e = cc

one_ray : (at x : PointValue) (truths bs : List Bool) (ray ns : List ℤ) → ended at truths ray ≡ ended x bs ns → Endless at truths ray ≡ Endless x bs ns
one_ray at x truths bs ray ns e = cc

no_stop : (stop : Stop) → ◌≡◌ {A = Result (Unit {0}) Stop} (Ok tt) (Err stop) → ⊥
no_stop stop e = cc

one_stop : (stop other : Stop) → ◌≡◌ {A = Result (Unit {0}) Stop} (Err stop) (Err other) → stop ≡ other
one_stop stop other e = cc

-- a log that stops is not complete
never_both : (m : Meaning) (steps : ℕ) (log : List Event) (a : Answer) (stop : Stop) → AnswersBy (IsLegalLog m) steps log a → end_of a ≡ Ok tt → EndsAs (IsLegalLog m) steps log (Err stop) → ⊥
never_both m steps log a stop i e s = no_stop stop (sym e ∙ end_same m steps log (end_of a) (Err stop) (ends_so (IsLegalLog m) steps log a i) s)

-- whatever its order, one log has one answer
pub one_answer_of_log : OneAnswerOfLog
one_answer_of_log m steps log (Done o) (Done p) a b =
    let e : a.0 ≡ b.0 = one_rest a.0 b.0 (one_log_one_stage m log (resting a.0) (resting b.0) a.2.leads_to b.2.leads_to) in
    ap Done (a.1 ∙ ap outcome_at e ∙ sym b.1)
one_answer_of_log m steps log (Done o) (Endless at truths ray) a b = absurd (no_ray a.0 at truths ray (one_log_one_stage m log (resting a.0) (ended at truths ray) a.2.leads_to b.leads_to))
one_answer_of_log m steps log (Endless at truths ray) (Done p) a b = absurd (no_ray b.0 at truths ray (one_log_one_stage m log (resting b.0) (ended at truths ray) b.2.leads_to a.leads_to))
one_answer_of_log m steps log (Endless at truths ray) (Endless x bs ns) a b = one_ray at x truths bs ray ns (one_log_one_stage m log (ended at truths ray) (ended x bs ns) a.leads_to b.leads_to)
one_answer_of_log m steps log (Done o) (Stopped stop) a b = absurd (never_both m steps log (Done o) stop a refl b)
one_answer_of_log m steps log (Stopped stop) (Done o) a b = absurd (never_both m steps log (Done o) stop b refl a)
one_answer_of_log m steps log (Endless at truths ray) (Stopped stop) a b = absurd (never_both m steps log (Endless at truths ray) stop a refl b)
one_answer_of_log m steps log (Stopped stop) (Endless at truths ray) a b = absurd (never_both m steps log (Endless at truths ray) stop b refl a)
one_answer_of_log m steps log (Stopped stop) (Stopped other) a b = ap Stopped (one_stop stop other (end_same m steps log (Err stop) (Err other) a b))

-- what a log in depth order answers a legal log answers
by_legal : (m : Meaning) (steps : ℕ) (log : List Event) (a : Answer) → AnswersBy (IsDepthLog m) steps log a → AnswersBy (IsLegalLog m) steps log a
by_legal m steps log (Done o) i = (i.0, i.1, record { leads_to = deep_legal m (resting start) (resting i.0) log i.2.leads_to; within = i.2.within; complete = i.2.complete })
by_legal m steps log (Endless at truths ray) i = record { leads_to = deep_legal m (resting start) (ended at truths ray) log i.leads_to; within = i.within; complete = i.complete }
by_legal m steps log (Stopped stop) i = record { stage = i.stage; leads_to = deep_legal m (resting start) i.stage log i.leads_to; within = i.within; ends = i.ends }

-- the budget and the meaning of the nodes fix the log in depth order and its answer
pub answers_once : AnswersOnce
answers_once m steps xs ys a b i j =
    let same = one_answer m steps xs ys (end_of a) (end_of b) (ends_so (IsDepthLog m) steps xs a i) (ends_so (IsDepthLog m) steps ys b j) in
    (same.0, one_answer_of_log m steps ys a b (subst (λ log. AnswersBy (IsLegalLog m) steps log a) same.0 (by_legal m steps xs a i)) (by_legal m steps ys b j))
