-- What `lp` writes.
use Rattle.std.proofs.Common.{◌≡◌, ◌≢◌, ℕ, ℤ, pos, ◌*ℤ◌, ◌<ℤ◌, ◌≤ℤ◌, List, [], Result, Ok, Err, refl, ap, sym, ◌∙◌, inl, inr, arith}
use Rattle.std.proofs.lemmas.Int.{ints}
use Rattle.fractions.specs.Fraction.{Fraction}
use Rattle.int_linear.proofs.Ring.{products, le_mul, le_cancel}
use Rattle.answers.specs.declared.stop.Stop.TheVariants.{Wide}
use Rattle.exact_simplex.specs.declared.log.Event.{Event}
use Rattle.lp_answers.specs.declared.texts.LpTextError.{LpTextError}
use Rattle.lp_answers.specs.declared.texts.LpTextError.TheVariants.{Value, Memory}
use Rattle.lp_answers.specs.Texts.{IsBestText, IsEndlessText}
use Rattle.lp_grammar.specs.Reading.{LpValue}
use Rattle.lp_grammar.specs.Spelling.{LpSpells, IsFirstBadOfLp}
use Rattle.lp_reader.proofs.Ready.{spelled_is_milp}
use Rattle.lp_rows.specs.declared.columns.WideAt.TheVariants as wide
use Rattle.lp_rows.specs.Points.{PointValue}
use Rattle.milp_nodes.specs.Nodes.{problem_of, milp_meaning}
use Rattle.milps.specs.Milps.{MilpValue}
use Rattle.proof_tree.specs.declared.proof.Node.{Node}
use Rattle.search_rules.specs.Claims.{found_at}
use Rattle.search_rules.specs.declared.outcome.Answer as search
use Rattle.search_rules.specs.declared.outcome.Answer.TheVariants.{Done, Endless, Stopped}
use Rattle.search_rules.specs.declared.outcome.Outcome.TheVariants.{Best, Empty}
use Rattle.search_rules.specs.declared.waiting.Best as found
use Rattle.search_rules.specs.Outcomes.{IsRightOutcome}
use Rattle.search_rules.specs.Problem.{words_of}
use Rattle.gdp_commands.specs.declared.status.Status.{Status}
use Rattle.gdp_commands.specs.declared.status.Status.TheVariants as status
use Rattle.gdp_commands.specs.Lp.{BestSays, FoundSays, IsSearched, LpSays, Searched, SearchedSays, lp_refused_at}
use Rattle.gdp_commands.specs.LpLaws.{IsBestPoint, IsPoint, IsRightText, IsStoppedText, LpGivesUpExactly, LpSolvesTruly, goal_at}
use Rattle.gdp_commands.specs.LpLaws.IsRightText.{best, none, endless}
use Rattle.gdp_commands.specs.Table.{Answer, For, Parsed}
use Rattle.gdp_commands.proofs.ReadOnce.{within}

-- a goal that is the value at one point and at least it at another
least_by : (v : Fraction) (g h over other : ℤ) → pos 0 <ℤ v.den → pos 0 <ℤ over → v.den *ℤ g ≡ v.num *ℤ over → (v.num *ℤ other) ≤ℤ (h *ℤ v.den) → (g *ℤ other) ≤ℤ (h *ℤ over)
least_by v g h over other p q e le =
    let a = le_mul over (v.num *ℤ other) (h *ℤ v.den) (omega (arith, ints, q)) le in
    let l : v.den *ℤ (g *ℤ other) ≡ v.den *ℤ g *ℤ other = simp products refl in
    let m : v.num *ℤ over *ℤ other ≡ over *ℤ (v.num *ℤ other) = simp products refl in
    let b : v.den *ℤ (g *ℤ other) ≡ over *ℤ (v.num *ℤ other) = l ∙ ap (λ z. z *ℤ other) e ∙ m in
    let c : v.den *ℤ (h *ℤ over) ≡ over *ℤ (h *ℤ v.den) = simp products refl in
    le_cancel v.den (g *ℤ other) (h *ℤ over) p (omega (arith, ints, a, b, c))

best_point : (m : MilpValue) (b : found.Best) (proof : List Node) → IsRightOutcome (words_of (problem_of m) (milp_meaning m)) (Best b proof) → IsBestPoint m b.at
best_point m b proof right =
    let is = right.0.0 in
    let value = right.0.1 in
    let least = right.0.2 in
    record {
      is = record { over = is.over; point = is.point };
      least = λ y point. least_by b.value (goal_at m b.at) (goal_at m y) b.at.over y.over value.0 is.over value.1
          (least (found_at y []) (record { over = point.over; point = point.point; on_path = tt; truths = refl }));
    }

no_point : (m : MilpValue) (proof : List Node) → IsRightOutcome (words_of (problem_of m) (milp_meaning m)) (Empty proof) → (x : PointValue) → ¬ IsPoint m x
no_point m proof right x point = right.0 (found_at x []) (record { over = point.over; point = point.point; on_path = tt; truths = refl })

done_is_no_give_up : status.Done ≢ status.GaveUp
done_is_no_give_up e = cc e

best_says : (p : LpValue) (x : PointValue) (events : List Event) (r : Result (List ℕ) LpTextError) (written : List ℕ) → IsBestPoint p.milp x → IsBestText p x r → BestSays events r status.Done written → IsRightText p written
best_says p x events (Ok text) written point is says = best x point (rw says.1 is)
best_says p x events (Err Value) written point is says = absurd (done_is_no_give_up says.0)
best_says p x events (Err Memory) written point is says = absurd says

-- what is found by a search is right
right_text : (p : LpValue) (steps : ℕ) (events : List Event) (a : search.Answer) (written : List ℕ) → IsSearched p.milp steps (record { events = events; answer = a }) → FoundSays p events a status.Done written → IsRightText p written
right_text p steps events (Done (Best b proof)) written searched says = best_says p b.at events says.0 written (best_point p.milp b proof searched.0) says.1 says.2
right_text p steps events (Done (Empty proof)) written searched says = none (no_point p.milp proof searched.0) says.1
right_text p steps events (Endless at truths ray) written searched says =
    endless at ray (record { over = says.0; lower = searched.0 }) (rw says.1.2.1 says.1.1)
right_text p steps events (Stopped stop) written searched says = absurd (done_is_no_give_up says.0)

-- the search over the program that a text spells
searched_of : (steps : ℕ) (file text : List ℕ) (s : Status) (written : List ℕ) → s ≢ status.Text → LpSays steps file text s written
    → (p : LpValue) × LpSpells text p × For (IsSearched p.milp steps) (SearchedSays p) s written
searched_of steps file text s written other says =
    let below : Answer = Parsed (IsFirstBadOfLp text) status.Text (lp_refused_at file) (LpSpells text) (λ p. For (IsSearched p.milp steps) (SearchedSays p)) in
    let read = (within 8388608 file text below s written other says).1 in
    elim read [
      | inl bad ↦ absurd (other bad.3.0)
      | inr found ↦ found
    ]

pub lp_solves_truly : LpSolvesTruly
lp_solves_truly steps file contents written says =
    let found = searched_of steps file says.0 status.Done written (λ e. cc e) says.2 in
    record {
      text = says.0;
      behind = says.1;
      program = found.0;
      spelled = found.1;
      named = (spelled_is_milp says.0 found.0 found.1).1;
      right = right_text found.0 steps found.2.0.events found.2.0.answer written found.2.1 found.2.2;
    }

-- ---- where it gives up
gave_up_is_not_done : status.GaveUp ≢ status.Done
gave_up_is_not_done e = cc e

best_stops : (p : LpValue) (b : found.Best) (proof : List Node) (steps : ℕ) (events : List Event) (r : Result (List ℕ) LpTextError) (written : List ℕ) → IsSearched p.milp steps (record { events = events; answer = Done (Best b proof) })
    → IsBestText p b.at r → BestSays events r status.GaveUp written → IsStoppedText steps p written
best_stops p b proof steps events (Ok text) written searched is says = absurd (gave_up_is_not_done says.0)
best_stops p b proof steps events (Err Value) written searched is says =
    record { searched = record { events = events; answer = Done (Best b proof) }; is = searched; stop = Wide wide.Value; why = (is, refl); text = says.1 }
best_stops p b proof steps events (Err Memory) written searched is says = absurd says

stopped_text : (p : LpValue) (steps : ℕ) (events : List Event) (a : search.Answer) (written : List ℕ) → IsSearched p.milp steps (record { events = events; answer = a }) → FoundSays p events a status.GaveUp written → IsStoppedText steps p written
stopped_text p steps events (Done (Best b proof)) written searched says = best_stops p b proof steps events says.0 written searched says.1 says.2
stopped_text p steps events (Done (Empty proof)) written searched says = absurd (gave_up_is_not_done says.0)
stopped_text p steps events (Endless at truths ray) written searched says = absurd (gave_up_is_not_done says.1.2.0)
stopped_text p steps events (Stopped stop) written searched says = record { searched = record { events = events; answer = Stopped stop }; is = searched; stop = stop; why = refl; text = says.1 }

pub lp_gives_up_exactly : LpGivesUpExactly
lp_gives_up_exactly steps file contents written says =
    let found = searched_of steps file says.0 status.GaveUp written (λ e. cc e) says.2 in
    record {
      text = says.0;
      behind = says.1;
      program = found.0;
      spelled = found.1;
      stopped = stopped_text found.0 steps found.2.0.events found.2.0.answer written found.2.1 found.2.2;
    }
