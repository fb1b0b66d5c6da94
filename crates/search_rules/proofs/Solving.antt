-- A search in depth order keeps to the one log.
use Rattle.std.proofs.Common.{◌≡◌, ◌<◌, ◌⊎◌, ℕ, ℤ, ◌+◌, ◌-◌, get_or, Bool, true, false, List, [], ◌∷◌, ◌++◌, suc, zero, refl, sym, ap, ◌∙◌, arith, subst, length, map, cond, inl, inr, Option, Some, None, Result, Ok, Err}
use Rattle.std.specs.Prelude.{slice_get}
use Rattle.lp_rows.specs.Points.{PointValue}
use Rattle.exact_simplex.specs.declared.log.Event.{Event}
use Rattle.exact_simplex.specs.declared.log.Event.TheVariants.{Move}
use Rattle.exact_simplex.specs.Run.{Pair, logged}
use Rattle.answers.specs.declared.stop.Stop.{Stop}
use Rattle.answers.specs.declared.stop.Stop.TheVariants.{Steps, Wide}
use Rattle.search_rules.specs.declared.ending.Turn.{Turn}
use Rattle.search_rules.specs.declared.ending.Turn.TheVariants.{Rested, Endless}
use Rattle.search_rules.specs.declared.ending.TurnError.{TurnError}
use Rattle.search_rules.specs.declared.ending.TurnError.TheVariants.{Stopped, Memory}
use Rattle.search_rules.specs.declared.waiting.Waiting.{Waiting}
use Rattle.search_rules.specs.Machine.{Meaning, Rest, Work, Stage, resting, working, stuck, ended, start, open_at, IsStep, IsLegal, IsLegalLog}
use Rattle.search_rules.specs.Turns.{Turned, HasOpened, IsSpent}
use Rattle.search_rules.specs.Depth.{IsDeep, due_event, due_move, depth_place, are_halves, event_at}
use Rattle.search_rules.specs.Solved.{IsDepthLog, EndsAs, SolvesBy}
use Rattle.search_rules.proofs.Turning.{legal-append}

pub deep_append : (m : Meaning) (s t u : Stage) (xs ys : List Event) → IsDeep m s xs t → IsDeep m t ys u → IsDeep m s (xs ++ ys) u
deep_append m s t u [] ys a b = subst (λ z. IsDeep m z ys u) (sym a) b
deep_append m s t u (x ∷ xs) ys a b = (a.0, (a.1.0, (a.1.1.0, deep_append m a.1.0 t u xs ys a.1.1.1 b)))

move_opens_none : (r : Rest) (enter leave : ℕ) (before hs : List Waiting) → open_at r (Move enter leave) before hs ≡ None
move_opens_none r enter leave before [] = refl
move_opens_none r enter leave before (h ∷ hs) = move_opens_none r enter leave (before ++ h ∷ []) hs

move_due : (m : Meaning) (s : Stage) (enter leave : ℕ) (u : Stage) → IsStep m s (Move enter leave) u → due_event s ≡ Some (Move enter leave)
move_due m (resting r) enter leave u i = absurd (let e : ◌≡◌ {A = Option Work} None (Some i.0) = sym (move_opens_none r enter leave [] r.waiting) ∙ i.1.0 in cc)
move_due m (working w t) enter leave u i = ap due_move i.1.0.named
move_due m (stuck place) enter leave u i = absurd i
move_due m (ended at truths ray) enter leave u i = absurd i

-- the moves of a legal log are those that are due
deep_moves : (m : Meaning) (s u : Stage) (pairs : List Pair) → IsLegal m s (map logged pairs) u → IsDeep m s (map logged pairs) u
deep_moves m s u [] i = i
deep_moves m s u (pair ∷ pairs) i = (move_due m s pair.enter pair.leave i.0 i.1.0, (i.0, (i.1.0, deep_moves m i.0 u pairs i.1.1)))

deep_open : (m : Meaning) (s u : Stage) (e : Event) (pairs : List Pair) → due_event s ≡ Some e → IsLegal m s (e ∷ map logged pairs) u → IsDeep m s (e ∷ map logged pairs) u
deep_open m s u e pairs d i = (d, (i.0, (i.1.0, deep_moves m i.0 u pairs i.1.1)))

-- a log of this kind goes on by a turn that opens the half at this place
abbrev pub Extends : (List Event → Stage → Type 0) → Meaning → Rest → ℕ → List Event → Type 0
Extends leads m r place before = (e : Event) (pairs : List Pair) (u : Stage) → event_at r.waiting place ≡ Some e → IsLegal m (resting r) (e ∷ map logged pairs) u → leads (before ++ e ∷ map logged pairs) u

-- a log in depth order does so at the place in depth order
pub deep_extends : (m : Meaning) (r : Rest) (before : List Event) → IsDepthLog m before (resting r) → Extends (IsDepthLog m) m r (depth_place r.waiting) before
deep_extends m r before d e pairs u named i = deep_append m (resting start) (resting r) u before (e ∷ map logged pairs) d (deep_open m (resting r) u e pairs named i)

-- a legal log does so at any place
pub legal_extends : (m : Meaning) (r : Rest) (place : ℕ) (before : List Event) → IsLegalLog m before (resting r) → Extends (IsLegalLog m) m r place before
legal_extends m r place before d e pairs u named i = legal-append m (resting start) (resting r) u before (e ∷ map logged pairs) d i

length-map_logged : (pairs : List Pair) → length (map logged pairs) ≡ length pairs
length-map_logged [] = refl
length-map_logged (p ∷ pairs) = let e : length (map logged pairs) ≡ length pairs = length-map_logged pairs in omega arith

length-both : (xs ys : List Event) → length (xs ++ ys) ≡ length xs + length ys
length-both [] ys = omega arith
length-both (x ∷ xs) ys = let e : length (xs ++ ys) ≡ length xs + length ys = length-both xs ys in omega arith

-- each event takes a step
pub turn_budget : (m : Meaning) (r now : Rest) (place : ℕ) (before new : List Event) (steps left : ℕ) (result : Result Turn TurnError) → HasOpened m r place before new steps left now result → length new + left ≡ length before + steps
turn_budget m r now place before new steps left result o =
    let a : length new ≡ length before + suc (length (map logged o.pairs)) = ap length o.logs ∙ length-both before (o.event ∷ map logged o.pairs) in
    let b : length (map logged o.pairs) ≡ length o.pairs = length-map_logged o.pairs in
    let c : left + 1 + length o.pairs ≡ steps = o.steps_taken in
    omega arith

-- a turn that rests goes on
pub record Rests (leads : List Event → Stage → Type 0) (budget left : ℕ) (now : Rest) (new : List Event) (steps : ℕ) : Type 0 where
  pub leads_to : leads new (resting now)
  pub budget_kept : length new + left ≡ budget
  pub fewer : left < steps

module _ (leads : List Event → Stage → Type 0) (m : Meaning) (budget left : ℕ) (r now : Rest) (place : ℕ) (before new : List Event) (steps : ℕ)
    (here : leads before (resting r)) (extends : Extends leads m r place before) (kept : length before + steps ≡ budget) where
  turned_to : (result : Result Turn TurnError) (o : HasOpened m r place before new steps left now result) (u : Stage) → IsLegal m (resting r) (o.event ∷ map logged o.pairs) u → leads new u
  turned_to result o u i = subst (λ l. leads l u) (sym o.logs) (extends o.event o.pairs u o.named i)

  budget_of : (result : Result Turn TurnError) → HasOpened m r place before new steps left now result → length new + left ≡ budget
  budget_of result o = turn_budget m r now place before new steps left result o ∙ kept

  stop_ends : (stop : Stop) → HasOpened m r place before new steps left now (Err (Stopped stop)) → EndsAs leads budget new (Err stop)
  stop_ends Steps o =
      let c = o.came in
      let n = budget_of (Err (Stopped Steps)) o in
      record {
        stage = working c.1.0 c.1.1.0;
        leads_to = turned_to (Err (Stopped Steps)) o (working c.1.0 c.1.1.0) c.1.1.1;
        within = omega (arith, n);
        ends = (omega (arith, n, c.0), tt);
      }
  stop_ends (Wide wide) o = go o.came
    where
      go : Turned m r (o.event ∷ map logged o.pairs) left now (Err (Stopped (Wide wide))) → EndsAs leads budget new (Err (Wide wide))
      go (inl c) = let n = budget_of (Err (Stopped (Wide wide))) o in record {
        stage = working c.1 c.2;
        leads_to = turned_to (Err (Stopped (Wide wide))) o (working c.1 c.2) c.3;
        within = omega (arith, n);
        ends = inl (omega (arith, n, c.0), c.1, c.2, refl, c.4);
      }
      go (inr c) = let n = budget_of (Err (Stopped (Wide wide))) o in record {
        stage = stuck wide;
        leads_to = turned_to (Err (Stopped (Wide wide))) o (stuck wide) c;
        within = omega (arith, n);
        ends = inr refl;
      }

  spent_ends : (error : TurnError) → 0 < length r.waiting → IsSpent r before new steps left now (Err error) → SolvesBy leads budget new now (Err error)
  spent_ends (Stopped Steps) due s =
      let q : length before ≡ budget = (let z = s.spent in omega (arith, z, kept)) in
      let e : length new ≡ length before = ap length s.logs in
      record {
        stage = resting r;
        leads_to = subst (λ l. leads l (resting r)) (sym s.logs) here;
        within = omega (arith, e, q);
        ends = (omega (arith, e, q), due);
      }
  spent_ends (Stopped (Wide wide)) due s = absurd (let q = s.stopped in cc)
  spent_ends Memory due s = absurd (let q = s.stopped in cc)

  -- a turn that fails ends the search
  pub fails_solved : (error : TurnError) → 0 < length r.waiting → IsSpent r before new steps left now (Err error) ⊎ HasOpened m r place before new steps left now (Err error) → SolvesBy leads budget new now (Err error)
  fails_solved error due (inl s) = spent_ends error due s
  fails_solved (Stopped stop) due (inr o) = stop_ends stop o
  fails_solved Memory due (inr o) = tt

  -- a turn that ends the search as endless
  pub endless_solved : (at : PointValue) (truths : List Bool) (ray : List ℤ)
      → IsSpent r before new steps left now (Ok (Endless at truths ray)) ⊎ HasOpened m r place before new steps left now (Ok (Endless at truths ray)) → SolvesBy leads budget new now (Ok (Endless at truths ray))
  endless_solved at truths ray (inl s) = absurd (let q = s.stopped in cc)
  endless_solved at truths ray (inr o) =
      let n = budget_of (Ok (Endless at truths ray)) o in
      record { leads_to = turned_to (Ok (Endless at truths ray)) o (ended at truths ray) o.came; within = omega (arith, n); complete = tt }

  pub rests_on : IsSpent r before new steps left now (Ok Rested) ⊎ HasOpened m r place before new steps left now (Ok Rested) → Rests leads budget left now new steps
  rests_on (inl s) = absurd (let q = s.stopped in cc)
  rests_on (inr o) = record {
    leads_to = turned_to (Ok Rested) o (resting now) o.came;
    budget_kept = budget_of (Ok Rested) o;
    fewer = let c = o.steps_taken in omega arith;
  }

empty : (hs : List Waiting) → length hs ≡ 0 → hs ≡ []
empty [] e = refl
empty (h ∷ hs) e = absurd (omega arith)

pub rests_solved : (leads : List Event → Stage → Type 0) (budget left : ℕ) (r : Rest) (log : List Event) → leads log (resting r) → length log + left ≡ budget → length r.waiting ≡ 0 → SolvesBy leads budget log r (Ok Rested)
rests_solved leads budget left r log d n e = record { leads_to = d; within = omega arith; complete = empty r.waiting e }

-- the element at a place, by the read that has a default
pub got_at : (hs : List Waiting) (p : ℕ) (h : Waiting) → p < length hs → h ≡ get_or hs p h → slice_get hs p ≡ Some h
got_at [] p h l e = absurd (omega arith)
got_at (g ∷ hs) zero h l e = ap Some (sym e)
got_at (g ∷ hs) (suc p) h l e = got_at hs p h (omega arith) e

-- where the next opening stands
pub place_one : (hs : List Waiting) → length hs ≡ 1 → depth_place hs ≡ 0
place_one [] e = refl
place_one (a ∷ []) e = refl
place_one (a ∷ b ∷ hs) e = absurd (omega arith)

one_more : (b : Bool) (n : ℕ) → 1 + cond b n (suc n) ≡ cond b (suc n) (suc (suc n))
one_more true n = omega arith
one_more false n = omega arith

pub place_last : (hs : List Waiting) (n : ℕ) (g h : Waiting) → length hs ≡ n + 2 → slice_get hs n ≡ Some g → slice_get hs (suc n) ≡ Some h → depth_place hs ≡ cond (are_halves g.event h.event) n (suc n)
place_last [] n g h e i j = absurd (omega arith)
place_last (a ∷ []) n g h e i j = absurd (omega arith)
place_last (a ∷ b ∷ []) zero g h e i j = let p : a ≡ g = cc in let q : b ≡ h = cc in rw (← p, ← q) refl
place_last (a ∷ b ∷ []) (suc n) g h e i j = absurd (omega arith)
place_last (a ∷ b ∷ c ∷ hs) zero g h e i j = absurd (omega arith)
place_last (a ∷ b ∷ c ∷ hs) (suc n) g h e i j = ap (λ z. 1 + z) (place_last (b ∷ c ∷ hs) n g h (omega arith) i j) ∙ one_more (are_halves g.event h.event) n

-- the same by the list's length
by_last : (hs : List Waiting) (g h : Waiting) → 1 < length hs → g ≡ get_or hs (length hs - 1 - 1) g → h ≡ get_or hs (length hs - 1) h → depth_place hs ≡ cond (are_halves g.event h.event) (length hs - 1 - 1) (length hs - 1)
by_last hs g h l i j =
    let s : length hs - 1 ≡ suc (length hs - 1 - 1) = omega arith in
    let p = got_at hs (length hs - 1 - 1) g (omega arith) i in
    let q = rw s at (got_at hs (length hs - 1) h (omega arith) j) in
    place_last hs (length hs - 1 - 1) g h (omega arith) p q ∙ ap (λ n. cond (are_halves g.event h.event) (length hs - 1 - 1) n) (sym s)

pub place_first : (hs : List Waiting) (g h : Waiting) → 1 < length hs → g ≡ get_or hs (length hs - 1 - 1) g → h ≡ get_or hs (length hs - 1) h → are_halves (get_or hs (length hs - 1 - 1) g).event (get_or hs (length hs - 1) h).event ≡ true → length hs - 1 - 1 ≡ depth_place hs
place_first hs g h l i j b = let c : are_halves g.event h.event ≡ are_halves (get_or hs (length hs - 1 - 1) g).event (get_or hs (length hs - 1) h).event = ap (λ (x : Waiting). are_halves x.event h.event) i ∙ ap (λ (x : Waiting). are_halves (get_or hs (length hs - 1 - 1) g).event x.event) j in sym (by_last hs g h l i j ∙ ap (λ x. cond x (length hs - 1 - 1) (length hs - 1)) (c ∙ b))

pub place_second : (hs : List Waiting) (g h : Waiting) → 1 < length hs → g ≡ get_or hs (length hs - 1 - 1) g → h ≡ get_or hs (length hs - 1) h → are_halves (get_or hs (length hs - 1 - 1) g).event (get_or hs (length hs - 1) h).event ≡ false → length hs - 1 ≡ depth_place hs
place_second hs g h l i j b = let c : are_halves g.event h.event ≡ are_halves (get_or hs (length hs - 1 - 1) g).event (get_or hs (length hs - 1) h).event = ap (λ (x : Waiting). are_halves x.event h.event) i ∙ ap (λ (x : Waiting). are_halves (get_or hs (length hs - 1 - 1) g).event x.event) j in sym (by_last hs g h l i j ∙ ap (λ x. cond x (length hs - 1 - 1) (length hs - 1)) (c ∙ b))
