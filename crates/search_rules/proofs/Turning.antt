-- A turn's log is legal, and comes to what the node comes to.
use Rattle.std.proofs.Common.{◌≡◌, ◌⊎◌, ◌<◌, ℕ, List, [], ◌∷◌, ◌++◌, map, Option, Some, None, Result, Ok, Err, refl, sym, ap, ◌∙◌, subst, append_assoc, ◌+◌, inl, inr, arith}
use Rattle.fractions.specs.Fraction.{Fraction}
use Rattle.lp_rows.specs.declared.columns.WideAt.{WideAt}
use Rattle.exact_simplex.specs.declared.log.Event.{Event}
use Rattle.exact_simplex.specs.declared.moves.Move as moves
use Rattle.exact_simplex.specs.declared.moves.Move.TheVariants as move
use Rattle.exact_simplex.specs.Table.{Table}
use Rattle.exact_simplex.specs.Bland.{bland_move}
use Rattle.exact_simplex.specs.Run.{Pair, IsPath, IsDue, logged}
use Rattle.exact_simplex.specs.Exchange.{IsWideAtEntry}
use Rattle.settling.specs.declared.ending.Ending.{Ending}
use Rattle.settling.specs.declared.ending.Ending.TheVariants as ends
use Rattle.answers.specs.declared.stop.Stop.{Stop}
use Rattle.answers.specs.declared.stop.Stop.TheVariants.{Steps, Wide}
use Rattle.settling.specs.declared.ending.WorkError.{WorkError}
use Rattle.settling.specs.declared.ending.WorkError.TheVariants as failed
use Rattle.settling.specs.Settled.{EndsBy, IsSettled}
use Rattle.settling.specs.Worked.{HasRunFrom, HasWorked, IsUntouched, Works}
use Rattle.search_rules.specs.declared.ending.Turn.{Turn}
use Rattle.search_rules.specs.declared.ending.Turn.TheVariants.{Rested, Endless}
use Rattle.search_rules.specs.declared.ending.TurnError.TheVariants.{Stopped, Memory}
use Rattle.search_rules.specs.declared.ending.TurnError.{TurnError}
use Rattle.search_rules.specs.Depth.{event_at}
use Rattle.search_rules.specs.Machine.{Meaning, Rest, Work, Stage, resting, working, stuck, ended, value_of, settled, site_of, Comes, Arrives, Begins, open_at, IsLegal}
use Rattle.search_rules.specs.Turns.{failure_of, SettlesAs, Turned, HasOpened}

pub legal-append : (m : Meaning) (s t u : Stage) (xs ys : List Event) → IsLegal m s xs t → IsLegal m t ys u → IsLegal m s (xs ++ ys) u
legal-append m s t u [] ys a b = subst (λ v. IsLegal m v ys u) (sym a) b
legal-append m s t u (x ∷ xs) ys a b = (a.0, (a.1.0, legal-append m a.0 t u xs ys a.1.1 b))

-- what comes at the end of a path comes from its beginning by its moves
path_legal : (m : Meaning) (w : Work) (t u : Table) (s : Stage) (pairs : List Pair) → IsPath t pairs u → Arrives m w u s → (v : Stage) × (Arrives m w t v × IsLegal m v (map logged pairs) s)
path_legal m w t u s [] p a = (s, (subst (λ x. Arrives m w x s) (sym p) a, refl))
path_legal m w t u s (pair ∷ pairs) p a =
    let r = path_legal m w p.0 u s pairs p.2 a in
    (working w t, (subst (Comes m w t (working w t)) (sym p.1.named) refl, (r.0, ((p.0, (p.1, r.1.0)), r.1.1))))

-- a half that was opened on a board
pub record Opened (log mid : List Event) (r : Rest) (place : ℕ) (e : Event) (x : Work) : Type 0 where
  pub named : event_at r.waiting place ≡ Some e
  pub opens : open_at r e [] r.waiting ≡ Some x
  pub logs : mid ≡ log ++ e ∷ []

-- the opening and the moves of the run lead to where the node arrives
begun : (m : Meaning) (mid new : List Event) (r : Rest) (e : Event) (x : Work) (t : Table) (steps left : ℕ) (s : Stage) → open_at r e [] r.waiting ≡ Some x → m.dead x.half.path ≡ None
    → (run : HasRunFrom (site_of m x.half).force t steps left mid new) → Arrives m x t s → IsLegal m (resting r) (e ∷ map logged run.run.moves) s
begun m mid new r e x t steps left s o alive run a =
    let p = path_legal m x run.first t s run.run.moves run.run.path a in
    let b : Begins m x p.0 (m.dead x.half.path) = subst (Begins m x p.0) (sym alive) (run.first, (run.is_first, p.1.0)) in
    (p.0, ((x, (o, b)), p.1.1))

settles : (m : Meaning) (x : Work) (t : Table) (result : Result Ending WideAt) (d : moves.Move) → bland_move t ≡ d → EndsBy (site_of m x.half) t x.half.kept (value_of x.rest.best) d result → Comes m x t (settled x.half x.number x.rest result) d
settles m x t result (move.Exchange enter leave) q h = absurd h
settles m x t result move.Optimal q h = (result, (subst (λ y. EndsBy (site_of m x.half) t x.half.kept (value_of x.rest.best) y result) (sym q) h, refl))
settles m x t result move.Infeasible q h = (result, (subst (λ y. EndsBy (site_of m x.half) t x.half.kept (value_of x.rest.best) y result) (sym q) h, refl))
settles m x t result (move.Unbounded enter) q h = (result, (subst (λ y. EndsBy (site_of m x.half) t x.half.kept (value_of x.rest.best) y result) (sym q) h, refl))

due : (m : Meaning) (x : Work) (t : Table) (pair : Pair) → IsDue t pair → Arrives m x t (working x t)
due m x t pair d = subst (Comes m x t (working x t)) (sym d.named) refl

-- a turn that ran
ran : (m : Meaning) (log mid new : List Event) (r now : Rest) (place : ℕ) (e : Event) (x : Work) (t : Table) (steps left : ℕ) (result : Result Turn TurnError) → Opened log mid r place e x
    → (run : HasRunFrom (site_of m x.half).force t steps left mid new) → Turned m r (e ∷ map logged run.run.moves) left now result → HasOpened m r place log new (steps + 1) left now result
ran m log mid new r now place e x t steps left result o run came = record {
  event = e;
  named = o.named;
  pairs = run.run.moves;
  logs = run.run.events ∙ ap (λ l. l ++ map logged run.run.moves) o.logs ∙ append_assoc log (e ∷ []) (map logged run.run.moves);
  steps_taken = let q = run.run.steps_taken in omega arith;
  came = came;
}

-- a turn that opened a half and made no move
only_opened : (m : Meaning) (log mid new : List Event) (r now : Rest) (place : ℕ) (e : Event) (x : Work) (steps left : ℕ) (result : Result Turn TurnError) → Opened log mid r place e x
    → new ≡ mid → left ≡ steps → Turned m r (e ∷ []) left now result → HasOpened m r place log new (steps + 1) left now result
only_opened m log mid new r now place e x steps left result o same all came = record {
  event = e;
  named = o.named;
  pairs = [];
  logs = same ∙ o.logs;
  steps_taken = omega arith;
  came = came;
}

-- the node settled, on the board or where memory ran out
abbrev pub IsAfter : Stage → Rest → Result Turn TurnError → Type 0
IsAfter s now (Ok turn) = SettlesAs s now turn
IsAfter s now (Err error) = error ≡ Memory

at_turn : (m : Meaning) (r : Rest) (log : List Event) (s : Stage) (now : Rest) (left : ℕ) (turn : Turn) → IsLegal m (resting r) log s → SettlesAs s now turn → Turned m r log left now (Ok turn)
at_turn m old log (resting r) now left Rested l h = subst (λ y. IsLegal m (resting old) log (resting y)) (sym h) l
at_turn m old log (resting r) now left (Endless at truths ray) l h = absurd h
at_turn m old log (ended a t r) now left Rested l h = absurd h
at_turn m old log (ended a t r) now left (Endless at truths ray) l h =
    subst (λ y. IsLegal m (resting old) log (ended y truths ray)) (sym h.0) (subst (λ y. IsLegal m (resting old) log (ended a y ray)) (sym h.1) (subst (λ y. IsLegal m (resting old) log (ended a t y)) (sym h.2) l))
at_turn m old log (working w t) now left turn l h = absurd h
at_turn m old log (stuck place) now left turn l h = absurd h

after : (m : Meaning) (r : Rest) (log : List Event) (s : Stage) (now : Rest) (left : ℕ) (result : Result Turn TurnError) → IsLegal m (resting r) log s → IsAfter s now result → Turned m r log left now result
after m r log s now left (Ok turn) l h = at_turn m r log s now left turn l h
after m r log s now left (Err error) l h = subst (λ y. Turned m r log left now (Err y)) (sym h) (inr (s, l))

-- the work ended
ended_turn : (m : Meaning) (log mid new : List Event) (r now : Rest) (place : ℕ) (e : Event) (x : Work) (steps left : ℕ) (ending : Ending) (result : Result Turn TurnError) (d : Option ℕ) → Opened log mid r place e x → m.dead x.half.path ≡ d
    → Works d (site_of m x.half) x.half.kept (value_of x.rest.best) steps left mid new (Ok ending) → IsAfter (settled x.half x.number x.rest (Ok ending)) now result → HasOpened m r place log new (steps + 1) left now result
ended_turn m log mid new r now place e x steps left ending result (Some item) o dead (inl w) h =
    let is : ending ≡ ends.LogicFalse item = (let h = w.ending in cc) in
    let b : Begins m x (settled x.half x.number x.rest (Ok ending)) (m.dead x.half.path) = subst (Begins m x (settled x.half x.number x.rest (Ok ending))) (sym dead) (ap (λ y. settled x.half x.number x.rest (Ok y)) is) in
    let l : IsLegal m (resting r) (e ∷ []) (settled x.half x.number x.rest (Ok ending)) = (settled x.half x.number x.rest (Ok ending), ((x, (o.opens, b)), refl)) in
    only_opened m log mid new r now place e x steps left result o w.events w.steps_left (after m r (e ∷ []) (settled x.half x.number x.rest (Ok ending)) now left result l h)
ended_turn m log mid new r now place e x steps left ending result (Some item) o dead (inr u) h = absurd (let h = u.memory in cc)
ended_turn m log mid new r now place e x steps left ending result None o alive (inl w) h =
    ran m log mid new r now place e x w.t steps left result o w.run
    (after m r (e ∷ map logged w.run.run.moves) (settled x.half x.number x.rest (Ok ending)) now left result
    (begun m mid new r e x w.t steps left (settled x.half x.number x.rest (Ok ending)) o.opens alive w.run (settles m x w.t (Ok ending) (bland_move w.t) refl w.came)) h)
ended_turn m log mid new r now place e x steps left ending result None o alive (inr u) h = absurd (let h = u.memory in cc)

-- the work stopped
stops : (m : Meaning) (log mid new : List Event) (r now : Rest) (place : ℕ) (e : Event) (x : Work) (steps left : ℕ) (stop : Stop) → Opened log mid r place e x → m.dead x.half.path ≡ None
    → HasWorked (site_of m x.half) x.half.kept (value_of x.rest.best) steps left mid new (Err (failed.Stopped stop)) → HasOpened m r place log new (steps + 1) left now (Err (Stopped stop))
stops m log mid new r now place e x steps left Steps o alive w =
    let c = w.came in
    ran m log mid new r now place e x w.t steps left (Err (Stopped Steps)) o w.run
    (c.0, (x, (w.t, begun m mid new r e x w.t steps left (working x w.t) o.opens alive w.run (due m x w.t c.1 c.2))))
stops m log mid new r now place e x steps left (Wide wide) o alive w = ran m log mid new r now place e x w.t steps left (Err (Stopped (Wide wide))) o w.run (go w.came)
  where
    go : ((0 < left) × (pair : Pair) × IsDue w.t pair × IsWideAtEntry w.t pair.enter pair.leave wide) ⊎ IsSettled (site_of m x.half) w.t x.half.kept (value_of x.rest.best) (Err wide) → Turned m r (e ∷ map logged w.run.run.moves) left now (Err (Stopped (Wide wide)))
    go (inl c) = inl (c.0, x, w.t, begun m mid new r e x w.t steps left (working x w.t) o.opens alive w.run (due m x w.t c.1 c.2), record { pair = c.1; due = c.2; wide = c.3 })
    go (inr c) = inr (begun m mid new r e x w.t steps left (stuck wide) o.opens alive w.run (settles m x w.t (Err wide) (bland_move w.t) refl c))

stopped_turn : (m : Meaning) (log mid new : List Event) (r now : Rest) (place : ℕ) (e : Event) (x : Work) (steps left : ℕ) (stop : Stop) (d : Option ℕ) → Opened log mid r place e x → m.dead x.half.path ≡ d
    → Works d (site_of m x.half) x.half.kept (value_of x.rest.best) steps left mid new (Err (failed.Stopped stop)) → HasOpened m r place log new (steps + 1) left now (Err (Stopped stop))
stopped_turn m log mid new r now place e x steps left stop (Some item) o dead (inl w) = absurd (let h = w.ending in cc)
stopped_turn m log mid new r now place e x steps left stop (Some item) o dead (inr u) = absurd (let h = u.memory in cc)
stopped_turn m log mid new r now place e x steps left stop None o alive (inl w) = stops m log mid new r now place e x steps left stop o alive w
stopped_turn m log mid new r now place e x steps left stop None o alive (inr u) = absurd (let h = u.memory in cc)

-- memory ran out
untouched : (m : Meaning) (log mid new : List Event) (r now : Rest) (place : ℕ) (e : Event) (x : Work) (steps left : ℕ) (result : Result Ending WorkError) → Opened log mid r place e x → IsUntouched steps left mid new result
    → HasOpened m r place log new (steps + 1) left now (Err Memory)
untouched m log mid new r now place e x steps left result o u =
    only_opened m log mid new r now place e x steps left (Err Memory) o u.events u.steps_left
    (inl (record { event = e; work = x; taken = o.opens; pairs = []; is = refl; run = inl refl }))

memory_turn : (m : Meaning) (log mid new : List Event) (r now : Rest) (place : ℕ) (e : Event) (x : Work) (steps left : ℕ) (d : Option ℕ) → Opened log mid r place e x
    → Works d (site_of m x.half) x.half.kept (value_of x.rest.best) steps left mid new (Err failed.Memory) → HasOpened m r place log new (steps + 1) left now (Err Memory)
memory_turn m log mid new r now place e x steps left (Some item) o (inl w) = absurd (let h = w.ending in cc)
memory_turn m log mid new r now place e x steps left (Some item) o (inr u) = untouched m log mid new r now place e x steps left (Err failed.Memory) o u
memory_turn m log mid new r now place e x steps left None o (inl w) =
    ran m log mid new r now place e x w.t steps left (Err Memory) o w.run
    (inl (record { event = e; work = x; taken = o.opens; pairs = w.run.run.moves; is = refl; run = inr (w.run.first, (w.t, (w.run.is_first, w.run.run.path))) }))
memory_turn m log mid new r now place e x steps left None o (inr u) = untouched m log mid new r now place e x steps left (Err failed.Memory) o u

failed_turn : (m : Meaning) (log mid new : List Event) (r now : Rest) (place : ℕ) (e : Event) (x : Work) (steps left : ℕ) (error : WorkError) → Opened log mid r place e x
    → Works (m.dead x.half.path) (site_of m x.half) x.half.kept (value_of x.rest.best) steps left mid new (Err error) → HasOpened m r place log new (steps + 1) left now (Err (failure_of error))
failed_turn m log mid new r now place e x steps left (failed.Stopped stop) o w = stopped_turn m log mid new r now place e x steps left stop (m.dead x.half.path) o refl w
failed_turn m log mid new r now place e x steps left failed.Memory o w = memory_turn m log mid new r now place e x steps left (m.dead x.half.path) o w

-- the two, with what the code knows
pub turn_fails : (m : Meaning) (log mid new : List Event) (r now : Rest) (place : ℕ) (e : Event) (x : Work) (best : Option Fraction) (steps left : ℕ) (error : WorkError) → Opened log mid r place e x → best ≡ value_of x.rest.best
    → Works (m.dead x.half.path) (site_of m x.half) x.half.kept best steps left mid new (Err error) → HasOpened m r place log new (steps + 1) left now (Err (failure_of error))
turn_fails m log mid new r now place e x best steps left error o q w =
    failed_turn m log mid new r now place e x steps left error o (subst (λ b. Works (m.dead x.half.path) (site_of m x.half) x.half.kept b steps left mid new (Err error)) q w)

pub turn_ends : (m : Meaning) (log mid new : List Event) (r now : Rest) (place : ℕ) (e : Event) (x : Work) (best : Option Fraction) (steps left : ℕ) (ending : Ending) (result : Result Turn TurnError) → Opened log mid r place e x → best ≡ value_of x.rest.best
    → Works (m.dead x.half.path) (site_of m x.half) x.half.kept best steps left mid new (Ok ending) → IsAfter (settled x.half x.number x.rest (Ok ending)) now result → HasOpened m r place log new (steps + 1) left now result
turn_ends m log mid new r now place e x best steps left ending result o q w h =
    ended_turn m log mid new r now place e x steps left ending result (m.dead x.half.path) o refl (subst (λ b. Works (m.dead x.half.path) (site_of m x.half) x.half.kept b steps left mid new (Ok ending)) q w) h
