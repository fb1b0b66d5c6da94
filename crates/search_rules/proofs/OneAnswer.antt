-- The budget and the meaning of the nodes fix the log and whether it stops.
use Rattle.std.proofs.Common.{◌≡◌, ◌<◌, ◌≤◌, ◌⊎◌, ℕ, List, [], ◌∷◌, length, refl, sym, ap, ◌∙◌, subst, arith, inl, inr, Option, Some, None, Result, Ok, Err}
use Rattle.std.proofs.lemmas.Bool.{cases_lt}
use Rattle.lp_rows.specs.declared.columns.WideAt.{WideAt}
use Rattle.lp_rows.specs.declared.columns.WideAt.TheVariants as wide
use Rattle.exact_simplex.specs.declared.log.Event.{Event}
use Rattle.exact_simplex.specs.declared.log.Event.TheVariants.{OpenRoot, Open, Move}
use Rattle.exact_simplex.specs.declared.moves.Move.TheVariants.{Exchange}
use Rattle.exact_simplex.specs.Table.{Table}
use Rattle.exact_simplex.specs.Bland.{bland_move}
use Rattle.exact_simplex.specs.Run.{Pair, IsMoved}
use Rattle.exact_simplex.specs.Exchange.{IsWideAtEntry}
use Rattle.answers.specs.declared.stop.Stop.{Stop}
use Rattle.answers.specs.declared.stop.Stop.TheVariants.{Steps, Wide}
use Rattle.search_rules.specs.declared.waiting.Waiting.{Waiting}
use Rattle.search_rules.specs.Machine.{Meaning, Work, Stage, resting, working, stuck, ended, start, IsStep, IsComplete, IsDueAt}
use Rattle.search_rules.specs.Turns.{IsWideDue}
use Rattle.search_rules.specs.Depth.{due_event, event_at, depth_place}
use Rattle.search_rules.specs.Solved.{Ends, IsSolved}
use Rattle.exact_simplex.specs.Exchange.{IsWideMove}
use Rattle.exact_simplex.specs.Table.{IsSound}
use Rattle.exact_simplex.proofs.PivotRows.{narrow_not_wide, one_wide_place}
use Rattle.search_rules.proofs.Determined.{IsReachedAt}
use Rattle.search_rules.proofs.Deeper.{GoesOn, deeper, deep_reached}

no_opening : (hs : List Waiting) (e : Event) → hs ≡ [] → event_at hs (depth_place hs) ≡ Some e → ⊥
no_opening [] e p q = cc
no_opening (h ∷ hs) e p q = cc

same_pair : (t : Table) (p q : Pair) → bland_move t ≡ Exchange p.enter p.leave → bland_move t ≡ Exchange q.enter q.leave → (p.enter ≡ q.enter) × (p.leave ≡ q.leave)
same_pair t p q a b = let e : Exchange p.enter p.leave ≡ Exchange q.enter q.leave = sym a ∙ b in (enters p.enter q.enter p.leave q.leave e, leaves p.enter q.enter p.leave q.leave e)
  where
    enters : (a b c d : ℕ) → Exchange a c ≡ Exchange b d → a ≡ b
    enters a b c d e = cc

    leaves : (a b c d : ℕ) → Exchange a c ≡ Exchange b d → c ≡ d
    leaves a b c d e = cc

-- a wide exchange is wide at an entry
at_entry : (t : Table) (enter leave : ℕ) (place : WideAt) → IsWideAtEntry t enter leave place → (row : ℕ) × ((column : ℕ) × ((place ≡ wide.Entry row column) × IsWideMove t enter leave row column))
at_entry t enter leave (wide.Entry row column) w = (row, (column, (refl, w)))
at_entry t enter leave (wide.Over row) w = absurd w
at_entry t enter leave (wide.Ray row) w = absurd w
at_entry t enter leave (wide.Leaf row column) w = absurd w
at_entry t enter leave (wide.Sum mark) w = absurd w
at_entry t enter leave (wide.RaySum mark) w = absurd w
at_entry t enter leave wide.Value w = absurd w

-- the exchange that is due, at a pair that names it
wide_at : (t : Table) (pair : Pair) (place : WideAt) (d : IsWideDue t place) → bland_move t ≡ Exchange pair.enter pair.leave → IsWideAtEntry t pair.enter pair.leave place
wide_at t pair place d e =
    let k = same_pair t d.pair pair d.due.named e in
    subst (λ l. IsWideAtEntry t pair.enter l place) k.1 (subst (λ z. IsWideAtEntry t z d.pair.leave place) k.0 d.wide)

-- an exchange that was made is not wide
not_at : (t u : Table) (pair : Pair) (place : WideAt) → IsSound t → IsMoved t pair u → IsWideAtEntry t pair.enter pair.leave place → ⊥
not_at t u pair place s m w =
    let a = at_entry t pair.enter pair.leave place w in
    narrow_not_wide t s pair.enter pair.leave m.named a.0 a.1.0 m.narrow a.1.1.1

-- the exchange that is due is wide at one place
one_place : (t : Table) (place other : WideAt) → IsSound t → IsWideDue t place → IsWideDue t other → place ≡ other
one_place t place other s d f =
    let pair = d.pair in
    let a = at_entry t pair.enter pair.leave place d.wide in
    let b = at_entry t pair.enter pair.leave other (wide_at t pair other f d.due.named) in
    let same = one_wide_place t s pair.enter pair.leave a.0 a.1.0 b.0 b.1.0 d.due.named a.1.1.1 b.1.1.1 in
    a.1.1.0 ∙ ap (λ row. wide.Entry row a.1.0) same.0 ∙ ap (λ column. wide.Entry b.0 column) same.1 ∙ sym b.1.1.0

wide_stays : (m : Meaning) (w : Work) (t : Table) (place : WideAt) (e : Event) (v : Stage) → IsSound t → IsWideDue t place → IsStep m (working w t) e v → ⊥
wide_stays m w t place OpenRoot v sound d s = s
wide_stays m w t place (Open parent second) v sound d s = s
wide_stays m w t place (Move enter leave) v sound d s =
    let p : Pair = record { enter = enter; leave = leave } in
    not_at t s.0 p place sound s.1.0 (wide_at t p place d s.1.0.named)

none_due : (e : Event) → ◌≡◌ {A = Option Event} None (Some e) → ⊥
none_due e q = cc

complete_stays : (m : Meaning) (t : Stage) → IsComplete t → GoesOn m t → ⊥
complete_stays m (resting r) n g = no_opening r.waiting g.event n g.due
complete_stays m (working w t) n g = n
complete_stays m (stuck place) n g = n
complete_stays m (ended at truths ray) n g = none_due g.event g.due

-- a log that has ended does not go on within the budget
stays : (m : Meaning) (t : Stage) (used budget : ℕ) (r : Result (Unit {0}) Stop) → IsReachedAt m t → Ends t used budget r → used < budget → GoesOn m t → ⊥
stays m t used budget (Ok done) reached n l g = complete_stays m t n g
stays m t used budget (Err Steps) reached n l g = omega (arith, n.0)
stays m t used budget (Err (Wide place)) reached (inl n) l g = wide_stays m n.1 n.2 place g.event g.next (subst (IsReachedAt m) n.3 reached).sound n.4 (subst (λ z. IsStep m z g.event g.next) n.3 g.step)
stays m t used budget (Err (Wide place)) reached (inr n) l g = none_due g.event (subst (λ z. due_event z ≡ Some g.event) n g.due)

complete_due : (t : Stage) → IsComplete t → IsDueAt t → ⊥
complete_due (resting r) a b = let e : length r.waiting ≡ 0 = ap length a in omega (arith, e, b)
complete_due (working w u) a b = a
complete_due (stuck place) a b = a
complete_due (ended at truths ray) a b = b

complete_wide : (t : Stage) (used budget : ℕ) (place : WideAt) → IsComplete t → Ends t used budget (Err (Wide place)) → ⊥
complete_wide t used budget place a (inl i) = subst IsComplete i.3 a
complete_wide t used budget place a (inr i) = subst IsComplete i a

steps_wide : (t : Stage) (used budget : ℕ) (place : WideAt) → Ends t used budget (Err Steps) → Ends t used budget (Err (Wide place)) → ⊥
steps_wide t used budget place a (inl i) = omega (arith, i.0, a.0)
steps_wide t used budget place a (inr i) = subst IsDueAt i a.1

same_table : (w v : Work) (t u : Table) → working w t ≡ working v u → t ≡ u
same_table w v t u e = cc

not_both : (w : Work) (t : Table) (place : WideAt) → working w t ≡ stuck place → ⊥
not_both w t place e = cc

one_stuck : (place other : WideAt) → stuck place ≡ stuck other → place ≡ other
one_stuck place other e = cc

-- one stage is wide at one place
one_wide : (m : Meaning) (t : Stage) (used budget : ℕ) (place other : WideAt) → IsReachedAt m t → Ends t used budget (Err (Wide place)) → Ends t used budget (Err (Wide other)) → place ≡ other
one_wide m t used budget place other reached (inl a) (inl b) =
    one_place a.2 place other (subst (IsReachedAt m) a.3 reached).sound a.4 (subst (λ u. IsWideDue u other) (same_table b.1 a.1 b.2 a.2 (sym b.3 ∙ a.3)) b.4)
one_wide m t used budget place other reached (inl a) (inr b) = absurd (not_both a.1 a.2 other (sym a.3 ∙ b))
one_wide m t used budget place other reached (inr a) (inl b) = absurd (not_both b.1 b.2 place (sym b.3 ∙ a))
one_wide m t used budget place other reached (inr a) (inr b) = one_stuck place other (sym a ∙ b)

-- one stage ends in one way
pub one_end : (m : Meaning) (t : Stage) (used budget : ℕ) (r q : Result (Unit {0}) Stop) → IsReachedAt m t → Ends t used budget r → Ends t used budget q → r ≡ q
one_end m t used budget (Ok u) (Ok v) reached a b = refl
one_end m t used budget (Ok u) (Err Steps) reached a b = absurd (complete_due t a b.1)
one_end m t used budget (Ok u) (Err (Wide place)) reached a b = absurd (complete_wide t used budget place a b)
one_end m t used budget (Err Steps) (Ok u) reached a b = absurd (complete_due t b a.1)
one_end m t used budget (Err Steps) (Err Steps) reached a b = refl
one_end m t used budget (Err Steps) (Err (Wide place)) reached a b = absurd (steps_wide t used budget place a b)
one_end m t used budget (Err (Wide place)) (Ok u) reached a b = absurd (complete_wide t used budget place b a)
one_end m t used budget (Err (Wide place)) (Err Steps) reached a b = absurd (steps_wide t used budget place b a)
one_end m t used budget (Err (Wide place)) (Err (Wide other)) reached a b = ap (λ z. Err (Wide z)) (one_wide m t used budget place other reached a b)

-- for two solved logs, the first not the longer
ordered : (m : Meaning) (budget : ℕ) (xs ys : List Event) (r q : Result (Unit {0}) Stop) → IsSolved m budget xs r → IsSolved m budget ys q → length xs ≤ length ys → (xs ≡ ys) × (r ≡ q)
ordered m budget xs ys r q a b l = go (deeper m (resting start) a.stage b.stage xs ys tt a.leads_to b.leads_to l)
  where
    go : ((xs ≡ ys) × (a.stage ≡ b.stage)) ⊎ ((length xs < length ys) × GoesOn m a.stage) → (xs ≡ ys) × (r ≡ q)
    go (inl i) = (i.0, one_end m b.stage (length ys) budget r q (deep_reached m (resting start) b.stage ys tt b.leads_to) (subst (λ t. Ends t (length ys) budget r) i.1 (subst (λ zs. Ends a.stage (length zs) budget r) i.0 a.ends)) b.ends)
    go (inr i) = absurd (stays m a.stage (length xs) budget r (deep_reached m (resting start) a.stage xs tt a.leads_to) a.ends (let w = b.within in omega (arith, i.0)) i.1)

-- the budget and the meaning of the nodes fix the log, and whether it is complete, out of steps, or at which place wide
pub one_answer : (m : Meaning) (budget : ℕ) (xs ys : List Event) (r q : Result (Unit {0}) Stop) → IsSolved m budget xs r → IsSolved m budget ys q → (xs ≡ ys) × (r ≡ q)
one_answer m budget xs ys r q a b = go (cases_lt (length ys) (length xs))
  where
    go : (length ys < length xs) ⊎ (length xs ≤ length ys) → (xs ≡ ys) × (r ≡ q)
    go (inl l) = let o = ordered m budget ys xs q r b a (omega arith) in (sym o.0, sym o.1)
    go (inr l) = ordered m budget xs ys r q a b l
