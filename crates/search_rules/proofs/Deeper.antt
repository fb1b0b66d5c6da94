-- The input alone fixes the log in depth order.
use Rattle.std.proofs.Common.{◌≡◌, ◌<◌, ◌≤◌, ◌⊎◌, List, [], ◌∷◌, length, refl, sym, ap, ◌∙◌, subst, arith, ⊎_elim, inl, inr, Option, Some}
use Rattle.exact_simplex.specs.declared.log.Event.{Event}
use Rattle.search_rules.specs.Machine.{Meaning, Stage, resting, start, site_of, IsStep, IsLegal}
use Rattle.search_rules.specs.Depth.{IsDeep, due_event}
use Rattle.search_rules.proofs.Determined.{AreRead, IsReachedAt, step_same, step_reached}
use Rattle.search_rules.proofs.Readings.{one_reading}

are_read : (m : Meaning) → AreRead m
are_read m = λ w t r. one_reading (site_of m w.half) t r.sound

same_some : {A : Type 0} (x y : A) (o : Option A) → o ≡ Some x → o ≡ Some y → x ≡ y
same_some x y o p q = let e : Some x ≡ Some y = sym p ∙ q in cc

-- a log in depth order is legal
pub deep_legal : (m : Meaning) (s t : Stage) (xs : List Event) → IsDeep m s xs t → IsLegal m s xs t
deep_legal m s t [] d = d
deep_legal m s t (x ∷ xs) d = (d.1.0, (d.1.1.0, deep_legal m d.1.0 t xs d.1.1.1))

-- the tableau that a log in depth order comes to was reached
pub deep_reached : (m : Meaning) (s t : Stage) (xs : List Event) → IsReachedAt m s → IsDeep m s xs t → IsReachedAt m t
deep_reached m s t [] r d = subst (IsReachedAt m) d r
deep_reached m s t (x ∷ xs) r d = deep_reached m d.1.0 t xs (step_reached m s x d.1.0 r d.1.1.0) d.1.1.1

-- an event goes on in depth order
pub record GoesOn (m : Meaning) (t : Stage) : Type 0 where
  pub event : Event
  pub next : Stage
  pub due : due_event t ≡ Some event
  pub step : IsStep m t event next

-- the shorter log's end goes on with the event that is due, unless they are of one length
pub deeper : (m : Meaning) (s t u : Stage) (xs ys : List Event) → IsReachedAt m s → IsDeep m s xs t → IsDeep m s ys u → length xs ≤ length ys
    → ((xs ≡ ys) × (t ≡ u)) ⊎ ((length xs < length ys) × GoesOn m t)
deeper m s t u [] [] r a b l = inl (refl, sym a ∙ b)
deeper m s t u [] (y ∷ ys) r a b l = inr (omega arith, record { event = y; next = b.1.0; due = subst (λ z. due_event z ≡ Some y) a b.0; step = subst (λ z. IsStep m z y b.1.0) a b.1.1.0 })
deeper m s t u (x ∷ xs) [] r a b l = absurd (omega arith)
deeper m s t u (x ∷ xs) (y ∷ ys) r a b l =
    let e : x ≡ y = same_some x y (due_event s) a.0 b.0 in
    let f : IsStep m s x b.1.0 = subst (λ z. IsStep m s z b.1.0) (sym e) b.1.1.0 in
    let v : a.1.0 ≡ b.1.0 = step_same m (are_read m) s x a.1.0 b.1.0 r a.1.1.0 f in
    let d : IsDeep m a.1.0 ys u = subst (λ z. IsDeep m z ys u) (sym v) b.1.1.1 in
    ⊎_elim
    (λ i. inl (ap (λ z. z ∷ xs) e ∙ ap (λ zs. y ∷ zs) i.0, i.1))
    (λ i. inr (omega (arith, i.0), i.1))
    (deeper m a.1.0 t u xs ys (step_reached m s x a.1.0 r a.1.1.0) a.1.1.1 d (omega arith))

-- two logs in depth order of one length are the same, and come to one stage
pub one_log : (m : Meaning) (t u : Stage) (xs ys : List Event) → IsDeep m (resting start) xs t → IsDeep m (resting start) ys u → length xs ≡ length ys → (xs ≡ ys) × (t ≡ u)
one_log m t u xs ys a b l = ⊎_elim (λ i. i) (λ i. absurd (omega (arith, i.0))) (deeper m (resting start) t u xs ys tt a b (omega arith))
