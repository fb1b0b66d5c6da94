-- A list that a loop writes place by place: what it has written, before the loop and one place further on.
use Rattle.std.proofs.Common.{◌≡◌, ◌≢◌, ◌<◌, ◌≤◌, ◌+◌, ℕ, List, length, get_or, set, arith, refl, sym, ◌∙◌, below_more, get_or-set_other, get_or-set_same, subst}

-- the places below j are as they should be, and the others are as they were
pub record IsWritten {X : Type 0} (past : X) (Should : ℕ → X → Type 0) (before now : List X) (j : ℕ) : Type 0 where
  pub done : (k : ℕ) → k < j → Should k (get_or now k past)
  pub left : (k : ℕ) → j ≤ k → get_or now k past ≡ get_or before k past

-- before the loop
pub written_none : {X : Type 0} (d : X) (E : ℕ → X → Type 0) (before : List X) → IsWritten d E before before 0
written_none d E before = record { done = λ k p. absurd (omega arith); left = λ k p. refl }

-- one place more is written
pub written_more : {X : Type 0} (d : X) (E : ℕ → X → Type 0) (before now : List X) (j : ℕ) (y : X) → j < length now → IsWritten d E before now j → E j y → IsWritten d E before (set now j y) (j + 1)
written_more d E before now j y p w e =
    let here : get_or (set now j y) j d ≡ y = get_or-set_same now j y d p in
    record {
      done = below_more (λ k. E k (get_or (set now j y) k d)) j
          (λ k q. let other : k ≢ j = omega arith in subst (λ z. E k z) (sym (get_or-set_other now j k y d other)) (w.done k q))
          (subst (λ z. E j z) (sym here) e);
      left = λ k q. let other : k ≢ j = omega arith in get_or-set_other now j k y d other ∙ w.left k (omega arith);
    }

-- a place that the loop passes over
pub written_over : {X : Type 0} (d : X) (E : ℕ → X → Type 0) (before now : List X) (j : ℕ) → IsWritten d E before now j → E j (get_or now j d) → IsWritten d E before now (j + 1)
written_over d E before now j w e = record {
  done = below_more (λ k. E k (get_or now k d)) j w.done e;
  left = λ k q. w.left k (omega arith);
}
