-- The sum of an at-most row under a switch, from its parts.
use Rattle.std.proofs.Common.{◌≡◌, ℕ, ℤ, pos, neg_ℤ, ◌+ℤ◌, ◌-ℤ◌, List, [], ◌++◌, refl, ap, ◌∙◌, arith, append_assoc, ⊎_elim, inl, inr, Result, Ok, Err}
use Rattle.outcomes.specs.Calls.{OrMemory}
use Rattle.bigm_rewrite.specs.declared.relaxing.Unfit.{Unfit}
use Rattle.bigm_rewrite.specs.declared.relaxing.Unfit.TheVariants.{Memory}
use Rattle.std.proofs.lemmas.Int.{ints}
use Rattle.bound_propagation.specs.Boxes.{Half}
use Rattle.emission.specs.Sums.{Sum, plus}
use Rattle.bigm_rewrite.specs.declared.switches.Switch.{Switch}
use Rattle.bigm_rewrite.specs.Relaxed.{moved, moved_terms}
use Rattle.bigm_rewrite.specs.Answers.{joined, switched, switched_sum}

pub row_is : (f : ℕ → ℕ) (scale on : Switch) (h : Half) (u a b n : ℤ) (xs ys zs : List (ℕ × ℤ)) → a ≡ u -ℤ h.1 → b ≡ neg_ℤ u → xs ≡ moved_terms f h.0 →
    ys ≡ xs ++ (switched a on).terms → zs ≡ ys ++ (switched b scale).terms → n ≡ (switched a on).number +ℤ (switched b scale).number →
    ◌≡◌ {A = Sum} (record { terms = zs; number = n }) (switched_sum f scale on h u)
unfolding plus moved
row_is f scale on h u a b n xs ys zs ea eb ex ey ez en =
    let p : zs ≡ moved_terms f h.0 ++ ((switched (u -ℤ h.1) on).terms ++ (switched (neg_ℤ u) scale).terms) =
    rw (ez, ey, ex, ea, eb) (append_assoc (moved_terms f h.0) (switched (u -ℤ h.1) on).terms (switched (neg_ℤ u) scale).terms) in
    let q : n ≡ pos 0 +ℤ ((switched (u -ℤ h.1) on).number +ℤ (switched (neg_ℤ u) scale).number) = rw (en, ea, eb) (omega (arith, ints)) in
    rw (p, q) refl

-- ---- lists of rows
pub one_answer : (first a : Result Sum Unfit) (r : Result (List Sum) Unfit) → OrMemory Memory first a → OrMemory Memory r (joined first (Ok [])) → OrMemory Memory r (joined a (Ok []))
one_answer first a r (inl e) h = rw e at h
one_answer first a r (inr e) h = inr (⊎_elim (λ p. p ∙ ap (λ x. joined x (Ok [])) e) (λ p. p) h)

second_memory : (a : Result Sum Unfit) (b : Result (List Sum) Unfit) (r : Result (List Sum) Unfit) → r ≡ joined a (Err Memory) → OrMemory Memory r (joined a b)
second_memory (Err x) b r e = inl e
second_memory (Ok s) b r e = inr e

pub two_answers : (first second a b : Result Sum Unfit) (r : Result (List Sum) Unfit) → OrMemory Memory first a → OrMemory Memory second b → OrMemory Memory r (joined first (joined second (Ok []))) →
    OrMemory Memory r (joined a (joined b (Ok [])))
two_answers first second a b r x y (inr h) = inr h
two_answers first second a b r (inr e) y (inl h) = inr (h ∙ ap (λ x. joined x (joined second (Ok []))) e)
two_answers first second a b r (inl e) (inl f) (inl h) = inl (h ∙ ap (λ x. joined x (joined second (Ok []))) e ∙ ap (λ y. joined a (joined y (Ok []))) f)
two_answers first second a b r (inl e) (inr f) (inl h) = second_memory a (joined b (Ok [])) r (h ∙ ap (λ x. joined x (joined second (Ok []))) e ∙ ap (λ y. joined a (joined y (Ok []))) f)
