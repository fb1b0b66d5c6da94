-- What is added to an open sum, one part at a time.
use Rattle.std.proofs.Common.{◌≡◌, ◌⊎◌, inl, inr, ⊎_elim, Some, pos, refl, ap, sym, ◌∙◌}
use Rattle.emission.specs.declared.halts.Halt.TheVariants.{Memory}
use Rattle.emission.proofs.Running.{plus_assoc, plus_zero}
use Rattle.emission.specs.Run.{Adds, State, Status}
use Rattle.emission.specs.Sums.{Sum, number, plus}

-- what is added and what is still to come are the whole
pub record Adding (whole : Sum) (a : Status) (others : Sum) (b : Status) : Type 0 where
  pub adds : ((plus b.open_sum others ≡ plus a.open_sum whole) × (b.state ≡ a.state)) ⊎ (b.state.halt ≡ Some Memory)

pub adding_all : (whole : Sum) (a : Status) → Adding whole a whole a
adding_all whole a = record { adds = inl (refl, refl) }

pub adding_more : (whole x others : Sum) (a b c : Status) → Adding whole a (plus x others) b → Adds x b c → Adding whole a others c
adding_more whole x others a b c w d = record {
  adds = ⊎_elim
      (λ (e : (plus b.open_sum (plus x others) ≡ plus a.open_sum whole) × (b.state ≡ a.state)). ⊎_elim
      (λ (f : (c.open_sum ≡ plus b.open_sum x) × (c.state ≡ b.state)). inl (ap (λ z. plus z others) f.0 ∙ plus_assoc b.open_sum x others ∙ e.0, f.1 ∙ e.1))
      (λ (f : c.state.halt ≡ Some Memory). inr f) d.adds)
      (λ (e : b.state.halt ≡ Some Memory). ⊎_elim
      (λ (f : (c.open_sum ≡ plus b.open_sum x) × (c.state ≡ b.state)). inr (ap (λ (s : State). s.halt) f.1 ∙ e))
      (λ (f : c.state.halt ≡ Some Memory). inr f) d.adds) w.adds;
}

pub adding_done : (whole : Sum) (a b : Status) → Adding whole a (number (pos 0)) b → Adds whole a b
adding_done whole a b w = record {
  adds = ⊎_elim
      (λ (e : (plus b.open_sum (number (pos 0)) ≡ plus a.open_sum whole) × (b.state ≡ a.state)). inl (sym (plus_zero b.open_sum) ∙ e.0, e.1))
      (λ (e : b.state.halt ≡ Some Memory). inr e) w.adds;
}

-- nothing is added
pub adds_zero : (a : Status) → Adds (number (pos 0)) a a
adds_zero a = record { adds = inl (sym (plus_zero a.open_sum), refl) }
