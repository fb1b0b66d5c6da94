-- The terms of a goal with the other sign, one more at a time.
use Rattle.std.proofs.Common.{◌≡◌, ℕ, ℤ, neg_ℤ, List, ◌∷◌, refl}
use Rattle.bound_propagation.specs.Boxes.{turned}
use Rattle.emission.specs.Sums.{column, plus}
use Rattle.bigm_rewrite.specs.Relaxed.{moved}

pub turned_level : (f : ℕ → ℕ) (t : ℕ × ℤ) (ts : List (ℕ × ℤ)) → moved f (turned (t ∷ ts)) ≡ plus (column (neg_ℤ t.1) (f t.0)) (moved f (turned ts))
unfolding moved plus column
turned_level f t ts = refl
