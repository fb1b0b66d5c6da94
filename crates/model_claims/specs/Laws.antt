-- Claims that are true of one model are one claim.
use Rattle.std.specs.Prelude.{◌≡◌, ◌<◌, ℕ, ℤ, length, Bool}
use Rattle.point_tests.specs.Satisfied.{is_model_point}
use Rattle.model_tree.specs.Sound.{IsSound}
use Rattle.model_tree.specs.Values.{ModelTree}
use Rattle.model_claims.specs.Claims.{Claim, IsTrueOf, IsInLowest, AreOne}

-- the claims exclude each other and fix the value
abbrev pub ClaimsAgree : Type 0
ClaimsAgree = (m : ModelTree) (a b : Claim) → IsSound m → IsInLowest a → IsInLowest b → IsTrueOf m a → IsTrueOf m b → AreOne a b

-- whether a point is one of the model's rests on the numbers of its variables alone
abbrev pub PointByNumbers : Type 0
PointByNumbers = (m : ModelTree) (over : ℤ) (v w : ℕ → ℤ) (truths : ℕ → Bool) → IsSound m → ((j : ℕ) → j < length m.vars → v j ≡ w j)
    → is_model_point m (record { over = over; nums = v; truths = truths }) ≡ is_model_point m (record { over = over; nums = w; truths = truths })
