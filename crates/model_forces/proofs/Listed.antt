-- What is known, as a list.
use Rattle.std.proofs.Common.{◌≡◌, ◌<◌, ◌≤◌, ◌⊎◌, inl, inr, ℕ, ◌+◌, Bool, true, false, nat_lt, length, slice_index_or, refl, sym, ◌∙◌, ap, arith, List}
use Rattle.std.proofs.lemmas.Bool.Decides.{nat_tests}
use Rattle.std.proofs.lemmas.List.{get_or_past}
use Rattle.gdp_tables.specs.declared.tri.Tri.TheVariants.{No}
use Rattle.proof_tree.specs.declared.path.Half.{Half}
use Rattle.model_tree.specs.Values.{ModelTree}
use Rattle.model_forces.specs.Paths.{tris_on, tris_at}
use Rattle.model_forces.specs.Tables.{listed}
use Rattle.model_forces.proofs.OnPath.{at_below, at_past}
use Rattle.model_forces.proofs.Tabled.{listed_length, listed_at}

lt_by : (b : Bool) (k n : ℕ) → nat_lt k n ≡ b → (k < n) ⊎ (n ≤ k)
lt_by true k n e = inl (grind (arith, nat_tests))
lt_by false k n e = inr (grind (arith, nat_tests))

pub below_or_past : (k n : ℕ) → (k < n) ⊎ (n ≤ k)
below_or_past k n = lt_by (nat_lt k n) k n refl

at_by : (m : ModelTree) (path : List Half) (k : ℕ) → (k < length m.booleans) ⊎ (length m.booleans ≤ k) → slice_index_or (listed (tris_on path) 0 (length m.booleans)) k No ≡ tris_at m path k
at_by m path k (inl l) = let same : 0 + k ≡ k = omega arith in listed_at (tris_on path) 0 (length m.booleans) k No l ∙ ap (tris_on path) same ∙ sym (at_below m path k l)
at_by m path k (inr l) =
    get_or_past (listed (tris_on path) 0 (length m.booleans)) k No (let e = listed_length (tris_on path) 0 (length m.booleans) in omega (arith, e, l)) ∙ sym (at_past m path k l)

pub listed_is : (m : ModelTree) (path : List Half) → (λ k. slice_index_or (listed (tris_on path) 0 (length m.booleans)) k No) ≡ tris_at m path
listed_is m path = λ i k. at_by m path k (below_or_past k (length m.booleans)) i
