-- The numbers of a point, one after the other.
use Rattle.std.proofs.Common.{◌≡◌, List, [], ◌∷◌, ◌++◌, Option, Some, None, ℤ, refl, ap, sym}
use Rattle.std.proofs.lemmas.List.{append_assoc}
use Rattle.gdp_grammar.specs.PointReading.{with_first}

-- these numbers before the others, where they are all there
abbrev pub with_numbers : List ℤ → Option (List ℤ) → Option (List ℤ)
with_numbers front None = None
with_numbers front (Some ns) = Some (front ++ ns)

pub with_no_numbers : (o : Option (List ℤ)) → with_numbers [] o ≡ o
with_no_numbers None = refl
with_no_numbers (Some ns) = refl

pub with_one_more : (front : List ℤ) (n : ℤ) (o : Option (List ℤ)) → with_numbers front (with_first n o) ≡ with_numbers (front ++ n ∷ []) o
with_one_more front n None = refl
with_one_more front n (Some ns) = ap (λ (xs : List ℤ). Some xs) (sym (append_assoc front (n ∷ []) ns))
