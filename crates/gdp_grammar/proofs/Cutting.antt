-- The bytes of names.
use Rattle.std.proofs.Common.{◌≡◌, ℕ, ◌<◌, ◌≤◌, true, List, [], ◌∷◌, length, inl, inr, sym, subst, arith}
use Rattle.std.proofs.lemmas.Bool.Decides.{nat_tests}
use Rattle.std.specs.Str.{IsAscii}
use Rattle.std.proofs.lemmas.Str.Ascii.{IsAscii-cons, IsAscii-nil}
use Rattle.std.proofs.lemmas.Bool.{cond-true, cond-false}
use Rattle.text_grammar.proofs.Bools.{told}
use Rattle.text_grammar.proofs.BytesLemmas as fronts
use Rattle.gdp_grammar.specs.declared.class.Class.{Class}
use Rattle.gdp_grammar.specs.declared.class.Class.TheVariants as class
use Rattle.gdp_grammar.specs.Classes.{belongs, front, rest}

-- what follows a class is no longer than the whole
pub rest_shorter : (kind : Class) (bytes : List ℕ) → length (rest kind bytes) ≤ length bytes
rest_shorter kind bytes = fronts.rest_shorter (belongs kind) bytes

-- the bytes of a name are ASCII
byte_ascii : (b : ℕ) → belongs class.Name b ≡ true → b < 128
byte_ascii b e = grind (arith, nat_tests)

pub name_ascii : (bytes : List ℕ) → IsAscii (front class.Name bytes)
name_ascii [] = IsAscii-nil
name_ascii (b ∷ bs) = elim (told (belongs class.Name b)) [
  | inl e ↦ let is : front class.Name (b ∷ bs) ≡ b ∷ front class.Name bs = cond-true (belongs class.Name b) _ _ e in
      subst (λ (xs : List ℕ). IsAscii xs) (sym is) (IsAscii-cons b (front class.Name bs) (byte_ascii b e) (name_ascii bs))
  | inr e ↦ let is : front class.Name (b ∷ bs) ≡ [] = cond-false (belongs class.Name b) _ _ e in
      subst (λ (xs : List ℕ). IsAscii xs) (sym is) IsAscii-nil
]
