-- A word of the shape of a name is ASCII.
use Rattle.std.proofs.Common.{◌≡◌, ℕ, ◌<◌, Bool, true, false, ◌&&◌, not, List, [], ◌∷◌, Ok, Err, refl, inl, inr, arith}
use Rattle.std.specs.List.{list_all}
use Rattle.std.specs.Str.{IsAscii, IsUtf8}
use Rattle.std.proofs.lemmas.Bool.{cond-false}
use Rattle.std.proofs.lemmas.Bool.Decides.{nat_tests}
use Rattle.std.proofs.lemmas.Str.{IsUtf8-from_ascii}
use Rattle.std.proofs.lemmas.Str.Ascii.{IsAscii-cons, IsAscii-nil}
use Rattle.model_tree.specs.Names.{has_name_shape, begins_name, continues_name}
use Rattle.gdp_grammar.specs.declared.cause.ReadCause.TheVariants as cause
use Rattle.gdp_grammar.specs.Keywords.{is_reserved}
use Rattle.gdp_grammar.specs.PointForms.{is_name_word, name_in}
use Rattle.text_grammar.proofs.Bools.{told}

both : (a b : Bool) → (a && b) ≡ true → (a ≡ true) × (b ≡ true)
both true b e = (refl, e)
both false b e = absurd (cc e)

byte_ascii : (b : ℕ) → continues_name b ≡ true → b < 128
byte_ascii b e = grind (arith, nat_tests)

start_ascii : (b : ℕ) → begins_name b ≡ true → b < 128
start_ascii b e = grind (arith, nat_tests)

all_ascii : (bytes : List ℕ) → list_all continues_name bytes ≡ true → IsAscii bytes
all_ascii [] e = IsAscii-nil
all_ascii (b ∷ bs) e = let parts = both (continues_name b) (list_all continues_name bs) e in IsAscii-cons b bs (byte_ascii b parts.0) (all_ascii bs parts.1)

shape_ascii : (word : List ℕ) → has_name_shape word ≡ true → IsAscii word
shape_ascii [] e = IsAscii-nil
shape_ascii (b ∷ bs) e = let parts = both (begins_name b) (list_all continues_name bs) e in IsAscii-cons b bs (start_ascii b parts.0) (all_ascii bs parts.1)

-- what is no text is no name
pub no_text_no_name : (word : List ℕ) → (IsUtf8 word → ⊥) → name_in word ≡ Err cause.Form
no_text_no_name word none = elim (told (is_name_word word)) [
  | inl e ↦ absurd (none (IsUtf8-from_ascii word (shape_ascii word (both (has_name_shape word) (not (is_reserved word)) e).0)))
  | inr e ↦ cond-false (is_name_word word) (Ok word) (Err cause.Form) e
]
