-- The forms of a point text's lines, by their words.
use Rattle.std.specs.Prelude.{ℕ, Bool, true, false, not, ◌&&◌, ◌==◌, nat_lt, List, [], ◌∷◌, length, Result, Ok, Err, if◌then◌else◌, codes, bytes_eq}
use Rattle.std.specs.List.{list_all}
use Rattle.model_tree.specs.Names.{has_name_shape}
use Rattle.gdp_grammar.specs.declared.cause.ReadCause.{ReadCause}
use Rattle.gdp_grammar.specs.declared.cause.ReadCause.TheVariants as cause
use Rattle.gdp_grammar.specs.declared.class.Class.TheVariants as class
use Rattle.text_grammar.specs.Outcomes.{◌>>=◌}
use Rattle.gdp_grammar.specs.Classes.{belongs}
use Rattle.gdp_grammar.specs.Keywords.{is_reserved}

-- a whole number as it is spelled: whether a `-` stands before it, and its digits
pub record Integer : Type 0 where
  pub is_negative : Bool
  pub digits : List ℕ

-- a line of a point text, by what it says
pub data PointForm : Type 0 where
  Over : (digits : List ℕ) → PointForm
  Val : (name : List ℕ) (number : Integer) → PointForm
  On : (name : List ℕ) → PointForm
  End : PointForm

-- the bytes are digits, one at least
abbrev pub is_digits : List ℕ → Bool
is_digits word = nat_lt 0 (length word) && list_all (belongs class.Digit) word

-- the word has the shape of a name, of any length
abbrev pub is_name_word : List ℕ → Bool
is_name_word word = has_name_shape word && not (is_reserved word)

-- digits
abbrev pub digits_of : List ℕ → Result (List ℕ) ReadCause
digits_of word = if is_digits word then Ok word else Err cause.Form

-- digits behind this sign
abbrev pub signed_digits : Bool → List ℕ → Result Integer ReadCause
signed_digits is_negative word = do
  digits ← digits_of word
  Ok (record { is_negative = is_negative; digits = digits })

-- digits with an optional `-` directly before them
abbrev pub integer_of : List ℕ → Result Integer ReadCause
integer_of [] = Err cause.Form
integer_of (b ∷ bs) = if b == 45 then signed_digits true bs else signed_digits false (b ∷ bs)

-- a name
abbrev pub name_in : List ℕ → Result (List ℕ) ReadCause
name_in word = if is_name_word word then Ok word else Err cause.Form

-- over D
unfoldable pub over_of : List ℕ → Result PointForm ReadCause
over_of number = do
  digits ← digits_of number
  Ok (Over digits)

-- val NAME N
unfoldable pub val_of : List ℕ → List ℕ → Result PointForm ReadCause
val_of word number = do
  name ← name_in word
  integer ← integer_of number
  Ok (Val name integer)

-- on NAME
unfoldable pub on_of : List ℕ → Result PointForm ReadCause
on_of word = do
  name ← name_in word
  Ok (On name)

-- the form of a line of two words
abbrev pub form_of_two : List ℕ → List ℕ → Result PointForm ReadCause
form_of_two first second =
    if bytes_eq first (codes "over") then over_of second
    else (if bytes_eq first (codes "on") then on_of second
    else Err cause.Form)

-- the form of a line of these words
abbrev pub point_form_of : List (List ℕ) → Result PointForm ReadCause
point_form_of (first ∷ []) = if bytes_eq first (codes "end") then Ok End else Err cause.Form
point_form_of (first ∷ second ∷ []) = form_of_two first second
point_form_of (first ∷ second ∷ third ∷ []) = if bytes_eq first (codes "val") then val_of second third else Err cause.Form
point_form_of _ = Err cause.Form
