-- Which bytes are the name of a variable, a Boolean or an indicator.
use Rattle.std.specs.Prelude.{ℕ, Bool, true, false, not, ◌&&◌, ◌||◌, List, [], ◌∷◌, length, codes, nat_le, ◌==◌, bytes_eq}
use Rattle.std.specs.List.{list_all, list_any}
use Rattle.model_tree.specs.Limits.{longest_name}

-- a letter of ASCII
abbrev pub is_letter : ℕ → Bool
is_letter b = (nat_le 65 b && nat_le b 90) || (nat_le 97 b && nat_le b 122)

-- a digit of ASCII
abbrev pub is_digit : ℕ → Bool
is_digit b = nat_le 48 b && nat_le b 57

-- what a name may begin with: a letter or `_`
abbrev pub begins_name : ℕ → Bool
begins_name b = is_letter b || (b == 95)

-- what may follow: a letter, `_`, a digit or `.`
abbrev pub continues_name : ℕ → Bool
continues_name b = begins_name b || is_digit b || (b == 46)

-- the bytes have the shape of a name
abbrev pub has_name_shape : List ℕ → Bool
has_name_shape [] = false
has_name_shape (b ∷ bs) = begins_name b && list_all continues_name bs

-- the words that are no names, for they mean something in a model text
unfoldable pub reserved_words : List (List ℕ)
reserved_words =
    codes "not" ∷ codes "and" ∷ codes "or" ∷ codes "implies" ∷ codes "equivalent" ∷ codes "xor" ∷ codes "exactly"
    ∷ codes "atleast" ∷ codes "atmost" ∷ codes "inf" ∷ codes "end" ∷ []

-- the name stands in the list
abbrev pub has_name : List ℕ → List (List ℕ) → Bool
has_name name names = list_any (bytes_eq name) names

-- The bytes are a name of a model: they have its shape, there are at most 64, and they are no reserved word.
unfoldable pub is_name : List ℕ → Bool
is_name name = has_name_shape name && nat_le (length name) longest_name && not (has_name name reserved_words)

-- each is a name of a model, and no two are equal
abbrev pub are_names : List (List ℕ) → Bool
are_names [] = true
are_names (n ∷ ns) = is_name n && not (has_name n ns) && are_names ns
