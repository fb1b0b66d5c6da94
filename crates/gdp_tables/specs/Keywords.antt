-- Tables of keywords, and which of them a word is.
use Rattle.std.specs.Prelude.{◌≡◌, ℕ, Bool, true, not, ◌&&◌, List, [], ◌∷◌, map, length, nat_le, Option, Some, None, MatchOption, take, if◌then◌else◌}
use Rattle.std.specs.Char.{to_ascii_lowercase}
use Rattle.std.specs.List.{filter, list_all, list_any}
use Rattle.std.specs.Str.{bytes_eq}
use Rattle.gdp_tables.specs.declared.word.Word.{Word}

-- a spelling and its code
pub record Keyword : Type 0 where
  pub spelling : List ℕ
  pub code : ℕ

-- keywords, and whether the case of a letter of ASCII is ignored
pub record Table : Type 0 where
  pub keywords : List Keyword
  pub fold : Bool

-- what a spelling has to be: 1 to 16 bytes, each from 33 to 126
abbrev pub is_spelling : List ℕ → Bool
is_spelling bytes = nat_le 1 (length bytes) && nat_le (length bytes) 16 && list_all (λ b. nat_le 33 b && nat_le b 126) bytes

-- what a stored word stands for
abbrev pub keyword_of : Word → Keyword
keyword_of word = record { spelling = take word.length word.bytes; code = word.code }

abbrev pub keywords_of : List Word → List Keyword
keywords_of words = map keyword_of words

-- a word as it is compared: in lower case where case is ignored
abbrev pub compared : Bool → List ℕ → List ℕ
compared fold word = if fold then map to_ascii_lowercase word else word

-- two words are equal
abbrev pub are_equal : Bool → List ℕ → List ℕ → Bool
are_equal fold a b = bytes_eq (compared fold a) (compared fold b)

-- the keywords that a word spells
abbrev pub spelled_by : Bool → List ℕ → List Keyword → List Keyword
spelled_by fold word keywords = filter (λ k. are_equal fold word k.spelling) keywords

-- a word spells one of the keywords
abbrev pub is_keyword : Bool → List ℕ → List Keyword → Bool
is_keyword fold word keywords = list_any (λ k. are_equal fold word k.spelling) keywords

-- no two spellings are equal
abbrev pub are_distinct : Bool → List Keyword → Bool
are_distinct fold [] = true
are_distinct fold (k ∷ ks) = not (is_keyword fold k.spelling ks) && are_distinct fold ks

-- the code of the first keyword, if there is one
abbrev pub first_code : List Keyword → Option ℕ
first_code [] = None
first_code (k ∷ ks) = Some k.code

-- the code that a table has for a word
abbrev pub code_of : Table → List ℕ → Option ℕ
code_of table word = first_code (spelled_by table.fold word table.keywords)

-- the answer is the code of the one keyword that the word spells, and there is none exactly where it spells none
abbrev pub IsCodeOf : Table → List ℕ → Option ℕ → Type 0
IsCodeOf table word answer =
    MatchOption answer (spelled_by table.fold word table.keywords ≡ [])
    (λ code. (k : Keyword) × (spelled_by table.fold word table.keywords ≡ k ∷ []) × (k.code ≡ code))
