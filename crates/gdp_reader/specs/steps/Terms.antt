-- How the terms of a sum are read, one after the other.
use Rattle.std.specs.Prelude.{ℕ, Bool, true, false, List, [], ◌∷◌, ◌++◌, Vec, Option, None, Some, Result, Ok, Err, slice_index_or, slice_set}
use Rattle.std.specs.declared.alloc.Global.{Global}
use Rattle.fractions.specs.Fraction.{Fraction}
use Rattle.gdp_grammar.specs.declared.cause.ReadCause.{ReadCause}
use Rattle.gdp_grammar.specs.declared.cause.ReadCause.TheVariants.{NameUnknown, Number}
use Rattle.text_grammar.specs.Outcomes.{result_map}

-- the variable, where there is one, is marked
abbrev pub is_marked : List Bool → Option ℕ → Bool
is_marked seen None = false
is_marked seen (Some id) = slice_index_or seen id false

-- with a mark for the variable, where there is one
abbrev pub with_mark : List Bool → Option ℕ → List Bool
with_mark seen None = seen
with_mark seen (Some id) = slice_set seen id true

-- the terms, or the cause against them
abbrev pub terms_value : Result (Vec (ℕ × Fraction) Global) ReadCause → Result (List (ℕ × Fraction)) ReadCause
terms_value terms = result_map (λ ts. ts.items) terms

-- The terms with one more, or the first cause against them: a name that is unknown, and then a number out of range.
abbrev pub one_term_more : Result (List (ℕ × Fraction)) ReadCause → Option ℕ → Option Fraction → Result (List (ℕ × Fraction)) ReadCause
one_term_more terms None coefficient = Err NameUnknown
one_term_more (Err cause) (Some id) coefficient = Err cause
one_term_more (Ok ts) (Some id) None = Err Number
one_term_more (Ok ts) (Some id) (Some value) = Ok (ts ++ (id, value) ∷ [])
