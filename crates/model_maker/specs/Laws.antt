-- Worked: the first quotients of seed 0, and the text of its model of size 1.
use Rattle.std.specs.Prelude.{◌≡◌, ℕ, List, [], ◌∷◌, codes}
use Rattle.gdp_grammar.specs.Canonical.{canonical_text}
use Rattle.text_grammar.specs.Printing.{text_of}
use Rattle.model_maker.specs.Draws.{seeded, after, quotient}
use Rattle.model_maker.specs.Generated.{generated}

-- the first eight quotients of seed 0
abbrev pub FirstQuotients : Type 0
FirstQuotients =
    quotient (seeded 0) ∷ quotient (after 0 1) ∷ quotient (after 0 2) ∷ quotient (after 0 3) ∷ quotient (after 0 4) ∷ quotient (after 0 5)
    ∷ quotient (after 0 6) ∷ quotient (after 0 7) ∷ []
    ≡ 0 ∷ 21468 ∷ 9988 ∷ 22117 ∷ 3498 ∷ 16927 ∷ 16045 ∷ 19741 ∷ []

-- the canonical text of the model of seed 0 and size 1
abbrev pub first_text : List ℕ
first_text = text_of
    (codes "gdp 1" ∷ codes "var x0 real 0 5" ∷ codes "var n0 int 0 5" ∷ codes "max 4 x0 + 3 n0" ∷ codes "disjunction xor" ∷ codes "disjunct a0"
    ∷ codes "row 1 x0 + 2 n0 <= 11" ∷ codes "end" ∷ codes "disjunct b0" ∷ codes "row 1 x0 + 1 n0 <= 4" ∷ codes "end" ∷ codes "end"
    ∷ codes "logic atleast(1, a0)" ∷ [])

abbrev pub FirstText : Type 0
FirstText = canonical_text (generated 0 1) ≡ first_text
