-- Claims, and the words of their lines.
use Rattle.std.specs.Prelude.{ℕ, ◌++◌, ℤ, pos, Bool, true, false, not, ◌&&◌, ◌||◌, ◌==◌, nat_le, nat_eq, unsigned_abs, List, [], ◌∷◌, Option, None, Some, Result, Ok, if◌then◌else◌, codes, bytes_eq}
use Rattle.std.specs.Fmt.{decimal}
use Rattle.fractions.specs.Fraction.{Fraction}
use Rattle.fractions.specs.Lowest.{common_divisor}
use Rattle.fractions.specs.Width.{fits}
use Rattle.lp_rows.specs.Points.{PointValue}
use Rattle.text_grammar.specs.Bytes.{front, rest}
use Rattle.text_grammar.specs.Outcomes.{◌>>=◌, refused_where, or_cause}
use Rattle.text_grammar.specs.Printing.{whole_word}
use Rattle.answers.specs.declared.answer.Answer.{Answer}
use Rattle.answers.specs.declared.claim.Claim.{Claim}
use Rattle.answers.specs.declared.claim.Claim.TheVariants.{Best, Empty, Endless}
use Rattle.cert_grammar.specs.declared.cause.CertCause.{CertCause}
use Rattle.cert_grammar.specs.declared.cause.CertCause.TheVariants as cause
use Rattle.answers.specs.declared.answer.Route.{Route}
use Rattle.answers.specs.declared.answer.Route.TheVariants.{BigM, Hull, Hybrid, Logic}
use Rattle.cert_grammar.specs.Nodes.{◌>?>◌}
use Rattle.cert_grammar.specs.Trees.{tree_lines}
use Rattle.cert_grammar.specs.Wholes.{natural_of, whole_of}

-- the word of a route
abbrev pub route_word : Route → List ℕ
route_word BigM = codes "bigm"
route_word Hull = codes "hull"
route_word Hybrid = codes "hybrid"
route_word Logic = codes "logic"

-- the route of a word
abbrev pub route_of : List ℕ → Option Route
route_of word =
    if bytes_eq word (codes "bigm") then Some BigM
    else (if bytes_eq word (codes "hull") then Some Hull
    else (if bytes_eq word (codes "hybrid") then Some Hybrid
    else (if bytes_eq word (codes "logic") then Some Logic
    else None)))

-- a value: `p`, or `p/q`
abbrev pub value_word : Fraction → List ℕ
value_word f = if unsigned_abs f.den == 1 then whole_word f.num else whole_word f.num ++ 47 ∷ decimal (unsigned_abs f.den)

-- the fraction is written in lowest terms: its denominator is at least 2, and where both parts fit no number above 1
-- divides them
abbrev pub is_lowest_spelling : ℤ → ℕ → Bool
is_lowest_spelling p q = nat_le 2 q && (not (fits p && fits (pos q)) || nat_eq (common_divisor (unsigned_abs p) q) 1)

-- a number over another, where they are written in lowest terms
abbrev pub if_lowest : ℤ → ℕ → Option Fraction
if_lowest p q = if is_lowest_spelling p q then Some (record { num = p; den = pos q }) else None

-- the value of a number and what stands behind it, a stroke first
abbrev pub behind_stroke : ℤ → List ℕ → Option Fraction
behind_stroke p [] = Some (record { num = p; den = pos 1 })
behind_stroke p (b ∷ bs) = natural_of bs >?> (λ q. if_lowest p q)

-- the value that a word spells, whatever its size
abbrev pub value_form : List ℕ → Option Fraction
value_form word = whole_of (front (λ b. not (b == 47)) word) >?> (λ p. behind_stroke p (rest (λ b. not (b == 47)) word))

-- a value whose parts fit
abbrev pub spelled_value : List ℕ → Result Fraction CertCause
spelled_value word = do
  value ← or_cause cause.Form (value_form word)
  number ← refused_where (not (fits value.num && fits value.den)) cause.Number
  Ok value

-- a line for each name with its number
abbrev pub named_lines : List ℕ → List (List ℕ) → List ℤ → List (List (List ℕ))
named_lines first (name ∷ names) (z ∷ zs) = (first ∷ name ∷ whole_word z ∷ []) ∷ named_lines first names zs
named_lines first _ _ = []

-- a line for each Boolean that is true
abbrev pub on_lines : List (List ℕ) → List Bool → List (List (List ℕ))
on_lines (name ∷ names) (true ∷ ts) = (codes "on" ∷ name ∷ []) ∷ on_lines names ts
on_lines (name ∷ names) (false ∷ ts) = on_lines names ts
on_lines _ _ = []

-- the lines of a point
abbrev pub point_lines : List (List ℕ) → List (List ℕ) → PointValue → List Bool → List (List (List ℕ))
point_lines names booleans point truths =
    (codes "over" ∷ whole_word point.over ∷ []) ∷ (named_lines (codes "val") names point.nums ++ on_lines booleans truths)

-- the lines of a claim
abbrev pub claim_lines : List (List ℕ) → List (List ℕ) → Claim → List (List (List ℕ))
claim_lines names booleans (Best point truths value nodes) =
    (codes "best" ∷ value_word value ∷ []) ∷ (point_lines names booleans point truths ++ (codes "tree" ∷ []) ∷ tree_lines nodes)
claim_lines names booleans (Empty nodes) = (codes "empty" ∷ []) ∷ (codes "tree" ∷ []) ∷ tree_lines nodes
claim_lines names booleans (Endless point truths ray) =
    (codes "endless" ∷ []) ∷ (point_lines names booleans point truths ++ (named_lines (codes "step") names ray ++ (codes "end" ∷ []) ∷ []))

-- the lines of an answer over variables and Booleans with these names, by their words
abbrev pub answer_lines : List (List ℕ) → List (List ℕ) → Answer → List (List (List ℕ))
answer_lines names booleans a =
    (codes "gdp-answer" ∷ codes "1" ∷ []) ∷ (codes "route" ∷ route_word a.route ∷ []) ∷ claim_lines names booleans a.claim
