-- A text that is read line by line, for every grammar: what is left of it, and how it ends.
use Rattle.std.proofs.Common.{◌≡◌, ℕ, ◌+◌, List, [], ◌∷◌, length, Result, Ok, Err, ap, sym, subst, ◌∙◌, arith}
use Rattle.text_grammar.specs.Grammars.{Grammar, SpellsBy, IsFirstBadBy, at_line, then_on, follow_by}
use Rattle.text_grammar.proofs.GrammarsLemmas.{spelled_by, first_bad_by}

-- After the lines before this one this was taken, and these are left: what they give is what all lines give.
pub record IsLeft {L T A C : Type 0} (g : Grammar L T A C) (all : List L) (line : ℕ) (taken : T) (left : List L) : Type 0 where
  pub whole : follow_by g line taken left ≡ follow_by g 1 g.start all
  pub number : line + length left ≡ 1 + length all

-- all are left at the beginning
pub all_left : {L T A C : Type 0} (g : Grammar L T A C) (all : List L) → IsLeft g all 1 g.start all
all_left g all = record { whole = λ i. follow_by g 1 g.start all; number = λ i. 1 + length all }

-- one line is taken
pub one_taken : {L T A C : Type 0} (g : Grammar L T A C) (all left rest : List L) (line : ℕ) (l : L) (t next : T) → IsLeft g all line t left → left ≡ l ∷ rest → g.step line t l ≡ Ok next → IsLeft g all (line + 1) next rest
one_taken {L = L} {T = T} {C = C} g all left rest line l t next is cut step = record {
  whole =
      sym (ap (λ (r : Result T C). then_on (at_line line r) (λ x. follow_by g (line + 1) x rest)) step)
      ∙ sym (ap (λ (ls : List L). follow_by g line t ls) cut) ∙ is.whole;
  number = omega (arith, is.number, ap (λ (ls : List L). length ls) cut);
}

-- a line with a cause against it is the first bad one
pub bad_line : {L T A C : Type 0} (g : Grammar L T A C) (all left rest : List L) (line : ℕ) (l : L) (t : T) (c : C) → IsLeft g all line t left → left ≡ l ∷ rest → g.step line t l ≡ Err c → IsFirstBadBy g all line c
bad_line {L = L} {T = T} {C = C} g all left rest line l t c is cut step =
    let followed : follow_by g 1 g.start all ≡ Err (line, c) =
    sym is.whole ∙ ap (λ (ls : List L). follow_by g line t ls) cut
    ∙ ap (λ (r : Result T C). then_on (at_line line r) (λ x. follow_by g (line + 1) x rest)) step in
    first_bad_by g all (line, c)
    (ap (λ (r : Result T (ℕ × C)). then_on r (λ taken. at_line (length all + 1) (g.finish taken))) followed)

all_followed : {L T A C : Type 0} (g : Grammar L T A C) (all left : List L) (line : ℕ) (t : T) → IsLeft g all line t left → left ≡ [] → follow_by g 1 g.start all ≡ Ok t
all_followed {L = L} g all left line t is none = sym is.whole ∙ ap (λ (ls : List L). follow_by g line t ls) none

-- where no line is left, what is given at the end is spelled
pub good_end : {L T A C : Type 0} (g : Grammar L T A C) (all left : List L) (line : ℕ) (t : T) (value : A) → IsLeft g all line t left → left ≡ [] → g.finish t ≡ Ok value → SpellsBy g all value
good_end {T = T} {A = A} {C = C} g all left line t value is none given =
    spelled_by g all value
    (ap (λ (r : Result T (ℕ × C)). then_on r (λ taken. at_line (length all + 1) (g.finish taken))) (all_followed g all left line t is none)
    ∙ ap (λ (r : Result A C). at_line (length all + 1) r) given)

-- where no line is left, and something is missing, the end is bad
pub bad_end : {L T A C : Type 0} (g : Grammar L T A C) (all left : List L) (line : ℕ) (t : T) (c : C) → IsLeft g all line t left → left ≡ [] → g.finish t ≡ Err c → IsFirstBadBy g all line c
bad_end {L = L} {T = T} {A = A} {C = C} g all left line t c is none given =
    let here : line ≡ length all + 1 = omega (arith, is.number, ap (λ (ls : List L). length ls) none) in
    subst (λ (n : ℕ). IsFirstBadBy g all n c) (sym here)
    (first_bad_by g all (length all + 1, c)
    (ap (λ (r : Result T (ℕ × C)). then_on r (λ taken. at_line (length all + 1) (g.finish taken))) (all_followed g all left line t is none)
    ∙ ap (λ (r : Result A C). at_line (length all + 1) r) given))
