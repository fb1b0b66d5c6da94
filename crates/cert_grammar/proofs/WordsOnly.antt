-- A line is read as what it says by no other words.
use Rattle.std.proofs.Common.{◌≡◌, ℕ, ◌^◌, ◌<◌, ℤ, pos, Bool, true, false, not, ◌==◌, ◌&&◌, ◌||◌, if◌then◌else◌, List, [], ◌∷◌, ◌++◌, codes, Option, None, Some, Result, Ok, Err, refl, ap, sym, ◌∙◌, append-nil, inl, inr, ◌⊎◌, arith}
use Rattle.std.specs.Prelude.{nat_le, nat_eq, unsigned_abs, bytes_eq}
use Rattle.std.specs.Fmt.{decimal}
use Rattle.std.proofs.lemmas.Bool.{cond-true, cond-false}
use Rattle.std.proofs.lemmas.Bool.Decides.{nat_tests}
use Rattle.std.proofs.lemmas.Slice.Eq.{bytes_eq-Decides}
use Rattle.fractions.specs.Fraction.{Fraction}
use Rattle.fractions.specs.Width.{fits}
use Rattle.text_grammar.specs.Bytes.{front, rest}
use Rattle.text_grammar.specs.Outcomes.{◌>>=◌, refused_where, or_cause}
use Rattle.text_grammar.specs.Printing.{whole_word}
use Rattle.text_grammar.proofs.Bools.{told, both, and_true}
use Rattle.cert_grammar.specs.declared.cause.CertCause.TheVariants as cause
use Rattle.answers.specs.declared.answer.Route.{Route}
use Rattle.answers.specs.declared.answer.Route.TheVariants as route
use Rattle.cert_grammar.specs.Answers.{are_two, is_one, second_of, is_filled, third_of, on_name, named_number}
use Rattle.fractions.specs.Lowest.{common_divisor}
use Rattle.cert_grammar.specs.Claims.{route_word, route_of, value_word, is_lowest_spelling, if_lowest, behind_stroke, value_form, spelled_value}
use Rattle.cert_grammar.specs.Laws.{is_written_den, is_value}
use Rattle.cert_grammar.specs.Nodes.{◌>?>◌}
use Rattle.cert_grammar.specs.Wholes.{natural_of, whole_of}
use Rattle.cert_grammar.proofs.Exact.{natural_only, whole_only}
use Rattle.cert_grammar.proofs.Forms.{short_whole, made_of, split_before, rest_from}

-- what is read came of what was read before
pub read_of : {A B C : Type 0} (r : Result A C) (f : A → Result B C) (y : B) → (r >>= f) ≡ Ok y → (x : A) × (r ≡ Ok x) × (f x ≡ Ok y)
read_of (Ok x) f y e = (x, refl, e)
read_of (Err c) f y e = absurd (cc e)

pub some_of : {A B C : Type 0} (o : Option A) (c : C) (f : A → Result B C) (y : B) → (or_cause c o >>= f) ≡ Ok y → (x : A) × (o ≡ Some x) × (f x ≡ Ok y)
some_of None c f y e = absurd (cc e)
some_of (Some x) c f y e = (x, refl, e)

pub passed : {B C : Type 0} (b : Bool) (c : C) (r : Result B C) (y : B) → (refused_where b c >>= (λ _. r)) ≡ Ok y → (b ≡ false) × (r ≡ Ok y)
passed true c r y e = absurd (cc e)
passed false c r y e = (refl, e)

pub taken_if : {B C : Type 0} (b : Bool) (x : B) (c : C) (y : B) → (if b then Ok x else Err c) ≡ Ok y → (b ≡ true) × (x ≡ y)
taken_if true x c y e = (refl, cc e)
taken_if false x c y e = absurd (cc e)

pub some_if : {A : Type 0} (b : Bool) (x y : A) → (if b then Some x else None) ≡ Some y → (b ≡ true) × (x ≡ y)
some_if true x y e = (refl, cc e)
some_if false x y e = absurd (cc e)

word_is : (w v : List ℕ) → bytes_eq w v ≡ true → w ≡ v
word_is w v e = (bytes_eq-Decides w v).0 e

-- the words of a line
pub two_only : (first second : List ℕ) (words : List (List ℕ)) → are_two first second words ≡ true → words ≡ first ∷ second ∷ []
two_only first second [] e = absurd (cc e)
two_only first second (a ∷ []) e = absurd (cc e)
two_only first second (a ∷ b ∷ []) e =
    let h = both (bytes_eq a first) (bytes_eq b second) e in
    ap (λ (w : List ℕ). w ∷ b ∷ []) (word_is a first h.0) ∙ ap (λ (w : List ℕ). first ∷ w ∷ []) (word_is b second h.1)
two_only first second (a ∷ b ∷ c ∷ ws) e = absurd (cc e)

pub one_only : (word : List ℕ) (words : List (List ℕ)) → is_one word words ≡ true → words ≡ word ∷ []
one_only word [] e = absurd (cc e)
one_only word (a ∷ []) e = ap (λ (w : List ℕ). w ∷ []) (word_is a word e)
one_only word (a ∷ b ∷ ws) e = absurd (cc e)

pub second_only : (first : List ℕ) (words : List (List ℕ)) (w : List ℕ) → second_of first words ≡ Some w → words ≡ first ∷ w ∷ []
second_only first [] w e = absurd (cc e)
second_only first (a ∷ []) w e = absurd (cc e)
second_only first (a ∷ b ∷ []) w e =
    let h = some_if (bytes_eq a first) b w e in
    ap (λ (v : List ℕ). v ∷ b ∷ []) (word_is a first h.0) ∙ ap (λ (v : List ℕ). first ∷ v ∷ []) h.1
second_only first (a ∷ b ∷ c ∷ ws) w e = absurd (cc e)

pub on_only : (words : List (List ℕ)) (w : List ℕ) → on_name words ≡ Some w → words ≡ codes "on" ∷ w ∷ []
on_only [] w e = absurd (cc e)
on_only (a ∷ []) w e = absurd (cc e)
on_only (a ∷ b ∷ []) w e =
    let h = some_if (bytes_eq a (codes "on") && is_filled b) b w e in
    let t = both (bytes_eq a (codes "on")) (is_filled b) h.0 in
    ap (λ (v : List ℕ). v ∷ b ∷ []) (word_is a (codes "on") t.0) ∙ ap (λ (v : List ℕ). codes "on" ∷ v ∷ []) h.1
on_only (a ∷ b ∷ c ∷ ws) w e = absurd (cc e)

pub third_only : (first : List ℕ) (words : List (List ℕ)) (p : List ℕ × List ℕ) → third_of first words ≡ Some p → (words ≡ first ∷ p.0 ∷ p.1 ∷ []) × (is_filled p.0 ≡ true)
third_only first [] p e = absurd (cc e)
third_only first (a ∷ []) p e = absurd (cc e)
third_only first (a ∷ b ∷ []) p e = absurd (cc e)
third_only first (a ∷ b ∷ c ∷ []) p e =
    let pair : List ℕ × List ℕ = (b, c) in
    let h = some_if (bytes_eq a first && is_filled b) pair p e in
    let t = both (bytes_eq a first) (is_filled b) h.0 in (
      ap (λ (v : List ℕ). v ∷ b ∷ c ∷ []) (word_is a first t.0) ∙ ap (λ (q : List ℕ × List ℕ). first ∷ q.0 ∷ q.1 ∷ []) h.1,
      ap (λ (q : List ℕ × List ℕ). is_filled q.0) (sym h.1) ∙ t.1,
    )
third_only first (a ∷ b ∷ c ∷ d ∷ ws) p e = absurd (cc e)

not_false : (b : Bool) → not b ≡ false → b ≡ true
not_false true e = refl
not_false false e = absurd (cc e)

-- the line of a name and its number
pub named_only : (first name : List ℕ) (words : List (List ℕ)) (z : ℤ) → named_number first name words ≡ Ok z → (words ≡ first ∷ name ∷ whole_word z ∷ []) × (is_filled name ≡ true) × (fits z ≡ true)
named_only first name words z e =
    let p = some_of (third_of first words) cause.Form (λ parts. or_cause cause.Form (whole_of parts.1) >>= (λ z. refused_where (not (bytes_eq parts.0 name)) cause.Name >>= (λ _. refused_where (not (fits z)) cause.Number >>= (λ _. Ok z)))) z e in
    let n = some_of (whole_of p.0.1) cause.Form (λ z. refused_where (not (bytes_eq p.0.0 name)) cause.Name >>= (λ _. refused_where (not (fits z)) cause.Number >>= (λ _. Ok z))) z p.2 in
    let d = passed (not (bytes_eq p.0.0 name)) cause.Name (refused_where (not (fits n.0)) cause.Number >>= (λ _. Ok n.0)) z n.2 in
    let f = passed (not (fits n.0)) cause.Number (Ok n.0) z d.1 in
    let same : n.0 ≡ z = cc f.1 in
    let named : p.0.0 ≡ name = word_is p.0.0 name (not_false (bytes_eq p.0.0 name) d.0) in
    let fit : fits z ≡ true = ap fits (sym same) ∙ not_false (fits n.0) f.0 in
    let number : p.0.1 ≡ whole_word z = whole_only p.0.1 z (n.1 ∙ ap (λ (x : ℤ). Some x) same) (short_whole z fit) in
    let h = third_only first words p.0 p.1 in (
      h.0 ∙ ap (λ (w : List ℕ). first ∷ w ∷ p.0.1 ∷ []) named ∙ ap (λ (w : List ℕ). first ∷ name ∷ w ∷ []) number,
      ap is_filled (sym named) ∙ h.1,
      fit,
    )

-- the route
chosen : {A : Type 0} (w v : List ℕ) (x y z : A) → (if bytes_eq w v then x else y) ≡ z → ((w ≡ v) × (x ≡ z)) ⊎ (y ≡ z)
chosen w v x y z e = elim (told (bytes_eq w v)) [
  | inl t ↦ inl (word_is w v t, sym (cond-true (bytes_eq w v) x y t) ∙ e)
  | inr f ↦ inr (sym (cond-false (bytes_eq w v) x y f) ∙ e)
]

route_at : (w : List ℕ) (s r : Route) → w ≡ route_word s → Some s ≡ Some r → w ≡ route_word r
route_at w s r e same = let is : s ≡ r = cc same in e ∙ ap route_word is

pub route_only : (w : List ℕ) (r : Route) → route_of w ≡ Some r → w ≡ route_word r
route_only w r e = elim (chosen w (codes "bigm") (Some route.BigM) _ (Some r) e) [
  | inl a ↦ route_at w route.BigM r a.0 a.1
  | inr e ↦ elim (chosen w (codes "hull") (Some route.Hull) _ (Some r) e) [
    | inl a ↦ route_at w route.Hull r a.0 a.1
    | inr e ↦ elim (chosen w (codes "hybrid") (Some route.Hybrid) _ (Some r) e) [
      | inl a ↦ route_at w route.Hybrid r a.0 a.1
      | inr e ↦ elim (chosen w (codes "logic") (Some route.Logic) None (Some r) e) [
        | inl a ↦ route_at w route.Logic r a.0 a.1
        | inr e ↦ absurd (cc e)
      ]
    ]
  ]
]

-- the value
no_one : (q : ℕ) → nat_le 2 q ≡ true → (q == 1) ≡ false
no_one q e = grind (arith, nat_tests)

small_den : (q : ℕ) → fits (pos q) ≡ true → q < 10 ^ 64
small_den q f = short_whole (pos q) f

-- the two parts of a word at its stroke
joined : (word l r : List ℕ) → front (λ b. not (b == 47)) word ≡ l → rest (λ b. not (b == 47)) word ≡ r → word ≡ l ++ r
joined word l r x y = sym (split_before 47 word) ∙ ap (λ (w : List ℕ). w ++ rest (λ b. not (b == 47)) word) x ∙ ap (λ (w : List ℕ). l ++ w) y

form_only : (word : List ℕ) (f : Fraction) → value_form word ≡ Some f → fits f.num ≡ true → fits f.den ≡ true → word ≡ value_word f
form_only word f e a b = at_over (whole_of (front (λ b. not (b == 47)) word)) (rest (λ b. not (b == 47)) word) refl refl e
  where
    at_test : (p : ℤ) (c : ℕ) (cs : List ℕ) (q : ℕ) → whole_of (front (λ b. not (b == 47)) word) ≡ Some p → rest (λ b. not (b == 47)) word ≡ c ∷ cs → natural_of cs ≡ Some q → if_lowest p q ≡ Some f → word ≡ value_word f
    at_test p c cs q x y n e =
        let parts : Fraction = record { num = p; den = pos q } in
        let h = some_if (is_lowest_spelling p q) parts f e in
        let fp : fits p ≡ true = ap (λ (x : Fraction). fits x.num) h.1 ∙ a in
        let fq : fits (pos q) ≡ true = ap (λ (x : Fraction). fits x.den) h.1 ∙ b in
        let many = no_one q (both (nat_le 2 q) (not (fits p && fits (pos q)) || nat_eq (common_divisor (unsigned_abs p) q) 1) h.0).0 in
        let left : front (λ b. not (b == 47)) word ≡ whole_word p = whole_only (front (λ b. not (b == 47)) word) p x (short_whole p fp) in
        let right : c ∷ cs ≡ 47 ∷ decimal q = ap (λ (b : ℕ). b ∷ cs) (rest_from 47 word c cs y) ∙ ap (λ (l : List ℕ). 47 ∷ l) (natural_only cs q n (small_den q fq)) in
        let written : value_word parts ≡ whole_word p ++ 47 ∷ decimal q = cond-false (q == 1) (whole_word p) (whole_word p ++ 47 ∷ decimal q) many in
        joined word (whole_word p) (47 ∷ decimal q) left (y ∙ right) ∙ sym written ∙ ap value_word h.1

    at_over : (o : Option ℤ) (r : List ℕ) → whole_of (front (λ b. not (b == 47)) word) ≡ o → rest (λ b. not (b == 47)) word ≡ r → (o >?> (λ p. behind_stroke p r)) ≡ Some f → word ≡ value_word f
    at_over None r x y e = absurd (cc e)
    at_over (Some p) [] x y e =
        let parts : Fraction = record { num = p; den = pos 1 } in
        let some : Some parts ≡ Some f = e in
        let same : parts ≡ f = cc some in
        let fp : fits p ≡ true = ap (λ (x : Fraction). fits x.num) same ∙ a in
        let left : front (λ b. not (b == 47)) word ≡ whole_word p = whole_only (front (λ b. not (b == 47)) word) p x (short_whole p fp) in
        joined word (whole_word p) [] left y ∙ append-nil (whole_word p) ∙ ap value_word same
    at_over (Some p) (c ∷ cs) x y e =
        let q = made_of (natural_of cs) (λ q. if_lowest p q) f e in
        at_test p c cs q.0 x y q.1 q.2

pub value_only : (word : List ℕ) (f : Fraction) → spelled_value word ≡ Ok f → word ≡ value_word f
value_only word f e =
    let v = some_of (value_form word) cause.Form (λ v. refused_where (not (fits v.num && fits v.den)) cause.Number >>= (λ _. Ok v)) f e in
    let n = passed (not (fits v.0.num && fits v.0.den)) cause.Number (Ok v.0) f v.2 in
    let same : v.0 ≡ f = cc n.1 in
    let t = both (fits f.num) (fits f.den) (ap (λ (x : Fraction). fits x.num && fits x.den) (sym same) ∙ not_false (fits v.0.num && fits v.0.den) n.0) in
    form_only word f (v.1 ∙ ap (λ (x : Fraction). Some x) same) t.0 t.1

-- and the value is in lowest terms
form_sound : (word : List ℕ) (f : Fraction) → value_form word ≡ Some f → is_written_den f.num f.den ≡ true
form_sound word f e = at_over (whole_of (front (λ b. not (b == 47)) word)) (rest (λ b. not (b == 47)) word) e
  where
    or_true : (a b : Bool) → b ≡ true → (a || b) ≡ true
    or_true true b e = refl
    or_true false b e = e

    at_over : (o : Option ℤ) (r : List ℕ) → (o >?> (λ p. behind_stroke p r)) ≡ Some f → is_written_den f.num f.den ≡ true
    at_over None r e = absurd (cc e)
    at_over (Some p) [] e =
        let parts : Fraction = record { num = p; den = pos 1 } in
        let some : Some parts ≡ Some f = e in
        let same : parts ≡ f = cc some in
        ap (λ (x : Fraction). is_written_den x.num x.den) (sym same)
    at_over (Some p) (c ∷ cs) e =
        let q = made_of (natural_of cs) (λ q. if_lowest p q) f e in
        let parts : Fraction = record { num = p; den = pos q.0 } in
        let h = some_if (is_lowest_spelling p q.0) parts f q.2 in
        ap (λ (x : Fraction). is_written_den x.num x.den) (sym h.1) ∙ or_true (q.0 == 1) (is_lowest_spelling p q.0) h.0

pub value_sound : (word : List ℕ) (f : Fraction) → spelled_value word ≡ Ok f → is_value f ≡ true
value_sound word f e =
    let v = some_of (value_form word) cause.Form (λ v. refused_where (not (fits v.num && fits v.den)) cause.Number >>= (λ _. Ok v)) f e in
    let n = passed (not (fits v.0.num && fits v.0.den)) cause.Number (Ok v.0) f v.2 in
    let same : v.0 ≡ f = cc n.1 in
    let t = both (fits f.num) (fits f.den) (ap (λ (x : Fraction). fits x.num && fits x.den) (sym same) ∙ not_false (fits v.0.num && fits v.0.den) n.0) in
    and_true (fits f.num) (fits f.den && is_written_den f.num f.den) t.0 (and_true (fits f.den) (is_written_den f.num f.den) t.1 (form_sound word f (v.1 ∙ ap (λ (x : Fraction). Some x) same)))

-- the denominator
pub over_only : (word : List ℕ) (z : ℤ) → whole_of word ≡ Some z → fits z ≡ true → word ≡ whole_word z
over_only word z e f = whole_only word z e (short_whole z f)
