-- The terms of a sum, one after the other.
use Rattle.std.proofs.Common.{◌≡◌, ℕ, Bool, true, false, ◌<◌, ◌≤◌, ◌+◌, length, get_or, take, map, List, [], ◌∷◌, ◌++◌, Option, Some, None, Result, Ok, Err, refl, ap, sym, ◌∙◌}
use Rattle.std.proofs.lemmas.List.{take_more, take_all, map-append}
use Rattle.fractions.specs.Fraction.{Fraction}
use Rattle.model_tree.specs.Variables.{VarValue}
use Rattle.gdp_lines.specs.declared.form.Summand.{Summand as Term}
use Rattle.gdp_lines.specs.Lines.{summand}
use Rattle.gdp_grammar.specs.declared.cause.ReadCause.{ReadCause}
use Rattle.gdp_grammar.specs.declared.cause.ReadCause.TheVariants as cause
use Rattle.text_grammar.specs.Outcomes.{◌>>=◌, refused_where, or_cause}
use Rattle.gdp_grammar.specs.Forms.{Summand}
use Rattle.gdp_grammar.specs.Reading.{id_of, named, has_twice, known_terms, coefficient_of, valued_terms, terms_of}
use Rattle.gdp_reader.specs.steps.Terms.{one_term_more}

-- what a place past the end of a sum reads as
abbrev pub no_term : Term
no_term = record { is_negative = false; size = None; name = record { ref_ptr = (0, 0); now = [] } }

-- the terms of a sum, each known and valued, or the first cause against them
abbrev pub all_terms : List VarValue → List Summand → Result (List (ℕ × Fraction)) ReadCause
all_terms vars sum = known_terms vars sum >>= λ ts. valued_terms ts

-- one name more
known_more : (vars : List VarValue) (sum : List Summand) (s : Summand)
    → known_terms vars (sum ++ s ∷ []) ≡ (known_terms vars sum >>= λ ts. (or_cause cause.NameUnknown (id_of vars s.name) >>= λ id. Ok (ts ++ (id, s) ∷ [])))
known_more vars [] s = refl
known_more vars (t ∷ sum) s =
    ap (λ (r : Result (List (ℕ × Summand)) ReadCause). (or_cause cause.NameUnknown (id_of vars t.name) >>= λ id. (r >>= λ others. Ok ((id, t) ∷ others)))) (known_more vars sum s)
    ∙ by (or_cause cause.NameUnknown (id_of vars t.name)) (known_terms vars sum) (or_cause cause.NameUnknown (id_of vars s.name))
  where
    by : (a : Result ℕ ReadCause) (b : Result (List (ℕ × Summand)) ReadCause) (c : Result ℕ ReadCause)
        → (a >>= λ id. ((b >>= λ ts. (c >>= λ last. Ok (ts ++ (last, s) ∷ []))) >>= λ others. Ok ((id, t) ∷ others)))
        ≡ ((a >>= λ id. (b >>= λ others. Ok ((id, t) ∷ others))) >>= λ ts. (c >>= λ last. Ok (ts ++ (last, s) ∷ [])))
    by (Err d) b c = refl
    by (Ok id) (Err d) c = refl
    by (Ok id) (Ok ts) (Err d) = refl
    by (Ok id) (Ok ts) (Ok last) = refl

-- a cause against a name is that it is unknown
unknown_only : (vars : List VarValue) (sum : List Summand) (c : ReadCause) → known_terms vars sum ≡ Err c → c ≡ cause.NameUnknown
unknown_only vars [] c e = absurd (cc e)
unknown_only vars (s ∷ sum) c e = by (unknown_only vars sum) (id_of vars s.name) (known_terms vars sum) refl e
  where
    by : ((d : ReadCause) → known_terms vars sum ≡ Err d → d ≡ cause.NameUnknown) → (o : Option ℕ) (r : Result (List (ℕ × Summand)) ReadCause) → known_terms vars sum ≡ r
        → (or_cause cause.NameUnknown o >>= λ id. (r >>= λ others. Ok ((id, s) ∷ others))) ≡ Err c → c ≡ cause.NameUnknown
    by others None r is f = sym (cc f)
    by others (Some id) (Err d) is f = let same : d ≡ c = cc f in sym same ∙ others d is
    by others (Some id) (Ok ts) is f = absurd (cc f)

-- one value more
valued_more : (ts : List (ℕ × Summand)) (id : ℕ) (s : Summand)
    → valued_terms (ts ++ (id, s) ∷ []) ≡ (valued_terms ts >>= λ vs. (or_cause cause.Number (coefficient_of s) >>= λ v. Ok (vs ++ (id, v) ∷ [])))
valued_more [] id s = refl
valued_more (t ∷ ts) id s =
    ap (λ (r : Result (List (ℕ × Fraction)) ReadCause). (or_cause cause.Number (coefficient_of t.1) >>= λ v. (r >>= λ others. Ok ((t.0, v) ∷ others)))) (valued_more ts id s)
    ∙ by (or_cause cause.Number (coefficient_of t.1)) (valued_terms ts) (or_cause cause.Number (coefficient_of s))
  where
    by : (a : Result Fraction ReadCause) (b : Result (List (ℕ × Fraction)) ReadCause) (c : Result Fraction ReadCause)
        → (a >>= λ v. ((b >>= λ vs. (c >>= λ last. Ok (vs ++ (id, last) ∷ []))) >>= λ others. Ok ((t.0, v) ∷ others)))
        ≡ ((a >>= λ v. (b >>= λ others. Ok ((t.0, v) ∷ others))) >>= λ vs. (c >>= λ last. Ok (vs ++ (id, last) ∷ [])))
    by (Err d) b c = refl
    by (Ok v) (Err d) c = refl
    by (Ok v) (Ok vs) (Err d) = refl
    by (Ok v) (Ok vs) (Ok last) = refl

-- one term more
term_more : (vars : List VarValue) (sum : List Summand) (s : Summand) → one_term_more (all_terms vars sum) (id_of vars s.name) (coefficient_of s) ≡ all_terms vars (sum ++ s ∷ [])
term_more vars sum s =
    by (known_terms vars sum) refl (id_of vars s.name)
    ∙ ap (λ (r : Result (List (ℕ × Summand)) ReadCause). (r >>= λ ts. valued_terms ts)) (sym (known_more vars sum s))
  where
    err_of : ReadCause → Result (List (ℕ × Fraction)) ReadCause
    err_of c = Err c

    last : (id : ℕ) (r : Result (List (ℕ × Fraction)) ReadCause) (v : Option Fraction) → one_term_more r (Some id) v ≡ (r >>= λ vs. (or_cause cause.Number v >>= λ v. Ok (vs ++ (id, v) ∷ [])))
    last id (Err c) v = refl
    last id (Ok vs) None = refl
    last id (Ok vs) (Some v) = refl

    by : (r : Result (List (ℕ × Summand)) ReadCause) → known_terms vars sum ≡ r → (o : Option ℕ)
        → one_term_more (r >>= λ ts. valued_terms ts) o (coefficient_of s) ≡ ((r >>= λ ts. (or_cause cause.NameUnknown o >>= λ id. Ok (ts ++ (id, s) ∷ []))) >>= λ ts. valued_terms ts)
    by (Err c) is None = ap err_of (sym (unknown_only vars sum c is))
    by (Err c) is (Some id) = refl
    by (Ok ts) is None = none_of (valued_terms ts)
      where
        none_of : (r : Result (List (ℕ × Fraction)) ReadCause) → one_term_more r None (coefficient_of s) ≡ Err cause.NameUnknown
        none_of (Ok vs) = refl
        none_of (Err c) = refl
    by (Ok ts) is (Some id) = last id (valued_terms ts) (coefficient_of s) ∙ sym (valued_more ts id s)

-- the terms before this place
abbrev pub terms_before : List VarValue → List Term → ℕ → Result (List (ℕ × Fraction)) ReadCause
terms_before vars sum i = all_terms vars (map summand (take i sum))

pub next_term : (vars : List VarValue) (sum : List Term) (i : ℕ) (terms next : Result (List (ℕ × Fraction)) ReadCause) (id : Option ℕ) (value : Option Fraction)
    → i < length sum → terms ≡ terms_before vars sum i → id ≡ id_of vars (get_or sum i no_term).name.now → value ≡ coefficient_of (summand (get_or sum i no_term))
    → next ≡ one_term_more terms id value → next ≡ terms_before vars sum (i + 1)
next_term vars sum i terms next id value within so_far is worth more =
    more
    ∙ ap (λ (r : Result (List (ℕ × Fraction)) ReadCause). one_term_more r id value) so_far
    ∙ ap (λ (o : Option ℕ). one_term_more (terms_before vars sum i) o value) is
    ∙ ap (λ (v : Option Fraction). one_term_more (terms_before vars sum i) (id_of vars (get_or sum i no_term).name.now) v) worth
    ∙ term_more vars (map summand (take i sum)) (summand (get_or sum i no_term))
    ∙ ap (all_terms vars) (sym (map-append summand (take i sum) (get_or sum i no_term ∷ [])) ∙ ap (map summand) (sym (take_more sum i no_term within)))

-- where one variable stands twice
pub terms_twice : (vars : List VarValue) (sum : List Summand) → has_twice (named vars sum) ≡ true → terms_of vars sum ≡ Err cause.NameTwice
unfolding terms_of
terms_twice vars sum twice = ap (λ (b : Bool). (refused_where b cause.NameTwice >>= λ x. all_terms vars sum)) twice

-- where each stands once, when all are read
pub terms_read : (vars : List VarValue) (sum : List Term) (i : ℕ) (terms : Result (List (ℕ × Fraction)) ReadCause) → length sum ≤ i
    → has_twice (named vars (map summand (take i sum))) ≡ false → terms ≡ terms_before vars sum i → terms_of vars (map summand sum) ≡ terms
unfolding terms_of
terms_read vars sum i terms past once is =
    let whole : take i sum ≡ sum = take_all i sum past in
    let each : has_twice (named vars (map summand sum)) ≡ false = sym (ap (λ (ts : List Term). has_twice (named vars (map summand ts))) whole) ∙ once in
    ap (λ (b : Bool). (refused_where b cause.NameTwice >>= λ x. all_terms vars (map summand sum))) each
    ∙ sym (is ∙ ap (λ (ts : List Term). all_terms vars (map summand ts)) whole)
