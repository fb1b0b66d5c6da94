-- Names that are known among variables or Booleans are known among more, by the same numbers.
use Rattle.std.proofs.Common.{◌≡◌, ℕ, ◌+◌, ◌<◌, Bool, true, if◌then◌else◌, List, [], ◌∷◌, ◌++◌, length, get_or, map, Option, Some, None, is_some, Result, Ok, refl, ap, sym, ◌∙◌, length-append, arith}
use Rattle.std.specs.Prelude.{bytes_eq, nat_lt, unwrap_or}
use Rattle.std.specs.List.{position, position_or_len}
use Rattle.std.proofs.lemmas.Bool.{cond-true}
use Rattle.std.proofs.lemmas.Bool.Decides.{nat_tests}
use Rattle.std.proofs.lemmas.Grind.{common_steps}
use Rattle.std.proofs.lemmas.List.{map-append}
use Rattle.std.proofs.lemmas.List.Quantifiers.{position-Some}
use Rattle.std.proofs.lemmas.List.Sums.{position_or_len_is}
use Rattle.fractions.specs.Fraction.{Fraction}
use Rattle.text_grammar.specs.Outcomes.{◌>>=◌, refused_where, or_cause}
use Rattle.text_grammar.proofs.Bools.{both, and_true}
use Rattle.propositions.specs.Tree.{PropTree, atom, PropTrees, prop}
use Rattle.model_tree.specs.Variables.{VarValue, BooleanValue}
use Rattle.gdp_grammar.specs.declared.cause.ReadCause.{ReadCause}
use Rattle.gdp_grammar.specs.declared.cause.ReadCause.TheVariants as cause
use Rattle.gdp_grammar.specs.Forms.{Summand}
use Rattle.gdp_grammar.specs.PropNames.{boolean_number, are_known, are_all_known, combined, tree_in, trees_in}
use Rattle.gdp_grammar.specs.PropTexts.{NamedProp, named, applied, NamedProps, no_arguments, argument}
use Rattle.gdp_grammar.specs.Reading as reading
use Rattle.gdp_grammar.specs.Reading.{id_of, has_twice, known_terms, valued_terms, terms_of}
use Rattle.gdp_grammar.proofs.Sums.{bind_ok}

-- the first place at which a test passes is the first in a longer list
first_among : (test : List ℕ → Bool) (xs ys : List (List ℕ)) (i : ℕ) → position test xs ≡ Some i → position test (xs ++ ys) ≡ Some i
first_among test xs ys i e =
    let found = position-Some test xs i [] e in
    let long : length (xs ++ ys) ≡ length xs + length ys = length-append xs ys in
    let at : position_or_len test (xs ++ ys) ≡ i = position_or_len_is test (xs ++ ys) i [] (omega (arith, found.0, long)) (λ k lt. ap test (same k (omega (arith, lt, found.0))) ∙ found.2 k lt) (λ within. ap test (same i found.0) ∙ found.1) in
    let inside : nat_lt i (length (xs ++ ys)) ≡ true = within i (omega (arith, found.0, long)) in
    ap (λ (n : ℕ). if nat_lt n (length (xs ++ ys)) then Some n else None) at ∙ cond-true (nat_lt i (length (xs ++ ys))) _ _ inside
  where
    same : (k : ℕ) → k < length xs → get_or (xs ++ ys) k [] ≡ get_or xs k []
    same k lt = grind (arith, common_steps)

    within : (k : ℕ) → k < length (xs ++ ys) → nat_lt k (length (xs ++ ys)) ≡ true
    within k lt = grind (arith, nat_tests)

-- the number of a variable, and of a Boolean
id_among : (vars more : List VarValue) (name : List ℕ) (id : ℕ) → id_of vars name ≡ Some id → id_of (vars ++ more) name ≡ Some id
id_among vars more name id e =
    ap (position (bytes_eq name)) (map-append (λ (v : VarValue). v.0) vars more) ∙ first_among (bytes_eq name) (map (λ (v : VarValue). v.0) vars) (map (λ (v : VarValue). v.0) more) id e

number_among : (booleans more : List BooleanValue) (name : List ℕ) (k : ℕ) → boolean_number booleans name ≡ Some k → boolean_number (booleans ++ more) name ≡ Some k
number_among booleans more name k e =
    ap (position (bytes_eq name)) (map-append (λ (b : BooleanValue). b.0) booleans more) ∙ first_among (bytes_eq name) (map (λ (b : BooleanValue). b.0) booleans) (map (λ (b : BooleanValue). b.0) more) k e

some_id : ℕ → Option ℕ
some_id id = Some id

there : (o : Option ℕ) (id : ℕ) → or_cause cause.NameUnknown o ≡ Ok id → o ≡ Some id
there None id e = absurd (cc e)
there (Some k) id e = ap (λ (n : ℕ). Some n) (cc e)

ok_id : ℕ → Result ℕ ReadCause
ok_id id = Ok id

-- the terms of a sum
terms_among : (vars more : List VarValue) (sum : List Summand) (known : List (ℕ × Summand)) → known_terms vars sum ≡ Ok known
    → (known_terms (vars ++ more) sum ≡ Ok known) × (reading.named (vars ++ more) sum ≡ reading.named vars sum)
terms_among vars more [] known e = (e, refl)
terms_among vars more (s ∷ sum) known e =
    let id = bind_ok (or_cause cause.NameUnknown (id_of vars s.name)) _ known e in
    let others = bind_ok (known_terms vars sum) _ known id.2 in
    let at : id_of vars s.name ≡ Some id.0 = there (id_of vars s.name) id.0 id.1 in
    let at' : id_of (vars ++ more) s.name ≡ Some id.0 = id_among vars more s.name id.0 at in
    let below = terms_among vars more sum others.0 others.1 in (
      ap (λ (o : Option ℕ). or_cause cause.NameUnknown o >>= (λ id. known_terms (vars ++ more) sum >>= (λ others. Ok ((id, s) ∷ others)))) at'
          ∙ ap (λ (r : Result (List (ℕ × Summand)) ReadCause). r >>= (λ others. Ok ((id.0, s) ∷ others))) below.0
          ∙ others.2,
      ap (λ (o : Option ℕ). o ∷ reading.named (vars ++ more) sum) (at' ∙ sym at) ∙ ap (λ (ids : List (Option ℕ)). id_of vars s.name ∷ ids) below.1,
    )

pub terms_more : (vars more : List VarValue) (sum : List Summand) (terms : List (ℕ × Fraction)) → terms_of vars sum ≡ Ok terms → terms_of (vars ++ more) sum ≡ Ok terms
unfolding terms_of
terms_more vars more sum terms e =
    let twice = bind_ok (refused_where (has_twice (reading.named vars sum)) cause.NameTwice) _ terms e in
    let known = bind_ok (known_terms vars sum) _ terms twice.2 in
    let among = terms_among vars more sum known.0 known.1 in
    ap (λ (ids : List (Option ℕ)). refused_where (has_twice ids) cause.NameTwice >>= (λ twice. known_terms (vars ++ more) sum >>= (λ known. valued_terms known))) among.1
    ∙ ap (λ (r : Result (Unit {0}) ReadCause). r >>= (λ twice. known_terms (vars ++ more) sum >>= (λ known. valued_terms known))) twice.1
    ∙ ap (λ (r : Result (List (ℕ × Summand)) ReadCause). r >>= (λ known. valued_terms known)) among.0
    ∙ known.2

-- a Boolean that is known has a number
has_number : (o : Option ℕ) → is_some o ≡ true → (k : ℕ) × (o ≡ Some k)
has_number None e = absurd (cc e)
has_number (Some k) e = (k, refl)

-- the names of a proposition, and its tree
mutual
  pub prop_more : (booleans more : List BooleanValue) (p : NamedProp) → are_known booleans p ≡ true → (are_known (booleans ++ more) p ≡ true) × (tree_in (booleans ++ more) p ≡ tree_in booleans p)
  prop_more booleans more (named name) e =
      let k = has_number (boolean_number booleans name) e in
      let at = number_among booleans more name k.0 k.1 in
      (ap is_some at, ap (λ (o : Option ℕ). atom (unwrap_or o 0)) (at ∙ sym k.1))
  prop_more booleans more (applied o ps) e = let below = props_more booleans more ps e in (below.0, ap (combined o) below.1)

  pub props_more : (booleans more : List BooleanValue) (ps : NamedProps) → are_all_known booleans ps ≡ true → (are_all_known (booleans ++ more) ps ≡ true) × (trees_in (booleans ++ more) ps ≡ trees_in booleans ps)
  props_more booleans more no_arguments e = (refl, refl)
  props_more booleans more (argument p ps) e =
      let parts = both (are_known booleans p) (are_all_known booleans ps) e in
      let first = prop_more booleans more p parts.0 in
      let others = props_more booleans more ps parts.1 in (
        and_true (are_known (booleans ++ more) p) (are_all_known (booleans ++ more) ps) first.0 others.0,
        ap (λ (t : PropTree). prop t (trees_in (booleans ++ more) ps)) first.1 ∙ ap (λ (ts : PropTrees). prop (tree_in booleans p) ts) others.1,
      )
