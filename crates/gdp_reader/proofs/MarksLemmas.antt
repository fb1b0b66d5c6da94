-- A mark for each variable that a sum has named so far.
use Rattle.std.proofs.Common.{◌≡◌, ◌≢◌, ℕ, ◌+◌, ◌<◌, Bool, true, false, eqb, ◌||◌, List, [], ◌∷◌, ◌++◌, length, get_or, set, take, drop, map, replicate, Option, Some, None, refl, ap, sym, ◌∙◌, arith, ◌⊎◌, inl, inr}
use Rattle.std.proofs.lemmas.List.{drop_all, append-nil, take_all, get_or-set_same, get_or-set_other, get_or-replicate, length-set, length-replicate, take_more, map-append, take-append-drop, get_or_default}
use Rattle.std.proofs.lemmas.Bool.{cases_eq}
use Rattle.std.proofs.lemmas.Bool.Decides.{nat_tests}
use Rattle.std.specs.Prelude.{IfSome}
use Rattle.model_tree.specs.Variables.{VarValue}
use Rattle.gdp_grammar.specs.Reading.{id_of, named, stands_in, has_twice}
use Rattle.gdp_grammar.proofs.Twice.{stands_push, stands_push_none, twice_push, twice_push_none, twice_more}
use Rattle.gdp_lines.specs.declared.form.Summand.{Summand}
use Rattle.gdp_lines.specs.Lines.{summand}
use Rattle.gdp_reader.specs.steps.Terms.{is_marked, with_mark}
use Rattle.gdp_reader.proofs.TermsLemmas.{no_term}

-- of the n variables just those that stand in the list are marked
pub record IsMarked (n : ℕ) (seen : List Bool) (ids : List (Option ℕ)) : Type 0 where
  pub count : length seen ≡ n
  pub marks : (k : ℕ) → k < n → get_or seen k false ≡ stands_in k ids

pub none_marked : (n : ℕ) → IsMarked n (replicate n false) []
none_marked n = record { count = length-replicate n false; marks = λ k h. get_or-replicate n k false false h }

pub mark_none : (n : ℕ) (seen : List Bool) (ids : List (Option ℕ)) → IsMarked n seen ids → IsMarked n seen (ids ++ None ∷ [])
mark_none n seen ids m = record { count = m.count; marks = λ k h. m.marks k h ∙ sym (stands_push_none k ids) }

or_true : (a : Bool) → (a || true) ≡ true
or_true true = refl
or_true false = refl

or_false : (a : Bool) → (a || false) ≡ a
or_false true = refl
or_false false = refl

pub mark_one : (n : ℕ) (seen : List Bool) (ids : List (Option ℕ)) (id : ℕ) → IsMarked n seen ids → id < n → IsMarked n (set seen id true) (ids ++ Some id ∷ [])
mark_one n seen ids id m within = record {
  count = length-set seen id true ∙ m.count;
  marks = λ k h. go k h (cases_eq k id);
}
  where
    go : (k : ℕ) → k < n → (k ≡ id) ⊎ (k ≢ id) → get_or (set seen id true) k false ≡ stands_in k (ids ++ Some id ∷ [])
    go k h (inl e) =
        let same : eqb k id ≡ true = grind (arith, nat_tests) in
        let bound : id < length seen = omega (arith, within, m.count) in
        ap (λ (j : ℕ). get_or (set seen id true) j false) e ∙ get_or-set_same seen id true false bound
        ∙ sym (stands_push k id ids ∙ ap (λ b. stands_in k ids || b) same ∙ or_true (stands_in k ids))
    go k h (inr ne) =
        let other : eqb k id ≡ false = grind (arith, nat_tests) in
        get_or-set_other seen id k true false ne ∙ m.marks k h
        ∙ sym (stands_push k id ids ∙ ap (λ b. stands_in k ids || b) other ∙ or_false (stands_in k ids))

-- the ids of the terms before this place
abbrev pub ids_before : List VarValue → List Summand → ℕ → List (Option ℕ)
ids_before vars sum i = named vars (map summand (take i sum))

-- the ids of one term more
named_more : (vars : List VarValue) (sum : List Summand) (i : ℕ) (o : Option ℕ) → i < length sum → o ≡ id_of vars (get_or sum i no_term).name.now
    → ids_before vars sum (i + 1) ≡ ids_before vars sum i ++ o ∷ []
named_more vars sum i o within is =
    ap (λ (xs : List Summand). named vars (map summand xs)) (take_more sum i no_term within)
    ∙ ap (named vars) (map-append summand (take i sum) (get_or sum i no_term ∷ []))
    ∙ map-append (λ s. id_of vars s.name) (map summand (take i sum)) (summand (get_or sum i no_term) ∷ [])
    ∙ ap (λ (x : Option ℕ). ids_before vars sum i ++ x ∷ []) (sym is)

-- a variable that is marked already
twice_here : (n : ℕ) (seen : List Bool) (vars : List VarValue) (sum : List Summand) (i id : ℕ) (mark : Bool)
    → IsMarked n seen (ids_before vars sum i) → id < n → i < length sum → Some id ≡ id_of vars (get_or sum i no_term).name.now
    → mark ≡ get_or seen id mark → mark ≡ true → true ≡ has_twice (named vars (map summand sum))
twice_here n seen vars sum i id mark m bound within is read marked =
    let in_seen : id < length seen = omega (arith, bound, m.count) in
    let stands : stands_in id (ids_before vars sum i) ≡ true = sym (m.marks id bound) ∙ get_or_default seen id false mark in_seen ∙ sym read ∙ marked in
    let now : has_twice (ids_before vars sum (i + 1)) ≡ true =
    ap has_twice (named_more vars sum i (Some id) within is) ∙ twice_push id (ids_before vars sum i)
    ∙ ap (λ b. has_twice (ids_before vars sum i) || b) stands ∙ or_true (has_twice (ids_before vars sum i)) in
    let whole : named vars (map summand sum) ≡ ids_before vars sum (i + 1) ++ named vars (map summand (drop (i + 1) sum)) =
    ap (λ (xs : List Summand). named vars (map summand xs)) (sym (take-append-drop (i + 1) sum))
    ∙ ap (named vars) (map-append summand (take (i + 1) sum) (drop (i + 1) sum))
    ∙ map-append (λ s. id_of vars s.name) (map summand (take (i + 1) sum)) (map summand (drop (i + 1) sum)) in
    sym (ap has_twice whole ∙ twice_more (ids_before vars sum (i + 1)) (named vars (map summand (drop (i + 1) sum))) now)

-- a variable that is marked now
marked_here : (n : ℕ) (seen next : List Bool) (vars : List VarValue) (sum : List Summand) (i id : ℕ) (mark : Bool)
    → IsMarked n seen (ids_before vars sum i) → has_twice (ids_before vars sum i) ≡ false → id < n → i < length sum
    → Some id ≡ id_of vars (get_or sum i no_term).name.now → mark ≡ get_or seen id mark → mark ≡ false → next ≡ set seen id true
    → IsMarked n next (ids_before vars sum (i + 1)) × (has_twice (ids_before vars sum (i + 1)) ≡ false)
marked_here n seen next vars sum i id mark m once bound within is read unmarked set_is =
    let in_seen : id < length seen = omega (arith, bound, m.count) in
    let stands : stands_in id (ids_before vars sum i) ≡ false = sym (m.marks id bound) ∙ get_or_default seen id false mark in_seen ∙ sym read ∙ unmarked in
    let more : ids_before vars sum (i + 1) ≡ ids_before vars sum i ++ Some id ∷ [] = named_more vars sum i (Some id) within is in (
      rw (more, set_is) (mark_one n seen (ids_before vars sum i) id m bound),
      ap has_twice more ∙ twice_push id (ids_before vars sum i) ∙ ap (λ b. b || stands_in id (ids_before vars sum i)) once ∙ stands,
    )

-- a name that is unknown
unmarked_here : (n : ℕ) (seen next : List Bool) (vars : List VarValue) (sum : List Summand) (i : ℕ)
    → IsMarked n seen (ids_before vars sum i) → has_twice (ids_before vars sum i) ≡ false → i < length sum
    → None ≡ id_of vars (get_or sum i no_term).name.now → next ≡ seen
    → IsMarked n next (ids_before vars sum (i + 1)) × (has_twice (ids_before vars sum (i + 1)) ≡ false)
unmarked_here n seen next vars sum i m once within is same =
    let more : ids_before vars sum (i + 1) ≡ ids_before vars sum i ++ None ∷ [] = named_more vars sum i None within is in (
      rw (more, same) (mark_none n seen (ids_before vars sum i) m),
      ap has_twice more ∙ twice_push_none (ids_before vars sum i) ∙ once,
    )

-- a variable, where there is one, that is marked already
pub twice_at : (n : ℕ) (seen : List Bool) (vars : List VarValue) (sum : List Summand) (i : ℕ) (id : Option ℕ)
    → IsMarked n seen (ids_before vars sum i) → IfSome id (λ k. k < n) → i < length sum → id ≡ id_of vars (get_or sum i no_term).name.now
    → is_marked seen id ≡ true → has_twice (named vars (map summand sum)) ≡ true
twice_at n seen vars sum i None m bound within is marked = absurd (cc marked)
twice_at n seen vars sum i (Some id) m bound within is marked =
    let in_seen : id < length seen = omega (arith, bound, m.count) in
    sym (twice_here n seen vars sum i id true m bound within is (sym marked ∙ get_or_default seen id false true in_seen) refl)

-- a variable, where there is one, that is marked now
pub marked_at : (n : ℕ) (seen next : List Bool) (vars : List VarValue) (sum : List Summand) (i : ℕ) (id : Option ℕ)
    → IsMarked n seen (ids_before vars sum i) → has_twice (ids_before vars sum i) ≡ false → IfSome id (λ k. k < n) → i < length sum
    → id ≡ id_of vars (get_or sum i no_term).name.now → is_marked seen id ≡ false → next ≡ with_mark seen id
    → IsMarked n next (ids_before vars sum (i + 1)) × (has_twice (ids_before vars sum (i + 1)) ≡ false)
marked_at n seen next vars sum i None m once bound within is unmarked same = unmarked_here n seen next vars sum i m once within is same
marked_at n seen next vars sum i (Some id) m once bound within is unmarked same = marked_here n seen next vars sum i id false m once bound within is (sym unmarked) refl same

-- the marks as they are written back, all of them
pub written : (n len : ℕ) (seen next : List Bool) (ids now : List (Option ℕ)) → length seen ≡ len → IsMarked n seen ids → IsMarked n next now → IsMarked n (take len (next ++ drop (length next) seen)) now
written n len seen next ids now whole before after =
    let none : drop (length next) seen ≡ [] = drop_all (length next) seen (omega (arith, before.count, after.count)) in
    let same : take len (next ++ drop (length next) seen) ≡ next =
    ap (λ (rest : List Bool). take len (next ++ rest)) none ∙ ap (take len) (append-nil next) ∙ take_all len next (omega (arith, before.count, after.count, whole)) in
    rw same after
