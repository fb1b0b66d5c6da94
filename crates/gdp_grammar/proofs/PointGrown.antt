-- What the lines of a point text add to the point.
use Rattle.std.proofs.Common.{◌+◌, ◌≡◌, ◌≢◌, ℕ, zero, suc, ◌<◌, ℤ, pos, Bool, true, false, eqb, not, ◌&&◌, ◌||◌, List, [], ◌∷◌, map, replicate, length, get_or, set, codes, Option, Some, None, is_some, Result, Ok, Err, refl, ap, sym, subst, ◌∙◌, ◌⊎◌, inl, inr, arith}
use Rattle.std.specs.Prelude.{bytes_eq}
use Rattle.std.specs.List.{list_all}
use Rattle.std.proofs.lemmas.Bool.{cond-true, cond-false}
use Rattle.std.proofs.lemmas.Bool.Decides.{nat_tests}
use Rattle.std.proofs.lemmas.List.{get_or-set_same, get_or-set_other, length-set, length-replicate, length-map}
use Rattle.std.proofs.lemmas.List.Quantifiers.{position-Some}
use Rattle.lp_rows.specs.Points.{PointValue}
use Rattle.model_tree.specs.Values.{ModelTree}
use Rattle.model_tree.specs.Variables.{VarValue, BooleanValue}
use Rattle.gdp_grammar.specs.declared.cause.ReadCause.{ReadCause}
use Rattle.gdp_grammar.specs.declared.cause.ReadCause.TheVariants as cause
use Rattle.text_grammar.specs.Outcomes.{refused_where}
use Rattle.text_grammar.specs.Grammars.{LeadsBy}
use Rattle.gdp_grammar.specs.Lines.{without_comment}
use Rattle.text_grammar.specs.Lines.{lines_of}
use Rattle.gdp_grammar.specs.PointDeclaring.{point_form_on, HasLine, LaidOutPoint}
use Rattle.gdp_grammar.specs.PointForms.{Integer, PointForm, Over, Val, On, End, form_of_two, point_form_of}
use Rattle.gdp_grammar.specs.PointReading.{PointTaken, no_point_taken, variable_at, boolean_at, has_number, is_on, has_line, integer_value, over_value, takes_names, with_over, with_val, with_on, with_end, with_point_form, with_point_header, with_point_words, with_point_line, with_first, all_numbers, point_after}
use Rattle.gdp_grammar.specs.Points.{point_grammar}
use Rattle.text_grammar.specs.Outcomes.{or_cause}
use Rattle.text_grammar.specs.Words.{words_of, are_words}
use Rattle.gdp_grammar.proofs.Sums.{bind_ok}

-- A line that says this, or these lines, lead from one to the other: what they add, and what they keep.
pub record Adds (m : ModelTree) (t next : PointTaken) (Says : PointForm → Type 0) : Type 0 where
  pub as_long : length next.numbers ≡ length t.numbers
  pub as_many : length next.truths ≡ length t.truths
  pub over_kept : (d : ℤ) → t.over ≡ Some d → next.over ≡ Some d
  pub over_from : (d : ℤ) → next.over ≡ Some d → (t.over ≡ Some d) ⊎ ((digits : List ℕ) × Says (Over digits) × (over_value digits ≡ Some d))
  pub number_kept : (id : ℕ) (v : ℤ) → get_or t.numbers id None ≡ Some v → get_or next.numbers id None ≡ Some v
  pub number_said : (name : List ℕ) (number : Integer) → Says (Val name number) → (id : ℕ) × (v : ℤ) × (variable_at m name ≡ Some id) × (integer_value number ≡ Some v) × (get_or next.numbers id None ≡ Some v)
  pub number_from : (id : ℕ) (v : ℤ) → get_or next.numbers id None ≡ Some v
      → (get_or t.numbers id None ≡ Some v) ⊎ ((name : List ℕ) × (number : Integer) × Says (Val name number) × (variable_at m name ≡ Some id) × (integer_value number ≡ Some v))
  pub truth_kept : (k : ℕ) → get_or t.truths k false ≡ true → get_or next.truths k false ≡ true
  pub truth_said : (name : List ℕ) → Says (On name) → (k : ℕ) × (boolean_at m name ≡ Some k) × (get_or next.truths k false ≡ true)
  pub truth_from : (k : ℕ) → get_or next.truths k false ≡ true → (get_or t.truths k false ≡ true) ⊎ ((name : List ℕ) × Says (On name) × (boolean_at m name ≡ Some k))

-- what says neither a number nor a truth
adds_none : (m : ModelTree) (t next : PointTaken) (Says : PointForm → Type 0) → next.over ≡ t.over → next.numbers ≡ t.numbers → next.truths ≡ t.truths
    → ((name : List ℕ) (number : Integer) → Says (Val name number) → ⊥) → ((name : List ℕ) → Says (On name) → ⊥) → Adds m t next Says
adds_none m t next Says over numbers truths no_val no_on = record {
  as_long = ap (λ (ns : List (Option ℤ)). length ns) numbers;
  as_many = ap (λ (ts : List Bool). length ts) truths;
  over_kept = λ d e. over ∙ e;
  over_from = λ d e. inl (sym over ∙ e);
  number_kept = λ id v e. ap (λ (ns : List (Option ℤ)). get_or ns id None) numbers ∙ e;
  number_said = λ name number says. absurd (no_val name number says);
  number_from = λ id v e. inl (ap (λ (ns : List (Option ℤ)). get_or ns id None) (sym numbers) ∙ e);
  truth_kept = λ k e. ap (λ (ts : List Bool). get_or ts k false) truths ∙ e;
  truth_said = λ name says. absurd (no_on name says);
  truth_from = λ k e. inl (ap (λ (ts : List Bool). get_or ts k false) (sym truths) ∙ e);
}

-- what a line says, by its form
abbrev SaysForm : Result PointForm ReadCause → PointForm → Type 0
SaysForm read form = read ≡ Ok form

pub passed : (b : Bool) (cause : ReadCause) (u : Unit {0}) → refused_where b cause ≡ Ok u → b ≡ false
passed true c u e = absurd (cc e)
passed false c u e = refl

valued : {A : Type 0} (cause : ReadCause) (o : Option A) (x : A) → or_cause cause o ≡ Ok x → o ≡ Some x
valued c None x e = absurd (cc e)
valued {A} c (Some y) x e = ap (λ (z : A). some_of z) (cc e)
  where
    some_of : {A : Type 0} → A → Option A
    some_of z = Some z

none_is : (o : Option ℤ) → is_some o ≡ false → o ≡ None
none_is None e = refl
none_is (Some d) e = absurd (cc e)

-- the denominator
over_adds : (m : ModelTree) (t next : PointTaken) (digits : List ℕ) → with_over t digits ≡ Ok next → Adds m t next (SaysForm (Ok (Over digits)))
unfolding with_over
over_adds m t next digits e =
    let place = bind_ok (refused_where (is_some t.over) cause.Form) _ next e in
    let value = bind_ok (or_cause cause.Number (over_value digits)) _ next place.2 in
    let made : PointTaken = record t { over = Some value.0 } in
    let last : Ok made ≡ Ok next = value.2 in
    let same : made ≡ next = cc last in
    let none : t.over ≡ None = none_is t.over (passed (is_some t.over) cause.Form place.0 place.1) in
    subst (λ (x : PointTaken). Adds m t x (SaysForm (Ok (Over digits)))) same
    (record {
      as_long = refl;
      as_many = refl;
      over_kept = λ d was. absurd (cc (was, none));
      over_from = λ d is. inr (digits, refl, valued cause.Number (over_value digits) value.0 value.1 ∙ is);
      number_kept = λ id v was. was;
      number_said = λ name number says. absurd (cc says);
      number_from = λ id v is. inl is;
      truth_kept = λ k was. was;
      truth_said = λ name says. absurd (cc says);
      truth_from = λ k is. inl is;
    })

or_false : (a b : Bool) → (a || b) ≡ false → a ≡ false
or_false true b e = e
or_false false b e = refl

compared : (a b : ℕ) → (a ≡ b) ⊎ (a ≢ b)
compared zero zero = inl refl
compared zero (suc b) = inr (λ e. omega (arith, e))
compared (suc a) zero = inr (λ e. omega (arith, e))
compared (suc a) (suc b) = elim (compared a b) [ inl e ↦ inl (ap (λ (k : ℕ). suc k) e) | inr n ↦ inr (λ e. n (omega (arith, e))) ]

no_number : (numbers : List (Option ℤ)) (o : Option ℕ) (id : ℕ) (v : ℤ) → o ≡ Some id → has_number numbers o ≡ false → get_or numbers id None ≡ Some v → ⊥
no_number numbers None id v is none some = absurd (cc is)
no_number numbers (Some i) id v is none some =
    let same : i ≡ id = cc is in
    let found : is_some (get_or numbers i None) ≡ true = ap (λ (k : ℕ). is_some (get_or numbers k None)) same ∙ ap (λ (o : Option ℤ). is_some o) some in
    absurd (cc (none, found))

-- a number
val_adds : (m : ModelTree) (t next : PointTaken) (name : List ℕ) (number : Integer) → length t.numbers ≡ length m.vars → with_val m t name number ≡ Ok next → Adds m t next (SaysForm (Ok (Val name number)))
unfolding with_val
val_adds m t next name number sized e =
    let place = bind_ok (refused_where (not (takes_names t)) cause.Form) _ next e in
    let twice = bind_ok (refused_where (has_line m t name) cause.NameTwice) _ next place.2 in
    let id = bind_ok (or_cause cause.NameUnknown (variable_at m name)) _ next twice.2 in
    let value = bind_ok (or_cause cause.Number (integer_value number)) _ next id.2 in
    let made : PointTaken = record t { numbers = set t.numbers id.0 (Some value.0) } in
    let last : Ok made ≡ Ok next = value.2 in
    let same : made ≡ next = cc last in
    let at : variable_at m name ≡ Some id.0 = valued cause.NameUnknown (variable_at m name) id.0 id.1 in
    let is : integer_value number ≡ Some value.0 = valued cause.Number (integer_value number) value.0 value.1 in
    let free : has_number t.numbers (variable_at m name) ≡ false =
    or_false (has_number t.numbers (variable_at m name)) (is_on t.truths (boolean_at m name)) (passed (has_line m t name) cause.NameTwice twice.0 twice.1) in
    let within = (position-Some (bytes_eq name) (map (λ (v : VarValue). v.0) m.vars) id.0 [] at).0 in
    let inside : id.0 < length t.numbers = omega (arith, within, sized, length-map m.vars (λ (v : VarValue). v.0)) in
    let here : get_or (set t.numbers id.0 (Some value.0)) id.0 None ≡ Some value.0 = get_or-set_same t.numbers id.0 (Some value.0) None inside in
    subst (λ (x : PointTaken). Adds m t x (SaysForm (Ok (Val name number)))) same
    (record {
      as_long = length-set t.numbers id.0 (Some value.0);
      as_many = refl;
      over_kept = λ d was. was;
      over_from = λ d was. inl was;
      number_kept = λ k v was. elim (compared k id.0) [
        | inl k_id ↦ absurd (no_number t.numbers (variable_at m name) id.0 v at free (ap (λ (j : ℕ). get_or t.numbers j None) (sym k_id) ∙ was))
        | inr other ↦ get_or-set_other t.numbers id.0 k (Some value.0) None other ∙ was
      ];
      number_said = λ other n says. (
        id.0,
        value.0,
        ap (variable_at m) (sym (said_name name other number n says)) ∙ at,
        ap integer_value (sym (said_number name other number n says)) ∙ is,
        here,
      );
      number_from = λ k v found. elim (compared k id.0) [
        | inl k_id ↦
            let v_is : Some value.0 ≡ Some v = sym here ∙ ap (λ (j : ℕ). get_or (set t.numbers id.0 (Some value.0)) j None) (sym k_id) ∙ found in
            inr (name, number, refl, at ∙ ap (λ (j : ℕ). some_at j) (sym k_id), is ∙ v_is)
        | inr other ↦ inl (sym (get_or-set_other t.numbers id.0 k (Some value.0) None other) ∙ found)
      ];
      truth_kept = λ k was. was;
      truth_said = λ other says. absurd (cc says);
      truth_from = λ k was. inl was;
    })
  where
    some_at : ℕ → Option ℕ
    some_at j = Some j

    said_name : (a b : List ℕ) (n k : Integer) → SaysForm (Ok (Val a n)) (Val b k) → a ≡ b
    said_name a b n k e = let v : Val a n ≡ Val b k = cc e in cc v

    said_number : (a b : List ℕ) (n k : Integer) → SaysForm (Ok (Val a n)) (Val b k) → n ≡ k
    said_number a b n k e = let v : Val a n ≡ Val b k = cc e in cc v

-- a truth
on_adds : (m : ModelTree) (t next : PointTaken) (name : List ℕ) → length t.truths ≡ length m.booleans → with_on m t name ≡ Ok next → Adds m t next (SaysForm (Ok (On name)))
unfolding with_on
on_adds m t next name sized e =
    let place = bind_ok (refused_where (not (takes_names t)) cause.Form) _ next e in
    let twice = bind_ok (refused_where (has_line m t name) cause.NameTwice) _ next place.2 in
    let id = bind_ok (or_cause cause.NameUnknown (boolean_at m name)) _ next twice.2 in
    let made : PointTaken = record t { truths = set t.truths id.0 true } in
    let last : Ok made ≡ Ok next = id.2 in
    let same : made ≡ next = cc last in
    let at : boolean_at m name ≡ Some id.0 = valued cause.NameUnknown (boolean_at m name) id.0 id.1 in
    let within = (position-Some (bytes_eq name) (map (λ (b : BooleanValue). b.0) m.booleans) id.0 [] at).0 in
    let inside : id.0 < length t.truths = omega (arith, within, sized, length-map m.booleans (λ (b : BooleanValue). b.0)) in
    let here : get_or (set t.truths id.0 true) id.0 false ≡ true = get_or-set_same t.truths id.0 true false inside in
    subst (λ (x : PointTaken). Adds m t x (SaysForm (Ok (On name)))) same
    (record {
      as_long = refl;
      as_many = length-set t.truths id.0 true;
      over_kept = λ d was. was;
      over_from = λ d was. inl was;
      number_kept = λ k v was. was;
      number_said = λ other n says. absurd (cc says);
      number_from = λ k v was. inl was;
      truth_kept = λ k was. elim (compared k id.0) [
        | inl k_id ↦ ap (λ (j : ℕ). get_or (set t.truths id.0 true) j false) k_id ∙ here
        | inr other ↦ get_or-set_other t.truths id.0 k true false other ∙ was
      ];
      truth_said = λ other says. (id.0, ap (boolean_at m) (sym (said_name name other says)) ∙ at, here);
      truth_from = λ k found. elim (compared k id.0) [
        | inl k_id ↦ inr (name, refl, at ∙ ap (λ (j : ℕ). some_at j) (sym k_id))
        | inr other ↦ inl (sym (get_or-set_other t.truths id.0 k true false other) ∙ found)
      ];
    })
  where
    some_at : ℕ → Option ℕ
    some_at j = Some j

    said_name : (a b : List ℕ) → SaysForm (Ok (On a)) (On b) → a ≡ b
    said_name a b e = let v : On a ≡ On b = cc e in cc v

end_adds : (m : ModelTree) (t next : PointTaken) → with_end t ≡ Ok next → Adds m t next (SaysForm (Ok End))
unfolding with_end
end_adds m t next e =
    let place = bind_ok (refused_where (not (takes_names t)) cause.Form) _ next e in
    let missing = bind_ok (refused_where (not (list_all is_some t.numbers)) cause.Missing) _ next place.2 in
    let made : PointTaken = record t { ended = true } in
    let last : Ok made ≡ Ok next = missing.2 in
    let same : made ≡ next = cc last in
    subst (λ (x : PointTaken). Adds m t x (SaysForm (Ok End))) same
    (adds_none m t made (SaysForm (Ok End)) refl refl refl (λ name number says. absurd (cc says)) (λ name says. absurd (cc says)))

form_adds : (m : ModelTree) (t next : PointTaken) (form : PointForm) → length t.numbers ≡ length m.vars → length t.truths ≡ length m.booleans → with_point_form m t form ≡ Ok next → Adds m t next (SaysForm (Ok form))
form_adds m t next (Over digits) sized flagged e = over_adds m t next digits e
form_adds m t next (Val name number) sized flagged e = val_adds m t next name number sized e
form_adds m t next (On name) sized flagged e = on_adds m t next name flagged e
form_adds m t next End sized flagged e = end_adds m t next e

-- the header has no form
pub header_form : (w : List ℕ) (ws : List (List ℕ)) → are_words (w ∷ ws) (codes "gdp-point") (codes "1") ≡ true → point_form_of (w ∷ ws) ≡ Err cause.Form
header_form [] [] e = absurd (cc e)
header_form [] (v ∷ []) e = absurd (cc e)
header_form [] (v ∷ u ∷ vs) e = absurd (cc e)
header_form (b ∷ bs) [] e = absurd (cc e)
header_form (b ∷ bs) (v ∷ u ∷ vs) e = absurd (cc e)
header_form (b ∷ bs) (v ∷ []) e =
    let letter : eqb b 103 ≡ true = left (eqb b 103) (bytes_eq bs (codes "dp-point")) (left (bytes_eq (b ∷ bs) (codes "gdp-point")) (bytes_eq v (codes "1")) e) in
    let is : b ≡ 103 = grind (arith, nat_tests) in
    ap (λ (x : ℕ). form_of_two (x ∷ bs) v) is
  where
    left : (a b : Bool) → (a && b) ≡ true → a ≡ true
    left true b e = refl
    left false b e = absurd (cc e)

-- what adds nothing to what was taken
adds_same : (m : ModelTree) (t next : PointTaken) (Says : PointForm → Type 0) → t ≡ next
    → ((name : List ℕ) (number : Integer) → Says (Val name number) → ⊥) → ((name : List ℕ) → Says (On name) → ⊥) → Adds m t next Says
adds_same m t next Says same no_val no_on =
    adds_none m t next Says (ap (λ (x : PointTaken). x.over) (sym same)) (ap (λ (x : PointTaken). x.numbers) (sym same)) (ap (λ (x : PointTaken). x.truths) (sym same)) no_val no_on

words_add : (m : ModelTree) (t next : PointTaken) (ws : List (List ℕ)) → length t.numbers ≡ length m.vars → length t.truths ≡ length m.booleans → with_point_words m t ws ≡ Ok next → Adds m t next (SaysForm (point_form_of ws))
words_add m t next [] sized flagged e = adds_same m t next (SaysForm (point_form_of [])) (cc e) (λ name number says. absurd (cc says)) (λ name says. absurd (cc says))
words_add m t next (w ∷ ws) sized flagged e =
    let form = bind_ok (point_form_of (w ∷ ws)) _ next e in
    subst (λ (r : Result PointForm ReadCause). Adds m t next (SaysForm r)) (sym form.1) (form_adds m t next form.0 sized flagged form.2)

header_adds : (m : ModelTree) (t next : PointTaken) (ws : List (List ℕ)) → with_point_header t ws ≡ Ok next → Adds m t next (SaysForm (point_form_of ws))
header_adds m t next [] e = adds_same m t next (SaysForm (point_form_of [])) (cc e) (λ name number says. absurd (cc says)) (λ name says. absurd (cc says))
header_adds m t next (w ∷ ws) e =
    let test = bind_ok (refused_where (not (are_words (w ∷ ws) (codes "gdp-point") (codes "1"))) cause.Header) _ next e in
    let made : PointTaken = record t { headed = true } in
    let last : Ok made ≡ Ok next = test.2 in
    let same : made ≡ next = cc last in
    let none : point_form_of (w ∷ ws) ≡ Err cause.Form = header_form w ws (not_not (are_words (w ∷ ws) (codes "gdp-point") (codes "1")) (passed (not (are_words (w ∷ ws) (codes "gdp-point") (codes "1"))) cause.Header test.0 test.1)) in
    subst (λ (x : PointTaken). Adds m t x (SaysForm (point_form_of (w ∷ ws)))) same
    (adds_none m t made (SaysForm (point_form_of (w ∷ ws))) refl refl refl (λ name number says. absurd (cc (none, says))) (λ name says. absurd (cc (none, says))))
  where
    not_not : (b : Bool) → not b ≡ false → b ≡ true
    not_not true e = refl
    not_not false e = absurd (cc e)

line_adds : (m : ModelTree) (t next : PointTaken) (l : List ℕ) → length t.numbers ≡ length m.vars → length t.truths ≡ length m.booleans → with_point_line m t l ≡ Ok next → Adds m t next (SaysForm (point_form_on l))
unfolding with_point_line
line_adds m t next l sized flagged e = go t.headed refl
  where
    go : (b : Bool) → t.headed ≡ b → Adds m t next (SaysForm (point_form_on l))
    go true on = words_add m t next (words_of (without_comment l)) sized flagged (sym (cond-true t.headed _ _ on) ∙ e)
    go false off = header_adds m t next (words_of (without_comment l)) (sym (cond-false t.headed _ _ off) ∙ e)

-- lines one after the other
both_add : (m : ModelTree) (t next after : PointTaken) (l : List ℕ) (ls : List (List ℕ)) → Adds m t next (SaysForm (point_form_on l)) → Adds m next after (HasLine ls) → Adds m t after (HasLine (l ∷ ls))
both_add m t next after l ls one more = record {
  as_long = more.as_long ∙ one.as_long;
  as_many = more.as_many ∙ one.as_many;
  over_kept = λ d e. more.over_kept d (one.over_kept d e);
  over_from = λ d e. elim (more.over_from d e) [
    | inl a ↦ elim (one.over_from d a) [ inl b ↦ inl b | inr s ↦ inr (s.0, inl s.1, s.2) ]
    | inr s ↦ inr (s.0, inr s.1, s.2)
  ];
  number_kept = λ id v e. more.number_kept id v (one.number_kept id v e);
  number_said = λ name number says. elim says [
    | inl here ↦ let a = one.number_said name number here in (a.0, a.1, a.2, a.3, more.number_kept a.0 a.1 a.4)
    | inr there ↦ more.number_said name number there
  ];
  number_from = λ id v e. elim (more.number_from id v e) [
    | inl a ↦ elim (one.number_from id v a) [ inl b ↦ inl b | inr s ↦ inr (s.0, s.1, inl s.2, s.3, s.4) ]
    | inr s ↦ inr (s.0, s.1, inr s.2, s.3, s.4)
  ];
  truth_kept = λ k e. more.truth_kept k (one.truth_kept k e);
  truth_said = λ name says. elim says [
    | inl here ↦ let a = one.truth_said name here in (a.0, a.1, more.truth_kept a.0 a.2)
    | inr there ↦ more.truth_said name there
  ];
  truth_from = λ k e. elim (more.truth_from k e) [
    | inl a ↦ elim (one.truth_from k a) [ inl b ↦ inl b | inr s ↦ inr (s.0, inl s.1, s.2) ]
    | inr s ↦ inr (s.0, inr s.1, s.2)
  ];
}

pub lines_add : (m : ModelTree) (n : ℕ) (t after : PointTaken) (ls : List (List ℕ)) → length t.numbers ≡ length m.vars → length t.truths ≡ length m.booleans → LeadsBy (point_grammar m) n t ls after → Adds m t after (HasLine ls)
lines_add m n t after [] sized flagged e = adds_same m t after (HasLine []) e (λ name number says. says) (λ name says. says)
lines_add m n t after (l ∷ ls) sized flagged lead =
    let one = line_adds m t lead.0 l sized flagged lead.1 in
    both_add m t lead.0 after l ls one (lines_add m (n + 1) lead.0 after ls (one.as_long ∙ sized) (one.as_many ∙ flagged) lead.2)

-- the numbers where all are there
abbrev some_of : ℤ → Option ℤ
some_of v = Some v

all_are : (ns : List (Option ℤ)) (vs : List ℤ) → all_numbers ns ≡ Some vs → ns ≡ map some_of vs
all_are [] vs e =
    let none : [] ≡ vs = cc e in
    ap (λ (xs : List ℤ). map some_of xs) none
all_are (None ∷ ns) vs e = absurd (cc e)
all_are (Some n ∷ ns) vs e = go (all_numbers ns) e (λ ws is. all_are ns ws is)
  where
    go : (o : Option (List ℤ)) → with_first n o ≡ Some vs → ((ws : List ℤ) → o ≡ Some ws → ns ≡ map some_of ws) → Some n ∷ ns ≡ map some_of vs
    go None e below = absurd (cc e)
    go (Some ws) e below =
        let same : n ∷ ws ≡ vs = cc e in
        ap (λ (xs : List (Option ℤ)). Some n ∷ xs) (below ws refl) ∙ ap (λ (xs : List ℤ). map some_of xs) same

value_at : (vs : List ℤ) (id : ℕ) (v : ℤ) → get_or (map some_of vs) id None ≡ Some v → get_or vs id (pos 0) ≡ v
value_at [] id v e = absurd (cc e)
value_at (x ∷ xs) zero v e = cc e
value_at (x ∷ xs) (suc id) v e = value_at xs id v e

some_at : (vs : List ℤ) (id : ℕ) → id < length vs → get_or (map some_of vs) id None ≡ Some (get_or vs id (pos 0))
some_at [] id within = absurd (omega (arith, within))
some_at (x ∷ xs) zero within = refl
some_at (x ∷ xs) (suc id) within = some_at xs id (omega (arith, within))

-- nothing is there before the first line
abbrev no_value : Option ℤ
no_value = None

no_number_yet : (n id : ℕ) (v : ℤ) → get_or (replicate n no_value) id None ≡ Some v → ⊥
no_number_yet zero id v e = absurd (cc e)
no_number_yet (suc n) zero v e = absurd (cc e)
no_number_yet (suc n) (suc id) v e = no_number_yet n id v e

no_truth_yet : (n k : ℕ) → get_or (replicate n false) k false ≡ true → ⊥
no_truth_yet zero k e = absurd (cc e)
no_truth_yet (suc n) zero e = absurd (cc e)
no_truth_yet (suc n) (suc k) e = no_truth_yet n k e

-- what the lines gave, at their end
record Ends (t : PointTaken) (point : PointValue) (truths : List Bool) : Type 0 where
  over_is : t.over ≡ Some point.over
  numbers_are : t.numbers ≡ map some_of point.nums
  truths_are : t.truths ≡ truths

ends : (t : PointTaken) (point : PointValue) (truths : List Bool) → point_after t ≡ Ok (point, truths) → Ends t point truths
unfolding point_after
ends t point truths e =
    let given : PointValue × List Bool = (point, truths) in
    let headed = bind_ok (refused_where (not t.headed) cause.Header) _ given e in
    let ended = bind_ok (refused_where (not t.ended) cause.Missing) _ given headed.2 in
    let over = bind_ok (or_cause cause.Missing t.over) _ given ended.2 in
    let nums = bind_ok (or_cause cause.Missing (all_numbers t.numbers)) _ given over.2 in
    let made : PointValue × List Bool = (record { over = over.0; nums = nums.0 }, t.truths) in
    let last : Ok made ≡ Ok given = nums.2 in
    let same : made ≡ given = cc last in
    record {
      over_is = valued cause.Missing t.over over.0 over.1 ∙ ap (λ (x : PointValue × List Bool). some_of x.0.over) same;
      numbers_are = all_are t.numbers nums.0 (valued cause.Missing (all_numbers t.numbers) nums.0 nums.1) ∙ ap (λ (x : PointValue × List Bool). map some_of x.0.nums) same;
      truths_are = ap (λ (x : PointValue × List Bool). x.1) same;
    }

pub laid_out_point : LaidOutPoint
laid_out_point m text point truths s =
    let sized : length (no_point_taken m).numbers ≡ length m.vars = length-replicate (length m.vars) no_value in
    let flagged : length (no_point_taken m).truths ≡ length m.booleans = length-replicate (length m.booleans) false in
    let added = lines_add m 1 (no_point_taken m) s.taken (lines_of text) sized flagged s.leads in
    let end = ends s.taken point truths s.gives in
    let number_there = λ (id : ℕ) (v : ℤ) (e : get_or s.taken.numbers id None ≡ Some v). value_at point.nums id v (ap (λ (ns : List (Option ℤ)). get_or ns id None) (sym end.numbers_are) ∙ e) in
    record {
      over = elim (added.over_from point.over end.over_is) [ inl none ↦ absurd (cc none) | inr said ↦ said ];
      a_number_each = sym (length-map point.nums some_of) ∙ ap (λ (ns : List (Option ℤ)). length ns) (sym end.numbers_are) ∙ added.as_long ∙ sized;
      a_truth_each = ap (λ (ts : List Bool). length ts) (sym end.truths_are) ∙ added.as_many ∙ flagged;
      numbers = λ name number says. number_said name number (added.number_said name number says) number_there;
      has_number = λ id within. given id (added.number_from id (get_or point.nums id (pos 0))
          (ap (λ (ns : List (Option ℤ)). get_or ns id None) end.numbers_are ∙ some_at point.nums id (omega (arith, within, length-map point.nums some_of, ap (λ (ns : List (Option ℤ)). length ns) end.numbers_are, added.as_long, sized))));
      is_true = λ name says. let a = added.truth_said name says in (a.0, a.1, ap (λ (ts : List Bool). get_or ts a.0 false) (sym end.truths_are) ∙ a.2);
      made_true = λ k is. elim (added.truth_from k (ap (λ (ts : List Bool). get_or ts k false) end.truths_are ∙ is)) [ inl none ↦ absurd (no_truth_yet (length m.booleans) k none) | inr said ↦ said ];
    }
  where
    number_said : (name : List ℕ) (number : Integer) → (id : ℕ) × (v : ℤ) × (variable_at m name ≡ Some id) × (integer_value number ≡ Some v) × (get_or s.taken.numbers id None ≡ Some v)
        → ((id : ℕ) (v : ℤ) → get_or s.taken.numbers id None ≡ Some v → get_or point.nums id (pos 0) ≡ v)
        → (id : ℕ) × (variable_at m name ≡ Some id) × (integer_value number ≡ Some (get_or point.nums id (pos 0)))
    number_said name number a there = (a.0, a.2, a.3 ∙ ap (λ (v : ℤ). some_v v) (sym (there a.0 a.1 a.4)))
      where
        some_v : ℤ → Option ℤ
        some_v v = Some v

    given : (id : ℕ) → (get_or (no_point_taken m).numbers id None ≡ Some (get_or point.nums id (pos 0))) ⊎ ((name : List ℕ) × (number : Integer) × HasLine (lines_of text) (Val name number) × (variable_at m name ≡ Some id) × (integer_value number ≡ Some (get_or point.nums id (pos 0))))
        → (name : List ℕ) × (number : Integer) × HasLine (lines_of text) (Val name number) × (variable_at m name ≡ Some id)
    given id (inl none) = absurd (no_number_yet (length m.vars) id (get_or point.nums id (pos 0)) none)
    given id (inr said) = (said.0, said.1, said.2, said.3)
