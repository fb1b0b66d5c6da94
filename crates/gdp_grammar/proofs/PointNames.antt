-- Each name has at most one line in a text that spells a point.
use Rattle.std.proofs.Common.{◌≡◌, ℕ, ◌+◌, ℤ, Bool, true, false, not, ◌||◌, List, [], ◌∷◌, ◌++◌, length, codes, Option, None, is_some, Ok, refl, ap, sym, subst, ◌∙◌, inl, inr}
use Rattle.std.proofs.lemmas.Bool.{cond-true, cond-false}
use Rattle.std.proofs.lemmas.List.{length-replicate}
use Rattle.model_tree.specs.Values.{ModelTree}
use Rattle.gdp_grammar.specs.declared.cause.ReadCause.TheVariants as cause
use Rattle.text_grammar.specs.Outcomes.{refused_where}
use Rattle.text_grammar.specs.Grammars.{LeadsBy}
use Rattle.gdp_grammar.specs.Lines.{without_comment}
use Rattle.gdp_grammar.specs.PointDeclaring.{point_form_on, HasLine, IsLineOn, HasLineOn, OneLineEach}
use Rattle.gdp_grammar.specs.PointForms.{Integer, PointForm, Val, On, point_form_of}
use Rattle.gdp_grammar.specs.PointReading.{PointTaken, no_point_taken, variable_at, boolean_at, has_number, is_on, has_line, takes_names, with_val, with_on, with_point_form, with_point_header, with_point_words, with_point_line}
use Rattle.gdp_grammar.specs.Points.{point_grammar}
use Rattle.text_grammar.specs.Words.{words_of, are_words}
use Rattle.gdp_grammar.proofs.PointGrown.{Adds, lines_add, header_form, passed}
use Rattle.gdp_grammar.proofs.Sums.{bind_ok}

-- what was taken before a line among others
record Reached (m : ModelTree) (n : ℕ) (t : PointTaken) (before : List (List ℕ)) (line : List ℕ) : Type 0 where
  mid : PointTaken
  next : PointTaken
  leads : LeadsBy (point_grammar m) n t before mid
  takes : with_point_line m mid line ≡ Ok next

reached : (m : ModelTree) (n : ℕ) (t after : PointTaken) (before rest : List (List ℕ)) (line : List ℕ) → LeadsBy (point_grammar m) n t (before ++ line ∷ rest) after → Reached m n t before line
reached m n t after [] rest line lead = record { mid = t; next = lead.0; leads = refl; takes = lead.1 }
reached m n t after (l ∷ ls) rest line lead =
    let r = reached m (n + 1) lead.0 after ls rest line lead.2 in
    record { mid = r.mid; next = r.next; leads = (lead.0, lead.1, r.leads); takes = r.takes }

-- a line of a form is taken by its form
taken_by_form : (m : ModelTree) (t next : PointTaken) (line : List ℕ) (form : PointForm) → point_form_on line ≡ Ok form → with_point_line m t line ≡ Ok next → with_point_form m t form ≡ Ok next
unfolding with_point_line
taken_by_form m t next line form is e = go t.headed refl (words_of (without_comment line)) refl
  where
    go : (b : Bool) → t.headed ≡ b → (ws : List (List ℕ)) → words_of (without_comment line) ≡ ws → with_point_form m t form ≡ Ok next
    go b h [] are = absurd (cc (is, ap point_form_of are))
    go true on (w ∷ ws) are =
        let call : with_point_words m t (w ∷ ws) ≡ Ok next = ap (with_point_words m t) (sym are) ∙ sym (cond-true t.headed _ _ on) ∙ e in
        let read = bind_ok (point_form_of (w ∷ ws)) _ next call in
        let same : Ok form ≡ Ok read.0 = sym is ∙ ap point_form_of are ∙ read.1 in
        let one : form ≡ read.0 = cc same in
        ap (with_point_form m t) one ∙ read.2
    go false off (w ∷ ws) are =
        let call : with_point_header t (w ∷ ws) ≡ Ok next = ap (with_point_header t) (sym are) ∙ sym (cond-false t.headed _ _ off) ∙ e in
        let test = bind_ok (refused_where (not (are_words (w ∷ ws) (codes "gdp-point") (codes "1"))) cause.Header) _ next call in
        let head = not_not (are_words (w ∷ ws) (codes "gdp-point") (codes "1")) (passed (not (are_words (w ∷ ws) (codes "gdp-point") (codes "1"))) cause.Header test.0 test.1) in
        absurd (cc (is, ap point_form_of are, header_form w ws head))
      where
        not_not : (b : Bool) → not b ≡ false → b ≡ true
        not_not true e = refl
        not_not false e = absurd (cc e)

-- a line on a name is taken where no line on it was
val_free : (m : ModelTree) (t next : PointTaken) (name : List ℕ) (number : Integer) → with_val m t name number ≡ Ok next → has_line m t name ≡ false
unfolding with_val
val_free m t next name number e =
    let place = bind_ok (refused_where (not (takes_names t)) cause.Form) _ next e in
    let twice = bind_ok (refused_where (has_line m t name) cause.NameTwice) _ next place.2 in
    passed (has_line m t name) cause.NameTwice twice.0 twice.1

on_free : (m : ModelTree) (t next : PointTaken) (name : List ℕ) → with_on m t name ≡ Ok next → has_line m t name ≡ false
unfolding with_on
on_free m t next name e =
    let place = bind_ok (refused_where (not (takes_names t)) cause.Form) _ next e in
    let twice = bind_ok (refused_where (has_line m t name) cause.NameTwice) _ next place.2 in
    passed (has_line m t name) cause.NameTwice twice.0 twice.1

free : (m : ModelTree) (t next : PointTaken) (line name : List ℕ) → IsLineOn line name → with_point_line m t line ≡ Ok next → has_line m t name ≡ false
free m t next line name (inl v) e = val_free m t next name v.0 (taken_by_form m t next line (Val name v.0) v.1 e)
free m t next line name (inr o) e = on_free m t next name (taken_by_form m t next line (On name) o e)

-- a name that had a line has one
true_or : (a b : Bool) → b ≡ true → (a || b) ≡ true
true_or true b e = refl
true_or false b e = e

had : (m : ModelTree) (start t : PointTaken) (lines : List (List ℕ)) (name : List ℕ) → Adds m start t (HasLine lines) → HasLineOn lines name → has_line m t name ≡ true
had m start t lines name adds (inl v) =
    let said = adds.number_said name v.0 v.1 in
    let there : has_number t.numbers (variable_at m name) ≡ true = ap (has_number t.numbers) said.2 ∙ ap (λ (o : Option ℤ). is_some o) said.4 in
    ap (λ (b : Bool). b || is_on t.truths (boolean_at m name)) there
had m start t lines name adds (inr o) =
    let said = adds.truth_said name o in
    let there : is_on t.truths (boolean_at m name) ≡ true = ap (is_on t.truths) said.1 ∙ said.2 in
    true_or (has_number t.numbers (variable_at m name)) (is_on t.truths (boolean_at m name)) there

pub one_line_each : OneLineEach
one_line_each m text point truths before after line name s cut on earlier =
    let no_number : Option ℤ = None in
    let lead : LeadsBy (point_grammar m) 1 (no_point_taken m) (before ++ line ∷ after) s.taken = subst (λ (ls : List (List ℕ)). LeadsBy (point_grammar m) 1 (no_point_taken m) ls s.taken) cut s.leads in
    let r = reached m 1 (no_point_taken m) s.taken before after line lead in
    let adds = lines_add m 1 (no_point_taken m) r.mid before (length-replicate (length m.vars) no_number) (length-replicate (length m.booleans) false) r.leads in
    let both : has_line m r.mid name ≡ true = had m (no_point_taken m) r.mid before name adds earlier in
    absurd (cc (both, free m r.mid r.next line name on r.takes))
