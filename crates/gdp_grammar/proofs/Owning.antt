-- What an owner has before a line and after it.
use Rattle.std.proofs.Common.{◌≡◌, ℕ, zero, suc, ◌<◌, ◌≤◌, Bool, true, false, eqb, ◌&&◌, List, [], ◌∷◌, ◌++◌, Option, Some, None, refl, ap, sym, subst, ◌∙◌, arith}
use Rattle.std.proofs.lemmas.Bool.{cond-true, cond-false}
use Rattle.std.proofs.lemmas.Bool.Decides.{nat_tests}
use Rattle.std.proofs.lemmas.List.{append-nil}
use Rattle.lp_rows.specs.Rows.{RowValue}
use Rattle.propositions.specs.Tree.{PropTree}
use Rattle.model_tree.specs.Tree.{BlockTree, block, Disjunctions, no_disjunctions, disjunction, Disjuncts, no_disjuncts, disjunct}
use Rattle.model_tree.specs.View.{DisjunctTree, DisjunctionTree, disjuncts, disjunctions}
use Rattle.gdp_grammar.specs.Nested.{row_marks, prop_marks, disjunction_marks, disjunct_marks}
use Rattle.gdp_grammar.specs.Stacks.{open_after, open_before, first_of, owner, same_owner, owned}
use Rattle.gdp_grammar.specs.Owners.{LineKind, RowLine, LogicLine, DisjunctionLine, DisjunctLine, EndLine, OtherLine, Kinds, is_row, is_logic, is_disjunction, is_disjunct}

and_left : (a b : Bool) → a ≡ false → (a && b) ≡ false
and_left a b e = ap (λ x. x && b) e

and_right : (a b : Bool) → b ≡ false → (a && b) ≡ false
and_right true b e = e
and_right false b e = refl

and_both : (a b : Bool) → a ≡ true → b ≡ true → (a && b) ≡ true
and_both a b e f = ap (λ x. x && b) e ∙ f

pub same_self : (o : Option ℕ) → same_owner o o ≡ true
same_self None = refl
same_self (Some j) = grind (arith, nat_tests)

pub other_below : (j k : ℕ) → j < k → same_owner (Some j) (Some k) ≡ false
other_below j k less = grind (arith, nat_tests)

other_above : (j k : ℕ) → k < j → eqb j k ≡ false
other_above j k less = grind (arith, nat_tests)

other_apart : (j k : ℕ) → (k ≡ j → ⊥) → eqb j k ≡ false
other_apart j k apart = grind (arith, nat_tests)

-- a line that is none of an owner's, and one that is
pub owned_other : (kinds : Kinds) (test : LineKind → Bool) (o : Option ℕ) (n : ℕ) → (test (kinds n) && same_owner o (owner kinds n)) ≡ false → owned kinds test o (suc n) ≡ owned kinds test o n
unfolding owned
owned_other kinds test o n e = ap (λ l. owned kinds test o n ++ l) (cond-false (test (kinds n) && same_owner o (owner kinds n)) (n ∷ []) [] e) ∙ append-nil (owned kinds test o n)

pub owned_more : (kinds : Kinds) (test : LineKind → Bool) (o : Option ℕ) (n : ℕ) → (test (kinds n) && same_owner o (owner kinds n)) ≡ true → owned kinds test o (suc n) ≡ owned kinds test o n ++ n ∷ []
unfolding owned
owned_more kinds test o n e = ap (λ l. owned kinds test o n ++ l) (cond-true (test (kinds n) && same_owner o (owner kinds n)) (n ∷ []) [] e)

-- before line n this owner has these rows, propositions, disjunctions and disjuncts
pub record Has (kinds : Kinds) (n : ℕ) (o : Option ℕ) (rows props disjunctions disjuncts : List ℕ) : Type 0 where
  pub rows_are : owned kinds is_row o n ≡ rows
  pub props_are : owned kinds is_logic o n ≡ props
  pub disjunctions_are : owned kinds is_disjunction o n ≡ disjunctions
  pub disjuncts_are : owned kinds is_disjunct o n ≡ disjuncts

-- the owner has after line n what it had before
abbrev pub Keeps : Kinds → ℕ → Option ℕ → Type 0
Keeps kinds n o = (rows props disjunctions disjuncts : List ℕ) → Has kinds n o rows props disjunctions disjuncts → Has kinds (suc n) o rows props disjunctions disjuncts

-- by a line that is neither a row nor a proposition nor opens, each owner keeps what it has
pub keep_kind : (kinds : Kinds) (n : ℕ) (o : Option ℕ) → is_row (kinds n) ≡ false → is_logic (kinds n) ≡ false → is_disjunction (kinds n) ≡ false → is_disjunct (kinds n) ≡ false → Keeps kinds n o
keep_kind kinds n o r q d j rows qs ds js has = record {
  rows_are = owned_other kinds is_row o n (and_left (is_row (kinds n)) (same_owner o (owner kinds n)) r) ∙ has.rows_are;
  props_are = owned_other kinds is_logic o n (and_left (is_logic (kinds n)) (same_owner o (owner kinds n)) q) ∙ has.props_are;
  disjunctions_are = owned_other kinds is_disjunction o n (and_left (is_disjunction (kinds n)) (same_owner o (owner kinds n)) d) ∙ has.disjunctions_are;
  disjuncts_are = owned_other kinds is_disjunct o n (and_left (is_disjunct (kinds n)) (same_owner o (owner kinds n)) j) ∙ has.disjuncts_are;
}

-- by a line that another owns, an owner keeps what it has
pub keep_owner : (kinds : Kinds) (n : ℕ) (o : Option ℕ) → same_owner o (owner kinds n) ≡ false → Keeps kinds n o
keep_owner kinds n o e rows qs ds js has = record {
  rows_are = owned_other kinds is_row o n (and_right (is_row (kinds n)) (same_owner o (owner kinds n)) e) ∙ has.rows_are;
  props_are = owned_other kinds is_logic o n (and_right (is_logic (kinds n)) (same_owner o (owner kinds n)) e) ∙ has.props_are;
  disjunctions_are = owned_other kinds is_disjunction o n (and_right (is_disjunction (kinds n)) (same_owner o (owner kinds n)) e) ∙ has.disjunctions_are;
  disjuncts_are = owned_other kinds is_disjunct o n (and_right (is_disjunct (kinds n)) (same_owner o (owner kinds n)) e) ∙ has.disjuncts_are;
}

-- a row, a proposition, a disjunction and a disjunct come to their owner
pub adds_row : (kinds : Kinds) (n : ℕ) (o : Option ℕ) (rows qs ds js : List ℕ) → kinds n ≡ RowLine → same_owner o (owner kinds n) ≡ true → Has kinds n o rows qs ds js → Has kinds (suc n) o (rows ++ n ∷ []) qs ds js
adds_row kinds n o rows qs ds js is e has = record {
  rows_are = owned_more kinds is_row o n (and_both (is_row (kinds n)) (same_owner o (owner kinds n)) (ap is_row is) e) ∙ ap (λ l. l ++ n ∷ []) has.rows_are;
  props_are = owned_other kinds is_logic o n (and_left (is_logic (kinds n)) (same_owner o (owner kinds n)) (ap is_logic is)) ∙ has.props_are;
  disjunctions_are = owned_other kinds is_disjunction o n (and_left (is_disjunction (kinds n)) (same_owner o (owner kinds n)) (ap is_disjunction is)) ∙ has.disjunctions_are;
  disjuncts_are = owned_other kinds is_disjunct o n (and_left (is_disjunct (kinds n)) (same_owner o (owner kinds n)) (ap is_disjunct is)) ∙ has.disjuncts_are;
}

pub adds_prop : (kinds : Kinds) (n : ℕ) (o : Option ℕ) (rows qs ds js : List ℕ) → kinds n ≡ LogicLine → same_owner o (owner kinds n) ≡ true → Has kinds n o rows qs ds js → Has kinds (suc n) o rows (qs ++ n ∷ []) ds js
adds_prop kinds n o rows qs ds js is e has = record {
  rows_are = owned_other kinds is_row o n (and_left (is_row (kinds n)) (same_owner o (owner kinds n)) (ap is_row is)) ∙ has.rows_are;
  props_are = owned_more kinds is_logic o n (and_both (is_logic (kinds n)) (same_owner o (owner kinds n)) (ap is_logic is) e) ∙ ap (λ l. l ++ n ∷ []) has.props_are;
  disjunctions_are = owned_other kinds is_disjunction o n (and_left (is_disjunction (kinds n)) (same_owner o (owner kinds n)) (ap is_disjunction is)) ∙ has.disjunctions_are;
  disjuncts_are = owned_other kinds is_disjunct o n (and_left (is_disjunct (kinds n)) (same_owner o (owner kinds n)) (ap is_disjunct is)) ∙ has.disjuncts_are;
}

pub adds_disjunction : (kinds : Kinds) (n : ℕ) (o : Option ℕ) (rows qs ds js : List ℕ) → kinds n ≡ DisjunctionLine → same_owner o (owner kinds n) ≡ true → Has kinds n o rows qs ds js → Has kinds (suc n) o rows qs (ds ++ n ∷ []) js
adds_disjunction kinds n o rows qs ds js is e has = record {
  rows_are = owned_other kinds is_row o n (and_left (is_row (kinds n)) (same_owner o (owner kinds n)) (ap is_row is)) ∙ has.rows_are;
  props_are = owned_other kinds is_logic o n (and_left (is_logic (kinds n)) (same_owner o (owner kinds n)) (ap is_logic is)) ∙ has.props_are;
  disjunctions_are = owned_more kinds is_disjunction o n (and_both (is_disjunction (kinds n)) (same_owner o (owner kinds n)) (ap is_disjunction is) e) ∙ ap (λ l. l ++ n ∷ []) has.disjunctions_are;
  disjuncts_are = owned_other kinds is_disjunct o n (and_left (is_disjunct (kinds n)) (same_owner o (owner kinds n)) (ap is_disjunct is)) ∙ has.disjuncts_are;
}

pub adds_disjunct : (kinds : Kinds) (n : ℕ) (o : Option ℕ) (rows qs ds js : List ℕ) → kinds n ≡ DisjunctLine → same_owner o (owner kinds n) ≡ true → Has kinds n o rows qs ds js → Has kinds (suc n) o rows qs ds (js ++ n ∷ [])
adds_disjunct kinds n o rows qs ds js is e has = record {
  rows_are = owned_other kinds is_row o n (and_left (is_row (kinds n)) (same_owner o (owner kinds n)) (ap is_row is)) ∙ has.rows_are;
  props_are = owned_other kinds is_logic o n (and_left (is_logic (kinds n)) (same_owner o (owner kinds n)) (ap is_logic is)) ∙ has.props_are;
  disjunctions_are = owned_other kinds is_disjunction o n (and_left (is_disjunction (kinds n)) (same_owner o (owner kinds n)) (ap is_disjunction is)) ∙ has.disjunctions_are;
  disjuncts_are = owned_more kinds is_disjunct o n (and_both (is_disjunct (kinds n)) (same_owner o (owner kinds n)) (ap is_disjunct is) e) ∙ ap (λ l. l ++ n ∷ []) has.disjuncts_are;
}

-- the lines are below n, and each below the one before it
abbrev pub Descends : ℕ → List ℕ → Type 0
Descends n [] = Unit {0}
Descends n (j ∷ js) = (j < n) × Descends j js

pub descends_more : (n m : ℕ) (js : List ℕ) → n ≤ m → Descends n js → Descends m js
descends_more n m [] more d = tt
descends_more n m (j ∷ js) more d = (omega (arith, more, d.0), d.1)

descends_after : (k : LineKind) (n : ℕ) (js : List ℕ) → Descends n js → Descends (suc n) (open_after k n js)
descends_after RowLine n js d = descends_more n (suc n) js (omega arith) d
descends_after LogicLine n js d = descends_more n (suc n) js (omega arith) d
descends_after DisjunctionLine n js d = (omega arith, d)
descends_after DisjunctLine n js d = (omega arith, d)
descends_after EndLine n [] d = tt
descends_after EndLine n (j ∷ js) d = descends_more j (suc n) js (omega (arith, d.0)) d.1
descends_after OtherLine n js d = descends_more n (suc n) js (omega arith) d

pub descends : (kinds : Kinds) (n : ℕ) → Descends n (open_before kinds n)
unfolding open_before
descends kinds zero = tt
descends kinds (suc n) = descends_after (kinds n) n (open_before kinds n) (descends kinds n)

-- a line to come owns nothing yet
fresh : (kinds : Kinds) (test : LineKind → Bool) (j n : ℕ) → n ≤ suc j → owned kinds test (Some j) n ≡ []
unfolding owned
fresh kinds test j zero within = refl
fresh kinds test j (suc n) within =
    owned_other kinds test (Some j) n (and_right (test (kinds n)) (same_owner (Some j) (owner kinds n)) (above (open_before kinds n) (descends kinds n)))
    ∙ fresh kinds test j n (omega (arith, within))
  where
    above : (st : List ℕ) → Descends n st → same_owner (Some j) (first_of st) ≡ false
    above [] d = refl
    above (k ∷ ks) d = other_above j k (omega (arith, d.0, within))

pub new_owner : (kinds : Kinds) (n : ℕ) → Has kinds (suc n) (Some n) [] [] [] []
new_owner kinds n = record {
  rows_are = fresh kinds is_row n (suc n) (omega arith);
  props_are = fresh kinds is_logic n (suc n) (omega arith);
  disjunctions_are = fresh kinds is_disjunction n (suc n) (omega arith);
  disjuncts_are = fresh kinds is_disjunct n (suc n) (omega arith);
}

-- line j is not among the lines
abbrev Absent : ℕ → List ℕ → Type 0
Absent j [] = Unit {0}
Absent j (k ∷ ks) = (k ≡ j → ⊥) × Absent j ks

-- line j came before line n, and what it opened is closed
abbrev pub Gone : Kinds → ℕ → ℕ → Type 0
Gone kinds n j = (j < n) × Absent j (open_before kinds n)

below_absent : (j : ℕ) (ks : List ℕ) → Descends j ks → Absent j ks
below_absent j [] d = tt
below_absent j (k ∷ ks) d = ((λ e. omega (arith, e, d.0)), below_absent j ks (descends_more k j ks (omega (arith, d.0)) d.1))

absent_after : (k : LineKind) (n j : ℕ) (st : List ℕ) → j < n → Absent j st → Absent j (open_after k n st)
absent_after RowLine n j st less a = a
absent_after LogicLine n j st less a = a
absent_after DisjunctionLine n j st less a = ((λ e. omega (arith, e, less)), a)
absent_after DisjunctLine n j st less a = ((λ e. omega (arith, e, less)), a)
absent_after EndLine n j [] less a = tt
absent_after EndLine n j (k ∷ ks) less a = a.1
absent_after OtherLine n j st less a = a

gone_later : (kinds : Kinds) (n j : ℕ) → Gone kinds n j → Gone kinds (suc n) j
unfolding open_before
gone_later kinds n j g = (omega (arith, g.0), absent_after (kinds n) n j (open_before kinds n) g.0 g.1)

gone_keeps : (kinds : Kinds) (n j : ℕ) → Gone kinds n j → Keeps kinds n (Some j)
gone_keeps kinds n j g = keep_owner kinds n (Some j) (apart (open_before kinds n) g.1)
  where
    apart : (st : List ℕ) → Absent j st → same_owner (Some j) (first_of st) ≡ false
    apart [] a = refl
    apart (k ∷ ks) a = other_apart j k a.0

-- what the line on top opened is gone where what is below it is open
pub gone_now : (kinds : Kinds) (n j : ℕ) (below : List ℕ) → open_before kinds n ≡ j ∷ below → open_before kinds (suc n) ≡ below → Gone kinds (suc n) j
gone_now kinds n j below was is =
    let d : Descends n (j ∷ below) = subst (λ (st : List ℕ). Descends n st) was (descends kinds n) in
    (omega (arith, d.0), subst (λ (st : List ℕ). Absent j st) (sym is) (below_absent j below d.1))

-- A tree that is closed before line n: what it holds is what its lines own.
abbrev mutual
  pub BlockStands : Kinds → ℕ → Option ℕ → BlockTree → Type 0
  BlockStands kinds n o (block items ds) = Has kinds n o (row_marks items.rows) (prop_marks items.props) (disjunction_marks ds) [] × DisjunctionsStand kinds n ds

  pub DisjunctionsStand : Kinds → ℕ → Disjunctions → Type 0
  DisjunctionsStand kinds n no_disjunctions = Unit {0}
  DisjunctionsStand kinds n (disjunction head js ds) = Gone kinds n head.mark × Has kinds n (Some head.mark) [] [] [] (disjunct_marks js) × DisjunctsStand kinds n js × DisjunctionsStand kinds n ds

  pub DisjunctsStand : Kinds → ℕ → Disjuncts → Type 0
  DisjunctsStand kinds n no_disjuncts = Unit {0}
  DisjunctsStand kinds n (disjunct head b js) = Gone kinds n head.mark × BlockStands kinds n (Some head.mark) b × DisjunctsStand kinds n js

-- what is closed stays as it is
mutual
  pub block_later : (kinds : Kinds) (n : ℕ) (o : Option ℕ) (b : BlockTree) → Keeps kinds n o → BlockStands kinds n o b → BlockStands kinds (suc n) o b
  block_later kinds n o (block items ds) keeps s = (keeps (row_marks items.rows) (prop_marks items.props) (disjunction_marks ds) [] s.0, disjunctions_later kinds n ds s.1)

  pub disjunctions_later : (kinds : Kinds) (n : ℕ) (ds : Disjunctions) → DisjunctionsStand kinds n ds → DisjunctionsStand kinds (suc n) ds
  disjunctions_later kinds n no_disjunctions s = tt
  disjunctions_later kinds n (disjunction head js ds) s =
      (gone_later kinds n head.mark s.0, gone_keeps kinds n head.mark s.0 [] [] [] (disjunct_marks js) s.1, disjuncts_later kinds n js s.2, disjunctions_later kinds n ds s.3)

  pub disjuncts_later : (kinds : Kinds) (n : ℕ) (js : Disjuncts) → DisjunctsStand kinds n js → DisjunctsStand kinds (suc n) js
  disjuncts_later kinds n no_disjuncts s = tt
  disjuncts_later kinds n (disjunct head b js) s =
      (gone_later kinds n head.mark s.0, block_later kinds n (Some head.mark) b (gone_keeps kinds n head.mark s.0) s.1, disjuncts_later kinds n js s.2)

-- one more at the end
pub disjunctions_push : (kinds : Kinds) (n : ℕ) (ds : List DisjunctionTree) (d : DisjunctionTree) → DisjunctionsStand kinds n (disjunctions ds)
    → Gone kinds n d.0.mark → Has kinds n (Some d.0.mark) [] [] [] (disjunct_marks d.1) → DisjunctsStand kinds n d.1 → DisjunctionsStand kinds n (disjunctions (ds ++ d ∷ []))
disjunctions_push kinds n [] d s g has js = (g, has, js, tt)
disjunctions_push kinds n (x ∷ ds) d s g has js = (s.0, s.1, s.2, disjunctions_push kinds n ds d s.3 g has js)

pub disjuncts_push : (kinds : Kinds) (n : ℕ) (js : List DisjunctTree) (j : DisjunctTree) → DisjunctsStand kinds n (disjuncts js)
    → Gone kinds n j.0.mark → BlockStands kinds n (Some j.0.mark) j.1 → DisjunctsStand kinds n (disjuncts (js ++ j ∷ []))
disjuncts_push kinds n [] j s g b = (g, b, tt)
disjuncts_push kinds n (x ∷ js) j s g b = (s.0, s.1, disjuncts_push kinds n js j s.2 g b)

pub disjunction_marks_push : (ds : List DisjunctionTree) (d : DisjunctionTree) → disjunction_marks (disjunctions (ds ++ d ∷ [])) ≡ disjunction_marks (disjunctions ds) ++ d.0.mark ∷ []
disjunction_marks_push [] d = refl
disjunction_marks_push (x ∷ ds) d = ap (λ l. x.0.mark ∷ l) (disjunction_marks_push ds d)

pub disjunct_marks_push : (js : List DisjunctTree) (j : DisjunctTree) → disjunct_marks (disjuncts (js ++ j ∷ [])) ≡ disjunct_marks (disjuncts js) ++ j.0.mark ∷ []
disjunct_marks_push [] j = refl
disjunct_marks_push (x ∷ js) j = ap (λ l. x.0.mark ∷ l) (disjunct_marks_push js j)

pub row_marks_push : (rows : List (RowValue × ℕ)) (r : RowValue × ℕ) → row_marks (rows ++ r ∷ []) ≡ row_marks rows ++ r.1 ∷ []
row_marks_push [] r = refl
row_marks_push (x ∷ rows) r = ap (λ l. x.1 ∷ l) (row_marks_push rows r)

pub prop_marks_push : (props : List (PropTree × ℕ)) (q : PropTree × ℕ) → prop_marks (props ++ q ∷ []) ≡ prop_marks props ++ q.1 ∷ []
prop_marks_push [] q = refl
prop_marks_push (x ∷ props) q = ap (λ l. x.1 ∷ l) (prop_marks_push props q)
