-- Columns and rows that a builder takes or refuses.
use Rattle.std.proofs.Common.{◌≡◌, ℕ, suc, ◌+◌, ◌^◌, ◌<◌, ◌≤◌, ℤ, Bool, true, false, ◌&&◌, ◌||◌, not, List, [], ◌∷◌, ◌++◌, length, Option, Some, None, Result, Ok, Err, ◌⊎◌, inl, inr, refl, ap, sym, subst, ◌∙◌, arith, append-nil, append_assoc, get_or, drop}
use Rattle.std.specs.Prelude.{unsigned_abs, nat_le, nat_lt, nat_eq}
use Rattle.std.specs.List.{list_all}
use Rattle.std.proofs.lemmas.Bool.{cond-false}
use Rattle.std.proofs.lemmas.Bool.Decides.{nat_tests}
use Rattle.lp_rows.specs.declared.columns.Col.{Col}
use Rattle.lp_rows.specs.declared.columns.Sign.{Sign}
use Rattle.lp_rows.specs.declared.columns.Sign.TheVariants.{Free, Nonneg}
use Rattle.lp_rows.specs.declared.kinds.Rel.{Rel}
use Rattle.lp_rows.specs.declared.kinds.Sense.{Sense}
use Rattle.lp_rows.specs.Holding.{ids_below}
use Rattle.lp_rows.specs.Rows.{RowValue, ascends_from, has_zero, are_storable, is_storable}
use Rattle.outcomes.specs.Calls.{Acts, unless, refuse_if}
use Rattle.text_grammar.proofs.Bools.{both, and_true, told}
use Rattle.milps.specs.declared.builder.MilpError.{MilpError}
use Rattle.milps.specs.declared.builder.MilpError.TheVariants as error
use Rattle.milps.specs.Building.{width_of, height_of, bounds_of, width, bounds_height, rows_height, height, refusal_of_col, col_outcome, refusal_of_row, row_outcome, refusal_of_goal, goal_outcome, are_summable}
use Rattle.milps.specs.Milps.{MilpValue, add_term, gathered_among, without_zeros, normal_terms}
use Rattle.milps.proofs.Lists.{drop_level}
use Rattle.lp_grammar.specs.Programs.{AreStored, IsStoredRow}
use Rattle.lp_grammar.specs.Reading.{is_within}
use Rattle.lp_parts.specs.Grown.{with_cols, with_rows, Grows}

is_le : (a b : ℕ) → a ≤ b → nat_le a b ≡ true
is_le a b h = grind (arith, nat_tests)

at_most : (a b : ℕ) → nat_le a b ≡ true → a ≤ b
at_most a b h = grind (arith, nat_tests)

less : (a b : ℕ) → nat_lt a b ≡ true → a < b
less a b h = grind (arith, nat_tests)

not_less : (a b : ℕ) → nat_lt a b ≡ false → b ≤ a
not_less a b h = grind (arith, nat_tests)

neither : (a b : Bool) → (a || b) ≡ false → (a ≡ false) × (b ≡ false)
neither true b e = absurd (cc e)
neither false b e = (refl, e)

either : (a b : Bool) → (a || b) ≡ true → (a ≡ true) ⊎ (b ≡ true)
either true b e = inl refl
either false b e = inr e

-- ---- the measures of what is appended
pub width_both : (xs ys : List Col) → width (xs ++ ys) ≡ width xs + width ys
width_both [] ys = omega arith
width_both (x ∷ xs) ys = let below = width_both xs ys in omega (arith, below)

pub bounds_both : (xs ys : List Col) → bounds_height (xs ++ ys) ≡ bounds_height xs + bounds_height ys
bounds_both [] ys = omega arith
bounds_both (x ∷ xs) ys = let below = bounds_both xs ys in omega (arith, below)

pub rows_both : (xs ys : List RowValue) → rows_height (xs ++ ys) ≡ rows_height xs + rows_height ys
rows_both [] ys = omega arith
rows_both (x ∷ xs) ys = let below = rows_both xs ys in omega (arith, below)

some_width : (s : Sign) → 1 ≤ width_of s
some_width Free = omega arith
some_width Nonneg = omega arith

pub length_width : (cs : List Col) → length cs ≤ width cs
length_width [] = omega arith
length_width (c ∷ cs) = let below = length_width cs in let one = some_width c.sign in omega (arith, below, one)

-- ---- within the limits, or past one
within : (m : MilpValue) → width m.cols ≤ 4000 → height m ≤ 3000 → is_within m ≡ true
within m w h = and_true (nat_le (width m.cols) 4000) (nat_le (height m) 3000) (is_le (width m.cols) 4000 w) (is_le (height m) 3000 h)

pub few_within : (m : MilpValue) → is_within m ≡ true → (width m.cols ≤ 4000) × (height m ≤ 3000)
few_within m e = let parts = both (nat_le (width m.cols) 4000) (nat_le (height m) 3000) e in (at_most (width m.cols) 4000 parts.0, at_most (height m) 3000 parts.1)

past_width : (m : MilpValue) → 4000 < width m.cols → is_within m ≡ false
past_width m h = ap (λ (b : Bool). b && nat_le (height m) 3000) (no (width m.cols) h)
  where
    no : (n : ℕ) → 4000 < n → nat_le n 4000 ≡ false
    no n h = grind (arith, nat_tests)

past_height : (m : MilpValue) → 3000 < height m → is_within m ≡ false
past_height m h = ap (λ (b : Bool). nat_le (width m.cols) 4000 && b) (no (height m) h) ∙ never (nat_le (width m.cols) 4000)
  where
    no : (n : ℕ) → 3000 < n → nat_le n 3000 ≡ false
    no n h = grind (arith, nat_tests)

    never : (b : Bool) → (b && false) ≡ false
    never true = refl
    never false = refl

-- what passes a limit passes it with more
pub past_more : (m n : MilpValue) → is_within m ≡ false → width m.cols ≤ width n.cols → height m ≤ height n → is_within n ≡ false
past_more m n e w h = go (told (is_within n))
  where
    go : (is_within n ≡ true) ⊎ (is_within n ≡ false) → is_within n ≡ false
    go (inr f) = f
    go (inl t) =
        let few = few_within n t in
        absurd (cc (sym e ∙ within m (omega (arith, few.0, w)) (omega (arith, few.1, h))))

-- ---- a column
col_none : (c : Col) (m : MilpValue) (n : ℕ) (new : MilpValue) (o : Option MilpError) → refusal_of_col c m ≡ o
    → Acts error.Memory m (unless o m (length m.cols) (record m { cols = m.cols ++ c ∷ [] })) (Ok n) new → Grows true new (with_cols m (c ∷ []))
col_none c m n new (Some r) e (inl h) = absurd (cc h.0)
col_none c m n new (Some r) e (inr h) = absurd (cc h.0)
col_none c m n new None e (inr h) = absurd (cc h.0)
col_none c m n new None e (inl h) = (h.1, go (nat_lt 4000 (width m.cols + width_of c.sign) || nat_lt 3000 (height m + bounds_of c.kind)) refl e)
  where
    go : (b : Bool) → (nat_lt 4000 (width m.cols + width_of c.sign) || nat_lt 3000 (height m + bounds_of c.kind)) ≡ b → refuse_if b error.TooBig None ≡ None → is_within (with_cols m (c ∷ [])) ≡ true
    go true t e = absurd (cc e)
    go false t e =
        let parts = neither (nat_lt 4000 (width m.cols + width_of c.sign)) (nat_lt 3000 (height m + bounds_of c.kind)) t in
        let w = not_less 4000 (width m.cols + width_of c.sign) parts.0 in
        let h = not_less 3000 (height m + bounds_of c.kind) parts.1 in
        within (with_cols m (c ∷ [])) (omega (arith, w, width_both m.cols (c ∷ []))) (omega (arith, h, bounds_both m.cols (c ∷ [])))

pub col_fits : (c : Col) (m : MilpValue) (n : ℕ) (new : MilpValue) → Acts error.Memory m (col_outcome c m) (Ok n) new → Grows true new (with_cols m (c ∷ []))
col_fits c m n new h = col_none c m n new (refusal_of_col c m) refl h

col_some : (c : Col) (m : MilpValue) (r : MilpError) (new : MilpValue) (o : Option MilpError) → refusal_of_col c m ≡ o → (r ≡ error.Memory → ⊥)
    → Acts error.Memory m (unless o m (length m.cols) (record m { cols = m.cols ++ c ∷ [] })) (Err r) new → (more : List Col) → is_within (with_cols m (c ∷ more)) ≡ false
col_some c m r new o e other (inr h) more = absurd (other (cc h.0))
col_some c m r new None e other (inl h) more = absurd (cc h.0)
col_some c m r new (Some x) e other (inl h) more = go (nat_lt 4000 (width m.cols + width_of c.sign) || nat_lt 3000 (height m + bounds_of c.kind)) refl e
  where
    go : (b : Bool) → (nat_lt 4000 (width m.cols + width_of c.sign) || nat_lt 3000 (height m + bounds_of c.kind)) ≡ b → refuse_if b error.TooBig None ≡ Some x → is_within (with_cols m (c ∷ more)) ≡ false
    go false t e = absurd (cc e)
    go true t e = elim (either (nat_lt 4000 (width m.cols + width_of c.sign)) (nat_lt 3000 (height m + bounds_of c.kind)) t) [
      | inl w ↦ past_width (with_cols m (c ∷ more)) (omega (arith, less 4000 (width m.cols + width_of c.sign) w, width_both m.cols (c ∷ more)))
      | inr h ↦ past_height (with_cols m (c ∷ more)) (omega (arith, less 3000 (height m + bounds_of c.kind) h, bounds_both m.cols (c ∷ more)))
    ]

-- a refusal for another cause than memory that ran out
not_memory : (x y : MilpError) → x ≡ y → (y ≡ error.Memory → ⊥) → x ≡ error.Memory → ⊥
not_memory x y e other h = other (sym e ∙ h)

pub col_past : (c : Col) (m new : MilpValue) (x : MilpError) → x ≡ error.TooBig → Acts error.Memory m (col_outcome c m) (Err x) new → (more : List Col) → is_within (with_cols m (c ∷ more)) ≡ false
col_past c m new x is h more = col_some c m x new (refusal_of_col c m) refl (not_memory x error.TooBig is (λ e. absurd (cc e))) h more

-- ---- terms that are stored stay as they are
add_last : (t : ℕ × ℤ) (placed : List (ℕ × ℤ)) → list_all (λ u. nat_lt u.0 t.0) placed ≡ true → add_term t placed ≡ placed ++ t ∷ []
add_last t [] h = refl
add_last t (u ∷ us) h =
    let a = both (nat_lt u.0 t.0) (list_all (λ v. nat_lt v.0 t.0) us) h in
    cond-false (nat_lt t.0 u.0) _ _ (other u.0 t.0 a.0) ∙ cond-false (nat_eq t.0 u.0) _ _ (unlike u.0 t.0 a.0) ∙ ap (λ (l : List (ℕ × ℤ)). u ∷ l) (add_last t us a.1)
  where
    other : (x y : ℕ) → nat_lt x y ≡ true → nat_lt y x ≡ false
    other x y p = grind (arith, nat_tests)

    unlike : (x y : ℕ) → nat_lt x y ≡ true → nat_eq y x ≡ false
    unlike x y p = grind (arith, nat_tests)

below_up : (k l : ℕ) (placed : List (ℕ × ℤ)) → k ≤ l → list_all (λ u. nat_lt u.0 k) placed ≡ true → list_all (λ u. nat_lt u.0 l) placed ≡ true
below_up k l [] le h = refl
below_up k l (u ∷ us) le h =
    let a = both (nat_lt u.0 k) (list_all (λ v. nat_lt v.0 k) us) h in
    and_true (nat_lt u.0 l) (list_all (λ v. nat_lt v.0 l) us) (more u.0 k l a.0 le) (below_up k l us le a.1)
  where
    more : (x y z : ℕ) → nat_lt x y ≡ true → y ≤ z → nat_lt x z ≡ true
    more x y z p q = grind (arith, nat_tests)

below_last : (k : ℕ) (placed : List (ℕ × ℤ)) (t : ℕ × ℤ) → k ≤ t.0 → list_all (λ u. nat_lt u.0 k) placed ≡ true → list_all (λ u. nat_lt u.0 (suc t.0)) (placed ++ t ∷ []) ≡ true
below_last k [] t le h = and_true (nat_lt t.0 (suc t.0)) true (next t.0) refl
  where
    next : (x : ℕ) → nat_lt x (suc x) ≡ true
    next x = grind (arith, nat_tests)
below_last k (u ∷ us) t le h =
    let a = both (nat_lt u.0 k) (list_all (λ v. nat_lt v.0 k) us) h in
    and_true (nat_lt u.0 (suc t.0)) (list_all (λ v. nat_lt v.0 (suc t.0)) (us ++ t ∷ [])) (more u.0 k t.0 a.0 le) (below_last k us t le a.1)
  where
    more : (x y z : ℕ) → nat_lt x y ≡ true → y ≤ z → nat_lt x (suc z) ≡ true
    more x y z p q = grind (arith, nat_tests)

gathered_again : (least : ℕ) (placed ts : List (ℕ × ℤ)) → list_all (λ u. nat_lt u.0 least) placed ≡ true → ascends_from least ts ≡ true → gathered_among placed ts ≡ placed ++ ts
gathered_again least placed [] h a = sym (append-nil placed)
gathered_again least placed (t ∷ ts) h a =
    let parts = both (nat_le least t.0) (ascends_from (suc t.0) ts) a in
    let le = at_most least t.0 parts.0 in
    ap (λ (l : List (ℕ × ℤ)). gathered_among l ts) (add_last t placed (below_up least t.0 placed le h))
    ∙ gathered_again (suc t.0) (placed ++ t ∷ []) ts (below_last least placed t le h) parts.1
    ∙ append_assoc placed (t ∷ []) ts

no_zeros : (ts : List (ℕ × ℤ)) → has_zero ts ≡ false → without_zeros ts ≡ ts
no_zeros [] z = refl
no_zeros (t ∷ ts) z =
    let none = neither (nat_eq (unsigned_abs t.1) 0) (has_zero ts) z in
    cond-false (nat_eq (unsigned_abs t.1) 0) _ _ none.0 ∙ ap (λ (l : List (ℕ × ℤ)). t ∷ l) (no_zeros ts none.1)

pub normal_again : (n : ℕ) (ts : List (ℕ × ℤ)) → AreStored n ts → normal_terms ts ≡ ts
normal_again n ts is = ap without_zeros (gathered_again 0 [] ts refl is.ascend) ∙ no_zeros ts is.none

small_summable : (z : ℤ) → is_storable z ≡ true → nat_le (unsigned_abs z) (10 ^ 34) ≡ true
small_summable z h = grind (arith, nat_tests)

pub stored_summable : (ts : List (ℕ × ℤ)) → are_storable ts ≡ true → are_summable ts ≡ true
stored_summable [] h = refl
stored_summable (t ∷ ts) h = let parts = both (is_storable t.1) (are_storable ts) h in and_true (nat_le (unsigned_abs t.1) (10 ^ 34)) (are_summable ts) (small_summable t.1 parts.0) (stored_summable ts parts.1)

few_from : (least n : ℕ) (ts : List (ℕ × ℤ)) → least ≤ n → ascends_from least ts ≡ true → ids_below n ts ≡ true → least + length ts ≤ n
few_from least n [] le a h = omega (arith, le)
few_from least n (t ∷ ts) le a h =
    let up = both (nat_le least t.0) (ascends_from (suc t.0) ts) a in
    let below = both (nat_lt t.0 n) (ids_below n ts) h in
    let lower = at_most least t.0 up.0 in
    let upper = less t.0 n below.0 in
    let rest = few_from (suc t.0) n ts (omega (arith, upper)) up.1 below.1 in
    omega (arith, rest, lower)

pub few_terms : (m : MilpValue) (ts : List (ℕ × ℤ)) → is_within m ≡ true → AreStored (length m.cols) ts → length ts ≤ 4000
few_terms m ts e is =
    let few = few_from 0 (length m.cols) ts (omega arith) is.ascend is.below in
    let cols = length_width m.cols in
    let all = (few_within m e).0 in
    omega (arith, few, cols, all)

-- ---- a row
row_tests : (r : RowValue) → are_storable r.terms ≡ true → is_storable r.right ≡ true → (m : MilpValue) → refusal_of_row r m ≡ refuse_if (nat_lt 3000 (height m + height_of r.rel)) error.TooBig None
row_tests r s t m = ap (λ (b : Bool). refuse_if (not b) error.Coefficient (refuse_if (nat_lt 3000 (height m + height_of r.rel)) error.TooBig None)) (and_true (are_storable r.terms) (is_storable r.right) s t)

-- what a builder does with a row that is stored
row_does : (r : RowValue) (m : MilpValue) → IsStoredRow (length m.cols) r
    → row_outcome r m ≡ unless (refuse_if (nat_lt 3000 (height m + height_of r.rel)) error.TooBig None) m (tt {0}) (with_rows m (r ∷ []))
row_does r m is =
    ap (λ (l : List (ℕ × ℤ)). unless (refusal_of_row (record { terms = l; rel = r.rel; right = r.right }) m) m (tt {0}) (record m { rows = m.rows ++ record { terms = l; rel = r.rel; right = r.right } ∷ [] })) (normal_again (length m.cols) r.terms is.terms)
    ∙ ap (λ (o : Option MilpError). unless o m (tt {0}) (with_rows m (r ∷ []))) (row_tests r is.terms.small is.right m)

row_none : (r : RowValue) (m new : MilpValue) (u : Unit {0}) (b : Bool) → is_within m ≡ true → nat_lt 3000 (height m + height_of r.rel) ≡ b
    → Acts error.Memory m (unless (refuse_if b error.TooBig None) m (tt {0}) (with_rows m (r ∷ []))) (Ok u) new → Grows true new (with_rows m (r ∷ []))
row_none r m new u true w e (inl h) = absurd (cc h.0)
row_none r m new u true w e (inr h) = absurd (cc h.0)
row_none r m new u false w e (inr h) = absurd (cc h.0)
row_none r m new u false w e (inl h) =
    let up = not_less 3000 (height m + height_of r.rel) e in
    (h.1, within (with_rows m (r ∷ [])) (few_within m w).0 (omega (arith, up, rows_both m.rows (r ∷ []))))

pub row_fits : (r : RowValue) (m new : MilpValue) (u : Unit {0}) → IsStoredRow (length m.cols) r → is_within m ≡ true → Acts error.Memory m (row_outcome r m) (Ok u) new → Grows true new (with_rows m (r ∷ []))
row_fits r m new u is w h = row_none r m new u (nat_lt 3000 (height m + height_of r.rel)) w refl (subst (λ (o : Result (Unit {0}) MilpError × MilpValue). Acts error.Memory m o (Ok u) new) (row_does r m is) h)

row_some : (r : RowValue) (m : MilpValue) (x : MilpError) (new : MilpValue) (b : Bool) → nat_lt 3000 (height m + height_of r.rel) ≡ b → (x ≡ error.Memory → ⊥)
    → Acts error.Memory m (unless (refuse_if b error.TooBig None) m (tt {0}) (with_rows m (r ∷ []))) (Err x) new → (more : List RowValue) → is_within (with_rows m (r ∷ more)) ≡ false
row_some r m x new b e other (inr h) more = absurd (other (cc h.0))
row_some r m x new false e other (inl h) more = absurd (cc h.0)
row_some r m x new true e other (inl h) more = past_height (with_rows m (r ∷ more)) (omega (arith, less 3000 (height m + height_of r.rel) e, rows_both m.rows (r ∷ more)))

pub row_past : (r : RowValue) (m new : MilpValue) (x : MilpError) → x ≡ error.TooBig → IsStoredRow (length m.cols) r → Acts error.Memory m (row_outcome r m) (Err x) new → (more : List RowValue) → is_within (with_rows m (r ∷ more)) ≡ false
row_past r m new x why is h more =
    row_some r m x new (nat_lt 3000 (height m + height_of r.rel)) refl (not_memory x error.TooBig why (λ e. absurd (cc e)))
    (subst (λ (o : Result (Unit {0}) MilpError × MilpValue). Acts error.Memory m o (Err x) new) (row_does r m is) h) more

-- no number of a stored row is refused
pub row_stored : (r : RowValue) (m new : MilpValue) (x : MilpError) → x ≡ error.Coefficient → IsStoredRow (length m.cols) r → Acts error.Memory m (row_outcome r m) (Err x) new → ⊥
row_stored r m new x why is h =
    go (nat_lt 3000 (height m + height_of r.rel))
    (subst (λ (y : MilpError). Acts error.Memory m (unless (refuse_if (nat_lt 3000 (height m + height_of r.rel)) error.TooBig None) m (tt {0}) (with_rows m (r ∷ []))) (Err y) new) why
    (subst (λ (o : Result (Unit {0}) MilpError × MilpValue). Acts error.Memory m o (Err x) new) (row_does r m is) h))
  where
    go : (b : Bool) → Acts error.Memory m (unless (refuse_if b error.TooBig None) m (tt {0}) (with_rows m (r ∷ []))) (Err error.Coefficient) new → ⊥
    go true (inl h) = absurd (cc h.0)
    go true (inr h) = absurd (cc h.0)
    go false (inl h) = absurd (cc h.0)
    go false (inr h) = absurd (cc h.0)

-- ---- the goal
goal_does : (sense : Sense) (ts : List (ℕ × ℤ)) (m : MilpValue) → AreStored (length m.cols) ts → goal_outcome sense ts m ≡ (Ok (tt {0}), record m { sense = sense; goal = ts })
goal_does sense ts m is =
    ap (λ (l : List (ℕ × ℤ)). unless (refusal_of_goal l) m (tt {0}) (record m { sense = sense; goal = l })) (normal_again (length m.cols) ts is)
    ∙ ap (λ (b : Bool). unless (refuse_if (not b) error.Coefficient None) m (tt {0}) (record m { sense = sense; goal = ts })) is.small

pub goal_fits : (sense : Sense) (ts : List (ℕ × ℤ)) (m new : MilpValue) (u : Unit {0}) → AreStored (length m.cols) ts → Acts error.Memory m (goal_outcome sense ts m) (Ok u) new → new ≡ record m { sense = sense; goal = ts }
goal_fits sense ts m new u is h = go (subst (λ (o : Result (Unit {0}) MilpError × MilpValue). Acts error.Memory m o (Ok u) new) (goal_does sense ts m is) h)
  where
    go : Acts error.Memory m (Ok (tt {0}), record m { sense = sense; goal = ts }) (Ok u) new → new ≡ record m { sense = sense; goal = ts }
    go (inl h) = h.1
    go (inr h) = absurd (cc h.0)

-- a goal that is stored is not refused
pub goal_taken : (sense : Sense) (ts : List (ℕ × ℤ)) (m new : MilpValue) (x : MilpError) → x ≡ error.Coefficient → AreStored (length m.cols) ts → Acts error.Memory m (goal_outcome sense ts m) (Err x) new → ⊥
goal_taken sense ts m new x why is h = go (subst (λ (o : Result (Unit {0}) MilpError × MilpValue). Acts error.Memory m o (Err x) new) (goal_does sense ts m is) h)
  where
    go : Acts error.Memory m (Ok (tt {0}), record m { sense = sense; goal = ts }) (Err x) new → ⊥
    go (inl h) = absurd (cc h.0)
    go (inr h) = not_memory x error.Coefficient why (λ e. absurd (cc e)) (cc h.0)

-- ---- rows that are left
pub rows_past : (m n : MilpValue) (rows : List RowValue) (i : ℕ) (r s : RowValue) → i < length rows → r ≡ get_or rows i r → with_rows m (drop i rows) ≡ with_rows n rows → s ≡ r
    → ((more : List RowValue) → is_within (with_rows m (s ∷ more)) ≡ false) → is_within (with_rows n rows) ≡ false
rows_past m n rows i r s inside is same told past =
    sym (ap is_within same) ∙ ap (λ (l : List RowValue). is_within (with_rows m l)) (drop_level rows i r inside is)
    ∙ ap (λ (x : RowValue). is_within (with_rows m (x ∷ drop (i + 1) rows))) (sym told) ∙ past (drop (i + 1) rows)

-- a row by its parts
pub row_read : (r : RowValue) (ts : List (ℕ × ℤ)) (rel : Rel) (z : ℤ) → ts ≡ r.terms → rel ≡ r.rel → z ≡ r.right → record { terms = ts; rel = rel; right = z } ≡ r
row_read r ts rel z e f g = (λ i. record { terms = e i; rel = f i; right = g i })

-- what a test says
pub grown_true : (b : Bool) (now all : MilpValue) → b ≡ true → Grows b now all → (now ≡ all) × (is_within all ≡ true)
grown_true true now all e g = g
grown_true false now all e g = absurd (cc e)

pub grown_false : (b : Bool) (now all : MilpValue) → b ≡ false → Grows b now all → is_within all ≡ false
grown_false true now all e g = absurd (cc e)
grown_false false now all e g = g
