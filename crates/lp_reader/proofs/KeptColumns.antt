-- Columns that are changed or added are kept.
use Rattle.std.proofs.Common.{◌≡◌, ℕ, zero, suc, ◌+◌, ◌*◌, ◌/◌, ◌^◌, ◌<◌, ℤ, pos, negsuc, neg_ℤ, Bool, true, false, ◌&&◌, if◌then◌else◌, List, [], ◌∷◌, ◌++◌, length, map, Option, Some, None, refl, ap, subst, ◌∙◌, arith}
use Rattle.std.specs.Prelude.{unsigned_abs, nat_le, nat_eq}
use Rattle.std.proofs.Math.Nat.{div-mul_cancel}
use Rattle.std.proofs.lemmas.Bool.Decides.{nat_tests}
use Rattle.fractions.specs.Fraction.{Fraction}
use Rattle.lp_rows.specs.declared.kinds.Rel.{Rel}
use Rattle.lp_rows.specs.declared.kinds.Rel.TheVariants.{AtMost, AtLeast, Equal}
use Rattle.lp_rows.specs.Rows.{RowValue, is_storable}
use Rattle.text_grammar.specs.Digits.{value_of}
use Rattle.text_grammar.proofs.Bools.{both}
use Rattle.milps.specs.Building.{height_of, rows_height, bounds_of, bounds_height}
use Rattle.lp_grammar.specs.declared.stage.Column.{Column}
use Rattle.lp_grammar.specs.Programs.{AreStored, IsStoredRow, AreStoredRows}
use Rattle.lp_grammar.specs.Reading.{col_of, column_kind, integer_change, signed_value}
use Rattle.lp_grammar.specs.Scaling.{divisor_of, lowest, whole}
use Rattle.lp_grammar.specs.Taking.{new_column, changed_at, added_rows, bounded_by, freed, power_if, over_part, under_part, if_small, numeral_value, is_huge, turned_if, or_one}
use Rattle.lp_grammar.specs.Tokens.{Numeral}
use Rattle.lp_grammar.proofs.Scales.{divisor_is}
use Rattle.lp_parts.specs.Stored.{IsStoredFraction, IsStoredBound, AreStoredBounds}
use Rattle.lp_parts.proofs.KeptTerms.{below_more}

-- ---- the values of numbers
power_some : (k : ℕ) → 0 < 10 ^ k
power_some zero = omega arith
power_some (suc k) = omega (arith, power_some k)

power_if_some : (b : Bool) (k : ℕ) → 0 < power_if b k
power_if_some true k = power_some k
power_if_some false k = omega arith

both_some : (a b : ℕ) → 0 < a → 0 < b → 0 < a * b
both_some (suc a) (suc b) p q = omega arith
both_some zero b p q = absurd (omega (arith, p))
both_some (suc a) zero p q = absurd (omega (arith, q))

factor_some : (q g : ℕ) → 0 < q * g → 0 < q
factor_some zero g p = absurd (omega (arith, p))
factor_some (suc q) g p = omega arith

not_zero : (n : ℕ) → 0 < n → nat_eq n 0 ≡ false
not_zero n h = grind (arith, nat_tests)

lowest_some : (p q : ℕ) → 0 < q → nat_eq (q / divisor_of p q) 0 ≡ false
lowest_some p q some = not_zero (q / divisor_of p q) (factor_some (q / divisor_of p q) (divisor_of p q) (omega (arith, some, div-mul_cancel (divisor_of p q) (divisor_is p q).1)))

if_small_kept : (f v : Fraction) → nat_eq (unsigned_abs f.den) 0 ≡ false → if_small f ≡ Some v → IsStoredFraction v
if_small_kept f v some e = go (is_storable f.num && is_storable f.den) refl e
  where
    go : (b : Bool) → (is_storable f.num && is_storable f.den) ≡ b → (if b then Some f else None) ≡ Some v → IsStoredFraction v
    go false h e = absurd (cc e)
    go true h e =
        let parts = both (is_storable f.num) (is_storable f.den) h in
        let same : f ≡ v = cc e in
        subst (λ (x : Fraction). IsStoredFraction x) same (record { num = parts.0; den = parts.1; some = some })

value_kept : (n : Numeral) (v : Fraction) → numeral_value n ≡ Some v → IsStoredFraction v
value_kept n v e = go (nat_le (value_of n.exponent.digits) 40) e
  where
    go : (b : Bool) → (if b then if_small (lowest (pos (over_part n)) (under_part n)) else None) ≡ Some v → IsStoredFraction v
    go false e = absurd (cc e)
    go true e =
        if_small_kept (lowest (pos (over_part n)) (under_part n)) v
        (lowest_some (over_part n) (under_part n) (both_some (10 ^ length n.places) (power_if n.exponent.is_negative (value_of n.exponent.digits)) (power_some (length n.places)) (power_if_some n.exponent.is_negative (value_of n.exponent.digits)))) e

same_size : (z : ℤ) → unsigned_abs (neg_ℤ z) ≡ unsigned_abs z
same_size (pos zero) = refl
same_size (pos (suc n)) = refl
same_size (negsuc n) = refl

turned_kept : (b : Bool) (f : Fraction) → IsStoredFraction f → IsStoredFraction (turned_if b f)
turned_kept false f k = k
turned_kept true f k = record { num = ap (λ (n : ℕ). nat_le n (10 ^ 15)) (same_size f.num) ∙ k.num; den = k.den; some = k.some }

one_kept : IsStoredFraction (whole (pos 1))
one_kept = record { num = refl; den = refl; some = refl }

zero_kept : IsStoredFraction (whole (pos 0))
zero_kept = record { num = refl; den = refl; some = refl }

or_one_kept : (n : Numeral) (o : Option Fraction) → numeral_value n ≡ o → IsStoredFraction (or_one o)
or_one_kept n None e = one_kept
or_one_kept n (Some v) e = value_kept n v e

-- a value of a bound
pub signed_kept : (is_negative : Bool) (n : Numeral) → IsStoredBound (signed_value is_negative n)
signed_kept is_negative n = go (is_huge n)
  where
    go : (b : Bool) → IsStoredBound (if b then None else Some (turned_if is_negative (or_one (numeral_value n))))
    go true = tt
    go false = turned_kept is_negative (or_one (numeral_value n)) (or_one_kept n (numeral_value n) refl)

-- ---- changes of a column
abbrev pub KeepsBounds : (Column → Column) → Type 0
KeepsBounds change = (c : Column) → IsStoredBound c.low × IsStoredBound c.high → IsStoredBound (change c).low × IsStoredBound (change c).high

abbrev pub KeepsKind : (Column → Column) → Type 0
KeepsKind change = (c : Column) → (change c).is_integer ≡ c.is_integer

pub bounded_bounds : (rel : Rel) (bound : Option Fraction) → IsStoredBound bound → KeepsBounds (bounded_by rel bound)
bounded_bounds AtMost bound k c h = (h.0, k)
bounded_bounds AtLeast bound k c h = (k, h.1)
bounded_bounds Equal bound k c h = (k, k)

pub bounded_kind : (rel : Rel) (bound : Option Fraction) → KeepsKind (bounded_by rel bound)
bounded_kind AtMost bound c = refl
bounded_kind AtLeast bound c = refl
bounded_kind Equal bound c = refl

pub freed_bounds : KeepsBounds freed
freed_bounds c h = (tt, tt)

pub freed_kind : KeepsKind freed
freed_kind c = refl

pub integer_bounds : (is_binary : Bool) → KeepsBounds (integer_change is_binary)
integer_bounds true c h = (zero_kept, one_kept)
integer_bounds false c h = h

pub changed_bounds : (id : ℕ) (change : Column → Column) (cs : List Column) → KeepsBounds change → AreStoredBounds cs → AreStoredBounds (changed_at id change cs)
changed_bounds id change [] keeps k = tt
changed_bounds zero change (c ∷ cs) keeps k = (keeps c k.0, k.1)
changed_bounds (suc id) change (c ∷ cs) keeps k = (k.0, changed_bounds id change cs keeps k.1)

pub changed_length : (id : ℕ) (change : Column → Column) (cs : List Column) → length (changed_at id change cs) ≡ length cs
changed_length id change [] = refl
changed_length zero change (c ∷ cs) = refl
changed_length (suc id) change (c ∷ cs) = ap suc (changed_length id change cs)

pub changed_height : (id : ℕ) (change : Column → Column) (cs : List Column) → KeepsKind change → bounds_height (map col_of (changed_at id change cs)) ≡ bounds_height (map col_of cs)
changed_height id change [] keeps = refl
changed_height zero change (c ∷ cs) keeps = ap (λ (b : Bool). bounds_of (column_kind b) + bounds_height (map col_of cs)) (keeps c)
changed_height (suc id) change (c ∷ cs) keeps = ap (λ (n : ℕ). bounds_of (column_kind c.is_integer) + n) (changed_height id change cs keeps)

pub integer_height : (is_binary : Bool) (id : ℕ) (cs : List Column) → bounds_height (map col_of (changed_at id (integer_change is_binary) cs)) ≡ bounds_height (map col_of cs) + added_rows id cs
integer_height is_binary id [] = refl
integer_height true zero (c ∷ cs) = go c.is_integer (bounds_height (map col_of cs))
  where
    go : (b : Bool) (n : ℕ) → 2 + n ≡ (bounds_of (column_kind b) + n) + (if b then 0 else 2)
    go true n = omega arith
    go false n = omega arith
integer_height false zero (c ∷ cs) = go c.is_integer (bounds_height (map col_of cs))
  where
    go : (b : Bool) (n : ℕ) → 2 + n ≡ (bounds_of (column_kind b) + n) + (if b then 0 else 2)
    go true n = omega arith
    go false n = omega arith
integer_height is_binary (suc id) (c ∷ cs) =
    let below = integer_height is_binary id cs in
    ap (λ (n : ℕ). bounds_of (column_kind c.is_integer) + n) below ∙ omega arith

-- ---- one column more, and one row more
pub new_bounds : (cs : List Column) → AreStoredBounds cs → AreStoredBounds (cs ++ new_column ∷ [])
new_bounds [] k = ((zero_kept, tt), tt)
new_bounds (c ∷ cs) k = (k.0, new_bounds cs k.1)

pub new_height : (cs : List Column) → bounds_height (map col_of (cs ++ new_column ∷ [])) ≡ bounds_height (map col_of cs)
new_height [] = refl
new_height (c ∷ cs) = ap (λ (n : ℕ). bounds_of (column_kind c.is_integer) + n) (new_height cs)

pub stored_more : (n : ℕ) (ts : List (ℕ × ℤ)) → AreStored n ts → AreStored (n + 1) ts
stored_more n ts k = record { ascend = k.ascend; none = k.none; small = k.small; below = below_more n ts k.below }

pub rows_more : (n : ℕ) (rs : List RowValue) → AreStoredRows n rs → AreStoredRows (n + 1) rs
rows_more n [] k = tt
rows_more n (r ∷ rs) k = (record { terms = stored_more n r.terms k.0.terms; right = k.0.right }, rows_more n rs k.1)

pub row_added : (n : ℕ) (rs : List RowValue) (r : RowValue) → AreStoredRows n rs → IsStoredRow n r → AreStoredRows n (rs ++ r ∷ [])
row_added n [] r k s = (s, tt)
row_added n (x ∷ rs) r k s = (k.0, row_added n rs r k.1 s)

pub height_added : (rs : List RowValue) (r : RowValue) → rows_height (rs ++ r ∷ []) ≡ rows_height rs + height_of r.rel
height_added [] r = omega arith
height_added (x ∷ rs) r = let below = height_added rs r in omega (arith, below)
