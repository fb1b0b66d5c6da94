-- The box after rounds over the root's rows.
use Rattle.std.specs.Prelude.{ℕ, zero, suc, ◌/◌, ℤ, pos, negsuc, neg_ℤ, ◌+ℤ◌, ◌-ℤ◌, ◌*ℤ◌, Bool, true, false, nat_eq, int_lt, List, [], ◌∷◌, ◌++◌, Option, Some, None, if◌then◌else◌, slice_index_or, unsigned_abs}
use Rattle.fractions.specs.Fraction.{Fraction}
use Rattle.lp_rows.specs.declared.kinds.Kind.{Kind}
use Rattle.lp_rows.specs.declared.kinds.Kind.TheVariants.{Real, Int}
use Rattle.lp_rows.specs.Rows.{RowValue, is_storable}
use Rattle.block_tree.specs.Values.{ModelTree}
use Rattle.block_tree.specs.Variables.{VarValue}
use Rattle.block_tree.specs.View.{rows_in}
use Rattle.bound_propagation.specs.Boxes.{Box, Half, halves, is_nonneg}

-- z / n rounded down, for a positive n
unfoldable pub floor : ℤ → ℕ → ℤ
floor (pos a) n = pos (a / n)
floor (negsuc a) n = negsuc (a / n)

-- z / n rounded up
abbrev pub ceiling : ℤ → ℕ → ℤ
ceiling z n = neg_ℤ (floor (neg_ℤ z) n)

-- the least whole number that n x <= c shows to be a bound of x
abbrev pub upper : Kind → ℤ → ℕ → ℤ
upper Int c n = floor c n
upper Real c n = ceiling c n

-- the sum, where both are there
abbrev pub both_sums : Option ℤ → Option ℤ → Option ℤ
both_sums None y = None
both_sums (Some a) None = None
both_sums (Some a) (Some b) = Some (a +ℤ b)

-- a times a bound
abbrev pub times : ℤ → Option ℤ → Option ℤ
times a None = None
times a (Some l) = Some (a *ℤ l)

-- the least value of a term over the box, and that of a sum of terms
abbrev pub least_of_term : ℕ × ℤ → Box → Option ℤ
least_of_term t box = times t.1 (if is_nonneg t.1 then box.low t.0 else box.high t.0)

abbrev pub least_of : List (ℕ × ℤ) → Box → Option ℤ
least_of [] box = Some (pos 0)
least_of (t ∷ ts) box = both_sums (least_of_term t box) (least_of ts box)

-- what an at-most row says of one of its terms: `times` x is at most a number, where the other terms have least values
pub record Limit : Type 0 where
  pub of : ℕ
  pub times : ℤ
  pub most : Option ℤ

-- b less a number
abbrev pub less : ℤ → Option ℤ → Option ℤ
less b None = None
less b (Some r) = Some (b -ℤ r)

-- the limits that terms set, where those before them have this least value
abbrev pub limits_from : ℤ → Option ℤ → List (ℕ × ℤ) → Box → List Limit
limits_from b before [] box = []
limits_from b before (t ∷ ts) box =
    record { of = t.0; times = t.1; most = less b (both_sums before (least_of ts box)) } ∷ limits_from b (both_sums before (least_of_term t box)) ts box

abbrev pub limits_of_halves : List Half → Box → List Limit
limits_of_halves [] box = []
limits_of_halves (h ∷ hs) box = limits_from h.1 (Some (pos 0)) h.0 box ++ limits_of_halves hs box

-- the limits that rows set
abbrev pub limits : List (RowValue × ℕ) → Box → List Limit
limits [] box = []
limits (r ∷ rs) box = limits_of_halves (halves r.0.rel r.0.terms r.0.right) box ++ limits rs box

-- a bound, unless it is too large to be stored
abbrev pub if_storable : ℤ → Option ℤ
if_storable z = if is_storable z then Some z else None

-- the high that a limit gives, and the low
abbrev pub high_by : Kind → ℤ → Option ℤ → Option ℤ
high_by kind a None = None
high_by kind (pos zero) (Some c) = None
high_by kind (pos (suc n)) (Some c) = if_storable (upper kind c (suc n))
high_by kind (negsuc n) (Some c) = None

abbrev pub low_by : Kind → ℤ → Option ℤ → Option ℤ
low_by kind a None = None
low_by kind (pos n) (Some c) = None
low_by kind (negsuc n) (Some c) = if_storable (neg_ℤ (upper kind c (suc n)))

-- the lesser of two, where they are there, and the greater
abbrev pub lesser : Option ℤ → Option ℤ → Option ℤ
lesser None y = y
lesser (Some a) None = Some a
lesser (Some a) (Some b) = if int_lt b a then Some b else Some a

abbrev pub greater : Option ℤ → Option ℤ → Option ℤ
greater None y = y
greater (Some a) None = Some a
greater (Some a) (Some b) = if int_lt a b then Some b else Some a

-- the least of a high and those that limits give to variable j, and the greatest of a low and theirs
abbrev pub high_from : Kind → ℕ → List Limit → Option ℤ → Option ℤ
high_from kind j [] high = high
high_from kind j (l ∷ ls) high = high_from kind j ls (if nat_eq j l.of then lesser high (high_by kind l.times l.most) else high)

abbrev pub low_from : Kind → ℕ → List Limit → Option ℤ → Option ℤ
low_from kind j [] low = low
low_from kind j (l ∷ ls) low = low_from kind j ls (if nat_eq j l.of then greater low (low_by kind l.times l.most) else low)

-- the low exceeds the high
abbrev pub are_crossed : Option ℤ → Option ℤ → Bool
are_crossed None high = false
are_crossed (Some l) None = false
are_crossed (Some l) (Some h) = int_lt h l

-- the old one where the new ones cross
abbrev pub kept_or : Bool → Option ℤ → Option ℤ → Option ℤ
kept_or true old new = old
kept_or false old new = new

-- a box after one round: each bound from the box before
abbrev pub round : (ℕ → Kind) → List (RowValue × ℕ) → Box → Box
round kinds rows box = record {
  low = λ j. kept_or (are_crossed (low_from (kinds j) j (limits rows box) (box.low j)) (high_from (kinds j) j (limits rows box) (box.high j))) (box.low j) (low_from (kinds j) j (limits rows box) (box.low j));
  high = λ j. kept_or (are_crossed (low_from (kinds j) j (limits rows box) (box.low j)) (high_from (kinds j) j (limits rows box) (box.high j))) (box.high j) (high_from (kinds j) j (limits rows box) (box.high j));
}

abbrev pub rounds : ℕ → (ℕ → Kind) → List (RowValue × ℕ) → Box → Box
rounds zero kinds rows box = box
rounds (suc n) kinds rows box = round kinds rows (rounds n kinds rows box)

-- a declared low as a whole one, and a declared high
abbrev pub whole_low : Kind → Option Fraction → Option ℤ
whole_low kind None = None
whole_low kind (Some f) = Some (neg_ℤ (upper kind (neg_ℤ f.num) (unsigned_abs f.den)))

abbrev pub whole_high : Kind → Option Fraction → Option ℤ
whole_high kind None = None
whole_high kind (Some f) = Some (upper kind f.num (unsigned_abs f.den))

-- the kind by whose rule a variable's bounds are made whole: a whole one's are tightened, unless they would cross
abbrev pub rounding_of : Kind → Option Fraction → Option Fraction → Kind
rounding_of Real low high = Real
rounding_of Int low high = if are_crossed (whole_low Int low) (whole_high Int high) then Real else Int

-- a variable that may be anything
abbrev pub unbound : VarValue
unbound = ([], Real, record { low = None; high = None }, 0)

-- variable j of these
abbrev pub var_at : List VarValue → ℕ → VarValue
var_at vars j = slice_index_or vars j unbound

abbrev pub rounding_at : List VarValue → ℕ → Kind
rounding_at vars j = rounding_of (var_at vars j).1 (var_at vars j).2.low (var_at vars j).2.high

-- the declared bounds of variables, made whole, as a box
abbrev pub whole_box : List VarValue → Box
whole_box vars = record {
  low = λ j. whole_low (rounding_at vars j) (var_at vars j).2.low;
  high = λ j. whole_high (rounding_at vars j) (var_at vars j).2.high;
}

-- the box of a model before the first round
abbrev pub declared_box : ModelTree → Box
declared_box m = whole_box m.vars

-- the box after eight rounds over the root's rows
abbrev pub box_after : ModelTree → Box
box_after m = rounds 8 (λ j. (var_at m.vars j).1) (rows_in m.root) (declared_box m)
