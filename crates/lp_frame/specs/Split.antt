-- Splitting columns: a free column becomes a plus and a minus column side by side, the others stay
-- one column.
use Rattle.std.specs.Prelude.{◌≡◌, ◌≤◌, ◌<◌, ℕ, zero, suc, ◌+◌, List, [], ◌∷◌, ◌++◌, length, slice_index_or, ℤ, neg_ℤ, ◌-ℤ◌}
use Rattle.int_linear.specs.Sums.{at}
use Rattle.lp_rows.specs.declared.columns.Col.{Col}
use Rattle.lp_rows.specs.declared.columns.Sign.{Sign}
use Rattle.lp_rows.specs.declared.columns.Sign.TheVariants.{Free, Nonneg}

-- how many columns a column of this sign becomes
abbrev pub width_of : Sign → ℕ
width_of Free = 2
width_of Nonneg = 1

-- the first of the columns that column j becomes: as many as the columns before it become
abbrev pub place : List Col → ℕ → ℕ
place [] j = 0
place (c ∷ cs) zero = 0
place (c ∷ cs) (suc j) = width_of c.sign + place cs j

-- the sign of column j
abbrev pub sign_at : List Col → ℕ → Sign
sign_at [] j = Nonneg
sign_at (c ∷ cs) zero = c.sign
sign_at (c ∷ cs) (suc j) = sign_at cs j

-- a term over the columns from place k on that its column becomes
abbrev pub split_term : Sign → ℕ → ℤ → List (ℕ × ℤ)
split_term Free k a = (k, a) ∷ (k + 1, neg_ℤ a) ∷ []
split_term Nonneg k a = (k, a) ∷ []

-- terms over the split columns
abbrev pub split_terms : List Col → List (ℕ × ℤ) → List (ℕ × ℤ)
split_terms cols [] = []
split_terms cols (t ∷ ts) =
    split_term (sign_at cols t.0) (place cols t.0) t.1 ++ split_terms cols ts

-- the number of a column whose columns begin at place k: the plus column's less the minus column's
-- where it is free
abbrev pub joined : Sign → (ℕ → ℤ) → ℕ → ℤ
joined Free numbers k = numbers k -ℤ numbers (k + 1)
joined Nonneg numbers k = numbers k

-- the columns' numbers, from those of the split columns
abbrev pub lifted : List Col → (ℕ → ℤ) → ℕ → ℤ
lifted cols numbers j = joined (sign_at cols j) numbers (place cols j)

-- the first of the columns that each column becomes, column by column
pub record ArePlaces (cols : List Col) (places : List ℕ) : Type 0 where
  pub count : length places ≡ length cols
  pub each : (j : ℕ) → j < length cols → slice_index_or places j 0 ≡ place cols j

-- split column k is one of those that column j becomes
pub record IsPartOf (cols : List Col) (k j : ℕ) : Type 0 where
  pub within : j < length cols
  pub from : place cols j ≤ k
  pub before : k < place cols j + width_of (sign_at cols j)

-- the columns' numbers as a list, from those of the split columns
pub record AreLifted (cols : List Col) (split nums : List ℤ) : Type 0 where
  pub count : length nums ≡ length cols
  pub each : (j : ℕ) → j < length cols → at nums j ≡ lifted cols (at split) j
