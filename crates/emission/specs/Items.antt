-- What an emission lists: columns, rows and refusals, in order. A column carries its own id and what it stands for.
use Rattle.std.specs.Prelude.{◌≡◌, ℕ, suc, ◌/◌, ℤ, pos, negsuc, neg_ℤ, ◌+ℤ◌, ◌*ℤ◌, Bool, true, false, not, ◌&&◌, List, [], ◌∷◌, ◌++◌, unsigned_abs}
use Rattle.int_linear.specs.Terms.{dot}
use Rattle.lp_rows.specs.declared.columns.Col.{Col}
use Rattle.lp_rows.specs.declared.columns.Sign.TheVariants.{Free, Nonneg}
use Rattle.lp_rows.specs.declared.kinds.Kind.TheVariants.{Real, Int}
use Rattle.lp_rows.specs.declared.kinds.Rel.{Rel}
use Rattle.lp_rows.specs.Holding.{holds_at}
use Rattle.lp_rows.specs.Rows.{RowValue}
use Rattle.propositions.specs.Tree.{PropTree}
use Rattle.propositions.specs.Truth.{truth_of}
use Rattle.block_tree.specs.Satisfied.{PointOf}
use Rattle.milps.specs.Milps.{col_takes}
use Rattle.emission.specs.Sums.{Sum, row_of, pick}

-- what lets rows be in force, and what scales a frame: nothing, which is always on, or a Boolean
pub data Guard : Type 0 where
  always : Guard
  where_true : ℕ → Guard

-- a guard is on at a point
abbrev pub is_on : PointOf → Guard → Bool
is_on p always = true
is_on p (where_true k) = p.truths k

-- what a column stands for
pub data Meaning : Type 0 where
  -- a variable
  number_of : ℕ → Meaning
  -- whether a proposition is true
  truth : PropTree → Meaning
  -- variable j where Boolean y is true, and else 0
  copy : ℕ → ℕ → Meaning
  -- variable j where the first guard is on and the second is not, and else 0
  rest : ℕ → Guard → Guard → Meaning
  -- a goal: terms and a constant over a scale
  worth : List (ℕ × ℤ) → ℤ → ℤ → Meaning

-- why a rewrite is refused: a bound of the variable is missing, or a number is too large, in what stands at a mark
pub data Refusal : Type 0 where
  no_bound : ℕ → ℕ → Refusal
  too_wide : ℕ → Refusal

pub data Item : Type 0 where
  -- a column: its id, which numbers it may take, and what it stands for
  col : ℕ → Col → Meaning → Item
  row : RowValue → Item
  refused : Refusal → Item

-- the kinds of columns that a rewrite makes
abbrev pub binary : Col
binary = record { kind = Int; sign = Nonneg }

abbrev pub real_free : Col
real_free = record { kind = Real; sign = Free }

abbrev pub real_nonneg : Col
real_nonneg = record { kind = Real; sign = Nonneg }

-- a sum in a relation to 0
abbrev pub stand : Rel → Sum → Item
stand rel a = row (row_of rel a)

-- the next id after the items, where the first that they may take is n
abbrev pub after : ℕ → List Item → ℕ
after n [] = n
after n (col i c m ∷ is) = after (suc n) is
after n (row r ∷ is) = after n is
after n (refused r ∷ is) = after n is

-- items, and then those that are listed from the next id on
abbrev pub followed : ℕ → List Item → (ℕ → List Item) → List Item
followed n xs f = xs ++ f (after n xs)

-- z / k for a positive whole number k that divides z
abbrev pub divided : ℤ → ℤ → ℤ
divided (pos a) k = pos (a / unsigned_abs k)
divided (negsuc a) k = neg_ℤ (pos (suc a / unsigned_abs k))

-- the number that a column is to have at a point, over the point's denominator
abbrev pub meant : PointOf → Meaning → ℤ
meant p (number_of j) = p.nums j
meant p (truth q) = pick (truth_of q p.truths) p.over
meant p (copy j y) = pick (p.truths y) (p.nums j)
meant p (rest j scale on) = pick (is_on p scale && not (is_on p on)) (p.nums j)
meant p (worth ts constant scale) = divided (dot ts p.nums +ℤ constant *ℤ p.over) scale

-- The numbers over the denominator meet the items: each column takes its number, and each row holds. Nothing meets a refusal.
abbrev pub Meets : List Item → ℤ → (ℕ → ℤ) → Type 0
Meets [] over w = Unit {0}
Meets (col i c m ∷ is) over w = (col_takes c (w i) over ≡ true) × Meets is over w
Meets (row r ∷ is) over w = (holds_at r over w ≡ true) × Meets is over w
Meets (refused r ∷ is) over w = ⊥

-- Each column has the number that it is to have at the point. No numbers do where something is refused.
abbrev pub AreMeant : List Item → PointOf → (ℕ → ℤ) → Type 0
AreMeant [] p w = Unit {0}
AreMeant (col i c m ∷ is) p w = (w i ≡ meant p m) × AreMeant is p w
AreMeant (row r ∷ is) p w = AreMeant is p w
AreMeant (refused r ∷ is) p w = ⊥

-- nothing is refused
abbrev pub is_accepted : List Item → Bool
is_accepted [] = true
is_accepted (col i c m ∷ is) = is_accepted is
is_accepted (row r ∷ is) = is_accepted is
is_accepted (refused r ∷ is) = false

-- the columns that items list, and their rows
abbrev pub cols_of : List Item → List Col
cols_of [] = []
cols_of (col i c m ∷ is) = c ∷ cols_of is
cols_of (row r ∷ is) = cols_of is
cols_of (refused r ∷ is) = cols_of is

abbrev pub rows_of : List Item → List RowValue
rows_of [] = []
rows_of (col i c m ∷ is) = rows_of is
rows_of (row r ∷ is) = r ∷ rows_of is
rows_of (refused r ∷ is) = rows_of is

-- the numbers that the columns are to have at the point, in order
abbrev pub values : List Item → PointOf → List ℤ
values [] p = []
values (col i c m ∷ is) p = meant p m ∷ values is p
values (row r ∷ is) p = values is p
values (refused r ∷ is) p = values is p

-- the ids count up from n, and nothing is refused
abbrev pub IsNumbered : ℕ → List Item → Type 0
IsNumbered n [] = Unit {0}
IsNumbered n (col i c m ∷ is) = (i ≡ n) × IsNumbered (suc n) is
IsNumbered n (row r ∷ is) = IsNumbered n is
IsNumbered n (refused r ∷ is) = ⊥
