-- The laws that crates above rest on. Each is the contract of a function of `laws`.
use Rattle.std.specs.Prelude.{◌≡◌, ◌≢◌, ◌↔◌, ◌<◌, ℕ, List, ℤ, pos, ◌+ℤ◌, ◌*ℤ◌, ◌≤ℤ◌, ◌<ℤ◌}
use Rattle.int_linear.specs.Sums.{total, inner}
use Rattle.int_linear.specs.Terms.{dot, coefficients, scaled, AllBelow}
use Rattle.int_linear.specs.Divisors.{IsRowGcd, IsPrimitive}

-- products spread over sums, and their grouping and order do not count
pub record ProductsSpread : Type 0 where
  pub over_sums : (a b c : ℤ) → a *ℤ (b +ℤ c) ≡ a *ℤ b +ℤ a *ℤ c
  pub grouping : (a b c : ℤ) → a *ℤ b *ℤ c ≡ a *ℤ (b *ℤ c)
  pub order : (a b : ℤ) → a *ℤ b ≡ b *ℤ a

-- the signs of two factors say the sign of their product
pub record SignsOfProducts : Type 0 where
  pub both_positive : (a b : ℤ) → pos 0 <ℤ a → pos 0 <ℤ b → pos 0 <ℤ (a *ℤ b)
  pub both_negative : (a b : ℤ) → a <ℤ pos 0 → b <ℤ pos 0 → pos 0 <ℤ (a *ℤ b)
  pub apart : (a b : ℤ) → pos 0 <ℤ a → b <ℤ pos 0 → (a *ℤ b) <ℤ pos 0

-- a positive factor keeps order and equality, both ways
pub record FactorsCancel : Type 0 where
  pub equal : (k a b : ℤ) → pos 0 <ℤ k → (k *ℤ a ≡ k *ℤ b) ↔ (a ≡ b)
  pub at_most : (k a b : ℤ) → pos 0 <ℤ k → ((k *ℤ a) ≤ℤ (k *ℤ b)) ↔ (a ≤ℤ b)
  pub less : (k a b : ℤ) → pos 0 <ℤ k → ((k *ℤ a) <ℤ (k *ℤ b)) ↔ (a <ℤ b)

-- a row's sum at a sum of numbers is the sum of its sums, and at multiples the multiple
pub record DotIsLinear : Type 0 where
  pub sums : (ts : List (ℕ × ℤ)) (v w : ℕ → ℤ) → dot ts (λ j. v j +ℤ w j) ≡ dot ts v +ℤ dot ts w
  pub multiples : (ts : List (ℕ × ℤ)) (k : ℤ) (v : ℕ → ℤ) → dot ts (λ j. k *ℤ v j) ≡ k *ℤ dot ts v
  pub scaled_terms : (k : ℤ) (ts : List (ℕ × ℤ)) (v : ℕ → ℤ) → dot (scaled k ts) v ≡ k *ℤ dot ts v

-- the sum of a row's terms is the inner product of its coefficients with the numbers
abbrev pub DotIsInner : Type 0
DotIsInner = (n : ℕ) (ts : List (ℕ × ℤ)) (v : ℕ → ℤ) → AllBelow n ts → dot ts v ≡ inner n (coefficients ts) v

-- the inner product of a combination of two rows is the combination of theirs
abbrev pub InnerIsLinear : Type 0
InnerIsLinear = (n : ℕ) (a b : ℤ) (f g v : ℕ → ℤ) → inner n (λ j. a *ℤ f j +ℤ b *ℤ g j) v ≡ a *ℤ inner n f v +ℤ b *ℤ inner n g v

-- a sum of which the terms at all places but one are 0 is the term at that place
abbrev pub OnePlaceAlone : Type 0
OnePlaceAlone = (n k : ℕ) (f : ℕ → ℤ) → k < n → ((j : ℕ) → j < n → j ≢ k → f j ≡ pos 0) → total n f ≡ f k

-- a sum over a table is the same by rows and by columns
abbrev pub SumsSwap : Type 0
SumsSwap = (m n : ℕ) (f : ℕ → ℕ → ℤ) → total m (λ i. total n (λ j. f i j)) ≡ total n (λ j. total m (λ i. f i j))

-- the inner product of a combination of m rows with v is the combination of the rows' inner products
abbrev pub CombinationOfRows : Type 0
CombinationOfRows = (m n : ℕ) (multiplier : ℕ → ℤ) (rows : ℕ → ℕ → ℤ) (v : ℕ → ℤ) → inner n (λ j. inner m multiplier (λ i. rows i j)) v ≡ inner m multiplier (λ i. inner n (rows i) v)

-- a row has one greatest common divisor
pub record HasRowGcd (n : ℕ) (row : ℕ → ℤ) : Type 0 where
  pub divisor : ℕ
  pub greatest : IsRowGcd n row divisor
  pub alone : (g : ℕ) → IsRowGcd n row g → g ≡ divisor

abbrev pub EveryRowHasGcd : Type 0
EveryRowHasGcd = (n : ℕ) (row : ℕ → ℤ) → HasRowGcd n row

-- a row divided by its greatest common divisor is primitive
abbrev pub DividedIsPrimitive : Type 0
DividedIsPrimitive = (n g : ℕ) (row quotient : ℕ → ℤ) → 0 < g → IsRowGcd n row g → ((j : ℕ) → j < n → row j ≡ pos g *ℤ quotient j) → IsPrimitive n quotient

-- two primitive rows of which one positive multiple is the same are the same
abbrev pub OnePrimitiveRow : Type 0
OnePrimitiveRow = (n : ℕ) (a b : ℤ) (f g : ℕ → ℤ) → pos 0 <ℤ a → pos 0 <ℤ b → IsPrimitive n f → IsPrimitive n g → ((j : ℕ) → j < n → a *ℤ f j ≡ b *ℤ g j) → (j : ℕ) → j < n → f j ≡ g j
