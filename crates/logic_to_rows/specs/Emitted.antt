-- Propositions as columns and rows: what is emitted, and the literal that stands for the proposition.
use Rattle.std.specs.Prelude.{ℕ, suc, ◌+◌, pos, neg_ℤ, ◌+ℤ◌, ◌-ℤ◌, List, [], ◌∷◌, ◌++◌, length}
use Rattle.lp_rows.specs.declared.kinds.Rel.TheVariants.{AtMost}
use Rattle.propositions.specs.Tree.{PairConnective, implies, equivalent, xor, ListConnective, all_of, some_of, exactly, at_least, at_most, PropTree, atom, negated, paired, listed, PropTrees, no_props, prop}
use Rattle.emission.specs.Items.{Item, col, stand, after, followed, truth, binary}
use Rattle.emission.specs.declared.literals.Literal.{Literal}
use Rattle.emission.specs.Literals.{plain, flip, literal_times, literals_times}
use Rattle.emission.specs.Sums.{plus, number, column, minus}

-- a new column that stands for a proposition: whole, at least 0 and at most 1
abbrev pub bit : ℕ → PropTree → List Item
bit z p = col z binary (truth p) ∷ stand AtMost (plus (column (pos 1) z) (number minus)) ∷ []

-- column z is at most each literal
abbrev pub below_each : ℕ → List Literal → List Item
below_each z [] = []
below_each z (l ∷ ls) = stand AtMost (plus (column (pos 1) z) (literal_times minus l)) ∷ below_each z ls

-- column z is at least each literal
abbrev pub above_each : ℕ → List Literal → List Item
above_each z [] = []
above_each z (l ∷ ls) = stand AtMost (plus (literal_times (pos 1) l) (column minus z)) ∷ above_each z ls

-- column z is 1 exactly where all literals are
abbrev pub all_rows : ℕ → List Literal → List Item
all_rows z ls = below_each z ls ++ (stand AtMost (plus (literals_times (pos 1) ls) (plus (column minus z) (number (pos 1 -ℤ pos (length ls))))) ∷ [])

-- column z is 1 exactly where some literal is
abbrev pub some_rows : ℕ → List Literal → List Item
some_rows z ls = above_each z ls ++ (stand AtMost (plus (column (pos 1) z) (literals_times minus ls)) ∷ [])

-- column z is 1 exactly where both literals are equal
abbrev pub same_rows : ℕ → Literal → Literal → List Item
same_rows z p q =
    stand AtMost (plus (column (pos 1) z) (plus (literal_times (pos 1) p) (plus (literal_times minus q) (number minus)))) ∷
    (stand AtMost (plus (column (pos 1) z) (plus (literal_times minus p) (plus (literal_times (pos 1) q) (number minus)))) ∷
    (stand AtMost (plus (column minus z) (plus (literal_times (pos 1) p) (plus (literal_times (pos 1) q) (number minus)))) ∷
    (stand AtMost (plus (column minus z) (plus (literal_times minus p) (plus (literal_times minus q) (number (pos 1))))) ∷ [])))

-- column z is 1 exactly where at least n of the literals are
abbrev pub least_rows : ℕ → ℕ → List Literal → List Item
least_rows n z ls =
    stand AtMost (plus (column (pos n) z) (literals_times minus ls)) ∷
    (stand AtMost (plus (literals_times (pos 1) ls) (plus (column (neg_ℤ (pos (length ls) -ℤ pos n +ℤ pos 1)) z) (number (pos 1 -ℤ pos n)))) ∷ [])

-- at least k, at least k + 1, and then the first without the second
abbrev pub exactly_items : ℕ → ℕ → PropTrees → List Literal → List Item
exactly_items k z ps ls =
    (bit z (listed (at_least k) ps) ++ least_rows k z ls) ++
    ((bit (suc z) (listed (at_least (k + 1)) ps) ++ least_rows (k + 1) (suc z) ls) ++
    (bit (suc (suc z)) (listed (exactly k) ps) ++ all_rows (suc (suc z)) (plain z ∷ flip (plain (suc z)) ∷ [])))

-- what a connective of two emits after its arguments, whose literals are given; z is the next column
abbrev pub pair_items : PairConnective → ℕ → PropTree → PropTree → Literal → Literal → List Item
pair_items implies z p q a b = bit z (paired implies p q) ++ some_rows z (flip a ∷ b ∷ [])
pair_items equivalent z p q a b = bit z (paired equivalent p q) ++ same_rows z a b
pair_items xor z p q a b = bit z (paired equivalent p q) ++ same_rows z a b

-- its literal
abbrev pub pair_literal : PairConnective → ℕ → Literal
pair_literal implies z = plain z
pair_literal equivalent z = plain z
pair_literal xor z = flip (plain z)

-- what a connective of a list emits after its arguments
abbrev pub list_items : ListConnective → ℕ → PropTrees → List Literal → List Item
list_items all_of z ps ls = bit z (listed all_of ps) ++ all_rows z ls
list_items some_of z ps ls = bit z (listed some_of ps) ++ some_rows z ls
list_items (exactly k) z ps ls = exactly_items k z ps ls
list_items (at_least k) z ps ls = bit z (listed (at_least k) ps) ++ least_rows k z ls
list_items (at_most k) z ps ls = bit z (listed (at_least (k + 1)) ps) ++ least_rows (k + 1) z ls

-- its literal
abbrev pub list_literal : ListConnective → ℕ → Literal
list_literal all_of z = plain z
list_literal some_of z = plain z
list_literal (exactly k) z = plain (suc (suc z))
list_literal (at_least k) z = plain z
list_literal (at_most k) z = flip (plain z)

-- What a proposition emits, where Boolean k stands at column first + k and n is the next column: its arguments' items, and
-- then its own.
abbrev mutual
  pub emitted : ℕ → ℕ → PropTree → List Item
  emitted first n (atom k) = []
  emitted first n (negated p) = emitted first n p
  emitted first n (paired c p q) =
      followed n (followed n (emitted first n p) (λ m. emitted first m q))
      (λ z. pair_items c z p q (literal first n p) (literal first (after n (emitted first n p)) q))
  emitted first n (listed c ps) = followed n (all_emitted first n ps) (λ z. list_items c z ps (literals first n ps))

  -- what propositions emit, one after the other
  pub all_emitted : ℕ → ℕ → PropTrees → List Item
  all_emitted first n no_props = []
  all_emitted first n (prop p ps) = followed n (emitted first n p) (λ m. all_emitted first m ps)

  -- the literal that stands for a proposition
  pub literal : ℕ → ℕ → PropTree → Literal
  literal first n (atom k) = plain (first + k)
  literal first n (negated p) = flip (literal first n p)
  literal first n (paired c p q) = pair_literal c (after n (followed n (emitted first n p) (λ m. emitted first m q)))
  literal first n (listed c ps) = list_literal c (after n (all_emitted first n ps))

  -- the literals of each
  pub literals : ℕ → ℕ → PropTrees → List Literal
  literals first n no_props = []
  literals first n (prop p ps) = literal first n p ∷ literals first (after n (emitted first n p)) ps
