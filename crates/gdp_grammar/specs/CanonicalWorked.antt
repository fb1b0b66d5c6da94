-- Worked canonical texts: a choice between two processes, and a model of bounds, fractions and a nested choice.
use Rattle.std.specs.Prelude.{ℕ, ℤ, pos, negsuc, List, [], ◌∷◌, Option, None, Some, codes}
use Rattle.fractions.specs.Fraction.{Fraction}
use Rattle.lp_rows.specs.declared.kinds.Kind.TheVariants.{Real, Int}
use Rattle.lp_rows.specs.declared.kinds.Rel.{Rel}
use Rattle.lp_rows.specs.declared.kinds.Rel.TheVariants.{AtMost, AtLeast, Equal}
use Rattle.lp_rows.specs.declared.kinds.Sense.TheVariants.{Min, Max}
use Rattle.lp_rows.specs.Rows.{RowValue}
use Rattle.propositions.specs.Tree.{implies, some_of, exactly, atom, paired, listed, no_props, prop}
use Rattle.model_tree.specs.declared.tree.Mode.TheVariants.{Xor, Or}
use Rattle.model_tree.specs.Tree.{BlockTree, block, no_disjunctions, disjunction, no_disjuncts, disjunct}
use Rattle.model_tree.specs.Values.{ModelTree}
use Rattle.text_grammar.specs.Printing.{text_of}

abbrev pub fraction : ℤ → ℤ → Option Fraction
fraction num den = Some (record { num = num; den = den })

abbrev pub row : List (ℕ × ℤ) → Rel → ℤ → ℕ → RowValue × ℕ
row terms rel right mark = (record { terms = terms; rel = rel; right = right }, mark)

abbrev pub leaf : List (RowValue × ℕ) → BlockTree
leaf rows = block (record { rows = rows; props = [] }) no_disjunctions

-- a process feeds f and yields p at the cost c, by one of two routes
abbrev pub plant : ModelTree
plant = record {
  vars =
      (codes "f", Real, record { low = fraction (pos 0) (pos 1); high = fraction (pos 100) (pos 1) }, 2)
      ∷ (codes "p", Real, record { low = fraction (pos 0) (pos 1); high = fraction (pos 80) (pos 1) }, 3)
      ∷ (codes "c", Real, record { low = fraction (pos 0) (pos 1); high = fraction (pos 500) (pos 1) }, 4) ∷ [];
  booleans = (codes "r1", 8) ∷ (codes "r2", 12) ∷ [];
  goal = record { sense = Max; terms = (0, negsuc 1) ∷ (1, pos 5) ∷ (2, negsuc 0) ∷ []; constant = pos 0; scale = pos 1; mark = 5 };
  root = block (record { rows = row ((1, pos 1) ∷ []) AtMost (pos 48) 6 ∷ []; props = [] })
      (disjunction (record { mode = Xor; mark = 7 })
      (disjunct (record { indicator = 0; mark = 8 }) (leaf (row ((0, negsuc 2) ∷ (1, pos 5) ∷ []) Equal (pos 0) 9 ∷ row ((2, pos 1) ∷ []) Equal (pos 10) 10 ∷ []))
      (disjunct (record { indicator = 1; mark = 12 }) (leaf (row ((0, negsuc 3) ∷ (1, pos 5) ∷ []) Equal (pos 0) 13 ∷ row ((2, pos 1) ∷ []) Equal (pos 40) 14 ∷ [])) no_disjuncts))
      no_disjunctions);
}

abbrev pub plant_text : List ℕ
plant_text = text_of
    (codes "gdp 1" ∷ codes "var f real 0 100" ∷ codes "var p real 0 80" ∷ codes "var c real 0 500" ∷ codes "max -2 f + 5 p - 1 c"
    ∷ codes "row 1 p <= 48" ∷ codes "disjunction xor"
    ∷ codes "disjunct r1" ∷ codes "row -3 f + 5 p = 0" ∷ codes "row 1 c = 10" ∷ codes "end"
    ∷ codes "disjunct r2" ∷ codes "row -4 f + 5 p = 0" ∷ codes "row 1 c = 40" ∷ codes "end" ∷ codes "end" ∷ [])

-- bounds without ends and with fractions, a Boolean that is no indicator, a goal with a scale and a constant, a row
-- without terms, a choice within a choice, and a proposition at the root and in a block
abbrev pub nest : ModelTree
nest = record {
  vars =
      (codes "x", Real, record { low = None; high = None }, 0)
      ∷ (codes "n", Int, record { low = fraction (negsuc 0) (pos 2); high = fraction (pos 7) (pos 3) }, 0) ∷ [];
  booleans = (codes "b", 0) ∷ (codes "out", 0) ∷ (codes "in", 0) ∷ [];
  goal = record { sense = Min; terms = (0, pos 2) ∷ (1, negsuc 0) ∷ []; constant = negsuc 4; scale = pos 2; mark = 0 };
  root = block (record { rows = row [] AtLeast (negsuc 2) 0 ∷ []; props = (paired implies (atom 1) (listed some_of (prop (atom 0) (prop (atom 2) no_props))), 0) ∷ [] })
      (disjunction (record { mode = Or; mark = 0 })
      (disjunct (record { indicator = 1; mark = 0 })
      (block (record { rows = []; props = (listed (exactly 1) (prop (atom 2) no_props), 0) ∷ [] }) (disjunction (record { mode = Xor; mark = 0 }) (disjunct (record { indicator = 2; mark = 0 }) (leaf []) no_disjuncts) no_disjunctions))
      no_disjuncts)
      no_disjunctions);
}

abbrev pub nest_text : List ℕ
nest_text = text_of
    (codes "gdp 1" ∷ codes "var x real -inf inf" ∷ codes "var n int -1/2 7/3" ∷ codes "boolean b" ∷ codes "min 1 x - 1/2 n - 5/2"
    ∷ codes "row 0 >= -3" ∷ codes "disjunction or" ∷ codes "disjunct out" ∷ codes "disjunction xor" ∷ codes "disjunct in"
    ∷ codes "end" ∷ codes "end" ∷ codes "logic exactly(1, in)" ∷ codes "end" ∷ codes "end"
    ∷ codes "logic implies(out, or(b, in))" ∷ [])

-- a goal without terms
abbrev pub alone : ModelTree
alone = record {
  vars = (codes "x", Real, record { low = None; high = None }, 0) ∷ [];
  booleans = [];
  goal = record { sense = Max; terms = []; constant = negsuc 2; scale = pos 2; mark = 0 };
  root = leaf [];
}

abbrev pub alone_text : List ℕ
alone_text = text_of (codes "gdp 1" ∷ codes "var x real -inf inf" ∷ codes "max -3/2" ∷ [])
