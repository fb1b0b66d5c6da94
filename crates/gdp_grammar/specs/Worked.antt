-- Worked texts: what the laws compute.
use Rattle.std.specs.Prelude.{ℕ, pos, List, [], ◌∷◌, ◌++◌, Some, codes}
use Rattle.lp_rows.specs.declared.kinds.Kind.TheVariants.{Real, Int}
use Rattle.lp_rows.specs.declared.kinds.Rel.TheVariants.{AtMost, AtLeast}
use Rattle.lp_rows.specs.declared.kinds.Sense.TheVariants.{Min}
use Rattle.propositions.specs.Tree.{at_least, atom, negated, listed, no_props, prop}
use Rattle.model_tree.specs.declared.tree.Mode.TheVariants.{Xor}
use Rattle.model_tree.specs.Tree.{block, no_disjunctions, disjunction, disjunct, no_disjuncts}
use Rattle.model_tree.specs.Values.{ModelTree, no_goal}

-- the three lines `gdp 1`, `var x real 0 10` and `row 2 x <= 7`
abbrev pub text : List ℕ
text = codes "gdp 1" ++ 10 ∷ codes "var x real 0 10" ++ 10 ∷ codes "row 2 x <= 7" ++ 10 ∷ []

-- the model of one variable from 0 to 10, with the mark 2, and one row, with the mark 3
abbrev pub model : ModelTree
model = record {
  vars = (codes "x", Real, record { low = Some (record { num = pos 0; den = pos 1 }); high = Some (record { num = pos 10; den = pos 1 }) }, 2) ∷ [];
  booleans = [];
  goal = no_goal;
  root = block (record { rows = (record { terms = (0, pos 2) ∷ []; rel = AtMost; right = pos 7 }, 3) ∷ []; props = [] }) no_disjunctions;
}

-- the line `gdp 01`
abbrev pub padded : List ℕ
padded = codes "gdp 01" ++ 10 ∷ []

-- an integer variable, a Boolean, a goal, and a choice of two blocks
abbrev pub nested : List ℕ
nested =
    codes "gdp 1" ++ 10 ∷ codes "var n int 0 9" ++ 10 ∷ codes "boolean z" ++ 10 ∷ codes "min 1/2 n + 3" ++ 10
    ∷ codes "disjunction xor # one" ++ 10 ∷ codes "disjunct a" ++ 10 ∷ codes "row n >= 2.5" ++ 10 ∷ codes "end" ++ 10
    ∷ codes "disjunct b" ++ 10 ∷ codes "row n <= 1" ++ 10 ∷ codes "end" ++ 10 ∷ codes "end" ++ 10 ∷ []

-- its model: the goal is (n + 6) / 2, and the row of a is 2 n >= 5
abbrev pub nested_model : ModelTree
nested_model = record {
  vars = (codes "n", Int, record { low = Some (record { num = pos 0; den = pos 1 }); high = Some (record { num = pos 9; den = pos 1 }) }, 2) ∷ [];
  booleans = (codes "z", 3) ∷ (codes "a", 6) ∷ (codes "b", 9) ∷ [];
  goal = record { sense = Min; terms = (0, pos 1) ∷ []; constant = pos 6; scale = pos 2; mark = 4 };
  root = block (record { rows = []; props = [] }) (disjunction (record { mode = Xor; mark = 5 })
      (disjunct (record { indicator = 1; mark = 6 }) (block (record { rows = (record { terms = (0, pos 2) ∷ []; rel = AtLeast; right = pos 5 }, 7) ∷ []; props = [] }) no_disjunctions)
      (disjunct (record { indicator = 2; mark = 9 }) (block (record { rows = (record { terms = (0, pos 1) ∷ []; rel = AtMost; right = pos 1 }, 10) ∷ []; props = [] }) no_disjunctions)
      no_disjuncts)) no_disjunctions);
}

-- two Booleans and a proposition
abbrev pub logic : List ℕ
logic =
    codes "gdp 1" ++ 10 ∷ codes "var x real 0 1" ++ 10 ∷ codes "boolean p" ++ 10 ∷ codes "boolean q" ++ 10
    ∷ codes "logic atleast(1, p, not(q))" ++ 10 ∷ []

-- its model
abbrev pub logic_model : ModelTree
logic_model = record {
  vars = (codes "x", Real, record { low = Some (record { num = pos 0; den = pos 1 }); high = Some (record { num = pos 1; den = pos 1 }) }, 2) ∷ [];
  booleans = (codes "p", 3) ∷ (codes "q", 4) ∷ [];
  goal = no_goal;
  root = block (record { rows = []; props = (listed (at_least 1) (prop (atom 0) (prop (negated (atom 1)) no_props)), 5) ∷ [] }) no_disjunctions;
}

-- a proposition that names a Boolean of a later line
abbrev pub unknown : List ℕ
unknown = codes "gdp 1" ++ 10 ∷ codes "var x real 0 1" ++ 10 ∷ codes "logic p" ++ 10 ∷ codes "boolean p" ++ 10 ∷ []
