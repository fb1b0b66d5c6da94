-- What is declared under a name: variables and Booleans.
use Rattle.std.specs.Prelude.{ℕ, List, ◌++◌, map}
use Rattle.lp_rows.specs.declared.kinds.Kind.{Kind}
use Rattle.model_tree.specs.declared.bounds.Bound.{Bound}

-- a variable: its name, its kind, its bounds and its mark
abbrev pub VarValue : Type 0
VarValue = List ℕ × Kind × Bound × ℕ

-- a Boolean: its name and its mark
abbrev pub BooleanValue : Type 0
BooleanValue = List ℕ × ℕ

-- the names of variables and Booleans
abbrev pub names_of : List VarValue → List BooleanValue → List (List ℕ)
names_of vars booleans = map (λ v. v.0) vars ++ map (λ b. b.0) booleans
