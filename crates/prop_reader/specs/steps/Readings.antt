-- What is read of a proposition: its size, and its tree or the cause against it.
use Rattle.std.specs.Prelude.{ℕ, ◌+◌, is_some, List, [], ◌∷◌, ◌++◌, map, Vec, Option, None, Some, Result, Ok, Err, if◌then◌else◌}
use Rattle.propositions.specs.Tree.{PropTree, atom, listed, PropTrees}
use Rattle.propositions.specs.View.{in_order, prop_tree}
use Rattle.propositions.specs.declared.tree.Prop.{Prop}
use Rattle.model_tree.specs.Variables.{BooleanValue}
use Rattle.gdp_grammar.specs.declared.cause.ReadCause.{ReadCause}
use Rattle.gdp_grammar.specs.declared.cause.ReadCause.TheVariants.{NameUnknown}
use Rattle.text_grammar.specs.Outcomes.{◌>>=◌, result_map}
use Rattle.gdp_grammar.specs.PropNames.{boolean_number, counting_connective, combined}
use Rattle.gdp_grammar.specs.PropReading.{Making}
use Rattle.gdp_grammar.specs.PropTexts.{Operator, NamedProp, takes}
use Rattle.prop_reader.specs.declared.opened.Reading.{Reading}
use Rattle.prop_reader.specs.declared.operator.Counting.{Counting}
use Rattle.prop_reader.specs.declared.size.Size.{Size}
use Rattle.prop_reader.specs.LogicLines.{kept_tree}
use Rattle.prop_reader.specs.SizeCauses.{refusal_of_size}
use Rattle.prop_reader.specs.steps.Operators.{counting_value}
use Rattle.prop_reader.specs.steps.Sizes.{count_end, size_of, name_size, no_size, joined_size, whole_size}
use Rattle.std.specs.declared.alloc.Global.{Global}

-- what is read of a proposition
abbrev pub ReadTree : Type 0
ReadTree = Size × Result PropTree ReadCause

-- an open operator, how many arguments it has so far, their size, and their trees or the cause against one of them
abbrev pub OpenTree : Type 0
OpenTree = Operator × ℕ × Size × Result (List PropTree) ReadCause

-- the size and the tree of a proposition
abbrev pub reading_of : List BooleanValue → NamedProp → ReadTree
reading_of booleans p = (size_of booleans p, kept_tree booleans p)

-- the tree of the Boolean with this number, where there is one
abbrev pub atom_tree : Option ℕ → Result PropTree ReadCause
atom_tree None = Err NameUnknown
atom_tree (Some number) = Ok (atom number)

-- a name
abbrev pub name_reading : List BooleanValue → List ℕ → ReadTree
name_reading booleans name = (name_size (is_some (boolean_number booleans name)), atom_tree (boolean_number booleans name))

-- an operator without arguments
abbrev pub opened_reading : Operator → OpenTree
opened_reading o = (o, 0, no_size, Ok [])

-- trees and one more
abbrev pub one_tree_more : Result (List PropTree) ReadCause → Result PropTree ReadCause → Result (List PropTree) ReadCause
one_tree_more trees tree = trees >>= λ ts. (tree >>= λ t. Ok (ts ++ t ∷ []))

-- an operator with one argument more
abbrev pub with_reading : OpenTree → ReadTree → OpenTree
with_reading o p = (o.0, count_end (o.1 + 1), joined_size o.2 p.0, one_tree_more o.3 p.1)

-- the tree of a counting operator with this number
abbrev pub counted_tree : Counting → ℕ → PropTrees → PropTree
counted_tree c n ps = listed (counting_connective (counting_value c) n) ps

-- the tree of an operator over trees, where nothing is against it or them
abbrev pub whole_tree : Operator → Option ReadCause → Result (List PropTree) ReadCause → Result PropTree ReadCause
whole_tree o (Some cause) trees = Err cause
whole_tree o None trees = result_map (λ ts. combined o (in_order ts)) trees

-- an operator over its arguments
abbrev pub whole_reading : OpenTree → ReadTree
whole_reading o = (whole_size o.0 o.1 o.2, whole_tree o.0 (refusal_of_size (whole_size o.0 o.1 o.2)) o.3)

-- an operator with its arguments, if it takes that many
abbrev pub closed_reading : OpenTree → Option ReadTree
closed_reading o = if takes o.0 o.1 then Some (whole_reading o) else None

-- a proposition by its size and its tree
abbrev pub by_readings : List BooleanValue → Making ReadTree OpenTree
by_readings booleans = record {
  of_name = λ name. name_reading booleans name;
  opened = λ o. opened_reading o;
  with_argument = λ o p. with_reading o p;
  closed = λ o. closed_reading o;
}

-- what is read, as the reader has it
abbrev pub reading_value : Reading → ReadTree
reading_value r = (r.size, result_map prop_tree r.prop)

-- the trees of propositions, or the cause against one of them
abbrev pub trees_value : Result (Vec Prop Global) ReadCause → Result (List PropTree) ReadCause
trees_value arguments = result_map (λ ps. map prop_tree ps.items) arguments
