-- How large a proposition of a text is, as far as the reader's numbers go.
use Rattle.std.specs.Prelude.{ℕ, ◌+◌, ◌-◌, ◌^◌, min, max, Bool, true, ◌&&◌, List}
use Rattle.model_tree.specs.Variables.{BooleanValue}
use Rattle.gdp_grammar.specs.PropNames.{are_known}
use Rattle.gdp_grammar.specs.PropSizes.{named_depth, named_nodes, named_most, named_greatest}
use Rattle.gdp_grammar.specs.PropTexts.{Operator, NamedProp}
use Rattle.prop_reader.specs.declared.size.Size.{Size}
use Rattle.prop_reader.specs.steps.Operators.{operator_end, operator_number}

-- a number as far as a count goes
abbrev pub count_end : ℕ → ℕ
count_end n = min n (2 ^ 64 - 1)

-- the size of a proposition
abbrev pub size_of : List BooleanValue → NamedProp → Size
size_of booleans p = record {
  known = are_known booleans p;
  greatest = operator_end (named_greatest p);
  depth = count_end (named_depth p);
  nodes = count_end (named_nodes p);
  most = count_end (named_most p);
}

-- the size of a name, known or not
abbrev pub name_size : Bool → Size
name_size known = record { known = known; greatest = 0; depth = 1; nodes = 1; most = 0 }

-- the size of no arguments
abbrev pub no_size : Size
no_size = record { known = true; greatest = 0; depth = 0; nodes = 0; most = 0 }

-- two sizes together
abbrev pub joined_size : Size → Size → Size
joined_size a b = record {
  known = a.known && b.known;
  greatest = max a.greatest b.greatest;
  depth = max a.depth b.depth;
  nodes = count_end (a.nodes + b.nodes);
  most = max a.most b.most;
}

-- the size of an operator over that many arguments, which have this size together
abbrev pub whole_size : Operator → ℕ → Size → Size
whole_size operator count inner = record {
  known = inner.known;
  greatest = max inner.greatest (operator_number operator);
  depth = count_end (inner.depth + 1);
  nodes = count_end (inner.nodes + 1);
  most = max inner.most count;
}
