-- Why a proposition of a text is refused for its names, its numbers and its size.
use Rattle.std.specs.Prelude.{ℕ, Bool, not, ◌||◌, List, Option, None, Some, nat_le, if◌then◌else◌}
use Rattle.model_tree.specs.Limits.{most_nodes, deepest_proposition, most_arguments, greatest_number}
use Rattle.model_tree.specs.Variables.{BooleanValue}
use Rattle.gdp_grammar.specs.declared.cause.ReadCause.{ReadCause}
use Rattle.gdp_grammar.specs.declared.cause.ReadCause.TheVariants.{NameUnknown, Number, Nesting, Limit}
use Rattle.gdp_grammar.specs.PropNames.{are_known}
use Rattle.gdp_grammar.specs.PropTexts.{NamedProp}
use Rattle.prop_reader.specs.declared.size.Size.{Size}
use Rattle.gdp_grammar.specs.PropSizes.{named_greatest, named_depth, named_nodes, named_most}

-- the cause against a name, a number, the depth, the nodes or the arguments, in this order
abbrev pub refusal_by : Bool → ℕ → ℕ → ℕ → ℕ → Option ReadCause
refusal_by known greatest depth nodes most =
    if not known then Some NameUnknown
    else (if not (nat_le greatest greatest_number) then Some Number
    else (if not (nat_le depth deepest_proposition) then Some Nesting
    else (if not (nat_le nodes most_nodes) || not (nat_le most most_arguments) then Some Limit
    else None)))

-- the cause against a size
abbrev pub refusal_of_size : Size → Option ReadCause
refusal_of_size s = refusal_by s.known s.greatest s.depth s.nodes s.most

-- the cause against a proposition
abbrev pub refusal_of_named : List BooleanValue → NamedProp → Option ReadCause
refusal_of_named booleans p = refusal_by (are_known booleans p) (named_greatest p) (named_depth p) (named_nodes p) (named_most p)
