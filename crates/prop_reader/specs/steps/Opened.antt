-- An open operator, as the reader has it.
use Rattle.prop_reader.specs.declared.opened.Opened.{Opened}
use Rattle.prop_reader.specs.steps.Operators.{operator_value}
use Rattle.prop_reader.specs.steps.Readings.{OpenTree, trees_value}

-- the operator and what is read of its arguments
abbrev pub opened_value : Opened → OpenTree
opened_value o = (operator_value o.operator, o.count, o.inner, trees_value o.arguments)
