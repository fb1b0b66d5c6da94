use Rattle.std.proofs.Common.{◌≡◌, length}
use Rattle.std.specs.Option.{option_map}
use Rattle.model_builder.specs.Standing.{stands_for}
use Rattle.gdp_grammar.specs.PropReading.{made_of, prop_of}
use Rattle.text_grammar.specs.Outcomes.{result_map}
use Rattle.prop_reader.specs.steps.Opened.{opened_value}
use Rattle.prop_reader.specs.steps.Readings.{reading_of, reading_value, by_readings}
use Rattle.prop_reader.proofs.JointsLemmas.{inward, place_of}
use Rattle.prop_reader.proofs.read.read_prop.Given as goal

abbrev pub invariant-tokens : goal.invariant-tokens
invariant-tokens l =
    made_of (by_readings (stands_for l.builder).booleans) (inward opened_value l.stack.items) (place_of (option_map reading_value l.read)) l.tokens
    ≡ result_map (reading_of (stands_for l.builder).booleans) (prop_of l.fn.tokens)

abbrev pub decreases-tokens : goal.decreases-tokens
decreases-tokens l = length l.tokens
