use Rattle.std.specs.Option.{option_map}
use Rattle.std.proofs.Common.{ap, sym, ◌∙◌, List, None, refl}
use Rattle.model_builder.specs.Standing.{stands_for}
use Rattle.gdp_grammar.specs.PropReading.{prop_of, made_of, wants}
use Rattle.text_grammar.specs.Outcomes.{result_map}
use Rattle.prop_reader.specs.declared.opened.Opened.{Opened}
use Rattle.prop_reader.specs.steps.Heads.{head_value}
use Rattle.prop_reader.specs.steps.Opened.{opened_value}
use Rattle.prop_reader.specs.steps.Readings.{reading_of, reading_value, by_readings}
use Rattle.prop_reader.proofs.JointsLemmas.{inward}
use Rattle.prop_reader.proofs.ReadingsLemmas.{readings_made}
use Rattle.prop_reader.proofs.TurnsLemmas.{none_begins, operator_begins, operator_closes, begun_left}
use Rattle.gdp_lines.specs.declared.fault.LineError.TheVariants.{Refused}
use Rattle.gdp_lines.proofs.SumSteps.{gives_error}
use Rattle.prop_reader.proofs.read.read_prop.Goals as goal

pub tokens-init : goal.tokens-init
tokens-init c =
    let booleans = (stands_for c.args.builder.now).booleans in
    ap (λ (frames : List Opened). made_of (by_readings booleans) (inward opened_value frames) wants c.args.tokens.now) c.new-stack.ensures.items
    ∙ readings_made booleans c.args.tokens.now

pub returns-in_err-name-in-None : goal.returns-in_err-name-in-None
returns-in_err-name-in-None c =
    let booleans = (stands_for c.args.builder.now).booleans in
    let whole = result_map (reading_of booleans) (prop_of c.args.tokens.now) in
    gives_error _ c.from_residual.result (Refused c.in_err-name-in-None.field-0.0) _ c.from_residual.ensures.1
    (none_begins (by_readings booleans) opened_value c.tokens.stack.items (option_map reading_value c.tokens.read) c.tokens.tokens whole c.in_err-name-in-None.field-0.0 c.tokens.invariant (ap (option_map reading_value) c.in-None.is) c.in_err-name-in-None.ensures)

pub tokens-smaller-in-Opens : goal.tokens-smaller-in-Opens
tokens-smaller-in-Opens c = begun_left c.tokens.tokens c.take_head.new.tokens (head_value c.in_ok-name-in-None.field-0) c.in_ok-name-in-None.ensures

pub tokens-preserved-in-Opens : goal.tokens-preserved-in-Opens
tokens-preserved-in-Opens c =
    let booleans = (stands_for c.args.builder.now).booleans in
    let whole = result_map (reading_of booleans) (prop_of c.args.tokens.now) in
    operator_begins (by_readings booleans) opened_value c.tokens.stack.items c.push.new.self.items c.new.result (option_map reading_value c.tokens.read) None c.tokens.tokens c.take_head.new.tokens whole
    c.in_ok-name-in-None.field-0 c.in-Opens.operator c.tokens.invariant (ap (option_map reading_value) c.in-None.is) c.in_ok-name-in-None.ensures c.in-Opens.is c.new.ensures c.in_ok-push-in-Opens.ensures.items refl

pub tokens-preserved : goal.tokens-preserved
tokens-preserved c =
    let booleans = (stands_for c.args.builder.now).booleans in
    let whole = result_map (reading_of booleans) (prop_of c.args.tokens.now) in
    operator_closes (by_readings booleans) opened_value c.tokens.stack.items c.pop.new.self.items c.in-Some-pop.opened (option_map reading_value c.tokens.read) (reading_value c.in-Some.prop) (reading_value c.in-Some-2.prop)
    (opened_value c.in_ok-with_argument-in-Closes.field-0) c.tokens.tokens c.take_joint.new.tokens whole c.in_ok-joint-in-Some.joint c.tokens.invariant (ap (option_map reading_value) c.in-Some.is) c.in_ok-joint-in-Some.ensures c.in-Closes.is
    c.in-Some-pop.ensures.items c.in_ok-with_argument-in-Closes.ensures (sym c.in_ok-closed-in-Closes.ensures ∙ ap (option_map reading_value) c.in-Some-2.is)
