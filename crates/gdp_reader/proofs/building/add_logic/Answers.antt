use Rattle.std.proofs.Common.{◌∙◌, sym}
use Rattle.model_builder.specs.Standing.{stands_for}
use Rattle.gdp_lines.specs.Refusals.{line_error}
use Rattle.gdp_lines.proofs.SumSteps.{gives_error}
use Rattle.gdp_reader.proofs.LogicLemmas.{in_a_disjunction, line_fails, added_fails, added_leaves}
use Rattle.gdp_reader.proofs.building.add_logic.Goals as goal

pub returns-then-is_in_disjunction : goal.returns-then-is_in_disjunction
returns-then-is_in_disjunction c =
    in_a_disjunction (stands_for c.args.builder.now) c.args.line c.args.tokens.now (sym c.is_in_disjunction.ensures ∙ c.if-is_in_disjunction.true)

pub returns-in_err-prop : goal.returns-in_err-prop
returns-in_err-prop c =
    gives_error _ c.from_residual.result c.in_err-prop.field-0.0 _ c.from_residual.ensures.1
    (line_fails (stands_for c.args.builder.now) c.args.line c.args.tokens.now _ (sym c.is_in_disjunction.ensures ∙ c.if-is_in_disjunction.false) c.in_err-prop.ensures)

pub returns-in_err-prop-2 : goal.returns-in_err-prop-2
returns-in_err-prop-2 c =
    gives_error _ c.from_residual-in_err-prop-2.result (line_error c.in_err-prop-2.field-0.0) _ c.from_residual-in_err-prop-2.ensures.1
    (added_fails (stands_for c.args.builder.now) _ c.args.line c.args.tokens.now _ _ _ (sym c.is_in_disjunction.ensures ∙ c.if-is_in_disjunction.false) c.in_ok-prop.ensures c.prop.ensures c.in_err-prop-2.was)

pub returns : goal.returns
returns c =
    added_leaves (stands_for c.args.builder.now) _ c.args.line c.args.tokens.now _ _ _ (sym c.is_in_disjunction.ensures ∙ c.if-is_in_disjunction.false) c.in_ok-prop.ensures c.prop.ensures c.in_ok-prop-2.was
