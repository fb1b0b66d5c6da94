use Rattle.std.proofs.Common.{length, ap, sym, ◌∙◌, Bool, List, Option, ℕ, arith}
use Rattle.model_builder.specs.Standing.{stands_for}
use Rattle.gdp_lines.proofs.SumSteps.{gives_error}
use Rattle.gdp_lines.specs.declared.fault.LineError.TheVariants.{Refused}
use Rattle.gdp_lines.specs.Lines.{summand}
use Rattle.std.proofs.Common.{map}
use Rattle.gdp_reader.specs.steps.Terms.{is_marked, with_mark, terms_value}
use Rattle.gdp_reader.proofs.MarksLemmas.{twice_at, marked_at, written}
use Rattle.gdp_reader.proofs.TermsLemmas.{next_term, terms_twice, terms_read}
use Rattle.gdp_reader.proofs.building.read_terms.Goals as goal

pub returns-then-mark : goal.returns-then-mark
returns-then-mark c =
    let vars = (stands_for c.args.builder.now).vars in
    terms_twice vars (map summand c.args.sum.now)
    (twice_at (length vars) c.terms.seen.items vars c.args.sum.now c.terms.term-index c.var_id-id.result c.terms.invariant.marked c.var_id-id.ensures.within c.terms-test.true c.var_id-id.ensures.id
    (ap (λ (s : List Bool). is_marked s c.var_id-id.result) (sym c.as_mut_slice.ensures.value) ∙ sym c.mark.ensures.before ∙ c.if-mark.true))

pub terms-preserved : goal.terms-preserved
terms-preserved c =
    let vars = (stands_for c.args.builder.now).vars in
    let both = marked_at (length vars) c.terms.seen.items c.mark.new.seen vars c.args.sum.now c.terms.term-index c.var_id-id.result c.terms.invariant.marked c.terms.invariant.once c.var_id-id.ensures.within c.terms-test.true c.var_id-id.ensures.id
    (ap (λ (s : List Bool). is_marked s c.var_id-id.result) (sym c.as_mut_slice.ensures.value) ∙ sym c.mark.ensures.before ∙ c.if-mark.false)
    (c.mark.ensures.after ∙ ap (λ (s : List Bool). with_mark s c.var_id-id.result) c.as_mut_slice.ensures.value) in
    record {
      marked = written (length vars) c.terms.seen.len c.terms.seen.items c.mark.new.seen _ _ (sym c.terms.seen.ok.0) c.terms.invariant.marked both.0;
      once = both.1;
      read = next_term vars c.args.sum.now c.terms.term-index (terms_value c.terms.terms) (terms_value c.in_ok-terms.terms) c.var_id-id.result c.coefficient.result c.terms-test.true c.terms.invariant.read c.var_id-id.ensures.id c.coefficient.ensures c.in_ok-terms.ensures;
    }

pub returns-in_err-terms-2 : goal.returns-in_err-terms-2
returns-in_err-terms-2 c =
    gives_error _ c.from_residual-in_err-terms-2.result (Refused c.in_err-terms-2.field-0.0) _ c.from_residual-in_err-terms-2.ensures.1
    (terms_read (stands_for c.args.builder.now).vars c.args.sum.now c.terms.term-index (terms_value c.terms.terms) c.terms-test.false c.terms.invariant.once c.terms.invariant.read ∙ ap terms_value c.in_err-terms-2.was)

pub returns : goal.returns
returns c =
    terms_read (stands_for c.args.builder.now).vars c.args.sum.now c.terms.term-index (terms_value c.terms.terms) c.terms-test.false c.terms.invariant.once c.terms.invariant.read ∙ ap terms_value c.in_ok-terms-2.was
