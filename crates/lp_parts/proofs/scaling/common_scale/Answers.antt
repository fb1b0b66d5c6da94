use Rattle.std.proofs.Common.{◌∙◌, ap, sym, ℕ, Option, Some}
use Rattle.lp_grammar.specs.Scaling.{scale_over, scale_with}
use Rattle.lp_parts.proofs.Scaled.{none_over, scale_stops}
use Rattle.lp_parts.proofs.scaling.common_scale.Goals as goal

pub returns-in-None-scale_with-clause-scale : goal.returns-in-None-scale_with-clause-scale
returns-in-None-scale_with-clause-scale c =
    scale_stops c.args.terms.now c.terms.term-index c.terms.scale c.denominator-in-terms.result c.term-item.result _ c.terms-test.true c.term-item.is c.denominator-in-terms.ensures.value c.in-None-scale_with.ensures.scale
    c.terms.invariant.so_far

pub returns-in-None-clause-scale : goal.returns-in-None-clause-scale
returns-in-None-clause-scale c = sym (ap (λ (d : ℕ). scale_over (scale_with d (Some 1)) c.args.terms.now) (sym c.denominator.ensures.value) ∙ ap (λ (k : Option ℕ). scale_over k c.args.terms.now) (sym c.in-None.ensures.scale) ∙ none_over c.args.terms.now)
