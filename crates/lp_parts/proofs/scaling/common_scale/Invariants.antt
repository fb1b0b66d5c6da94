use Rattle.std.proofs.Common.{◌≡◌, ◌≤◌, ◌<◌, ◌^◌, drop, Some}
use Rattle.lp_grammar.specs.Scaling.{scale_over, scale_of}
use Rattle.lp_parts.proofs.scaling.common_scale.Given as goal

abbrev pub invariant-terms : goal.invariant-terms
invariant-terms l = record {
  some : 0 < l.scale;
  small : l.scale ≤ 10 ^ 30;
  so_far : scale_over (Some l.scale) (drop l.term-index l.terms) ≡ scale_of l.terms l.fn.number;
}
