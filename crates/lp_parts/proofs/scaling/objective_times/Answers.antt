use Rattle.std.proofs.Common.{◌≡◌, ◌∙◌, sym, ap, ℕ, ℤ, to_z, of_z, List, Option, Some}
use Rattle.std.specs.Int.{w128}
use Rattle.lp_grammar.specs.Scaling.{scaled}
use Rattle.lp_grammar.specs.Taking.{Objective}
use Rattle.lp_parts.proofs.Scaled.{objective_kept, objective_refused, number_wraps}
use Rattle.lp_parts.proofs.scaling.objective_times.Goals as goal

pub returns-in_default : goal.returns-in_default
returns-in_default c = objective_refused c.args.scale c.args.terms.now c.args.constant (sym c.in_default.is ∙ c.in_ok-terms.ensures)

abbrev objective_some : List (ℕ × ℤ) → ℤ → ℕ → Option Objective
objective_some l z k = Some (record { terms = l; constant = z; scale = k })

pub returns : goal.returns
returns c =
    let constant : ℤ = c.in-Some-scaled.constant in
    let same : to_z w128 (of_z w128 constant) ≡ constant = number_wraps (scaled c.args.scale c.args.constant) constant c.in-Some-scaled.ensures in
    ap (λ (o : Objective). Some o) c.with_parts.ensures
    ∙ ap (λ (z : ℤ). objective_some c.in-Some.terms z c.args.scale) same
    ∙ objective_kept c.args.scale c.args.terms.now c.args.constant c.in-Some.terms constant (sym c.in-Some.is ∙ c.in_ok-terms.ensures) c.in-Some-scaled.ensures c.if-scale-gt-MOST_STORED.false
