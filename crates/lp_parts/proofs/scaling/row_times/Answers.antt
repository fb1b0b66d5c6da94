use Rattle.std.proofs.Common.{◌≡◌, ◌∙◌, sym, ap, ℕ, ℤ, to_z, of_z, List, Option, Some}
use Rattle.std.specs.Int.{w128}
use Rattle.lp_rows.specs.declared.kinds.Rel.{Rel}
use Rattle.lp_rows.specs.declared.rows.RowError.TheVariants as error
use Rattle.lp_rows.specs.Rows.{RowValue}
use Rattle.lp_grammar.specs.Scaling.{scaled}
use Rattle.lp_parts.proofs.Scaled.{row_kept, row_terms_refused, number_wraps, row_is_made, never_refused}
use Rattle.lp_parts.proofs.scaling.row_times.Goals as goal

pub returns-in_default : goal.returns-in_default
returns-in_default c = row_terms_refused c.args.scale c.args.terms.now c.args.rel c.args.right (sym c.in_default.is ∙ c.in_ok-terms.ensures)

abbrev row_some : List (ℕ × ℤ) → Rel → ℤ → Option RowValue
row_some l rel z = Some (record { terms = l; rel = rel; right = z })

pub returns-in-Ok : goal.returns-in-Ok
returns-in-Ok c =
    let right : ℤ = c.in-Some-scaled.right in
    let same : to_z w128 (of_z w128 right) ≡ right = number_wraps (scaled c.args.scale c.args.right) right c.in-Some-scaled.ensures in
    ap (λ (r : RowValue). Some r) (row_is_made c.in-Ok.row c.as_slice.result.now c.args.rel (to_z w128 (of_z w128 right)) c.in-Ok.ensures.made)
    ∙ ap (λ (z : ℤ). row_some c.as_slice.result.now c.args.rel z) same
    ∙ ap (λ (l : List (ℕ × ℤ)). row_some l c.args.rel right) c.as_slice.ensures
    ∙ row_kept c.args.scale c.args.terms.now c.args.rel c.args.right c.in-Some.terms right (sym c.in-Some.is ∙ c.in_ok-terms.ensures) c.in-Some-scaled.ensures

pub unreachable-requires : goal.unreachable-requires
unreachable-requires c =
    never_refused c.args.scale c.args.terms.now c.args.rel c.in-Some.terms c.as_slice.result.now c.in-Some-scaled.right c.args.right c.in-Err-Order.field-0 error.Order c.requires.ordered c.as_slice.ensures
    (sym c.in-Some.is ∙ c.in_ok-terms.ensures) c.in-Some-scaled.ensures c.in-Err-Order.field-0-is (λ e. absurd (cc e)) c.in-Err-Order.ensures.made

pub unreachable-requires-in-Err-Zero : goal.unreachable-requires-in-Err-Zero
unreachable-requires-in-Err-Zero c =
    never_refused c.args.scale c.args.terms.now c.args.rel c.in-Some.terms c.as_slice.result.now c.in-Some-scaled.right c.args.right c.in-Err-Zero.field-0 error.Zero c.requires.ordered c.as_slice.ensures
    (sym c.in-Some.is ∙ c.in_ok-terms.ensures) c.in-Some-scaled.ensures c.in-Err-Zero.field-0-is (λ e. absurd (cc e)) c.in-Err-Zero.ensures.made

pub unreachable-requires-in-Err-Coefficient : goal.unreachable-requires-in-Err-Coefficient
unreachable-requires-in-Err-Coefficient c =
    never_refused c.args.scale c.args.terms.now c.args.rel c.in-Some.terms c.as_slice.result.now c.in-Some-scaled.right c.args.right c.in-Err-Coefficient.field-0 error.Coefficient c.requires.ordered c.as_slice.ensures
    (sym c.in-Some.is ∙ c.in_ok-terms.ensures) c.in-Some-scaled.ensures c.in-Err-Coefficient.field-0-is (λ e. absurd (cc e)) c.in-Err-Coefficient.ensures.made
