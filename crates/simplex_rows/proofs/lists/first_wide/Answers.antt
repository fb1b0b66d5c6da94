use Rattle.std.proofs.Common.{◌≡◌, ◌≢◌, ℕ, ℤ, pos, Option, Some, None, FitsSigned, MatchOption, rules, subst, sym, ◌∙◌}
use Rattle.std.specs.Int.{w128}
use Rattle.std.proofs.lemmas.Int.{to_z-of_z}
use Rattle.simplex_rows.specs.Sparse.{entry_in}
use Rattle.simplex_rows.specs.Width.{IsFactors, IsNarrowBy, IsFirstWideBy, IsNarrowStepOf, IsFirstWideStep}
use Rattle.simplex_rows.proofs.FactorLemmas.{zero_narrow, narrow_by_any, wide_by_any}
use Rattle.simplex_rows.proofs.lists.first_wide.Goals as goal

pub returns-then-entry-eq0 : goal.returns-then-entry-eq0
returns-then-entry-eq0 c =
    let fits : FitsSigned w128 c.entry_of-entry.result = search rules in
    let zero_here : c.entry_of-entry.result ≡ pos 0 = search rules in
    zero_narrow c.args.width c.args.enter (entry_in c.args.columns.now c.args.entries.now) (entry_in c.args.pivot_columns.now c.args.pivot_entries.now) c.requires.positive c.requires.narrow (sym c.entry_of-entry.ensures ∙ zero_here)

with_any : (n enter : ℕ) (a b : ℤ) (row pivot : ℕ → ℤ) (r : Option ℕ) → row enter ≢ pos 0 → IsFactors (pivot enter) (row enter) a b → MatchOption r (IsNarrowBy n a b row pivot) (IsFirstWideBy n a b row pivot) → MatchOption r (IsNarrowStepOf n enter row pivot) (IsFirstWideStep n enter row pivot)
with_any n enter a b row pivot None e x h = narrow_by_any n enter a b row pivot x h
with_any n enter a b row pivot (Some column) e x h = wide_by_any n enter a b row pivot column e x h

pub returns : goal.returns
returns c =
    let fits_entry : FitsSigned w128 c.entry_of-entry.result = search rules in
    let fits_pivot : FitsSigned w128 c.entry_of.result = search rules in
    let fits_a : FitsSigned w128 c.factors-a.result.0 = search rules in
    let fits_b : FitsSigned w128 c.factors-a.result.1 = search rules in
    let here : IsFactors c.entry_of.result c.entry_of-entry.result c.factors-a.result.0 c.factors-a.result.1 = simp to_z-of_z at c.factors-a.ensures in
    let factors : IsFactors (entry_in c.args.pivot_columns.now c.args.pivot_entries.now c.args.enter) (entry_in c.args.columns.now c.args.entries.now c.args.enter) c.factors-a.result.0 c.factors-a.result.1 =
    subst (λ z. IsFactors z (entry_in c.args.columns.now c.args.entries.now c.args.enter) c.factors-a.result.0 c.factors-a.result.1) c.entry_of.ensures (subst (λ z. IsFactors c.entry_of.result z c.factors-a.result.0 c.factors-a.result.1) c.entry_of-entry.ensures here) in
    let other : c.entry_of-entry.result ≢ pos 0 = search rules in
    let some : entry_in c.args.columns.now c.args.entries.now c.args.enter ≢ pos 0 = subst (λ z. z ≢ pos 0) c.entry_of-entry.ensures other in
    let found : MatchOption c.first_wide_column.result (IsNarrowBy c.args.width c.factors-a.result.0 c.factors-a.result.1 (entry_in c.args.columns.now c.args.entries.now) (entry_in c.args.pivot_columns.now c.args.pivot_entries.now)) (IsFirstWideBy c.args.width c.factors-a.result.0 c.factors-a.result.1 (entry_in c.args.columns.now c.args.entries.now) (entry_in c.args.pivot_columns.now c.args.pivot_entries.now)) = simp to_z-of_z at c.first_wide_column.ensures in
    with_any c.args.width c.args.enter c.factors-a.result.0 c.factors-a.result.1 (entry_in c.args.columns.now c.args.entries.now) (entry_in c.args.pivot_columns.now c.args.pivot_entries.now) c.first_wide_column.result some factors found
