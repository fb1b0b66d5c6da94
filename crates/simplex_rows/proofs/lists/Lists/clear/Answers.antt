use Rattle.std.proofs.Common.{◌≡◌, ◌<◌, ◌^◌, ◌↔◌, ◌++◌, IsTrue, unsigned_abs, ℕ, ℤ, List, length, take, drop, FitsSigned, rules, sym, ap, subst, ◌∙◌}
use Rattle.std.specs.Int.{w128}
use Rattle.std.proofs.lemmas.Int.{to_z-of_z}
use Rattle.std.proofs.Math.Seq.{take-append_seam}
use Rattle.int_linear.specs.Sums.{at}
use Rattle.simplex_rows.specs.Sparse.{entry_in, IsSparse}
use Rattle.simplex_rows.specs.loops.Merging.{IsMerged}
use Rattle.simplex_rows.specs.Steps.{IsCleared}
use Rattle.simplex_rows.specs.loops.Entries.{IsStepped, HasEntry, IsPrimitivePart}
use Rattle.simplex_rows.specs.Width.{IsFactors, IsNarrowBy, IsNarrowRow}
use Rattle.simplex_rows.proofs.FactorLemmas.{cleared_by, stepped_entry}
use Rattle.simplex_rows.proofs.Sparse.{entry_first, merged_narrow, merged_stepped, part_sparse, part_of}
use Rattle.simplex_rows.proofs.lists.Lists.clear.Goals as goal

-- what a borrowed vector is after it was written
whole : (n : ℕ) (now rest : List ℤ) → n ≡ length now → take n (now ++ rest) ≡ now
whole n now rest e = ap (λ l. take l (now ++ rest)) e ∙ take-append_seam now rest

pub merge-requires-clause-narrow : goal.merge-requires-clause-narrow
merge-requires-clause-narrow c =
    let fits_pivot = c.ranges.pivot_entry in
    let fits_entry = c.ranges.entry in
    let fits_a : FitsSigned w128 c.factors-a.result.0 = search rules in
    let fits_b : FitsSigned w128 c.factors-a.result.1 = search rules in
    let found : IsFactors c.args.pivot_entry c.args.entry c.factors-a.result.0 c.factors-a.result.1 = simp to_z-of_z at c.factors-a.ensures in
    let factors : IsFactors (entry_in c.args.pivot_columns.now c.args.pivot_entries.now c.args.enter) (entry_in c.args.columns.now c.args.entries.now c.args.enter) c.factors-a.result.0 c.factors-a.result.1 =
    subst (λ z. IsFactors z (entry_in c.args.columns.now c.args.entries.now c.args.enter) c.factors-a.result.0 c.factors-a.result.1) c.requires.pivot_entry (subst (λ z. IsFactors c.args.pivot_entry z c.factors-a.result.0 c.factors-a.result.1) c.requires.entry found) in
    let narrow : IsNarrowBy c.args.width c.factors-a.result.0 c.factors-a.result.1 (entry_in c.args.columns.now c.args.entries.now) (entry_in c.args.pivot_columns.now c.args.pivot_entries.now) = c.requires.narrow.each c.factors-a.result.0 c.factors-a.result.1 factors in
    simp to_z-of_z narrow

pub make_primitive-requires-clause-some : goal.make_primitive-requires-clause-some
make_primitive-requires-clause-some c =
    let fits_pivot = c.ranges.pivot_entry in
    let fits_entry = c.ranges.entry in
    let fits_a : FitsSigned w128 c.factors-a.result.0 = search rules in
    let fits_b : FitsSigned w128 c.factors-a.result.1 = search rules in
    let found : IsFactors c.args.pivot_entry c.args.entry c.factors-a.result.0 c.factors-a.result.1 = simp to_z-of_z at c.factors-a.ensures in
    let factors : IsFactors (entry_in c.args.pivot_columns.now c.args.pivot_entries.now c.args.enter) (entry_in c.args.columns.now c.args.entries.now c.args.enter) c.factors-a.result.0 c.factors-a.result.1 =
    subst (λ z. IsFactors z (entry_in c.args.columns.now c.args.entries.now c.args.enter) c.factors-a.result.0 c.factors-a.result.1) c.requires.pivot_entry (subst (λ z. IsFactors c.args.pivot_entry z c.factors-a.result.0 c.factors-a.result.1) c.requires.entry found) in
    let narrow : IsNarrowBy c.args.width c.factors-a.result.0 c.factors-a.result.1 (entry_in c.args.columns.now c.args.entries.now) (entry_in c.args.pivot_columns.now c.args.pivot_entries.now) = c.requires.narrow.each c.factors-a.result.0 c.factors-a.result.1 factors in
    let merged : IsMerged c.args.width c.factors-a.result.0 c.factors-a.result.1 (entry_in c.args.columns.now c.args.entries.now) (entry_in c.args.pivot_columns.now c.args.pivot_entries.now) c.merge.new.self.columns.items c.merge.new.self.entries.items = simp to_z-of_z at c.merge.ensures.merged in
    let stepped : IsStepped c.args.width c.factors-a.result.0 c.factors-a.result.1 (entry_in c.args.columns.now c.args.entries.now) (entry_in c.args.pivot_columns.now c.args.pivot_entries.now) (entry_in c.merge.new.self.columns.items c.merge.new.self.entries.items) = merged_stepped c.args.width c.factors-a.result.0 c.factors-a.result.1 (entry_in c.args.columns.now c.args.entries.now) (entry_in c.args.pivot_columns.now c.args.pivot_entries.now) c.merge.new.self.columns.items c.merge.new.self.entries.items merged in
    let some : HasEntry c.args.width (entry_in c.merge.new.self.columns.items c.merge.new.self.entries.items) =
    stepped_entry c.args.width c.args.enter c.factors-a.result.0 c.factors-a.result.1 (entry_in c.args.columns.now c.args.entries.now) (entry_in c.args.pivot_columns.now c.args.pivot_entries.now) (entry_in c.merge.new.self.columns.items c.merge.new.self.entries.items) c.requires.positive factors stepped c.requires.kept in
    subst (λ es. HasEntry (length es) (at es)) (sym c.deref_mut.ensures.value) (entry_first c.args.width c.merge.new.self.columns.items c.merge.new.self.entries.items merged.sparse some)

pub make_primitive-requires-clause-narrow : goal.make_primitive-requires-clause-narrow
make_primitive-requires-clause-narrow c =
    let fits_pivot = c.ranges.pivot_entry in
    let fits_entry = c.ranges.entry in
    let fits_a : FitsSigned w128 c.factors-a.result.0 = search rules in
    let fits_b : FitsSigned w128 c.factors-a.result.1 = search rules in
    let found : IsFactors c.args.pivot_entry c.args.entry c.factors-a.result.0 c.factors-a.result.1 = simp to_z-of_z at c.factors-a.ensures in
    let factors : IsFactors (entry_in c.args.pivot_columns.now c.args.pivot_entries.now c.args.enter) (entry_in c.args.columns.now c.args.entries.now c.args.enter) c.factors-a.result.0 c.factors-a.result.1 =
    subst (λ z. IsFactors z (entry_in c.args.columns.now c.args.entries.now c.args.enter) c.factors-a.result.0 c.factors-a.result.1) c.requires.pivot_entry (subst (λ z. IsFactors c.args.pivot_entry z c.factors-a.result.0 c.factors-a.result.1) c.requires.entry found) in
    let narrow : IsNarrowBy c.args.width c.factors-a.result.0 c.factors-a.result.1 (entry_in c.args.columns.now c.args.entries.now) (entry_in c.args.pivot_columns.now c.args.pivot_entries.now) = c.requires.narrow.each c.factors-a.result.0 c.factors-a.result.1 factors in
    let merged : IsMerged c.args.width c.factors-a.result.0 c.factors-a.result.1 (entry_in c.args.columns.now c.args.entries.now) (entry_in c.args.pivot_columns.now c.args.pivot_entries.now) c.merge.new.self.columns.items c.merge.new.self.entries.items = simp to_z-of_z at c.merge.ensures.merged in
    let stepped : IsStepped c.args.width c.factors-a.result.0 c.factors-a.result.1 (entry_in c.args.columns.now c.args.entries.now) (entry_in c.args.pivot_columns.now c.args.pivot_entries.now) (entry_in c.merge.new.self.columns.items c.merge.new.self.entries.items) = merged_stepped c.args.width c.factors-a.result.0 c.factors-a.result.1 (entry_in c.args.columns.now c.args.entries.now) (entry_in c.args.pivot_columns.now c.args.pivot_entries.now) c.merge.new.self.columns.items c.merge.new.self.entries.items merged in
    subst (λ es. IsNarrowRow (at es)) (sym c.deref_mut.ensures.value) (merged_narrow c.args.width c.factors-a.result.0 c.factors-a.result.1 (entry_in c.args.columns.now c.args.entries.now) (entry_in c.args.pivot_columns.now c.args.pivot_entries.now) c.merge.new.self.columns.items c.merge.new.self.entries.items narrow merged)

pub returns-clause-sparse : goal.returns-clause-sparse
returns-clause-sparse c =
    let fits_pivot = c.ranges.pivot_entry in
    let fits_entry = c.ranges.entry in
    let fits_a : FitsSigned w128 c.factors-a.result.0 = search rules in
    let fits_b : FitsSigned w128 c.factors-a.result.1 = search rules in
    let found : IsFactors c.args.pivot_entry c.args.entry c.factors-a.result.0 c.factors-a.result.1 = simp to_z-of_z at c.factors-a.ensures in
    let factors : IsFactors (entry_in c.args.pivot_columns.now c.args.pivot_entries.now c.args.enter) (entry_in c.args.columns.now c.args.entries.now c.args.enter) c.factors-a.result.0 c.factors-a.result.1 =
    subst (λ z. IsFactors z (entry_in c.args.columns.now c.args.entries.now c.args.enter) c.factors-a.result.0 c.factors-a.result.1) c.requires.pivot_entry (subst (λ z. IsFactors c.args.pivot_entry z c.factors-a.result.0 c.factors-a.result.1) c.requires.entry found) in
    let narrow : IsNarrowBy c.args.width c.factors-a.result.0 c.factors-a.result.1 (entry_in c.args.columns.now c.args.entries.now) (entry_in c.args.pivot_columns.now c.args.pivot_entries.now) = c.requires.narrow.each c.factors-a.result.0 c.factors-a.result.1 factors in
    let merged : IsMerged c.args.width c.factors-a.result.0 c.factors-a.result.1 (entry_in c.args.columns.now c.args.entries.now) (entry_in c.args.pivot_columns.now c.args.pivot_entries.now) c.merge.new.self.columns.items c.merge.new.self.entries.items = simp to_z-of_z at c.merge.ensures.merged in
    let stepped : IsStepped c.args.width c.factors-a.result.0 c.factors-a.result.1 (entry_in c.args.columns.now c.args.entries.now) (entry_in c.args.pivot_columns.now c.args.pivot_entries.now) (entry_in c.merge.new.self.columns.items c.merge.new.self.entries.items) = merged_stepped c.args.width c.factors-a.result.0 c.factors-a.result.1 (entry_in c.args.columns.now c.args.entries.now) (entry_in c.args.pivot_columns.now c.args.pivot_entries.now) c.merge.new.self.columns.items c.merge.new.self.entries.items merged in
    let count : c.merge.new.self.entries.len ≡ length c.make_primitive.new.entries = sym c.deref_mut.ensures.len ∙ sym c.make_primitive.auto.entries in
    let written = whole c.merge.new.self.entries.len c.make_primitive.new.entries (drop (length c.make_primitive.new.entries) c.merge.new.self.entries.items) count in
    let size : length c.make_primitive.new.entries ≡ length c.merge.new.self.entries.items = c.make_primitive.auto.entries ∙ ap length c.deref_mut.ensures.value in
    let part : IsPrimitivePart (length c.merge.new.self.entries.items) (at c.merge.new.self.entries.items) (at c.make_primitive.new.entries) =
    subst (λ es. IsPrimitivePart (length es) (at es) (at c.make_primitive.new.entries)) c.deref_mut.ensures.value c.make_primitive.ensures.part in
    subst (λ es. IsSparse c.args.width c.merge.new.self.columns.items es) (sym written) (part_sparse c.args.width c.merge.new.self.columns.items c.merge.new.self.entries.items c.make_primitive.new.entries merged.sparse size part)

pub returns-clause-cleared : goal.returns-clause-cleared
returns-clause-cleared c =
    let fits_pivot = c.ranges.pivot_entry in
    let fits_entry = c.ranges.entry in
    let fits_a : FitsSigned w128 c.factors-a.result.0 = search rules in
    let fits_b : FitsSigned w128 c.factors-a.result.1 = search rules in
    let found : IsFactors c.args.pivot_entry c.args.entry c.factors-a.result.0 c.factors-a.result.1 = simp to_z-of_z at c.factors-a.ensures in
    let factors : IsFactors (entry_in c.args.pivot_columns.now c.args.pivot_entries.now c.args.enter) (entry_in c.args.columns.now c.args.entries.now c.args.enter) c.factors-a.result.0 c.factors-a.result.1 =
    subst (λ z. IsFactors z (entry_in c.args.columns.now c.args.entries.now c.args.enter) c.factors-a.result.0 c.factors-a.result.1) c.requires.pivot_entry (subst (λ z. IsFactors c.args.pivot_entry z c.factors-a.result.0 c.factors-a.result.1) c.requires.entry found) in
    let narrow : IsNarrowBy c.args.width c.factors-a.result.0 c.factors-a.result.1 (entry_in c.args.columns.now c.args.entries.now) (entry_in c.args.pivot_columns.now c.args.pivot_entries.now) = c.requires.narrow.each c.factors-a.result.0 c.factors-a.result.1 factors in
    let merged : IsMerged c.args.width c.factors-a.result.0 c.factors-a.result.1 (entry_in c.args.columns.now c.args.entries.now) (entry_in c.args.pivot_columns.now c.args.pivot_entries.now) c.merge.new.self.columns.items c.merge.new.self.entries.items = simp to_z-of_z at c.merge.ensures.merged in
    let stepped : IsStepped c.args.width c.factors-a.result.0 c.factors-a.result.1 (entry_in c.args.columns.now c.args.entries.now) (entry_in c.args.pivot_columns.now c.args.pivot_entries.now) (entry_in c.merge.new.self.columns.items c.merge.new.self.entries.items) = merged_stepped c.args.width c.factors-a.result.0 c.factors-a.result.1 (entry_in c.args.columns.now c.args.entries.now) (entry_in c.args.pivot_columns.now c.args.pivot_entries.now) c.merge.new.self.columns.items c.merge.new.self.entries.items merged in
    let count : c.merge.new.self.entries.len ≡ length c.make_primitive.new.entries = sym c.deref_mut.ensures.len ∙ sym c.make_primitive.auto.entries in
    let written = whole c.merge.new.self.entries.len c.make_primitive.new.entries (drop (length c.make_primitive.new.entries) c.merge.new.self.entries.items) count in
    let size : length c.make_primitive.new.entries ≡ length c.merge.new.self.entries.items = c.make_primitive.auto.entries ∙ ap length c.deref_mut.ensures.value in
    let part : IsPrimitivePart (length c.merge.new.self.entries.items) (at c.merge.new.self.entries.items) (at c.make_primitive.new.entries) =
    subst (λ es. IsPrimitivePart (length es) (at es) (at c.make_primitive.new.entries)) c.deref_mut.ensures.value c.make_primitive.ensures.part in
    subst (λ es. IsCleared c.args.width c.args.enter (entry_in c.args.columns.now c.args.entries.now) (entry_in c.args.pivot_columns.now c.args.pivot_entries.now) (entry_in c.merge.new.self.columns.items es)) (sym written)
    (cleared_by c.args.width c.args.enter c.factors-a.result.0 c.factors-a.result.1 (entry_in c.args.columns.now c.args.entries.now) (entry_in c.args.pivot_columns.now c.args.pivot_entries.now) (entry_in c.merge.new.self.columns.items c.merge.new.self.entries.items) (entry_in c.merge.new.self.columns.items c.make_primitive.new.entries) c.requires.within c.requires.positive factors stepped
    (part_of c.args.width c.merge.new.self.columns.items c.merge.new.self.entries.items c.make_primitive.new.entries merged.sparse size part))

pub returns-clause-small : goal.returns-clause-small
returns-clause-small c =
    let count : c.merge.new.self.entries.len ≡ length c.make_primitive.new.entries = sym c.deref_mut.ensures.len ∙ sym c.make_primitive.auto.entries in
    let written = whole c.merge.new.self.entries.len c.make_primitive.new.entries (drop (length c.make_primitive.new.entries) c.merge.new.self.entries.items) count in
    subst (λ es. IsTrue c.is_small.result ↔ ((k : ℕ) → k < length es → unsigned_abs (at es k) < 2 ^ 62)) c.deref.ensures.value c.is_small.ensures
