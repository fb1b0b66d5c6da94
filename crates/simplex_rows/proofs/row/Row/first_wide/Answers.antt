use Rattle.std.proofs.Common.{◌≡◌, ◌<◌, ◌^◌, ◌<ℤ◌, ℕ, pos, length, unsigned_abs, MatchOption, arith, subst, sym, refl, ◌∙◌}
use Rattle.fractions.specs.Width.{IsNarrow}
use Rattle.int_linear.specs.Sums.{at}
use Rattle.simplex_rows.specs.Sparse.{entry_in}
use Rattle.simplex_rows.specs.Width.{IsNarrowStepOf, IsFirstWideStep, IsNarrowRow}
use Rattle.simplex_rows.proofs.FactorLemmas.{small_narrow}
use Rattle.simplex_rows.proofs.Sparse.{row_width, row_is, row_sparse, moved, entry_all}
use Rattle.simplex_rows.proofs.row.Row.first_wide.Goals as goal

pub returns-then-self : goal.returns-then-self
returns-then-self c =
    let self_small : (j : ℕ) → unsigned_abs (at c.args.self.now j) < 2 ^ 62 =
    λ j. subst (λ f. unsigned_abs (f j) < 2 ^ 62) (row_is c.self.inside.width c.args.self.now c.self.inside.lists.columns.items c.self.inside.lists.columns.items c.self.inside.lists.entries.items c.self.inside.lists.entries.items c.self.invariant.sparse c.self.view_is refl refl)
    (entry_all (λ z. unsigned_abs z < 2 ^ 62) c.self.inside.lists.columns.items c.self.inside.lists.entries.items j (omega arith) (λ k l. c.self.invariant.marked.below c.if-self.true k)) in
    let pivot_small : (j : ℕ) → unsigned_abs (at c.args.pivot.now j) < 2 ^ 62 =
    λ j. subst (λ f. unsigned_abs (f j) < 2 ^ 62) (row_is c.pivot.inside.width c.args.pivot.now c.pivot.inside.lists.columns.items c.pivot.inside.lists.columns.items c.pivot.inside.lists.entries.items c.pivot.inside.lists.entries.items c.pivot.invariant.sparse c.pivot.view_is refl refl)
    (entry_all (λ z. unsigned_abs z < 2 ^ 62) c.pivot.inside.lists.columns.items c.pivot.inside.lists.entries.items j (omega arith) (λ k l. c.pivot.invariant.marked.below c.if-pivot.true k)) in
    small_narrow (length c.args.self.now) c.args.enter (at c.args.self.now) (at c.args.pivot.now) c.requires.positive self_small pivot_small

pub first_wide-requires-clause-pivot : goal.first_wide-requires-clause-pivot
first_wide-requires-clause-pivot c =
    let size : c.self.inside.width ≡ length c.args.self.now = row_width c.self.inside.width (entry_in c.self.inside.lists.columns.items c.self.inside.lists.entries.items) c.args.self.now c.self.view_is in
    let pivot_size : c.pivot.inside.width ≡ length c.args.pivot.now = row_width c.pivot.inside.width (entry_in c.pivot.inside.lists.columns.items c.pivot.inside.lists.entries.items) c.args.pivot.now c.pivot.view_is in
    row_sparse c.pivot.inside.width c.self.inside.width c.pivot.inside.lists.columns.items c.deref-3.result.now c.pivot.inside.lists.entries.items c.deref-4.result.now c.pivot.invariant.sparse (pivot_size ∙ sym c.requires.same ∙ sym size) c.deref-3.ensures.value c.deref-4.ensures.value

pub first_wide-requires-clause-within : goal.first_wide-requires-clause-within
first_wide-requires-clause-within c =
    let size : c.self.inside.width ≡ length c.args.self.now = row_width c.self.inside.width (entry_in c.self.inside.lists.columns.items c.self.inside.lists.entries.items) c.args.self.now c.self.view_is in
    let within = c.requires.within in
    omega arith

pub first_wide-requires-clause-positive : goal.first_wide-requires-clause-positive
first_wide-requires-clause-positive c =
    let row : entry_in c.deref.result.now c.deref-2.result.now ≡ at c.args.self.now = row_is c.self.inside.width c.args.self.now c.self.inside.lists.columns.items c.deref.result.now c.self.inside.lists.entries.items c.deref-2.result.now c.self.invariant.sparse c.self.view_is c.deref.ensures.value c.deref-2.ensures.value in
    let pivot : entry_in c.deref-3.result.now c.deref-4.result.now ≡ at c.args.pivot.now = row_is c.pivot.inside.width c.args.pivot.now c.pivot.inside.lists.columns.items c.deref-3.result.now c.pivot.inside.lists.entries.items c.deref-4.result.now c.pivot.invariant.sparse c.pivot.view_is c.deref-3.ensures.value c.deref-4.ensures.value in
    subst (λ f. pos 0 <ℤ f c.args.enter) (sym pivot) c.requires.positive

pub first_wide-requires-clause-narrow : goal.first_wide-requires-clause-narrow
first_wide-requires-clause-narrow c =
    let none : IsNarrow (pos 0) = omega arith in
    subst (λ cs. IsNarrowRow (entry_in cs c.deref-2.result.now)) (sym c.deref.ensures.value) (subst (λ es. IsNarrowRow (entry_in c.self.inside.lists.columns.items es)) (sym c.deref-2.ensures.value)
    (record { each = λ j. entry_all (λ z. IsNarrow z) c.self.inside.lists.columns.items c.self.inside.lists.entries.items j none (λ k l. c.self.invariant.marked.narrow.each k) }))

pub returns : goal.returns
returns c =
    let size : c.self.inside.width ≡ length c.args.self.now = row_width c.self.inside.width (entry_in c.self.inside.lists.columns.items c.self.inside.lists.entries.items) c.args.self.now c.self.view_is in
    let row : entry_in c.deref.result.now c.deref-2.result.now ≡ at c.args.self.now = row_is c.self.inside.width c.args.self.now c.self.inside.lists.columns.items c.deref.result.now c.self.inside.lists.entries.items c.deref-2.result.now c.self.invariant.sparse c.self.view_is c.deref.ensures.value c.deref-2.ensures.value in
    let pivot : entry_in c.deref-3.result.now c.deref-4.result.now ≡ at c.args.pivot.now = row_is c.pivot.inside.width c.args.pivot.now c.pivot.inside.lists.columns.items c.deref-3.result.now c.pivot.inside.lists.entries.items c.deref-4.result.now c.pivot.invariant.sparse c.pivot.view_is c.deref-3.ensures.value c.deref-4.ensures.value in
    moved (λ n f g. MatchOption c.first_wide.result (IsNarrowStepOf n c.args.enter f g) (IsFirstWideStep n c.args.enter f g)) c.self.inside.width (length c.args.self.now) (entry_in c.deref.result.now c.deref-2.result.now) (at c.args.self.now) (entry_in c.deref-3.result.now c.deref-4.result.now) (at c.args.pivot.now) size row pivot c.first_wide.ensures
