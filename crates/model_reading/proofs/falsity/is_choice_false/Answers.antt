use Rattle.std.proofs.Common.{◌∙◌, ℕ, sym, ap, slice_index_or}
use Rattle.gdp_tables.specs.declared.tri.Tri.{Tri}
use Rattle.gdp_tables.specs.declared.tri.Tri.TheVariants.{No}
use Rattle.model_tree.specs.View.{disjunction_of, disjuncts_of}
use Rattle.model_items.specs.Items.{selection, choice}
use Rattle.model_reading.specs.Reading.{is_false}
use Rattle.model_reading.specs.Passing.{has_yes}
use Rattle.model_reading.proofs.FalseConditions.{where_yes, where_no, where_open}
use Rattle.model_reading.proofs.falsity.is_choice_false.Goals as goal

pub returns-in-Yes : goal.returns-in-Yes
returns-in-Yes c =
    let t : ℕ → Tri = λ k. slice_index_or c.args.tris.now k No in
    let mode = (disjunction_of c.args.disjunction.now).0.mode in
    let js = (disjunction_of c.args.disjunction.now).1 in
    c.is_selection_false-in-Yes.ensures
    ∙ ap (λ x. is_false t (selection x (disjuncts_of c.disjuncts-in-Yes.result.now))) c.mode-in-Yes.ensures
    ∙ ap (λ x. is_false t (selection mode x)) c.disjuncts-in-Yes.ensures.tree
    ∙ where_yes c.in-Some.indicator mode js t c.in-Yes.ensures
    ∙ ap (λ u. is_false t (choice u mode js)) (sym c.in-Some.is)

pub returns-in-No : goal.returns-in-No
returns-in-No c =
    let t : ℕ → Tri = λ k. slice_index_or c.args.tris.now k No in
    let mode = (disjunction_of c.args.disjunction.now).0.mode in
    let js = (disjunction_of c.args.disjunction.now).1 in
    c.has_true.ensures
    ∙ ap (λ x. has_yes x t) c.disjuncts-in-No.ensures.tree
    ∙ where_no c.in-Some.indicator mode js t c.in-No.ensures
    ∙ ap (λ u. is_false t (choice u mode js)) (sym c.in-Some.is)

pub returns-in-Open : goal.returns-in-Open
returns-in-Open c =
    let t : ℕ → Tri = λ k. slice_index_or c.args.tris.now k No in
    let mode = (disjunction_of c.args.disjunction.now).0.mode in
    let js = (disjunction_of c.args.disjunction.now).1 in
    where_open c.in-Some.indicator mode js t c.in-Open.ensures ∙ ap (λ u. is_false t (choice u mode js)) (sym c.in-Some.is)
