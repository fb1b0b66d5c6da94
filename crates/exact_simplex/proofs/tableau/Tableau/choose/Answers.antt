use Rattle.std.proofs.Common.{ap, ◌∙◌, sym}
use Rattle.exact_simplex.specs.Table.{Table}
use Rattle.exact_simplex.specs.Bland.{bland_move}
use Rattle.exact_simplex.proofs.Parts.{parts_bland, parts_leaving}
use Rattle.exact_simplex.proofs.tableau.Tableau.choose.Goals as goal

pub returns-in-Named-clause-value : goal.returns-in-Named-clause-value
returns-in-Named-clause-value c =
    let t : Table = record { columns = c.self.inside.columns; height = c.self.inside.height; rows = c.self.inside.rows.items; basis = c.self.inside.basis.items; dropped = c.self.inside.dropped } in
    c.in-Named.ensures.value ∙ parts_bland t c.deref.result.now c.deref-2.result.now c.deref.ensures.value c.deref-2.ensures.value ∙ ap bland_move c.self.view_is

pub returns-in-Enters-clause-value : goal.returns-in-Enters-clause-value
returns-in-Enters-clause-value c =
    let t : Table = record { columns = c.self.inside.columns; height = c.self.inside.height; rows = c.self.inside.rows.items; basis = c.self.inside.basis.items; dropped = c.self.inside.dropped } in
    c.leaving_by.ensures
    ∙ parts_leaving t c.deref-in-Enters-3.result.now c.deref-in-Enters-4.result.now c.in-Enters.enter c.deref-in-Enters-3.ensures.value c.deref-in-Enters-4.ensures.value
    ∙ sym (parts_leaving t c.deref.result.now c.deref-2.result.now c.in-Enters.enter c.deref.ensures.value c.deref-2.ensures.value)
    ∙ c.in-Enters.ensures.value ∙ parts_bland t c.deref.result.now c.deref-2.result.now c.deref.ensures.value c.deref-2.ensures.value ∙ ap bland_move c.self.view_is
