use Rattle.std.proofs.Common.{◌≡◌, ◌∙◌, refl, ◌+◌, ◌*◌, List, [], ◌∷◌, ℕ}
use Rattle.fractions.specs.Fraction.{Fraction}
use Rattle.model_maker.specs.Steps.{as_fractions, row_of}
use Rattle.model_maker.proofs.Rows.{row_accepted, alternative_added, if_ok}
use Rattle.model_maker.proofs.choices.add_alternative.Goals as goal

pub add_row-requires : goal.add_row-requires
add_row-requires c =
    let ts : List (ℕ × Fraction) = (2 * c.args.row.pair, c.whole.result) ∷ (2 * c.args.row.pair + 1, c.whole-2.result) ∷ [] in
    let terms : ts ≡ as_fractions (row_of c.args.row).terms = rw (c.whole.ensures, c.whole-2.ensures) refl in
    row_accepted c.args.name.now c.args.line c.args.row _ _ c.requires.taken.0 ts c.requires.taken.1 c.in_ok-open_disjunct.ensures terms

pub returns : goal.returns
returns c d is_open =
    let ts : List (ℕ × Fraction) = (2 * c.args.row.pair, c.whole.result) ∷ (2 * c.args.row.pair + 1, c.whole-2.result) ∷ [] in
    let terms : ts ≡ as_fractions (row_of c.args.row).terms = rw (c.whole.ensures, c.whole-2.ensures) refl in
    let added = alternative_added c.args.name.now c.args.line c.args.row _ _ _ c.requires.taken.0 d ts c.requires.taken.1 is_open c.in_ok-open_disjunct.ensures terms c.in_ok-add_row.ensures in
    if_ok c.close.result _ _ (λ e. e ∙ added) c.close.ensures
