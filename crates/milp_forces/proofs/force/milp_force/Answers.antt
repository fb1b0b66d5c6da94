use Rattle.std.proofs.Common.{◌≡◌, ◌<◌, ◌&&◌, true, length, sym, subst}
use Rattle.std.specs.List.{list_all}
use Rattle.fractions.specs.Width.{is_narrow}
use Rattle.milp_forces.specs.Milps.{is_row_fit}
use Rattle.lp_frame.proofs.Both.{second}
use Rattle.lp_rows.specs.Holding.{ids_below}
use Rattle.lp_rows.specs.Rows.{ascends_from}
use Rattle.milp_forces.proofs.Fits.{few_columns, parts_of}
use Rattle.milp_forces.proofs.Within.{within_fit}
use Rattle.milp_forces.proofs.force.milp_force.Goals as goal

pub push_rows-requires : goal.push_rows-requires
push_rows-requires c = subst (λ rows. list_all (λ r. is_row_fit r) rows ≡ true) (sym c.rows-stated.ensures) (parts_of c.args.milp.now (within_fit c.args.milp.now c.cols-given.ensures.within)).narrow

pub push_bounds-requires : goal.push_bounds-requires
push_bounds-requires c = subst (λ cols. length cols < 4294967296) (sym c.cols-given.ensures.cols) (few_columns c.args.milp.now (within_fit c.args.milp.now c.cols-given.ensures.within))

pub goal_terms-requires : goal.goal_terms-requires
goal_terms-requires c =
    let m = c.args.milp.now in
    second (ascends_from 0 m.goal && ids_below (length m.cols) m.goal) (list_all (λ t. is_narrow t.1) m.goal) (parts_of m (within_fit m c.cols-given.ensures.within)).goal
