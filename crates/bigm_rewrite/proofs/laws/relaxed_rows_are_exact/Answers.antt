use Rattle.bigm_rewrite.proofs.RowsAlone.{relaxed_rows_are_exact}
use Rattle.bigm_rewrite.proofs.laws.relaxed_rows_are_exact.Goals as goal

pub returns : goal.returns
returns c = relaxed_rows_are_exact
