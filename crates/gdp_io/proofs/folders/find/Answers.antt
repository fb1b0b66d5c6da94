use Rattle.std.proofs.Common.{rules}
use Rattle.gdp_io.proofs.Filed.{found_at}
use Rattle.gdp_io.proofs.folders.find.Goals as goal

pub returns-then-eq-clause-found : goal.returns-then-eq-clause-found
returns-then-eq-clause-found c =
    found_at c.args.files.now c.files.index c.index-files-index.result c.args.name.now c.files-test.true c.index-files-index.is (search rules) c.files.invariant.behind
