use Rattle.std.proofs.Common.{rules}
use Rattle.gdp_io.proofs.Filed.{behind_missing}
use Rattle.gdp_io.proofs.folders.Folder.has.Goals as goal

pub returns-clause-unknown : goal.returns-clause-unknown
returns-clause-unknown c missing = behind_missing c.args.self.now.files.items c.args.name.now (search rules)
