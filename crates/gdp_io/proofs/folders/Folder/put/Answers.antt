use Rattle.gdp_io.proofs.Filed.{puts}
use Rattle.gdp_io.proofs.folders.Folder.put.Goals as goal

pub returns-clause-puts : goal.returns-clause-puts
returns-clause-puts c = puts _ _ record { name = c.in_ok-name.name; bytes = c.in_ok-bytes.bytes } _ _ c.in_ok-push.ensures.items c.in_ok-name.ensures c.in_ok-bytes.ensures c.requires
