use Rattle.std.proofs.Common.{◌≡◌, drop}
use Rattle.gdp_io.specs.Folder.{has, behind}
use Rattle.gdp_io.proofs.folders.find.Given as goal

abbrev pub invariant-files : goal.invariant-files
invariant-files l = record {
  known : has (drop l.index l.files) l.name ≡ has l.files l.name;
  behind : behind (drop l.index l.files) l.name ≡ behind l.files l.name;
}
