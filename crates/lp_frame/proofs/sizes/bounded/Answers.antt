use Rattle.std.proofs.Common.{◌<◌, length, rules, sym}
use Rattle.lp_frame.proofs.Points.{many_columns}
use Rattle.lp_frame.proofs.sizes.bounded.Goals as goal

pub returns-then-columns-gt-MOST : goal.returns-then-columns-gt-MOST
returns-then-columns-gt-MOST c =
    let many : 4000 < length c.args.force.now.cols = search rules in
    sym (many_columns c.args.force.now many)
