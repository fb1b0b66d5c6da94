use Rattle.std.proofs.Common.{rules, refl, arith}
use Rattle.text_grammar.specs.Lines.{lines_of}
use Rattle.lp_reader.specs.Kept.{most_items}
use Rattle.lp_reader.specs.Taken.{taken_of}
use Rattle.lp_reader.proofs.Room.{text_ready, after_taken}
use Rattle.lp_reader.proofs.taking.Taking.take_lines.Goals as goal

pub lines-init : goal.lines-init
lines-init c = record {
  ready = text_ready c.args.text.now (taken_of c.args.self.now) c.requires.start c.requires.short;
  so_far = refl;
  count = refl;
  room = omega arith;
}

pub lines-preserved : goal.lines-preserved
lines-preserved c = record {
  ready =
      after_taken most_items (taken_of c.lines.self) (taken_of c.take_line.new.self) c.first_line.result.0.now c.first_line.result.1.now (lines_of c.lines.left.now) (lines_of c.first_line.result.1.now) c.in-Ok-None.field-0 c.in-Ok-None.field-0-is
      c.first_line.ensures.lines c.lines.invariant.ready c.in-Ok-None.ensures;
  so_far = search rules;
  count = search rules;
  room = search rules;
}
