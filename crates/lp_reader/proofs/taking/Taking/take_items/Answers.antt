use Rattle.lp_reader.specs.Kept.{most_items}
use Rattle.lp_reader.specs.Taken.{taken_of}
use Rattle.lp_reader.proofs.Room.{section_ready, after_section}
use Rattle.lp_reader.proofs.taking.Taking.take_items.Goals as goal

pub take_section-requires : goal.take_section-requires
take_section-requires c = section_ready most_items c.args.line.now _ _ (taken_of c.args.self.now) c.in-Some.ensures c.requires

pub take_tokens-requires-in-Some : goal.take_tokens-requires-in-Some
take_tokens-requires-in-Some c =
    after_section most_items c.args.line.now _ _ c.in_ok-take_section-in-Some.field-0 (taken_of c.args.self.now) (taken_of c.take_section.new.self) c.in-Some.ensures c.if-not-branch.false c.requires c.in_ok-take_section-in-Some.ensures
