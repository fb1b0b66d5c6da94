use Rattle.std.proofs.Common.{◌≡◌, ◌++◌}
use Rattle.text_grammar.specs.Printing.{text_of}
use Rattle.lp_grammar.specs.Canonical.{canonical_lines}
use Rattle.lp_writer.proofs.Texts.{text_spells}
use Rattle.lp_writer.proofs.put.lp_text.Goals as goal

pub returns-clause-spells : goal.returns-clause-spells
returns-clause-spells c = λ is.
    let put : c.put_program.new.out ≡ c.new-text.result ++ text_of (canonical_lines c.args.milp.now) = cc c.in_ok-put_program.ensures.whole in
    text_spells c.args.milp.now c.new-text.result c.put_program.new.out c.new-text.ensures put is
