use Rattle.std.proofs.Common.{ap, refl}
use Rattle.model_tree.specs.Values.{model_tree}
use Rattle.model_tree.specs.View.{block_of}
use Rattle.gdp_grammar.specs.Canonical.{free_booleans}
use Rattle.gdp_grammar.proofs.Respelled.{canonical_spells}
use Rattle.gdp_printer.proofs.Texts.{on_ok, model_put}
use Rattle.gdp_printer.proofs.models.put_model.Goals as goal

pub returns-clause-text : goal.returns-clause-text
returns-clause-text c =
    on_ok c.put_block.result
    (λ e. model_put (model_tree c.args.model.now) (block_of c.root-2.result.now) (free_booleans (model_tree c.args.model.now)) c.args.text.now c.put_header.new.text c.put_vars.new.text c.put_booleans.new.text c.put_goal.new.text c.put_block.new.text
    (ap block_of c.root-2.ensures) refl c.in_ok-put_header.ensures (rw c.vars.ensures.value at c.in_ok-put_vars.ensures) (rw (c.booleans.ensures, c.deref.ensures.value, c.in_ok-ids.ensures, c.root.ensures) at c.in_ok-put_booleans.ensures) c.in_ok-put_goal.ensures e)
    c.put_block.ensures.text

pub returns-clause-spells : goal.returns-clause-spells
returns-clause-spells c =
    on_ok c.put_block.result
    (λ e. canonical_spells (model_tree c.args.model.now) c.vars.ensures.sound (rw c.root-2.ensures at e))
    c.put_block.ensures.stored
