use Rattle.std.proofs.Common.{◌∙◌, ap, sym}
use Rattle.gdp_grammar.proofs.Printed.{disjunctions_text_at, disjuncts_text_at}
use Rattle.model_tree.specs.Values.{model_tree}
use Rattle.model_tree.specs.View.{block_of, disjunct_of, disjunction_of, disjuncts_of, disjunctions_of}
use Rattle.gdp_grammar.specs.Canonical.{disjunctions_lines, disjuncts_lines}
use Rattle.text_grammar.specs.Printing.{text_of}
use Rattle.model_tree.specs.Sound.{are_disjuncts_stored, is_stored}
use Rattle.gdp_printer.proofs.Texts.{on_ok, grown, block_put, disjunction_put, disjunct_put}
use Rattle.gdp_printer.proofs.Stored.{block_stored, disjunctions_stored_at, disjuncts_stored_at}
use Rattle.gdp_printer.proofs.blocks.+put.Goals as goal

pub put_block-returns-clause-text : goal.put_block-returns-clause-text
put_block-returns-clause-text t c =
    on_ok c.put_props.result
    (λ e. block_put (model_tree c.args.model.now) (block_of c.args.block.now) _ _ _ _ _ _ _ c.rows.ensures.tree c.disjunctions.ensures.tree c.props.ensures.tree c.in_ok-put_rows.ensures.text c.in_ok-put_disjunctions.ensures.text e)
    c.put_props.ensures

pub put_block-returns-clause-stored : goal.put_block-returns-clause-stored
put_block-returns-clause-stored t c =
    on_ok c.put_props.result
    (λ e. block_stored (block_of c.args.block.now) _ _ c.rows.ensures.tree c.disjunctions.ensures.tree c.in_ok-put_rows.ensures.stored c.in_ok-put_disjunctions.ensures.stored)
    c.put_props.ensures

pub put_disjunct-returns-clause-text : goal.put_disjunct-returns-clause-text
put_disjunct-returns-clause-text t c =
    on_ok c.put_end_line.result
    (λ e. disjunct_put (model_tree c.args.model.now) (disjunct_of c.args.disjunct.now) _ _ _ _ _ _ c.indicator.ensures c.block.ensures.tree c.in_ok-put_disjunct_line.ensures c.in_ok-put_block.ensures.text e)
    c.put_end_line.ensures

pub put_disjunct-returns-clause-stored : goal.put_disjunct-returns-clause-stored
put_disjunct-returns-clause-stored t c =
    on_ok c.put_end_line.result (λ e. ap is_stored (sym c.block.ensures.tree) ∙ c.in_ok-put_block.ensures.stored) c.put_end_line.ensures

pub put_disjunction-returns-clause-text : goal.put_disjunction-returns-clause-text
put_disjunction-returns-clause-text t c =
    on_ok c.put_end_line.result
    (λ e. disjunction_put (model_tree c.args.model.now) (disjunction_of c.args.disjunction.now) _ _ _ _ _ _ c.mode.ensures c.disjuncts.ensures.tree c.in_ok-put_disjunction_line.ensures c.in_ok-put_disjuncts.ensures.text e)
    c.put_end_line.ensures

pub put_disjunction-returns-clause-stored : goal.put_disjunction-returns-clause-stored
put_disjunction-returns-clause-stored t c =
    on_ok c.put_end_line.result (λ e. ap are_disjuncts_stored (sym c.disjuncts.ensures.tree) ∙ c.in_ok-put_disjuncts.ensures.stored) c.put_end_line.ensures

pub put_disjunctions-loop-disjunction-preserved : goal.put_disjunctions-loop-disjunction-preserved
put_disjunctions-loop-disjunction-preserved t c = record {
  text =
      grown c.args.text.now _ _ _ _ _ (text_of (disjunctions_lines (model_tree c.args.model.now) (disjunctions_of c.args.disjunctions.now))) c.in_ok-put_disjunction.ensures.text
      (disjunctions_text_at (model_tree c.args.model.now) c.args.disjunctions.now c.loop-disjunction.disjunction-index c.disjunction-item.result c.loop-disjunction-test.true c.disjunction-item.is)
      c.loop-disjunction.invariant.text;
  stored =
      sym (disjunctions_stored_at c.args.disjunctions.now c.loop-disjunction.disjunction-index c.disjunction-item.result c.loop-disjunction-test.true c.disjunction-item.is c.in_ok-put_disjunction.ensures.stored)
      ∙ c.loop-disjunction.invariant.stored;
}

pub put_disjuncts-loop-disjunct-preserved : goal.put_disjuncts-loop-disjunct-preserved
put_disjuncts-loop-disjunct-preserved t c = record {
  text =
      grown c.args.text.now _ _ _ _ _ (text_of (disjuncts_lines (model_tree c.args.model.now) (disjuncts_of c.args.disjuncts.now))) c.in_ok-put_disjunct.ensures.text
      (disjuncts_text_at (model_tree c.args.model.now) c.args.disjuncts.now c.loop-disjunct.disjunct-index c.disjunct-item.result c.loop-disjunct-test.true c.disjunct-item.is)
      c.loop-disjunct.invariant.text;
  stored =
      sym (disjuncts_stored_at c.args.disjuncts.now c.loop-disjunct.disjunct-index c.disjunct-item.result c.loop-disjunct-test.true c.disjunct-item.is c.in_ok-put_disjunct.ensures.stored)
      ∙ c.loop-disjunct.invariant.stored;
}
