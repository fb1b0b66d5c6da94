use Rattle.std.proofs.Common.{rules, FitsSigned}
use Rattle.std.proofs.lemmas.Int.{to_z-of_z}
use mir.Syntax.{w128}
use Rattle.model_tree.specs.Values.{model_tree}
use Rattle.gdp_grammar.specs.Canonical.{var_names}
use Rattle.gdp_grammar.specs.Lowest.{over}
use Rattle.gdp_printer.proofs.Texts.{on_ok, first_put}
use Rattle.gdp_printer.proofs.sums.put_first.Goals as goal

pub returns : goal.returns
returns c =
    let f : FitsSigned w128 c.args.term.1 = search rules in
    let q = rw (to_z-of_z w128 c.args.term.1 f, to_z-of_z w128 c.args.scale c.ranges.scale) at c.quotient.ensures in
    on_ok c.put_name.result
    (λ e. first_put (var_names (model_tree c.args.model.now)) c.args.term.0 c.quotient.result (over c.args.scale c.args.term.1) c.args.text.now c.put_number.new.text c.put_name.new.text q c.in_ok-put_number.ensures e)
    c.put_name.ensures
