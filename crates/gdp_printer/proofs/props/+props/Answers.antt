use Rattle.std.proofs.Common.{codes}
use Rattle.propositions.proofs.Layers.{exactly_tree, at_least_tree, at_most_tree}
use Rattle.gdp_printer.proofs.PropTexts.{implies_tree, equivalent_tree, xor_tree, two_put, counted_put}
use Rattle.gdp_printer.proofs.Texts.{on_ok}
use Rattle.gdp_printer.proofs.props.+props.Goals as goal

pub put_prop-returns-in_ok-put_after-in-Implies-2 : goal.put_prop-returns-in_ok-put_after-in-Implies-2
put_prop-returns-in_ok-put_after-in-Implies-2 t c =
    rw (c.in-Implies.is, implies_tree c.in-Implies.first c.in-Implies.second)
    (on_ok c.put_close-in-Implies.result
    (λ e. two_put (codes "implies(") _ _ c.args.text.now _ _ _ (rw c.deref-in-Implies.ensures at c.in_ok-put_after-in-Implies.ensures) (rw c.deref-in-Implies-2.ensures at c.in_ok-put_after-in-Implies-2.ensures) e)
    c.put_close-in-Implies.ensures)

pub put_prop-returns-in_ok-put_after-in-Equivalent-2 : goal.put_prop-returns-in_ok-put_after-in-Equivalent-2
put_prop-returns-in_ok-put_after-in-Equivalent-2 t c =
    rw (c.in-Equivalent.is, equivalent_tree c.in-Equivalent.first c.in-Equivalent.second)
    (on_ok c.put_close-in-Equivalent.result
    (λ e. two_put (codes "equivalent(") _ _ c.args.text.now _ _ _ (rw c.deref-in-Equivalent.ensures at c.in_ok-put_after-in-Equivalent.ensures) (rw c.deref-in-Equivalent-2.ensures at c.in_ok-put_after-in-Equivalent-2.ensures) e)
    c.put_close-in-Equivalent.ensures)

pub put_prop-returns-in_ok-put_after-in-Xor-2 : goal.put_prop-returns-in_ok-put_after-in-Xor-2
put_prop-returns-in_ok-put_after-in-Xor-2 t c =
    rw (c.in-Xor.is, xor_tree c.in-Xor.first c.in-Xor.second)
    (on_ok c.put_close-in-Xor.result
    (λ e. two_put (codes "xor(") _ _ c.args.text.now _ _ _ (rw c.deref-in-Xor.ensures at c.in_ok-put_after-in-Xor.ensures) (rw c.deref-in-Xor-2.ensures at c.in_ok-put_after-in-Xor-2.ensures) e)
    c.put_close-in-Xor.ensures)

pub put_prop-returns-in_ok-put_count-in-Exactly : goal.put_prop-returns-in_ok-put_count-in-Exactly
put_prop-returns-in_ok-put_count-in-Exactly t c =
    rw (c.in-Exactly.is, exactly_tree c.in-Exactly.number c.in-Exactly.props)
    (on_ok c.put_list-in-Exactly.result
    (λ e. counted_put (codes "exactly") c.in-Exactly.number _ c.args.text.now _ _ c.in_ok-put_count-in-Exactly.ensures e)
    (rw c.deref-in-Exactly.ensures.value at c.put_list-in-Exactly.ensures))

pub put_prop-returns-in_ok-put_count-in-AtLeast : goal.put_prop-returns-in_ok-put_count-in-AtLeast
put_prop-returns-in_ok-put_count-in-AtLeast t c =
    rw (c.in-AtLeast.is, at_least_tree c.in-AtLeast.number c.in-AtLeast.props)
    (on_ok c.put_list-in-AtLeast.result
    (λ e. counted_put (codes "atleast") c.in-AtLeast.number _ c.args.text.now _ _ c.in_ok-put_count-in-AtLeast.ensures e)
    (rw c.deref-in-AtLeast.ensures.value at c.put_list-in-AtLeast.ensures))

pub put_prop-returns-in_ok-put_count-in-AtMost : goal.put_prop-returns-in_ok-put_count-in-AtMost
put_prop-returns-in_ok-put_count-in-AtMost t c =
    rw (c.in-AtMost.is, at_most_tree c.in-AtMost.number c.in-AtMost.props)
    (on_ok c.put_list-in-AtMost.result
    (λ e. counted_put (codes "atmost") c.in-AtMost.number _ c.args.text.now _ _ c.in_ok-put_count-in-AtMost.ensures e)
    (rw c.deref-in-AtMost.ensures.value at c.put_list-in-AtMost.ensures))
