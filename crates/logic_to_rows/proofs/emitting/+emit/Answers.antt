use Rattle.std.proofs.Common.{◌+◌, ◌^◌, ◌∙◌, drop, arith}
use Rattle.propositions.specs.Tree.{implies, equivalent, xor, all_of, some_of, exactly, at_least, at_most, listed}
use Rattle.propositions.specs.Truth.{are_ids_below, are_all_ids_below}
use Rattle.propositions.specs.View.{prop_tree, prop_trees}
use Rattle.propositions.proofs.Layers.{trees_at}
use Rattle.milps.proofs.Columned.{and_right}
use Rattle.emission.specs.View.{state_of}
use Rattle.logic_to_rows.proofs.Listed.{listed_runs, listed_literal, paired_runs, paired_literal, emitting_kept}
use Rattle.logic_to_rows.proofs.Trees.{tree_of_And, tree_of_Or, tree_of_Implies, tree_of_Equivalent, tree_of_Xor, tree_of_Exactly, tree_of_AtLeast, tree_of_AtMost}
use Rattle.logic_to_rows.proofs.emitting.+emit.Goals as goal

pub emit-returns-in-And-clause-runs : goal.emit-returns-in-And-clause-runs
emit-returns-in-And-clause-runs t c =
    let ps = prop_trees c.in-And.props.items in
    let p = rw c.deref-in-And.ensures.value at c.emit_all-ls.ensures.runs in
    let q = rw c.deref-in-And.ensures.value at c.emit_all-ls.ensures.literals in
    rw (tree_of_And c.args.prop.now c.in-And.props c.in-And.is)
    (listed_runs c.args.first all_of ps (state_of c.args.out.now) (state_of c.emit_all-ls.new.out) (state_of c.conjunction.new.out) c.deref-in-And-2.result.now p (λ h. c.deref-in-And-2.ensures.value ∙ q h) (c.conjunction.ensures.runs (listed all_of ps)))

pub emit-returns-in-And-clause-literal : goal.emit-returns-in-And-clause-literal
emit-returns-in-And-clause-literal t c =
    let ps = prop_trees c.in-And.props.items in
    let p = rw c.deref-in-And.ensures.value at c.emit_all-ls.ensures.runs in
    rw (tree_of_And c.args.prop.now c.in-And.props c.in-And.is)
    (listed_literal c.args.first all_of ps (state_of c.args.out.now) (state_of c.emit_all-ls.new.out) (state_of c.conjunction.new.out) c.deref-in-And-2.result.now c.conjunction.result p (c.conjunction.ensures.runs (listed all_of ps)) c.conjunction.ensures.literal)

pub emit-returns-in-Or-clause-runs : goal.emit-returns-in-Or-clause-runs
emit-returns-in-Or-clause-runs t c =
    let ps = prop_trees c.in-Or.props.items in
    let p = rw c.deref-in-Or.ensures.value at c.emit_all-ls-in-Or.ensures.runs in
    let q = rw c.deref-in-Or.ensures.value at c.emit_all-ls-in-Or.ensures.literals in
    rw (tree_of_Or c.args.prop.now c.in-Or.props c.in-Or.is)
    (listed_runs c.args.first some_of ps (state_of c.args.out.now) (state_of c.emit_all-ls-in-Or.new.out) (state_of c.disjunction.new.out) c.deref-in-Or-2.result.now p (λ h. c.deref-in-Or-2.ensures.value ∙ q h) (c.disjunction.ensures.runs ps))

pub emit-returns-in-Or-clause-literal : goal.emit-returns-in-Or-clause-literal
emit-returns-in-Or-clause-literal t c =
    let ps = prop_trees c.in-Or.props.items in
    let p = rw c.deref-in-Or.ensures.value at c.emit_all-ls-in-Or.ensures.runs in
    rw (tree_of_Or c.args.prop.now c.in-Or.props c.in-Or.is)
    (listed_literal c.args.first some_of ps (state_of c.args.out.now) (state_of c.emit_all-ls-in-Or.new.out) (state_of c.disjunction.new.out) c.deref-in-Or-2.result.now c.disjunction.result p (c.disjunction.ensures.runs ps) c.disjunction.ensures.literal)

pub emit-returns-in-Exactly-clause-runs : goal.emit-returns-in-Exactly-clause-runs
emit-returns-in-Exactly-clause-runs t c =
    let ps = prop_trees c.in-Exactly.props.items in
    let p = rw c.deref-in-Exactly.ensures.value at c.emit_all-ls-in-Exactly.ensures.runs in
    let q = rw c.deref-in-Exactly.ensures.value at c.emit_all-ls-in-Exactly.ensures.literals in
    rw (tree_of_Exactly c.args.prop.now c.in-Exactly.n c.in-Exactly.props c.in-Exactly.is)
    (listed_runs c.args.first (exactly c.in-Exactly.n) ps (state_of c.args.out.now) (state_of c.emit_all-ls-in-Exactly.new.out) (state_of c.exactly.new.out) c.deref-in-Exactly-2.result.now p (λ h. c.deref-in-Exactly-2.ensures.value ∙ q h) (c.exactly.ensures.runs ps))

pub emit-returns-in-Exactly-clause-literal : goal.emit-returns-in-Exactly-clause-literal
emit-returns-in-Exactly-clause-literal t c =
    let ps = prop_trees c.in-Exactly.props.items in
    let p = rw c.deref-in-Exactly.ensures.value at c.emit_all-ls-in-Exactly.ensures.runs in
    rw (tree_of_Exactly c.args.prop.now c.in-Exactly.n c.in-Exactly.props c.in-Exactly.is)
    (listed_literal c.args.first (exactly c.in-Exactly.n) ps (state_of c.args.out.now) (state_of c.emit_all-ls-in-Exactly.new.out) (state_of c.exactly.new.out) c.deref-in-Exactly-2.result.now c.exactly.result p (c.exactly.ensures.runs ps) c.exactly.ensures.literal)

pub emit-returns-in-AtLeast-clause-runs : goal.emit-returns-in-AtLeast-clause-runs
emit-returns-in-AtLeast-clause-runs t c =
    let ps = prop_trees c.in-AtLeast.props.items in
    let p = rw c.deref-in-AtLeast.ensures.value at c.emit_all-ls-in-AtLeast.ensures.runs in
    let q = rw c.deref-in-AtLeast.ensures.value at c.emit_all-ls-in-AtLeast.ensures.literals in
    rw (tree_of_AtLeast c.args.prop.now c.in-AtLeast.n c.in-AtLeast.props c.in-AtLeast.is)
    (listed_runs c.args.first (at_least c.in-AtLeast.n) ps (state_of c.args.out.now) (state_of c.emit_all-ls-in-AtLeast.new.out) (state_of c.at_least.new.out) c.deref-in-AtLeast-2.result.now p (λ h. c.deref-in-AtLeast-2.ensures.value ∙ q h) (c.at_least.ensures.runs ps))

pub emit-returns-in-AtLeast-clause-literal : goal.emit-returns-in-AtLeast-clause-literal
emit-returns-in-AtLeast-clause-literal t c =
    let ps = prop_trees c.in-AtLeast.props.items in
    let p = rw c.deref-in-AtLeast.ensures.value at c.emit_all-ls-in-AtLeast.ensures.runs in
    rw (tree_of_AtLeast c.args.prop.now c.in-AtLeast.n c.in-AtLeast.props c.in-AtLeast.is)
    (listed_literal c.args.first (at_least c.in-AtLeast.n) ps (state_of c.args.out.now) (state_of c.emit_all-ls-in-AtLeast.new.out) (state_of c.at_least.new.out) c.deref-in-AtLeast-2.result.now c.at_least.result p (c.at_least.ensures.runs ps) c.at_least.ensures.literal)

pub emit-returns-in-AtMost-clause-runs : goal.emit-returns-in-AtMost-clause-runs
emit-returns-in-AtMost-clause-runs t c =
    let ps = prop_trees c.in-AtMost.props.items in
    let p = rw c.deref-in-AtMost.ensures.value at c.emit_all-ls-in-AtMost.ensures.runs in
    let q = rw c.deref-in-AtMost.ensures.value at c.emit_all-ls-in-AtMost.ensures.literals in
    rw (tree_of_AtMost c.args.prop.now c.in-AtMost.n c.in-AtMost.props c.in-AtMost.is)
    (listed_runs c.args.first (at_most c.in-AtMost.n) ps (state_of c.args.out.now) (state_of c.emit_all-ls-in-AtMost.new.out) (state_of c.at_most.new.out) c.deref-in-AtMost-2.result.now p (λ h. c.deref-in-AtMost-2.ensures.value ∙ q h) (c.at_most.ensures.runs ps))

pub emit-returns-in-AtMost-clause-literal : goal.emit-returns-in-AtMost-clause-literal
emit-returns-in-AtMost-clause-literal t c =
    let ps = prop_trees c.in-AtMost.props.items in
    let p = rw c.deref-in-AtMost.ensures.value at c.emit_all-ls-in-AtMost.ensures.runs in
    rw (tree_of_AtMost c.args.prop.now c.in-AtMost.n c.in-AtMost.props c.in-AtMost.is)
    (listed_literal c.args.first (at_most c.in-AtMost.n) ps (state_of c.args.out.now) (state_of c.emit_all-ls-in-AtMost.new.out) (state_of c.at_most.new.out) c.deref-in-AtMost-2.result.now c.at_most.result p (c.at_most.ensures.runs ps) c.at_most.ensures.literal)

pub emit-returns-in-Implies-clause-runs : goal.emit-returns-in-Implies-clause-runs
emit-returns-in-Implies-clause-runs t c =
    let p = prop_tree c.in-Implies.p.value in
    let q = prop_tree c.in-Implies.q.value in
    let x = rw c.deref-in-Implies.ensures at c.emit-a.ensures.runs in
    let e = rw c.deref-in-Implies.ensures at c.emit-a.ensures.literal in
    let y = rw c.deref-in-Implies-2.ensures at c.emit-b.ensures.runs in
    let g = rw c.deref-in-Implies-2.ensures at c.emit-b.ensures.literal in
    rw (tree_of_Implies c.args.prop.now c.in-Implies.p c.in-Implies.q c.in-Implies.is)
    (paired_runs c.args.first implies p q (state_of c.args.out.now) (state_of c.emit-a.new.out) (state_of c.emit-b.new.out) (state_of c.implication.new.out) c.emit-a.result c.emit-b.result x e y g (c.implication.ensures.runs p q))

pub emit-returns-in-Implies-clause-literal : goal.emit-returns-in-Implies-clause-literal
emit-returns-in-Implies-clause-literal t c =
    let p = prop_tree c.in-Implies.p.value in
    let q = prop_tree c.in-Implies.q.value in
    let x = rw c.deref-in-Implies.ensures at c.emit-a.ensures.runs in
    let y = rw c.deref-in-Implies-2.ensures at c.emit-b.ensures.runs in
    rw (tree_of_Implies c.args.prop.now c.in-Implies.p c.in-Implies.q c.in-Implies.is)
    (paired_literal c.args.first implies p q (state_of c.args.out.now) (state_of c.emit-a.new.out) (state_of c.emit-b.new.out) (state_of c.implication.new.out) c.emit-a.result c.emit-b.result c.implication.result x y (c.implication.ensures.runs p q) c.implication.ensures.literal)

pub emit-returns-in-Equivalent-clause-runs : goal.emit-returns-in-Equivalent-clause-runs
emit-returns-in-Equivalent-clause-runs t c =
    let p = prop_tree c.in-Equivalent.p.value in
    let q = prop_tree c.in-Equivalent.q.value in
    let x = rw c.deref-in-Equivalent.ensures at c.emit-a-in-Equivalent.ensures.runs in
    let e = rw c.deref-in-Equivalent.ensures at c.emit-a-in-Equivalent.ensures.literal in
    let y = rw c.deref-in-Equivalent-2.ensures at c.emit-b-in-Equivalent.ensures.runs in
    let g = rw c.deref-in-Equivalent-2.ensures at c.emit-b-in-Equivalent.ensures.literal in
    rw (tree_of_Equivalent c.args.prop.now c.in-Equivalent.p c.in-Equivalent.q c.in-Equivalent.is)
    (paired_runs c.args.first equivalent p q (state_of c.args.out.now) (state_of c.emit-a-in-Equivalent.new.out) (state_of c.emit-b-in-Equivalent.new.out) (state_of c.equivalence.new.out) c.emit-a-in-Equivalent.result c.emit-b-in-Equivalent.result x e y g (c.equivalence.ensures.runs p q))

pub emit-returns-in-Equivalent-clause-literal : goal.emit-returns-in-Equivalent-clause-literal
emit-returns-in-Equivalent-clause-literal t c =
    let p = prop_tree c.in-Equivalent.p.value in
    let q = prop_tree c.in-Equivalent.q.value in
    let x = rw c.deref-in-Equivalent.ensures at c.emit-a-in-Equivalent.ensures.runs in
    let y = rw c.deref-in-Equivalent-2.ensures at c.emit-b-in-Equivalent.ensures.runs in
    rw (tree_of_Equivalent c.args.prop.now c.in-Equivalent.p c.in-Equivalent.q c.in-Equivalent.is)
    (paired_literal c.args.first equivalent p q (state_of c.args.out.now) (state_of c.emit-a-in-Equivalent.new.out) (state_of c.emit-b-in-Equivalent.new.out) (state_of c.equivalence.new.out) c.emit-a-in-Equivalent.result c.emit-b-in-Equivalent.result c.equivalence.result x y (c.equivalence.ensures.runs p q) c.equivalence.ensures.literal)

pub emit-returns-in-Xor-clause-runs : goal.emit-returns-in-Xor-clause-runs
emit-returns-in-Xor-clause-runs t c =
    let p = prop_tree c.in-Xor.p.value in
    let q = prop_tree c.in-Xor.q.value in
    let x = rw c.deref-in-Xor.ensures at c.emit-a-in-Xor.ensures.runs in
    let e = rw c.deref-in-Xor.ensures at c.emit-a-in-Xor.ensures.literal in
    let y = rw c.deref-in-Xor-2.ensures at c.emit-b-in-Xor.ensures.runs in
    let g = rw c.deref-in-Xor-2.ensures at c.emit-b-in-Xor.ensures.literal in
    rw (tree_of_Xor c.args.prop.now c.in-Xor.p c.in-Xor.q c.in-Xor.is)
    (paired_runs c.args.first xor p q (state_of c.args.out.now) (state_of c.emit-a-in-Xor.new.out) (state_of c.emit-b-in-Xor.new.out) (state_of c.exclusion.new.out) c.emit-a-in-Xor.result c.emit-b-in-Xor.result x e y g (c.exclusion.ensures.runs p q))

pub emit-returns-in-Xor-clause-literal : goal.emit-returns-in-Xor-clause-literal
emit-returns-in-Xor-clause-literal t c =
    let p = prop_tree c.in-Xor.p.value in
    let q = prop_tree c.in-Xor.q.value in
    let x = rw c.deref-in-Xor.ensures at c.emit-a-in-Xor.ensures.runs in
    let y = rw c.deref-in-Xor-2.ensures at c.emit-b-in-Xor.ensures.runs in
    rw (tree_of_Xor c.args.prop.now c.in-Xor.p c.in-Xor.q c.in-Xor.is)
    (paired_literal c.args.first xor p q (state_of c.args.out.now) (state_of c.emit-a-in-Xor.new.out) (state_of c.emit-b-in-Xor.new.out) (state_of c.exclusion.new.out) c.emit-a-in-Xor.result c.emit-b-in-Xor.result c.exclusion.result x y (c.exclusion.ensures.runs p q) c.exclusion.ensures.literal)

pub emit_all-loop-prop-preserved : goal.emit_all-loop-prop-preserved
emit_all-loop-prop-preserved t c =
    let p = c.prop-item.result in
    let level = trees_at c.args.props.now c.loop-prop.prop-index p c.loop-prop-test.true c.prop-item.is in
    let w = rw level at c.loop-prop.invariant.emits in
    let r = rw level at c.loop-prop.invariant.range in
    let s = rw level at c.loop-prop.invariant.small in
    let others = prop_trees (drop (c.loop-prop.prop-index + 1) c.args.props.now) in
    record {
      empty = c.keep.ensures.empty ∙ c.emit-l.ensures.empty;
      range = and_right (are_ids_below (2 ^ 31) (prop_tree p)) (are_all_ids_below (2 ^ 31) others) r;
      small = omega (arith, s);
      emits = emitting_kept c.args.first (prop_trees c.args.props.now) (state_of c.args.out.now) (prop_tree p) others
          c.loop-prop.ls.items c.keep.new.ls.items (state_of c.loop-prop.out) (state_of c.emit-l.new.out) (state_of c.keep.new.out) c.emit-l.result w
          c.emit-l.ensures.runs c.emit-l.ensures.literal c.keep.ensures.keeps;
    }
