use Rattle.std.proofs.Common.{◌≡◌, ◌+◌, ◌^◌, ◌-◌, [], ◌∷◌, ◌++◌, ap, ◌∙◌, arith, rules}
use Rattle.propositions.specs.Sizes.{node_count_of}
use Rattle.propositions.specs.View.{prop_tree}
use Rattle.model_tree.specs.Tree.{nodes_of_props}
use Rattle.model_tree.specs.View.{props_of}
use Rattle.model_builder.proofs.PropsLemmas.{nodes_added, not_saturated}
use Rattle.model_builder.proofs.parts.Parts.prop.Goals as goal

pub returns-clause-counted : goal.returns-clause-counted
returns-clause-counted c =
    let before = c.args.self.now.inner.props.items in
    let items : c.push_reserved.new.self.items ≡ before ++ (c.in-Ok.copied, c.args.mark) ∷ [] = search rules in
    let nodes : nodes_of_props (props_of c.push_reserved.new.self.items) ≡ nodes_of_props (props_of before) + node_count_of (prop_tree c.args.prop.now) =
    ap (λ xs. nodes_of_props (props_of xs)) items ∙ nodes_added before (c.in-Ok.copied, c.args.mark) (prop_tree c.args.prop.now) (search rules) in
    let sum : c.saturating_add-nodes.result ≡ c.args.self.now.totals.nodes + node_count_of (prop_tree c.args.prop.now) =
    not_saturated c.args.self.now.totals.nodes (node_count_of (prop_tree c.args.prop.now)) c.node_count.result c.saturating_add-nodes.result (2 ^ 64 - 1) (omega arith)
    c.node_count.ensures c.saturating_add-nodes.ensures (omega arith) in
    (c.requires.0, omega (arith, nodes, sum, c.requires.1))
