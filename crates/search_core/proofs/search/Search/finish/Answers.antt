use Rattle.std.proofs.Common.{◌≡◌, ◌∙◌, [], refl, sym, ap, subst}
use Rattle.proof_tree.specs.Tree.{IsProofList}
use Rattle.search_rules.specs.Machine.{tree_of, value_of}
use Rattle.search_rules.specs.Problem.{words_of}
use Rattle.search_rules.specs.Turns.{meaning_of}
use Rattle.search_rules.specs.Outcomes.{outcome_of, IsRightOutcome}
use Rattle.search_rules.proofs.Finishing.{proof_listed, outcome_right}
use Rattle.search_core.specs.Arena.{draft_of}
use Rattle.search_core.proofs.search.Search.finish.Goals as goal

pub unreachable-requires : goal.unreachable-requires
unreachable-requires g c =
    let me = c.args.self.nodes in
    let w = words_of (g.N.Promising.problem me) (meaning_of (g.N.Nodes.dead_of me) (g.N.Nodes.force_of me) (g.N.Nodes.loose_of me) (g.N.Nodes.test_of me)) in
    let t = tree_of (draft_of c.args.self.board.arena.slots.items) in
    c.in-Err.ensures.not
    (subst IsProofList (sym c.in_ok-nodes.ensures) ((t, refl), proof_listed w (λ p leaf best closes. closes.2) (value_of c.args.self.board.best) [] t c.is_right.ensures.0))

pub returns-clause-right : goal.returns-clause-right
returns-clause-right g c =
    let me = c.args.self.nodes in
    let w = words_of (g.N.Promising.problem me) (meaning_of (g.N.Nodes.dead_of me) (g.N.Nodes.force_of me) (g.N.Nodes.loose_of me) (g.N.Nodes.test_of me)) in
    let e : c.ended_with.result ≡ outcome_of c.args.self.board.best c.in-Ok.proof = c.ended_with.ensures ∙ ap (λ b. outcome_of b c.in-Ok.proof) c.best_of.ensures in
    subst (IsRightOutcome w) (sym e)
    (outcome_right w c.args.self.board.best c.in-Ok.proof (tree_of (draft_of c.args.self.board.arena.slots.items)) c.is_right.ensures.0 c.is_right.ensures.1 (sym (c.in-Ok.ensures.kept ∙ c.in_ok-nodes.ensures)))

pub returns-clause-outcome : goal.returns-clause-outcome
returns-clause-outcome g c =
    c.ended_with.ensures
    ∙ ap (λ b. outcome_of b c.in-Ok.proof) c.best_of.ensures
    ∙ ap (λ nodes. outcome_of c.args.self.board.best nodes) (c.in-Ok.ensures.kept ∙ c.in_ok-nodes.ensures)
