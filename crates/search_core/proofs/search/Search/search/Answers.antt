use Rattle.std.proofs.Common.{◌∙◌, sym, subst, Ok, Err, arith}
use Rattle.search_rules.specs.Machine.{Meaning, IsLegalLog}
use Rattle.search_core.specs.Boards.{rest_of}
use Rattle.search_rules.specs.Searching.{IsUnderWay}
use Rattle.search_core.specs.Boards.{searching_of}
use Rattle.search_rules.specs.Turns.{meaning_of, HasTurned}
use Rattle.search_rules.specs.declared.ending.Turn.TheVariants.{Rested, Endless}
use Rattle.search_rules.proofs.Solving.{legal_extends, rests_on, endless_solved, fails_solved}
use Rattle.search_core.proofs.search.Search.search.Goals as goal

pub turn-requires-clause-under_way : goal.turn-requires-clause-under_way
turn-requires-clause-under_way g c =
    let me = c.args.self.now.nodes in
    let m : Meaning = meaning_of (g.N.Nodes.dead_of me) (g.N.Nodes.force_of me) (g.N.Nodes.loose_of me) (g.N.Nodes.test_of me) in
    let under : IsUnderWay m (searching_of c.turns.self) = record {
      legal = c.turns.invariant.legal;
      within = c.turns.invariant.within;
    } in
    subst (λ n. IsUnderWay (meaning_of (g.N.Nodes.dead_of n) (g.N.Nodes.force_of n) (g.N.Nodes.loose_of n) (g.N.Nodes.test_of n)) (searching_of c.turns.self)) (sym c.turns.invariant.nodes) under

pub turns-preserved : goal.turns-preserved
turns-preserved g c =
    let me = c.args.self.now.nodes in
    let m : Meaning = meaning_of (g.N.Nodes.dead_of me) (g.N.Nodes.force_of me) (g.N.Nodes.loose_of me) (g.N.Nodes.test_of me) in
    let r = rest_of c.turns.self.board in
    let now = rest_of c.turn.new.self.board in
    let e = rw c.in-Ok-Rested.field-0-is at c.in-Ok-Rested.ensures in
    let turned : HasTurned m (searching_of c.turns.self) c.picked-pick.result (searching_of c.turn.new.self) (Ok Rested) =
    subst (λ n. HasTurned (meaning_of (g.N.Nodes.dead_of n) (g.N.Nodes.force_of n) (g.N.Nodes.loose_of n) (g.N.Nodes.test_of n)) (searching_of c.turns.self) c.picked-pick.result (searching_of c.turn.new.self) (Ok Rested)) c.turns.invariant.nodes e.turned in
    let k = rests_on (IsLegalLog m) m c.args.self.now.steps c.turn.new.self.steps r now c.picked-pick.result c.turns.self.log.events c.turn.new.self.log.events c.turns.self.steps c.turns.invariant.legal (legal_extends m r c.picked-pick.result c.turns.self.log.events c.turns.invariant.legal) c.turns.invariant.budget turned in
    record { legal = k.leads_to; nodes = e.nodes ∙ c.turns.invariant.nodes; budget = k.budget_kept; within = e.within }

pub returns-in-Ok-Endless-clause-solves : goal.returns-in-Ok-Endless-clause-solves
returns-in-Ok-Endless-clause-solves g c =
    let me = c.args.self.now.nodes in
    let m : Meaning = meaning_of (g.N.Nodes.dead_of me) (g.N.Nodes.force_of me) (g.N.Nodes.loose_of me) (g.N.Nodes.test_of me) in
    let r = rest_of c.turns.self.board in
    let now = rest_of c.turn.new.self.board in
    let at = c.in-Ok-Endless.at in
    let truths = c.in-Ok-Endless.truths in
    let ray = c.in-Ok-Endless.ray in
    let e = rw c.in-Ok-Endless.field-0-is at c.in-Ok-Endless.ensures in
    let turned : HasTurned m (searching_of c.turns.self) c.picked-pick.result (searching_of c.turn.new.self) (Ok (Endless at truths ray)) =
    subst (λ n. HasTurned (meaning_of (g.N.Nodes.dead_of n) (g.N.Nodes.force_of n) (g.N.Nodes.loose_of n) (g.N.Nodes.test_of n)) (searching_of c.turns.self) c.picked-pick.result (searching_of c.turn.new.self) (Ok (Endless at truths ray))) c.turns.invariant.nodes e.turned in
    endless_solved (IsLegalLog m) m c.args.self.now.steps c.turn.new.self.steps r now c.picked-pick.result c.turns.self.log.events c.turn.new.self.log.events c.turns.self.steps c.turns.invariant.legal (legal_extends m r c.picked-pick.result c.turns.self.log.events c.turns.invariant.legal) c.turns.invariant.budget at truths ray turned

pub returns-in-Err-clause-solves : goal.returns-in-Err-clause-solves
returns-in-Err-clause-solves g c =
    let me = c.args.self.now.nodes in
    let m : Meaning = meaning_of (g.N.Nodes.dead_of me) (g.N.Nodes.force_of me) (g.N.Nodes.loose_of me) (g.N.Nodes.test_of me) in
    let r = rest_of c.turns.self.board in
    let now = rest_of c.turn.new.self.board in
    let turned : HasTurned m (searching_of c.turns.self) c.picked-pick.result (searching_of c.turn.new.self) (Err c.in-Err.error) =
    subst (λ n. HasTurned (meaning_of (g.N.Nodes.dead_of n) (g.N.Nodes.force_of n) (g.N.Nodes.loose_of n) (g.N.Nodes.test_of n)) (searching_of c.turns.self) c.picked-pick.result (searching_of c.turn.new.self) (Err c.in-Err.error)) c.turns.invariant.nodes c.in-Err.ensures.turned in
    fails_solved (IsLegalLog m) m c.args.self.now.steps c.turn.new.self.steps r now c.picked-pick.result c.turns.self.log.events c.turn.new.self.log.events c.turns.self.steps c.turns.invariant.legal (legal_extends m r c.picked-pick.result c.turns.self.log.events c.turns.invariant.legal) c.turns.invariant.budget c.in-Err.error (omega (arith, c.picked-pick.ensures, c.len.ensures)) turned
