use Rattle.std.proofs.Common.{◌-◌, ◌+◌, ◌≡◌, ap, arith, refl, sym, subst, Ok, Err, inr}
use Rattle.search_rules.specs.Machine.{Meaning, Work}
use Rattle.search_core.specs.Boards.{rest_of}
use Rattle.search_rules.specs.Depth.{event_of}
use Rattle.search_rules.specs.Problem.{words_of}
use Rattle.search_rules.specs.Turns.{meaning_of, HasOpened}
use Rattle.search_rules.specs.declared.ending.TurnError.{TurnError}
use Rattle.search_rules.specs.declared.ending.TurnError.TheVariants.{Memory}
use Rattle.search_rules.proofs.Endings.{nodes_sound}
use Rattle.search_rules.proofs.Keeps.{opened_ready}
use Rattle.search_rules.proofs.Turning.{Opened, turn_fails, turn_ends}
use Rattle.search_core.proofs.search.Search.turn.Goals as goal

pub work-requires-clause-ready : goal.work-requires-clause-ready
work-requires-clause-ready g c =
    let me = c.args.self.now.nodes in
    let m : Meaning = meaning_of (g.N.Nodes.dead_of me) (g.N.Nodes.force_of me) (g.N.Nodes.loose_of me) (g.N.Nodes.test_of me) in
    let w = g.N.Promising.problem me in
    let x : Work = record { half = c.take-half.result; number = c.args.self.now.board.opened; rest = rest_of c.take-half.new.self } in
    g.met.N.Promising.allowed me c.take-half.result.path
    (opened_ready (words_of w m) m (nodes_sound w m (g.met.N.Promising.promised me)) c.args.self.now.log.events (rest_of c.args.self.now.board) c.take-half.result.event x c.requires.under_way.legal c.take-half.ensures.opened).0

pub returns-in-Err-clause-turned : goal.returns-in-Err-clause-turned
returns-in-Err-clause-turned g c =
    let me = c.args.self.now.nodes in
    let m : Meaning = meaning_of (g.N.Nodes.dead_of me) (g.N.Nodes.force_of me) (g.N.Nodes.loose_of me) (g.N.Nodes.test_of me) in
    let old = rest_of c.args.self.now.board in
    let now = rest_of c.take-half.new.self in
    let x : Work = record { half = c.take-half.result; number = c.args.self.now.board.opened; rest = rest_of c.take-half.new.self } in
    let steps : c.args.self.now.steps - 1 + 1 ≡ c.args.self.now.steps = omega (arith, c.if-self-eq0.false) in
    let o : Opened c.args.self.now.log.events c.push.new.self.events old c.args.pick c.take-half.result.event x =
    record { named = ap event_of c.take-half.ensures.place; opens = c.take-half.ensures.opened; logs = c.push.ensures.events } in
    inr (subst (λ k. HasOpened m old c.args.pick c.args.self.now.log.events c.work.new.log.events k c.work.new.steps now (Err c.failure.result)) steps
    (subst (λ (y : TurnError). HasOpened m old c.args.pick c.args.self.now.log.events c.work.new.log.events (c.args.self.now.steps - 1 + 1) c.work.new.steps now (Err y)) (sym c.failure.ensures)
    (turn_fails m c.args.self.now.log.events c.push.new.self.events c.work.new.log.events old now c.args.pick c.take-half.result.event x c.value-value.result (c.args.self.now.steps - 1) c.work.new.steps c.in-Err.error o c.value-value.ensures c.in-Err.ensures.worked)))

pub returns-in-Ok-settle-clause-turned : goal.returns-in-Ok-settle-clause-turned
returns-in-Ok-settle-clause-turned g c =
    let me = c.args.self.now.nodes in
    let m : Meaning = meaning_of (g.N.Nodes.dead_of me) (g.N.Nodes.force_of me) (g.N.Nodes.loose_of me) (g.N.Nodes.test_of me) in
    let old = rest_of c.args.self.now.board in
    let now = rest_of c.settle.new.self in
    let x : Work = record { half = c.take-half.result; number = c.args.self.now.board.opened; rest = rest_of c.take-half.new.self } in
    let steps : c.args.self.now.steps - 1 + 1 ≡ c.args.self.now.steps = omega (arith, c.if-self-eq0.false) in
    let o : Opened c.args.self.now.log.events c.push.new.self.events old c.args.pick c.take-half.result.event x =
    record { named = ap event_of c.take-half.ensures.place; opens = c.take-half.ensures.opened; logs = c.push.ensures.events } in
    inr (subst (λ k. HasOpened m old c.args.pick c.args.self.now.log.events c.work.new.log.events k c.work.new.steps now (Ok c.in-Ok-settle.turn)) steps
    (turn_ends m c.args.self.now.log.events c.push.new.self.events c.work.new.log.events old now c.args.pick c.take-half.result.event x c.value-value.result (c.args.self.now.steps - 1) c.work.new.steps c.in-Ok.ending (Ok c.in-Ok-settle.turn) o c.value-value.ensures c.in-Ok.ensures.worked c.in-Ok-settle.ensures.settles))

pub returns-in-Err-settle-clause-turned : goal.returns-in-Err-settle-clause-turned
returns-in-Err-settle-clause-turned g c =
    let me = c.args.self.now.nodes in
    let m : Meaning = meaning_of (g.N.Nodes.dead_of me) (g.N.Nodes.force_of me) (g.N.Nodes.loose_of me) (g.N.Nodes.test_of me) in
    let old = rest_of c.args.self.now.board in
    let now = rest_of c.settle.new.self in
    let x : Work = record { half = c.take-half.result; number = c.args.self.now.board.opened; rest = rest_of c.take-half.new.self } in
    let steps : c.args.self.now.steps - 1 + 1 ≡ c.args.self.now.steps = omega (arith, c.if-self-eq0.false) in
    let o : Opened c.args.self.now.log.events c.push.new.self.events old c.args.pick c.take-half.result.event x =
    record { named = ap event_of c.take-half.ensures.place; opens = c.take-half.ensures.opened; logs = c.push.ensures.events } in
    inr (subst (λ k. HasOpened m old c.args.pick c.args.self.now.log.events c.work.new.log.events k c.work.new.steps now (Err Memory)) steps
    (turn_ends m c.args.self.now.log.events c.push.new.self.events c.work.new.log.events old now c.args.pick c.take-half.result.event x c.value-value.result (c.args.self.now.steps - 1) c.work.new.steps c.in-Ok.ending (Err Memory) o c.value-value.ensures c.in-Ok.ensures.worked refl))
