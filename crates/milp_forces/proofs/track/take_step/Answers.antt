use Rattle.std.proofs.Common.{◌≡◌, ℕ, List, ◌∷◌, [], ap, reverse, subst, sym, ◌∙◌}
use Rattle.std.proofs.lemmas.List.{reverse-append}
use Rattle.milp_forces.specs.declared.track.Step.{Step}
use Rattle.milp_forces.specs.Tracks.{ArePacked, steps_in}
use Rattle.milp_forces.proofs.Tracks.{popped, popped_packed, taken}
use Rattle.milp_forces.proofs.track.take_step.Goals as goal

first : (c : goal.After-take_before-before) → reverse c.args.bytes.now.items ≡ c.in_ok-tag.tag ∷ reverse c.pop.new.self.items
first c = ap reverse c.in_ok-tag.ensures.items ∙ reverse-append c.pop.new.self.items (c.in_ok-tag.tag ∷ [])

pub returns-clause-kept : goal.returns-clause-kept
returns-clause-kept c =
    let tag = c.in_ok-tag.tag in
    let behind = reverse c.pop.new.self.items in
    let split = c.take_split-split in
    let before = c.take_before-before in
    let parts = taken tag behind (reverse split.new.bytes.items) (reverse before.new.bytes.items) split.result before.result split.ensures.split split.ensures.rest before.ensures.before before.ensures.rest in
    subst (λ (w : Step × List ℕ). ArePacked w.1) (sym parts) (popped_packed tag behind (subst ArePacked (first c) c.requires))

pub returns-clause-step : goal.returns-clause-step
returns-clause-step c =
    let tag = c.in_ok-tag.tag in
    let behind = reverse c.pop.new.self.items in
    let split = c.take_split-split in
    let before = c.take_before-before in
    let parts = taken tag behind (reverse split.new.bytes.items) (reverse before.new.bytes.items) split.result before.result split.ensures.split split.ensures.rest before.ensures.before before.ensures.rest in
    ap steps_in (first c) ∙ popped tag behind (subst ArePacked (first c) c.requires) ∙ ap (λ (w : Step × List ℕ). w.0 ∷ steps_in w.1) (sym parts)
