use Rattle.std.proofs.Common.{◌≡◌, ◌∙◌, ◌+◌, ◌<◌, ◌≤◌, ℕ, List, codes, Some, Result, Ok, Err, ap, refl, subst}
use Rattle.std.specs.Result.{IfOk}
use Rattle.outcomes.specs.declared.memory.Memory.{Memory}
use Rattle.model_tree.specs.declared.tree.Mode.TheVariants.{Xor}
use Rattle.model_builder.specs.Building.{BuildingValue, OpenDisjunction}
use Rattle.model_builder.specs.Nesting.{open_disjunction_outcome}
use Rattle.model_builder.specs.Standing.{stands_for}
use Rattle.model_maker.specs.declared.choices.PairRow.{PairRow}
use Rattle.model_maker.specs.Draws.{next, after, draw}
use Rattle.model_maker.specs.Generated.{choice_line, numbered}
use Rattle.model_maker.specs.Steps.{CanChoose, row_of, with_alternative}
use Rattle.model_maker.proofs.Chosen.{AreDrawn, IsChoosing, Leaves, first_taken, second_taken, close_accepted, choice_added}
use Rattle.model_maker.proofs.Rows.{if_ok}
use Rattle.model_maker.proofs.choices.add_choice.Goals as goal

-- the rows that are drawn, and how the states follow one another
drawn : (s s1 s2 s3 i p q r t : ℕ) → s1 ≡ next s → s2 ≡ next s1 → s3 ≡ next s2 → p ≡ draw s 3 → q ≡ draw s1 3 → r ≡ draw s2 10 → t ≡ draw s3 5
    → AreDrawn s i (record { pair = i; first = 1 + p; second = 1 + q; right = 6 + r }) (record { pair = i; first = 1; second = 1; right = 3 + t })
drawn s s1 s2 s3 i p q r t a b c d e f g =
    let two : s2 ≡ after s 2 = b ∙ ap next a in
    let three : s3 ≡ after s 3 = c ∙ ap next two in record {
      one_pair = refl;
      one_first = ap (λ x. 1 + x) d;
      one_second = ap (λ x. 1 + x) (e ∙ ap (λ x. draw x 3) a);
      one_right = ap (λ x. 6 + x) (f ∙ ap (λ x. draw x 10) two);
      two_pair = refl;
      two_first = refl;
      two_second = refl;
      two_right = ap (λ x. 3 + x) (g ∙ ap (λ x. draw x 5) three);
    }

-- what the calls before give
choosing : (s s1 s2 s3 size i line p q r t : ℕ) (b b1 : BuildingValue) (a : List ℕ) → CanChoose size i b → i < size → size ≤ 20 → line ≡ choice_line size i → a ≡ numbered (codes "a") i
    → b1 ≡ (open_disjunction_outcome Xor line b).1 → s1 ≡ next s → s2 ≡ next s1 → s3 ≡ next s2 → p ≡ draw s 3 → q ≡ draw s1 3 → r ≡ draw s2 10 → t ≡ draw s3 5
    → IsChoosing s size i b b1 a (record { pair = i; first = 1 + p; second = 1 + q; right = 6 + r }) (record { pair = i; first = 1; second = 1; right = 3 + t })
choosing s s1 s2 s3 size i line p q r t b b1 a can lt le is_line is_a opened x y z d e f g = record {
  can = can;
  lt = lt;
  le = le;
  drawn = drawn s s1 s2 s3 i p q r t x y z d e f g;
  a_is = is_a;
  opened = opened ∙ ap (λ (l : ℕ). (open_disjunction_outcome Xor l b).1) is_line;
}

-- what a disjunct that was added leaves
from_ok : {A E : Type 0} (r : Result A E) (x : A) {P : Type 0} → r ≡ Ok x → IfOk r (λ _. P) → P
from_ok (Ok y) x e h = h
from_ok (Err y) x e h = absurd (cc e)

left_at : (name : List ℕ) (l m : ℕ) (row : PairRow) (b b1 : BuildingValue) (r : Result (Unit {0}) Memory) (x : Unit {0}) → l ≡ m → r ≡ Ok x
    → ((d : OpenDisjunction) → b.opened ≡ Some d → IfOk r (λ _. b1 ≡ with_alternative name l (row_of row) b d)) → Leaves name m row b b1
left_at name l m row b b1 r x e ok left = subst (λ (k : ℕ). Leaves name k row b b1) e (λ d o. from_ok r x ok (left d o))

pub add_alternative-requires-clause-taken : goal.add_alternative-requires-clause-taken
add_alternative-requires-clause-taken c =
    first_taken c.args.draws.now c.args.size c.args.i (stands_for c.args.builder.now) (stands_for c.open_choice.new.builder) c.as_str.result.now _ _
    (choosing c.args.draws.now c.draw.new.self c.draw-2.new.self c.draw-3.new.self c.args.size c.args.i c.choice_line-line.result c.draw.result c.draw-2.result c.draw-3.result c.draw-4.result
    (stands_for c.args.builder.now) (stands_for c.open_choice.new.builder) c.as_str.result.now
    c.requires.chosen c.requires.i c.requires.size c.choice_line-line.ensures.line (c.as_str.ensures.value ∙ c.in_ok-a.ensures) c.in_ok-open_choice.ensures
    c.draw.ensures.next c.draw-2.ensures.next c.draw-3.ensures.next c.draw.ensures.drawn c.draw-2.ensures.drawn c.draw-3.ensures.drawn c.draw-4.ensures.drawn)

pub add_alternative-requires-2-clause-taken : goal.add_alternative-requires-2-clause-taken
add_alternative-requires-2-clause-taken c =
    let h = choosing c.args.draws.now c.draw.new.self c.draw-2.new.self c.draw-3.new.self c.args.size c.args.i c.choice_line-line.result c.draw.result c.draw-2.result c.draw-3.result c.draw-4.result
    (stands_for c.args.builder.now) (stands_for c.open_choice.new.builder) c.as_str.result.now
    c.requires.chosen c.requires.i c.requires.size c.choice_line-line.ensures.line (c.as_str.ensures.value ∙ c.in_ok-a.ensures) c.in_ok-open_choice.ensures
    c.draw.ensures.next c.draw-2.ensures.next c.draw-3.ensures.next c.draw.ensures.drawn c.draw-2.ensures.drawn c.draw-3.ensures.drawn c.draw-4.ensures.drawn in
    let line : c.choice_line-line.result + 1 ≡ choice_line c.args.size c.args.i + 1 = ap (λ (l : ℕ). l + 1) c.choice_line-line.ensures.line in
    let left = left_at c.as_str.result.now _ _ _ (stands_for c.open_choice.new.builder) (stands_for c.add_alternative.new.builder) c.add_alternative.result c.in_ok-add_alternative.field-0 line c.in_ok-add_alternative.was c.add_alternative.ensures in
    second_taken c.args.draws.now c.args.size c.args.i (stands_for c.args.builder.now) (stands_for c.open_choice.new.builder) (stands_for c.add_alternative.new.builder) c.as_str.result.now c.as_str-2.result.now _ _
    h left (c.as_str-2.ensures.value ∙ c.in_ok-b.ensures)

pub close-requires : goal.close-requires
close-requires c =
    let h = choosing c.args.draws.now c.draw.new.self c.draw-2.new.self c.draw-3.new.self c.args.size c.args.i c.choice_line-line.result c.draw.result c.draw-2.result c.draw-3.result c.draw-4.result
    (stands_for c.args.builder.now) (stands_for c.open_choice.new.builder) c.as_str.result.now
    c.requires.chosen c.requires.i c.requires.size c.choice_line-line.ensures.line (c.as_str.ensures.value ∙ c.in_ok-a.ensures) c.in_ok-open_choice.ensures
    c.draw.ensures.next c.draw-2.ensures.next c.draw-3.ensures.next c.draw.ensures.drawn c.draw-2.ensures.drawn c.draw-3.ensures.drawn c.draw-4.ensures.drawn in
    let line : c.choice_line-line.result + 1 ≡ choice_line c.args.size c.args.i + 1 = ap (λ (l : ℕ). l + 1) c.choice_line-line.ensures.line in
    let last : c.choice_line-line.result + 4 ≡ choice_line c.args.size c.args.i + 4 = ap (λ (l : ℕ). l + 4) c.choice_line-line.ensures.line in
    let left = left_at c.as_str.result.now _ _ _ (stands_for c.open_choice.new.builder) (stands_for c.add_alternative.new.builder) c.add_alternative.result c.in_ok-add_alternative.field-0 line c.in_ok-add_alternative.was c.add_alternative.ensures in
    let left_last = left_at c.as_str-2.result.now _ _ _ (stands_for c.add_alternative.new.builder) (stands_for c.add_alternative-2.new.builder) c.add_alternative-2.result c.in_ok-add_alternative-2.field-0 last c.in_ok-add_alternative-2.was c.add_alternative-2.ensures in
    close_accepted c.args.draws.now c.args.size c.args.i (stands_for c.args.builder.now) (stands_for c.open_choice.new.builder) (stands_for c.add_alternative.new.builder) (stands_for c.add_alternative-2.new.builder) c.as_str.result.now c.as_str-2.result.now _ _
    h left (c.as_str-2.ensures.value ∙ c.in_ok-b.ensures) left_last

pub returns-clause-added : goal.returns-clause-added
returns-clause-added c =
    let h = choosing c.args.draws.now c.draw.new.self c.draw-2.new.self c.draw-3.new.self c.args.size c.args.i c.choice_line-line.result c.draw.result c.draw-2.result c.draw-3.result c.draw-4.result
    (stands_for c.args.builder.now) (stands_for c.open_choice.new.builder) c.as_str.result.now
    c.requires.chosen c.requires.i c.requires.size c.choice_line-line.ensures.line (c.as_str.ensures.value ∙ c.in_ok-a.ensures) c.in_ok-open_choice.ensures
    c.draw.ensures.next c.draw-2.ensures.next c.draw-3.ensures.next c.draw.ensures.drawn c.draw-2.ensures.drawn c.draw-3.ensures.drawn c.draw-4.ensures.drawn in
    let line : c.choice_line-line.result + 1 ≡ choice_line c.args.size c.args.i + 1 = ap (λ (l : ℕ). l + 1) c.choice_line-line.ensures.line in
    let last : c.choice_line-line.result + 4 ≡ choice_line c.args.size c.args.i + 4 = ap (λ (l : ℕ). l + 4) c.choice_line-line.ensures.line in
    let left = left_at c.as_str.result.now _ _ _ (stands_for c.open_choice.new.builder) (stands_for c.add_alternative.new.builder) c.add_alternative.result c.in_ok-add_alternative.field-0 line c.in_ok-add_alternative.was c.add_alternative.ensures in
    let left_last = left_at c.as_str-2.result.now _ _ _ (stands_for c.add_alternative.new.builder) (stands_for c.add_alternative-2.new.builder) c.add_alternative-2.result c.in_ok-add_alternative-2.field-0 last c.in_ok-add_alternative-2.was c.add_alternative-2.ensures in
    if_ok c.close.result _ _
    (λ e. e ∙ choice_added c.args.draws.now c.args.size c.args.i (stands_for c.args.builder.now) (stands_for c.open_choice.new.builder) (stands_for c.add_alternative.new.builder) (stands_for c.add_alternative-2.new.builder) c.as_str.result.now c.as_str-2.result.now _ _
    h left (c.as_str-2.ensures.value ∙ c.in_ok-b.ensures) left_last)
    c.close.ensures
