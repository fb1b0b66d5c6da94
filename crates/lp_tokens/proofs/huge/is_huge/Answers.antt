use Rattle.std.proofs.Common.{◌≡◌, ◌∙◌, sym, ap, Bool, true, false, ◌||◌}
use Rattle.text_grammar.specs.Digits.{value_of}
use Rattle.lp_tokens.proofs.Far.{huge_told}
use Rattle.lp_tokens.proofs.huge.is_huge.Goals as goal

first_holds : (a b : Bool) → a ≡ true → a ≡ (a || b)
first_holds a b e = e ∙ sym (ap (λ (x : Bool). x || b) e)

second_holds : (a b : Bool) → a ≡ false → b ≡ (a || b)
second_holds a b e = sym (ap (λ (x : Bool). x || b) e)

pub returns-then-is_in_digits : goal.returns-then-is_in_digits
returns-then-is_in_digits c =
    first_holds c.has_digit-is_in_digits.result c.has_digit-is_in_places.result c.if-is_in_digits.true
    ∙ huge_told c.args.number.now.exponent.is_negative (value_of c.args.number.now.exponent.digits.now) c.capped_value-moves.result c.far_count-count.result c.saturating_sub.result c.args.number.now.digits.now
    c.args.number.now.places.now c.has_digit-is_in_digits.result c.has_digit-is_in_places.result c.capped_value-moves.ensures.capped c.far_count-count.ensures c.saturating_sub.ensures c.has_digit-is_in_digits.ensures.short
    c.has_digit-is_in_places.ensures.short c.has_digit-is_in_digits.ensures.has c.has_digit-is_in_places.ensures.has

pub returns-else-is_in_digits : goal.returns-else-is_in_digits
returns-else-is_in_digits c =
    second_holds c.has_digit-is_in_digits.result c.has_digit-is_in_places.result c.if-is_in_digits.false
    ∙ huge_told c.args.number.now.exponent.is_negative (value_of c.args.number.now.exponent.digits.now) c.capped_value-moves.result c.far_count-count.result c.saturating_sub.result c.args.number.now.digits.now
    c.args.number.now.places.now c.has_digit-is_in_digits.result c.has_digit-is_in_places.result c.capped_value-moves.ensures.capped c.far_count-count.ensures c.saturating_sub.ensures c.has_digit-is_in_digits.ensures.short
    c.has_digit-is_in_places.ensures.short c.has_digit-is_in_digits.ensures.has c.has_digit-is_in_places.ensures.has
