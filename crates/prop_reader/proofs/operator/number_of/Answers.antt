use Rattle.std.proofs.Common.{◌∙◌, ◌≤◌, ◌-◌, ◌^◌, min, length, arith}
use Rattle.text_grammar.specs.Digits.{value_after}
use Rattle.prop_reader.proofs.NumbersLemmas.{digit_capped, all_digits}
use Rattle.prop_reader.proofs.operator.number_of.Goals as goal

pub digits-preserved : goal.digits-preserved
digits-preserved c = record {
  small = omega (arith, c.push_digit-number.ensures);
  value =
      digit_capped (2 ^ 32 - 1) c.digits.number c.push_digit-number.result c.digits.digit-index c.args.digits.now c.digits-test.true c.push_digit-number.ensures
      ∙ c.digits.invariant.value;
}

pub returns : goal.returns
returns c =
    let past : length c.args.digits.now ≤ c.digits.digit-index = omega arith in
    all_digits (2 ^ 32 - 1) c.digits.number (min (value_after 0 c.args.digits.now) (2 ^ 32 - 1)) c.digits.digit-index c.args.digits.now past c.digits.invariant.small c.digits.invariant.value
