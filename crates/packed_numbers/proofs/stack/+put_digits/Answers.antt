use Rattle.std.proofs.Common.{◌+◌, ◌%◌, ◌∷◌, [], ◌++◌, ap, reverse, sym, ◌∙◌}
use Rattle.std.proofs.lemmas.List.{reverse-append}
use Rattle.packed_numbers.proofs.Reading.{packed_low, packed_high}
use Rattle.packed_numbers.proofs.stack.+put_digits.Goals as goal

pub returns-in_ok-push-clause-ok : goal.returns-in_ok-push-clause-ok
returns-in_ok-push-clause-ok t c =
    let number = c.args.number in
    let old = c.args.bytes.now.items in
    ap reverse c.in_ok-push.ensures.items
    ∙ reverse-append old (number ∷ [])
    ∙ ap (λ digits. digits ++ reverse old) (sym (packed_low number c.if-number-lt128.true))

pub returns-in_ok-push-2-clause-ok : goal.returns-in_ok-push-2-clause-ok
returns-in_ok-push-2-clause-ok t c =
    let number = c.args.number in
    let old = c.args.bytes.now.items in
    let first = number % 128 + 128 in
    ap reverse c.in_ok-push-2.ensures.items
    ∙ reverse-append c.put_digits.new.bytes.items (first ∷ [])
    ∙ ap (λ below. first ∷ below) c.in_ok-put_digits.ensures.ok
    ∙ ap (λ digits. digits ++ reverse old) (sym (packed_high number c.if-number-lt128.false))
