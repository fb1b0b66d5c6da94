use Rattle.std.proofs.Common.{◌++◌, ◌∷◌, [], ap, sym, ◌∙◌, refl, append_assoc, ◌%◌, ◌+◌, ◌/◌}
use Rattle.packed_numbers.specs.Packed.{packed_natural}
use Rattle.packed_numbers.proofs.Reading.{packed_high, still_before}
use Rattle.packed_numbers.proofs.push.push_digits.Goals as goal

pub loop-high-preserved : goal.loop-high-preserved
loop-high-preserved c =
    let high = c.loop-high.high in
    let old = c.loop-high.bytes.items in
    let first = (high % 128 + 128) ∷ [] in
    let pushed = c.in_ok-push.ensures.items in
    record {
      whole = ap (λ xs. xs ++ packed_natural (high / 128)) pushed
          ∙ append_assoc old first (packed_natural (high / 128))
          ∙ ap (λ xs. old ++ xs) (sym (packed_high high c.loop-high-test.true))
          ∙ c.loop-high.invariant.whole;
      before = rw pushed (still_before _ c.args.bytes.now.items old first refl c.loop-high.invariant.before);
    }
