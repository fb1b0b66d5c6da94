-- What was written, after one more write.
use Rattle.std.proofs.Common.{◌≡◌, ℕ, ◌+◌, ◌-◌, List, ◌++◌, length, drop, take, Option, Some, None, append_assoc, ap, sym, ◌∙◌, refl}
use Rattle.std.proofs.Math.Seq.{take-add}
use Rattle.std.proofs.lemmas.List.{take_rest}
use Rattle.gdp_io.specs.Sink.{grown}

-- a write after a write
grown-grown : (old : Option (List ℕ)) (first next : List ℕ) → grown (grown old first) next ≡ grown old (first ++ next)
grown-grown None first next = refl
grown-grown (Some written) first next = ap Some (append_assoc written first next)

-- the front of a text was written, and then the front of the rest
pub goes_on : (old was now : Option (List ℕ)) (text : List ℕ) (at n : ℕ) →
    was ≡ grown old (take at text) → now ≡ grown was (take n (take (length text - at) (drop at text))) → now ≡ grown old (take (at + n) text)
goes_on old was now text at n so_far wrote =
    wrote ∙ ap (λ rest. grown was (take n rest)) (take_rest text at) ∙ ap (λ written. grown written (take n (drop at text))) so_far
    ∙ grown-grown old (take at text) (take n (drop at text)) ∙ ap (grown old) (sym (take-add at n text))
