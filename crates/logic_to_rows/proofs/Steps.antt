-- Loops that emit for each literal, one more at a time.
use Rattle.std.proofs.Common.{◌≡◌, ℕ, ℤ, pos, List, [], ◌∷◌, ◌++◌, length, refl, ap, sym, ◌+◌, ◌<◌, add-one, take, get_or, inl}
use Rattle.std.proofs.Math.Seq.{take-suc}
use Rattle.emission.specs.declared.literals.Literal.{Literal}
use Rattle.lp_rows.specs.declared.kinds.Rel.TheVariants.{AtMost}
use Rattle.emission.proofs.Running.{adds_then, literals_push, plus_zero, runs_then}
use Rattle.emission.specs.Items.{Item, stand}
use Rattle.emission.specs.Literals.{literal_times, literals_times}
use Rattle.emission.specs.Run.{Adds, Runs, State, Status}
use Rattle.emission.specs.Sums.{column, minus, plus}
use Rattle.logic_to_rows.specs.Emitted.{above_each, below_each}

-- items of a list of literals, and of one literal more
one_more : (f : List Literal → List Item) → ((xs ys : List Literal) → f (xs ++ ys) ≡ f xs ++ f ys) → (ls : List Literal) (i : ℕ) (d : Literal) (a b c : State) → i < length ls →
    Runs (f (take i ls)) a b → Runs (f (get_or ls i d ∷ [])) b c → Runs (f (take (i + 1) ls)) a c
one_more f appended ls i d a b c h p q =
    rw (add-one, take-suc ls i d h, appended (take i ls) (get_or ls i d ∷ [])) (runs_then (f (take i ls)) (f (get_or ls i d ∷ [])) a b c p q)

below-append : (z : ℕ) (xs ys : List Literal) → below_each z (xs ++ ys) ≡ below_each z xs ++ below_each z ys
below-append z [] ys = refl
below-append z (x ∷ xs) ys = ap (λ is. stand AtMost (plus (column (pos 1) z) (literal_times minus x)) ∷ is) (below-append z xs ys)

above-append : (z : ℕ) (xs ys : List Literal) → above_each z (xs ++ ys) ≡ above_each z xs ++ above_each z ys
above-append z [] ys = refl
above-append z (x ∷ xs) ys = ap (λ is. stand AtMost (plus (literal_times (pos 1) x) (column minus z)) ∷ is) (above-append z xs ys)

pub below_step : (z : ℕ) (ls : List Literal) (i : ℕ) (d : Literal) (a b c : State) → i < length ls → Runs (below_each z (take i ls)) a b → Runs (below_each z (get_or ls i d ∷ [])) b c →
    Runs (below_each z (take (i + 1) ls)) a c
below_step z = one_more (below_each z) (below-append z)

pub above_step : (z : ℕ) (ls : List Literal) (i : ℕ) (d : Literal) (a b c : State) → i < length ls → Runs (above_each z (take i ls)) a b → Runs (above_each z (get_or ls i d ∷ [])) b c →
    Runs (above_each z (take (i + 1) ls)) a c
above_step z = one_more (above_each z) (above-append z)

pub adds_none : (k : ℤ) (p : Status) → Adds (literals_times k []) p p
unfolding literals_times
adds_none k p = record { adds = inl (sym (plus_zero p.open_sum), refl) }

pub adds_more : (k : ℤ) (ls : List Literal) (i : ℕ) (d : Literal) (p q r : Status) → i < length ls → Adds (literals_times k (take i ls)) p q → Adds (literal_times k (get_or ls i d)) q r → Adds (literals_times k (take (i + 1) ls)) p r
adds_more k ls i d p q r h a b =
    rw (add-one, take-suc ls i d h, literals_push k (take i ls) (get_or ls i d))
    (adds_then (literals_times k (take i ls)) (literal_times k (get_or ls i d)) p q r a b)
