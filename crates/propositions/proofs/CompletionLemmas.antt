-- What a reading knows, every completion gives.
use Rattle.std.proofs.Common.{◌≡◌, ℕ, ◌+◌, ◌≤◌, Bool, true, false, not, ◌&&◌, List, [], ◌∷◌, nat_eq, nat_le, nat_lt, cond, refl, arith}
use Rattle.std.proofs.lemmas.Bool.Decides.{nat_tests}
use Rattle.std.specs.Int.{from_bool}
use Rattle.gdp_tables.specs.declared.tri.Tri.{Tri}
use Rattle.gdp_tables.specs.declared.tri.Tri.TheVariants.{No, Yes, Open}
use Rattle.gdp_tables.specs.Completions.{Completes, are_same}
use Rattle.gdp_tables.specs.Readings.{not_of, same_of}
use Rattle.gdp_tables.proofs.ExactLemmas.{not_completes, and_completes, or_completes, same_completes}
use Rattle.propositions.proofs.Layers.{count_more}
use Rattle.propositions.specs.Tree.{PairConnective, implies, equivalent, xor, ListConnective, all_of, some_of, exactly, at_least, at_most, PropTree, atom, negated, paired, listed, PropTrees, no_props, prop}
use Rattle.propositions.specs.Truth.{are_all_true, is_some_true, true_count, pair_truth, list_truth, truth_of, truths_of}
use Rattle.propositions.specs.Reading.{and_all, or_all, is_yes, is_open, yes_count, open_count, at_least_of, at_most_of, exactly_of, pair_tri, list_tri, tri_of, tris_of}

-- truth values complete readings, one by one
abbrev pub CompleteAll : List Bool → List Tri → Type 0
CompleteAll [] [] = Unit {0}
CompleteAll [] (t ∷ ts) = ⊥
CompleteAll (b ∷ bs) [] = ⊥
CompleteAll (b ∷ bs) (t ∷ ts) = Completes b t × CompleteAll bs ts

pub all_completes : (bs : List Bool) (ts : List Tri) → CompleteAll bs ts → Completes (are_all_true bs) (and_all ts)
all_completes [] [] h = refl
all_completes [] (t ∷ ts) h = absurd h
all_completes (b ∷ bs) [] h = absurd h
all_completes (b ∷ bs) (t ∷ ts) h = and_completes t (and_all ts) b (are_all_true bs) h.0 (all_completes bs ts h.1)

pub some_completes : (bs : List Bool) (ts : List Tri) → CompleteAll bs ts → Completes (is_some_true bs) (or_all ts)
some_completes [] [] h = refl
some_completes [] (t ∷ ts) h = absurd h
some_completes (b ∷ bs) [] h = absurd h
some_completes (b ∷ bs) (t ∷ ts) h = or_completes t (or_all ts) b (is_some_true bs) h.0 (some_completes bs ts h.1)

-- what one reading adds to the counts bounds what its truth value adds
pub adds_between : (b : Bool) (t : Tri) → Completes b t → (from_bool (is_yes t) ≤ from_bool b) × (from_bool b ≤ from_bool (is_yes t) + from_bool (is_open t))
adds_between false No h = (omega arith, omega arith)
adds_between true No h = cc
adds_between false Yes h = cc
adds_between true Yes h = (omega arith, omega arith)
adds_between false Open h = (omega arith, omega arith)
adds_between true Open h = (omega arith, omega arith)

-- at least those that are yes are true, and at most those that are yes or open
pub count_between : (bs : List Bool) (ts : List Tri) → CompleteAll bs ts
    → (yes_count ts ≤ true_count bs) × (true_count bs ≤ yes_count ts + open_count ts)
count_between [] [] h = (omega arith, omega arith)
count_between [] (t ∷ ts) h = absurd h
count_between (b ∷ bs) [] h = absurd h
count_between (b ∷ bs) (t ∷ ts) h =
    let here = adds_between b t h.0 in
    let below = count_between bs ts h.1 in
    let yes = count_more is_yes t ts in
    let opened = count_more is_open t ts in
    let truths = count_more (λ x. x) b bs in
    (omega (arith, here.0, below.0, yes, truths), omega (arith, here.1, below.1, yes, opened, truths))

pub tests_complete : (is_sure is_past truth : Bool) → (is_sure ≡ true → truth ≡ true) → (is_past ≡ true → truth ≡ false)
    → Completes truth (cond is_sure Yes (cond is_past No Open))
tests_complete true is_past truth f g = f refl
tests_complete false true truth f g = g refl
tests_complete false false truth f g = tt

pub enough : (n sure count : ℕ) → sure ≤ count → nat_le n sure ≡ true → nat_le n count ≡ true
enough n sure count h e = grind (arith, nat_tests)

pub too_few : (n most count : ℕ) → count ≤ most → nat_lt most n ≡ true → nat_le n count ≡ false
too_few n most count h e = grind (arith, nat_tests)

pub at_least_completes : (n sure undecided count : ℕ) → sure ≤ count → count ≤ sure + undecided → Completes (nat_le n count) (at_least_of n sure undecided)
at_least_completes n sure undecided count low high =
    tests_complete (nat_le n sure) (nat_lt (sure + undecided) n) (nat_le n count) (enough n sure count low) (too_few n (sure + undecided) count high)

-- at most n are those of which not n + 1 are, and exactly n at least and at most n
pub at_most_is : (n count : ℕ) → nat_le count n ≡ not (nat_le (n + 1) count)
at_most_is n count = grind (arith, nat_tests)

pub exactly_is : (n count : ℕ) → nat_eq count n ≡ nat_le n count && nat_le count n
exactly_is n count = grind (arith, nat_tests)

pub at_most_completes : (n sure undecided count : ℕ) → sure ≤ count → count ≤ sure + undecided → Completes (nat_le count n) (at_most_of n sure undecided)
at_most_completes n sure undecided count low high =
    rw (at_most_is n count) (not_completes (at_least_of (n + 1) sure undecided) (nat_le (n + 1) count) (at_least_completes (n + 1) sure undecided count low high))

pub exactly_completes : (n sure undecided count : ℕ) → sure ≤ count → count ≤ sure + undecided → Completes (nat_eq count n) (exactly_of n sure undecided)
exactly_completes n sure undecided count low high =
    rw (exactly_is n count)
    (and_completes (at_least_of n sure undecided) (at_most_of n sure undecided) (nat_le n count) (nat_le count n)
    (at_least_completes n sure undecided count low high) (at_most_completes n sure undecided count low high))

pub pair_completes : (c : PairConnective) (a b : Tri) (x y : Bool) → Completes x a → Completes y b → Completes (pair_truth c x y) (pair_tri c a b)
pair_completes implies a b x y h k = or_completes (not_of a) b (not x) y (not_completes a x h) k
pair_completes equivalent a b x y h k = same_completes a b x y h k
pair_completes xor a b x y h k = not_completes (same_of a b) (are_same x y) (same_completes a b x y h k)

pub list_completes : (c : ListConnective) (bs : List Bool) (ts : List Tri) → CompleteAll bs ts → Completes (list_truth c bs) (list_tri c ts)
list_completes all_of bs ts h = all_completes bs ts h
list_completes some_of bs ts h = some_completes bs ts h
list_completes (exactly n) bs ts h = let b = count_between bs ts h in exactly_completes n (yes_count ts) (open_count ts) (true_count bs) b.0 b.1
list_completes (at_least n) bs ts h = let b = count_between bs ts h in at_least_completes n (yes_count ts) (open_count ts) (true_count bs) b.0 b.1
list_completes (at_most n) bs ts h = let b = count_between bs ts h in at_most_completes n (yes_count ts) (open_count ts) (true_count bs) b.0 b.1

mutual
  -- the truth of a proposition completes its reading
  pub prop_completes : (p : PropTree) (xs : ℕ → Bool) (ts : ℕ → Tri) → ((k : ℕ) → Completes (xs k) (ts k)) → Completes (truth_of p xs) (tri_of p ts)
  prop_completes (atom k) xs ts h = h k
  prop_completes (negated p) xs ts h = not_completes (tri_of p ts) (truth_of p xs) (prop_completes p xs ts h)
  prop_completes (paired c p q) xs ts h =
      pair_completes c (tri_of p ts) (tri_of q ts) (truth_of p xs) (truth_of q xs) (prop_completes p xs ts h) (prop_completes q xs ts h)
  prop_completes (listed c ps) xs ts h = list_completes c (truths_of ps xs) (tris_of ps ts) (props_complete ps xs ts h)

  pub props_complete : (ps : PropTrees) (xs : ℕ → Bool) (ts : ℕ → Tri) → ((k : ℕ) → Completes (xs k) (ts k)) → CompleteAll (truths_of ps xs) (tris_of ps ts)
  props_complete no_props xs ts h = tt
  props_complete (prop p ps) xs ts h = (prop_completes p xs ts h, props_complete ps xs ts h)
