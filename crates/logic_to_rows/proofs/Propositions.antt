-- The items of a proposition are met exactly where each new column is right, and then its literal reads its truth_of.
use Rattle.std.proofs.Common.{◌≡◌, ℕ, ℤ, pos, neg_ℤ, ◌+ℤ◌, ◌-ℤ◌, ◌*ℤ◌, ◌≤ℤ◌, ◌<ℤ◌, Bool, true, false, not, ◌&&◌, ◌||◌, nat_le, nat_lt, nat_eq, List, [], ◌∷◌, ◌++◌, length, arith, refl, ap, ◌∙◌, suc, ◌+◌, ◌<◌, ◌≤◌}
use Rattle.std.specs.Prelude.{◌↔◌}
use Rattle.std.proofs.lemmas.Int.{ints}
use Rattle.std.proofs.lemmas.Bool.Decides.{nat_tests}
use Rattle.lp_rows.specs.declared.kinds.Rel.TheVariants.{AtMost}
use Rattle.emission.specs.declared.literals.Literal.{Literal}
use Rattle.block_tree.specs.Satisfied.{PointOf}
use Rattle.emission.proofs.Meeting.{Booleans, Exact, append_exact, empty_exact}
use Rattle.emission.proofs.Values.{Read, bit_cases, count_le, count_mul, meant-append, minus_mul, pick_le, pick_nonneg, pick_whole, pos_add, read_length, reads, reads_at, row_at, value-column, value-lit, value-lits, value-number, value-plus}
use Rattle.emission.specs.Items.{AreMeant, Item, Meets, after, binary, followed}
use Rattle.emission.specs.Literals.{flip, literal_times, literals_times, plain}
use Rattle.emission.specs.Sums.{column, minus, number, pick, plus, value}
use Rattle.gdp_tables.specs.Completions.{are_same}
use Rattle.int_linear.proofs.Ring.{mul_zero, one_mul, products}
use Rattle.logic_to_rows.proofs.Gadgets.{all_says, count-le-length, some_says}
use Rattle.logic_to_rows.specs.Laws.{PropositionsAreExact}
use Rattle.logic_to_rows.specs.Emitted.{above_each, all_emitted, all_rows, below_each, bit, emitted, exactly_items, least_rows, list_items, list_literal, literal, literals, pair_items, pair_literal, same_rows, some_rows}
use Rattle.milps.proofs.Columned.{and_left, and_right, col_says}
use Rattle.propositions.specs.Tree.{ListConnective, PairConnective, PropTree, PropTrees, all_of, at_least, at_most, atom, equivalent, exactly, implies, listed, negated, no_props, paired, prop, some_of, xor}
use Rattle.propositions.specs.Truth.{are_all_ids_below, are_all_true, are_ids_below, is_some_true, true_count, truth_of, truths_of}

-- at least n
least_value1 : (n z : ℕ) (ls : List Literal) (bs : List Bool) (c : Bool) (d : ℤ) (w : ℕ → ℤ) → w z ≡ pick c d → Read ls bs d w →
    value (plus (column (pos n) z) (literals_times minus ls)) d w ≡ pos n *ℤ pick c d -ℤ pos (true_count bs) *ℤ d
least_value1 n z ls bs c d w e r =
    rw (value-plus (column (pos n) z) (literals_times minus ls) d w, value-lits minus ls bs d w r, value-column (pos n) z d w, e, minus_mul (pos (true_count bs) *ℤ d)) (omega (arith, ints))

least_value2 : (n z : ℕ) (ls : List Literal) (bs : List Bool) (c : Bool) (d : ℤ) (w : ℕ → ℤ) → w z ≡ pick c d → Read ls bs d w →
    value (plus (literals_times (pos 1) ls) (plus (column (neg_ℤ (pos (length ls) -ℤ pos n +ℤ pos 1)) z) (number (pos 1 -ℤ pos n)))) d w
    ≡ pos (true_count bs) *ℤ d +ℤ (d -ℤ pos n *ℤ d) +ℤ (neg_ℤ (pos (length bs) *ℤ pick c d) +ℤ pos n *ℤ pick c d -ℤ pick c d)
least_value2 n z ls bs c d w e r =
    rw (
      value-plus (literals_times (pos 1) ls) (plus (column (neg_ℤ (pos (length ls) -ℤ pos n +ℤ pos 1)) z) (number (pos 1 -ℤ pos n))) d w,
      value-plus (column (neg_ℤ (pos (length ls) -ℤ pos n +ℤ pos 1)) z) (number (pos 1 -ℤ pos n)) d w,
      value-lits (pos 1) ls bs d w r,
      value-column (neg_ℤ (pos (length ls) -ℤ pos n +ℤ pos 1)) z d w,
      value-number (pos 1 -ℤ pos n) d w,
      e,
      read_length ls bs d w r,
    )
    (simp products (omega (arith, ints)))

least_counts : (n : ℕ) (bs : List Bool) (c : Bool) (d : ℤ) → pos 0 <ℤ d →
    (((pos n *ℤ pick c d -ℤ pos (true_count bs) *ℤ d) ≤ℤ pos 0)
    × ((pos (true_count bs) *ℤ d +ℤ (d -ℤ pos n *ℤ d) +ℤ (neg_ℤ (pos (length bs) *ℤ pick c d) +ℤ pos n *ℤ pick c d -ℤ pick c d)) ≤ℤ pos 0))
    ↔ (c ≡ nat_le n (true_count bs))
least_counts n bs true d p = (
  λ h. let m = count_le n (true_count bs) d p (omega (arith, ints)) in grind (arith, nat_tests),
  λ e. let l : n ≤ true_count bs = grind (arith, nat_tests) in
      let m = count_mul n (true_count bs) d p l in
      let k = count_mul (true_count bs) (length bs) d p (count-le-length bs) in
      (omega (arith, ints), omega (arith, ints)),
)
least_counts n bs false d p = (
  λ h. let z1 = mul_zero (pos (length bs)) in let z2 = mul_zero (pos n) in
      let a = pos_add (true_count bs) 1 d in
      let m = count_le (true_count bs + 1) n d p (omega (arith, ints)) in grind (arith, nat_tests),
  λ e. let l : true_count bs + 1 ≤ n = grind (arith, nat_tests) in
      let z1 = mul_zero (pos (length bs)) in let z2 = mul_zero (pos n) in
      let a = pos_add (true_count bs) 1 d in
      let m = count_mul (true_count bs + 1) n d p l in
      let k = count_mul 0 (true_count bs) d p (omega arith) in
      (omega (arith, ints), omega (arith, ints)),
)

pub least_says : (n z : ℕ) (ls : List Literal) (bs : List Bool) (c : Bool) (d : ℤ) (w : ℕ → ℤ) → pos 0 <ℤ d → w z ≡ pick c d → Read ls bs d w →
    Meets (least_rows n z ls) d w ↔ (c ≡ nat_le n (true_count bs))
least_says n z ls bs c d w p e r =
    let h = row_at AtMost (plus (column (pos n) z) (literals_times minus ls)) d w _ (least_value1 n z ls bs c d w e r) in
    let g = row_at AtMost (plus (literals_times (pos 1) ls) (plus (column (neg_ℤ (pos (length ls) -ℤ pos n +ℤ pos 1)) z) (number (pos 1 -ℤ pos n)))) d w _ (least_value2 n z ls bs c d w e r) in
    let o = least_counts n bs c d p in
    (λ x. o.0 (h.0 x.0, g.0 x.1.0), λ x. (h.1 (o.1 x).0, (g.1 (o.1 x).1, tt)))

-- same truth_of
same_value1 : (z : ℕ) (p q : Literal) (c a b : Bool) (d : ℤ) (w : ℕ → ℤ) → w z ≡ pick c d → reads p d w ≡ pick a d → reads q d w ≡ pick b d →
    value (plus (column (pos 1) z) (plus (literal_times (pos 1) p) (plus (literal_times minus q) (number minus)))) d w ≡ pick c d +ℤ pick a d -ℤ pick b d -ℤ d
same_value1 z p q c a b d w e f g =
    rw (
      value-plus (column (pos 1) z) (plus (literal_times (pos 1) p) (plus (literal_times minus q) (number minus))) d w,
      value-plus (literal_times (pos 1) p) (plus (literal_times minus q) (number minus)) d w,
      value-plus (literal_times minus q) (number minus) d w,
      value-column (pos 1) z d w,
      value-lit (pos 1) p d w,
      value-lit minus q d w,
      value-number minus d w,
      e,
      f,
      g,
      minus_mul (pick b d),
      minus_mul d,
    ) (omega (arith, ints))

same_value2 : (z : ℕ) (p q : Literal) (c a b : Bool) (d : ℤ) (w : ℕ → ℤ) → w z ≡ pick c d → reads p d w ≡ pick a d → reads q d w ≡ pick b d →
    value (plus (column (pos 1) z) (plus (literal_times minus p) (plus (literal_times (pos 1) q) (number minus)))) d w ≡ pick c d -ℤ pick a d +ℤ pick b d -ℤ d
same_value2 z p q c a b d w e f g =
    rw (
      value-plus (column (pos 1) z) (plus (literal_times minus p) (plus (literal_times (pos 1) q) (number minus))) d w,
      value-plus (literal_times minus p) (plus (literal_times (pos 1) q) (number minus)) d w,
      value-plus (literal_times (pos 1) q) (number minus) d w,
      value-column (pos 1) z d w,
      value-lit (pos 1) q d w,
      value-lit minus p d w,
      value-number minus d w,
      e,
      f,
      g,
      minus_mul (pick a d),
      minus_mul d,
    ) (omega (arith, ints))

same_value3 : (z : ℕ) (p q : Literal) (c a b : Bool) (d : ℤ) (w : ℕ → ℤ) → w z ≡ pick c d → reads p d w ≡ pick a d → reads q d w ≡ pick b d →
    value (plus (column minus z) (plus (literal_times (pos 1) p) (plus (literal_times (pos 1) q) (number minus)))) d w ≡ pick a d +ℤ pick b d -ℤ pick c d -ℤ d
same_value3 z p q c a b d w e f g =
    rw (
      value-plus (column minus z) (plus (literal_times (pos 1) p) (plus (literal_times (pos 1) q) (number minus))) d w,
      value-plus (literal_times (pos 1) p) (plus (literal_times (pos 1) q) (number minus)) d w,
      value-plus (literal_times (pos 1) q) (number minus) d w,
      value-column minus z d w,
      value-lit (pos 1) p d w,
      value-lit (pos 1) q d w,
      value-number minus d w,
      e,
      f,
      g,
      minus_mul (pick c d),
      minus_mul d,
    ) (omega (arith, ints))

same_value4 : (z : ℕ) (p q : Literal) (c a b : Bool) (d : ℤ) (w : ℕ → ℤ) → w z ≡ pick c d → reads p d w ≡ pick a d → reads q d w ≡ pick b d →
    value (plus (column minus z) (plus (literal_times minus p) (plus (literal_times minus q) (number (pos 1))))) d w ≡ d -ℤ pick a d -ℤ pick b d -ℤ pick c d
same_value4 z p q c a b d w e f g =
    rw (
      value-plus (column minus z) (plus (literal_times minus p) (plus (literal_times minus q) (number (pos 1)))) d w,
      value-plus (literal_times minus p) (plus (literal_times minus q) (number (pos 1))) d w,
      value-plus (literal_times minus q) (number (pos 1)) d w,
      value-column minus z d w,
      value-lit minus p d w,
      value-lit minus q d w,
      value-number (pos 1) d w,
      e,
      f,
      g,
      minus_mul (pick a d),
      minus_mul (pick b d),
      minus_mul (pick c d),
    ) (omega (arith, ints))

record FourRows (c a b : Bool) (d : ℤ) : Type 0 where
  one : (pick c d +ℤ pick a d -ℤ pick b d -ℤ d) ≤ℤ pos 0
  two : (pick c d -ℤ pick a d +ℤ pick b d -ℤ d) ≤ℤ pos 0
  three : (pick a d +ℤ pick b d -ℤ pick c d -ℤ d) ≤ℤ pos 0
  four : (d -ℤ pick a d -ℤ pick b d -ℤ pick c d) ≤ℤ pos 0

same_cases : (c a b : Bool) (d : ℤ) → pos 0 <ℤ d → FourRows c a b d ↔ (c ≡ are_same a b)
same_cases true true true d p = (λ h. refl, λ e. record { one = omega (arith, ints); two = omega (arith, ints); three = omega (arith, ints); four = omega (arith, ints) })
same_cases true true false d p = (λ h. absurd (let a = h.one in omega (arith, ints)), λ e. cc)
same_cases true false true d p = (λ h. absurd (let a = h.two in omega (arith, ints)), λ e. cc)
same_cases true false false d p = (λ h. refl, λ e. record { one = omega (arith, ints); two = omega (arith, ints); three = omega (arith, ints); four = omega (arith, ints) })
same_cases false true true d p = (λ h. absurd (let a = h.three in omega (arith, ints)), λ e. cc)
same_cases false true false d p = (λ h. refl, λ e. record { one = omega (arith, ints); two = omega (arith, ints); three = omega (arith, ints); four = omega (arith, ints) })
same_cases false false true d p = (λ h. refl, λ e. record { one = omega (arith, ints); two = omega (arith, ints); three = omega (arith, ints); four = omega (arith, ints) })
same_cases false false false d p = (λ h. absurd (let a = h.four in omega (arith, ints)), λ e. cc)

pub same_says : (z : ℕ) (p q : Literal) (c a b : Bool) (d : ℤ) (w : ℕ → ℤ) → pos 0 <ℤ d → w z ≡ pick c d → reads p d w ≡ pick a d → reads q d w ≡ pick b d →
    Meets (same_rows z p q) d w ↔ (c ≡ are_same a b)
same_says z p q c a b d w l e f g =
    let r1 = row_at AtMost (plus (column (pos 1) z) (plus (literal_times (pos 1) p) (plus (literal_times minus q) (number minus)))) d w _ (same_value1 z p q c a b d w e f g) in
    let r2 = row_at AtMost (plus (column (pos 1) z) (plus (literal_times minus p) (plus (literal_times (pos 1) q) (number minus)))) d w _ (same_value2 z p q c a b d w e f g) in
    let r3 = row_at AtMost (plus (column minus z) (plus (literal_times (pos 1) p) (plus (literal_times (pos 1) q) (number minus)))) d w _ (same_value3 z p q c a b d w e f g) in
    let r4 = row_at AtMost (plus (column minus z) (plus (literal_times minus p) (plus (literal_times minus q) (number (pos 1))))) d w _ (same_value4 z p q c a b d w e f g) in
    let o = same_cases c a b d l in (
      λ x. o.0 (record { one = r1.0 x.0; two = r2.0 x.1.0; three = r3.0 x.1.1.0; four = r4.0 x.1.1.1.0 }),
      λ x. let y = o.1 x in (r1.1 y.one, (r2.1 y.two, (r3.1 y.three, (r4.1 y.four, tt)))),
    )

-- a new column: its kind and its rows say that it is right, where the rows say that it is p's truth_of
bound_value : (z : ℕ) (d : ℤ) (w : ℕ → ℤ) → value (plus (column (pos 1) z) (number minus)) d w ≡ w z -ℤ d
bound_value z d w = rw (value-plus (column (pos 1) z) (number minus) d w, value-column (pos 1) z d w, value-number minus d w, minus_mul d) (omega (arith, ints))

pub bit_says : (z : ℕ) (p : PropTree) (rows : List Item) (s : PointOf) (w : ℕ → ℤ) → pos 0 <ℤ s.over → AreMeant rows s w →
    ((c : Bool) → w z ≡ pick c s.over → Meets rows s.over w ↔ (c ≡ truth_of p s.truths)) →
    Exact (bit z p ++ rows) true s w
bit_says z p rows s w l r f =
    let h = row_at AtMost (plus (column (pos 1) z) (number minus)) s.over w _ (bound_value z s.over w) in
    let k = col_says binary (w z) s.over l in
    record {
      right = λ m.
          let upper = h.0 m.1.0 in
          let v = k.0 m.0 in
          let b = bit_cases (w z) s.over l v.0 v.1 (omega (arith, ints)) in
          (b.1 ∙ ap (λ c. pick c s.over) ((f b.0 b.1).0 m.1.1), r);
      holds = λ m. refl;
      met = λ m x.
          let t = truth_of p s.truths in (
            k.1 (rw m.0 (pick_whole t s.over), rw m.0 (pick_nonneg t s.over l)),
            (h.1 (let u = pick_le t s.over l in let e = m.0 in omega (arith, ints)), (f t m.0).1 refl),
          );
    }

-- lists of rows alone are right
rows_right_below : (z : ℕ) (ls : List Literal) (is : List Item) (s : PointOf) (w : ℕ → ℤ) → AreMeant is s w → AreMeant (below_each z ls ++ is) s w
rows_right_below z [] is s w h = h
rows_right_below z (l ∷ ls) is s w h = rows_right_below z ls is s w h

rows_right_above : (z : ℕ) (ls : List Literal) (is : List Item) (s : PointOf) (w : ℕ → ℤ) → AreMeant is s w → AreMeant (above_each z ls ++ is) s w
rows_right_above z [] is s w h = h
rows_right_above z (l ∷ ls) is s w h = rows_right_above z ls is s w h

flip_reads : (i : ℕ) (f b : Bool) (d : ℤ) (w : ℕ → ℤ) → reads_at i f d w ≡ pick b d → reads_at i (not f) d w ≡ pick (not b) d
flip_reads i false true d w h = omega (arith, ints)
flip_reads i false false d w h = omega (arith, ints)
flip_reads i true true d w h = omega (arith, ints)
flip_reads i true false d w h = omega (arith, ints)

all_new : (z : ℕ) (p : PropTree) (ls : List Literal) (bs : List Bool) (s : PointOf) (w : ℕ → ℤ) → pos 0 <ℤ s.over → Read ls bs s.over w → are_all_true bs ≡ truth_of p s.truths →
    Exact (bit z p ++ all_rows z ls) true s w
all_new z p ls bs s w l r e = bit_says z p (all_rows z ls) s w l (rows_right_below z ls _ s w tt) (λ c g. rw (← e) (all_says z ls bs c s.over w l g r))

some_new : (z : ℕ) (p : PropTree) (ls : List Literal) (bs : List Bool) (s : PointOf) (w : ℕ → ℤ) → pos 0 <ℤ s.over → Read ls bs s.over w → is_some_true bs ≡ truth_of p s.truths →
    Exact (bit z p ++ some_rows z ls) true s w
some_new z p ls bs s w l r e = bit_says z p (some_rows z ls) s w l (rows_right_above z ls _ s w tt) (λ c g. rw (← e) (some_says z ls bs c s.over w l g r))

least_new : (k z : ℕ) (p : PropTree) (ls : List Literal) (bs : List Bool) (s : PointOf) (w : ℕ → ℤ) → pos 0 <ℤ s.over → Read ls bs s.over w → nat_le k (true_count bs) ≡ truth_of p s.truths →
    Exact (bit z p ++ least_rows k z ls) true s w
least_new k z p ls bs s w l r e = bit_says z p (least_rows k z ls) s w l tt (λ c g. rw (← e) (least_says k z ls bs c s.over w l g r))

or_false : (a b : Bool) → (a || (b || false)) ≡ (a || b)
or_false true b = refl
or_false false true = refl
or_false false false = refl

exactly_truth : (k n : ℕ) → (nat_le k n && (not (nat_le (k + 1) n) && true)) ≡ nat_eq n k
exactly_truth k n = grind (arith, nat_tests)

most_truth : (k n : ℕ) → not (nat_le (k + 1) n) ≡ nat_le n k
most_truth k n = grind (arith, nat_tests)

exactly_new : (k z : ℕ) (ps : PropTrees) (ls : List Literal) (s : PointOf) (w : ℕ → ℤ) → pos 0 <ℤ s.over → Read ls (truths_of ps s.truths) s.over w →
    Exact (exactly_items k z ps ls) true s w
exactly_new k z ps ls s w l r =
    append_exact (bit z (listed (at_least k) ps) ++ least_rows k z ls) s w (least_new k z (listed (at_least k) ps) ls (truths_of ps s.truths) s w l r refl)
    (λ a x. append_exact (bit (suc z) (listed (at_least (k + 1)) ps) ++ least_rows (k + 1) (suc z) ls) s w (least_new (k + 1) (suc z) (listed (at_least (k + 1)) ps) ls (truths_of ps s.truths) s w l r refl)
    (λ b y. all_new (suc (suc z)) (listed (exactly k) ps) (plain z ∷ flip (plain (suc z)) ∷ []) (nat_le k (true_count (truths_of ps s.truths)) ∷ not (nat_le (k + 1) (true_count (truths_of ps s.truths))) ∷ []) s w l (a.0, (flip_reads (suc z) false _ s.over w b.0, tt)) (exactly_truth k (true_count (truths_of ps s.truths)))))

exactly_last : (k z : ℕ) (ps : PropTrees) (ls : List Literal) (s : PointOf) (w : ℕ → ℤ) → AreMeant (exactly_items k z ps ls) s w → w (suc (suc z)) ≡ pick (truth_of (listed (exactly k) ps) s.truths) s.over
exactly_last k z ps ls s w r =
    let last = bit (suc (suc z)) (listed (exactly k) ps) ++ all_rows (suc (suc z)) (plain z ∷ flip (plain (suc z)) ∷ []) in
    let two = bit (suc z) (listed (at_least (k + 1)) ps) ++ least_rows (k + 1) (suc z) ls in
    ((meant-append two last s w).0 ((meant-append (bit z (listed (at_least k) ps) ++ least_rows k z ls) (two ++ last) s w).0 r).1).1.0

pub below_true : (k u : ℕ) → nat_lt k u ≡ true → k < u
below_true k u e = grind (arith, nat_tests)

-- ---- what connectives emit after their arguments
pair_new : (c : PairConnective) (z : ℕ) (p q : PropTree) (a b : Literal) (s : PointOf) (w : ℕ → ℤ) → pos 0 <ℤ s.over →
    reads a s.over w ≡ pick (truth_of p s.truths) s.over → reads b s.over w ≡ pick (truth_of q s.truths) s.over → Exact (pair_items c z p q a b) true s w
pair_new implies z p q a b s w l e f =
    some_new z (paired implies p q) (flip a ∷ b ∷ []) (not (truth_of p s.truths) ∷ truth_of q s.truths ∷ []) s w l
    (flip_reads a.column a.negated _ s.over w e, (f, tt)) (or_false (not (truth_of p s.truths)) (truth_of q s.truths))
pair_new equivalent z p q a b s w l e f =
    bit_says z (paired equivalent p q) _ s w l tt (λ c g. same_says z a b c (truth_of p s.truths) (truth_of q s.truths) s.over w l g e f)
pair_new xor z p q a b s w l e f =
    bit_says z (paired equivalent p q) _ s w l tt (λ c g. same_says z a b c (truth_of p s.truths) (truth_of q s.truths) s.over w l g e f)

pair_reads : (c : PairConnective) (z : ℕ) (p q : PropTree) (a b : Literal) (s : PointOf) (w : ℕ → ℤ) → AreMeant (pair_items c z p q a b) s w →
    reads (pair_literal c z) s.over w ≡ pick (truth_of (paired c p q) s.truths) s.over
pair_reads implies z p q a b s w r = r.0
pair_reads equivalent z p q a b s w r = r.0
pair_reads xor z p q a b s w r = flip_reads z false _ s.over w r.0

list_new : (c : ListConnective) (z : ℕ) (ps : PropTrees) (ls : List Literal) (s : PointOf) (w : ℕ → ℤ) → pos 0 <ℤ s.over → Read ls (truths_of ps s.truths) s.over w →
    Exact (list_items c z ps ls) true s w
list_new all_of z ps ls s w l r = all_new z (listed all_of ps) ls (truths_of ps s.truths) s w l r refl
list_new some_of z ps ls s w l r = some_new z (listed some_of ps) ls (truths_of ps s.truths) s w l r refl
list_new (exactly k) z ps ls s w l r = exactly_new k z ps ls s w l r
list_new (at_least k) z ps ls s w l r = least_new k z (listed (at_least k) ps) ls (truths_of ps s.truths) s w l r refl
list_new (at_most k) z ps ls s w l r = least_new (k + 1) z (listed (at_least (k + 1)) ps) ls (truths_of ps s.truths) s w l r refl

list_reads : (c : ListConnective) (z : ℕ) (ps : PropTrees) (ls : List Literal) (s : PointOf) (w : ℕ → ℤ) → AreMeant (list_items c z ps ls) s w →
    reads (list_literal c z) s.over w ≡ pick (truth_of (listed c ps) s.truths) s.over
list_reads all_of z ps ls s w r = r.0
list_reads some_of z ps ls s w r = r.0
list_reads (exactly k) z ps ls s w r = exactly_last k z ps ls s w r
list_reads (at_least k) z ps ls s w r = r.0
list_reads (at_most k) z ps ls s w r = rw (← most_truth k (true_count (truths_of ps s.truths))) (flip_reads z false _ s.over w r.0)

-- ---- the induction
mutual
  pub emitted_says : (u f n : ℕ) (p : PropTree) (s : PointOf) (w : ℕ → ℤ) → pos 0 <ℤ s.over → Booleans f u s w → are_ids_below u p ≡ true →
      Exact (emitted f n p) true s w
  emitted_says u f n (atom k) s w l b e = empty_exact s w
  emitted_says u f n (negated p) s w l b e = emitted_says u f n p s w l b e
  emitted_says u f n (paired c p q) s w l b e =
      let x = and_left (are_ids_below u p) (are_ids_below u q) e in
      let y = and_right (are_ids_below u p) (are_ids_below u q) e in
      let m = after n (emitted f n p) in
      append_exact (followed n (emitted f n p) (λ m. emitted f m q)) s w
      (append_exact (emitted f n p) s w (emitted_says u f n p s w l b x) (λ r t. emitted_says u f m q s w l b y))
      (λ r t. let a = (meant-append (emitted f n p) (emitted f m q) s w).0 r in
      pair_new c (after n (followed n (emitted f n p) (λ m. emitted f m q))) p q (literal f n p) (literal f m q) s w l
      (literal_reads u f n p s w l b x a.0) (literal_reads u f m q s w l b y a.1))
  emitted_says u f n (listed c ps) s w l b e =
      append_exact (all_emitted f n ps) s w (all_emitted_say u f n ps s w l b e)
      (λ r t. list_new c (after n (all_emitted f n ps)) ps (literals f n ps) s w l (literals_read u f n ps s w l b e r))

  pub all_emitted_say : (u f n : ℕ) (ps : PropTrees) (s : PointOf) (w : ℕ → ℤ) → pos 0 <ℤ s.over → Booleans f u s w → are_all_ids_below u ps ≡ true →
      Exact (all_emitted f n ps) true s w
  all_emitted_say u f n no_props s w l b e = empty_exact s w
  all_emitted_say u f n (prop p ps) s w l b e =
      append_exact (emitted f n p) s w (emitted_says u f n p s w l b (and_left (are_ids_below u p) (are_all_ids_below u ps) e))
      (λ r x. all_emitted_say u f (after n (emitted f n p)) ps s w l b (and_right (are_ids_below u p) (are_all_ids_below u ps) e))

  pub literal_reads : (u f n : ℕ) (p : PropTree) (s : PointOf) (w : ℕ → ℤ) → pos 0 <ℤ s.over → Booleans f u s w → are_ids_below u p ≡ true →
      AreMeant (emitted f n p) s w → reads (literal f n p) s.over w ≡ pick (truth_of p s.truths) s.over
  literal_reads u f n (atom k) s w l b e r = b k (below_true k u e)
  literal_reads u f n (negated p) s w l b e r = flip_reads (literal f n p).column (literal f n p).negated _ s.over w (literal_reads u f n p s w l b e r)
  literal_reads u f n (paired c p q) s w l b e r =
      let m = after n (emitted f n p) in
      pair_reads c (after n (followed n (emitted f n p) (λ m. emitted f m q))) p q (literal f n p) (literal f m q) s w
      ((meant-append (followed n (emitted f n p) (λ m. emitted f m q)) _ s w).0 r).1
  literal_reads u f n (listed c ps) s w l b e r =
      list_reads c (after n (all_emitted f n ps)) ps (literals f n ps) s w ((meant-append (all_emitted f n ps) _ s w).0 r).1

  pub literals_read : (u f n : ℕ) (ps : PropTrees) (s : PointOf) (w : ℕ → ℤ) → pos 0 <ℤ s.over → Booleans f u s w → are_all_ids_below u ps ≡ true →
      AreMeant (all_emitted f n ps) s w → Read (literals f n ps) (truths_of ps s.truths) s.over w
  literals_read u f n no_props s w l b e r = tt
  literals_read u f n (prop p ps) s w l b e r =
      let a = (meant-append (emitted f n p) _ s w).0 r in (
        literal_reads u f n p s w l b (and_left (are_ids_below u p) (are_all_ids_below u ps) e) a.0,
        literals_read u f (after n (emitted f n p)) ps s w l b (and_right (are_ids_below u p) (are_all_ids_below u ps) e) a.1,
      )

-- ---- the law
pub propositions_are_exact : PropositionsAreExact
propositions_are_exact u f n p s w l b e =
    let x = emitted_says u f n p s w l b e in
    record {
      met = (λ h. x.right h, λ r. x.met r refl);
      literal_is = λ r. value-lit (pos 1) (literal f n p) s.over w ∙ one_mul (reads (literal f n p) s.over w) ∙ literal_reads u f n p s w l b e r;
    }
