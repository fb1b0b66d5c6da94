-- The listed rewrite of a block is met exactly where its columns are right and the block is as its switch says: is_satisfied where it is is_on, and else all off.
use Rattle.std.proofs.Common.{filter, ◌≡◌, ℕ, ℤ, pos, ◌-ℤ◌, ◌*ℤ◌, ◌≤ℤ◌, ◌<ℤ◌, Bool, true, false, ◌&&◌, ◌||◌, nat_le, nat_lt, nat_eq, List, [], ◌∷◌, ◌++◌, length, arith, refl, ap, sym, ◌∙◌, suc, zero, ◌+◌, ◌<◌, ◌≤◌, ⊎_elim, Option, Some, None}
use Rattle.std.specs.Prelude.{◌↔◌, cond}
use Rattle.std.proofs.lemmas.Int.{ints}
use Rattle.std.proofs.lemmas.Bool.{cases_eq}
use Rattle.std.proofs.lemmas.Bool.Decides.{nat_tests}
use Rattle.model_tree.specs.declared.tree.Mode.{Mode}
use Rattle.model_tree.specs.declared.tree.Mode.TheVariants.{Or, Xor}
use Rattle.lp_rows.specs.declared.kinds.Rel.TheVariants.{AtLeast, AtMost, Equal}
use Rattle.emission.specs.declared.literals.Literal.{Literal}
use Rattle.bigm_rewrite.proofs.Rows.{Around, Known, exact_refused, exact_row, exact_same, must, must_and, must_true, rows_exact, same_on, value-switched}
use Rattle.bigm_rewrite.specs.Relaxed.{Setting, guarded, is_same_guard, rows_items}
use Rattle.block_tree.specs.Occurs.{occurs_below, occurs_in_block, occurs_in_rows, occurs_within}
use Rattle.block_tree.specs.Satisfied.{PointOf, props_hold, rows_hold}
use Rattle.block_tree.specs.Tree.{BlockTree, Disjunctions, Disjuncts, block, disjunct, disjunction, no_disjunctions, no_disjuncts}
use Rattle.bound_propagation.proofs.Halves.{Boxed}
use Rattle.emission.proofs.Meeting.{Booleans, Exact, append_exact, empty_exact}
use Rattle.emission.proofs.Values.{count_le, count_mul, meant-append, minus_mul, pick_one, pos_add, reads, reads_at, value-column, value-lit, value-number, value-plus}
use Rattle.emission.specs.Items.{AreMeant, Guard, after, always, is_on, no_bound, stand, where_true}
use Rattle.emission.specs.Literals.{literal_times}
use Rattle.emission.specs.Sums.{column, minus, number, pick, plus, value}
use Rattle.hull_rewrite.proofs.Expansion.{found, laid_exact, mem, ready}
use Rattle.hull_rewrite.proofs.Parts.{AllKnown, count_on}
use Rattle.hull_rewrite.specs.Copies.{all_copies, copies, first_unbounded, occurring, rests, sums, times_size, up_to}
use Rattle.hybrid_rewrite.specs.Blocks.{Frames, block_items, copied, demand, demanded, disjunctions_items, disjuncts_items, each_below, frame_in, frames_of, indicators, is_hulled, kept, next_frames, own_items, props_items, scale_in, selection}
use Rattle.logic_to_rows.proofs.Gadgets.{only_where}
use Rattle.logic_to_rows.proofs.Propositions.{below_true, emitted_says, literal_reads}
use Rattle.logic_to_rows.specs.Emitted.{emitted, literal}
use Rattle.milps.proofs.Columned.{and_left, and_right, nat_eq_same, nat_eq_true, or_left, or_right, or_then}
use Rattle.propositions.specs.Tree.{PropTree}
use Rattle.propositions.specs.Truth.{are_ids_below, truth_of}
use Rattle.std.specs.Int.{from_bool}

-- ---- Booleans are in range
abbrev pub props_below : ℕ → List (PropTree × ℕ) → Bool
props_below n [] = true
props_below n (q ∷ qs) = are_ids_below n q.0 && props_below n qs

abbrev mutual
  pub booleans_below : ℕ → BlockTree → Bool
  booleans_below n (block items ds) = props_below n items.props && disjunctions_booleans n ds

  pub disjunctions_booleans : ℕ → Disjunctions → Bool
  disjunctions_booleans n no_disjunctions = true
  disjunctions_booleans n (disjunction head js ds) = disjuncts_booleans n js && disjunctions_booleans n ds

  pub disjuncts_booleans : ℕ → Disjuncts → Bool
  disjuncts_booleans n no_disjuncts = true
  disjuncts_booleans n (disjunct head b js) = nat_lt head.indicator n && (booleans_below n b && disjuncts_booleans n js)

-- ---- what the rewrite of a block says under a switch
abbrev pub each_within : Bool → Disjuncts → PointOf → Bool
each_within c no_disjuncts s = true
each_within c (disjunct head b js) s = must (s.truths head.indicator) c && each_within c js s

abbrev pub selected : Bool → Mode → Disjuncts → PointOf → Bool
selected c Xor js s = nat_eq (count_on js s) (from_bool c)
selected c Or js s = nat_le (from_bool c) (count_on js s) && each_within c js s

abbrev mutual
  pub expected : Bool → BlockTree → PointOf → Bool
  expected c (block items ds) s = must c (rows_hold items.rows s) && (must c (props_hold items.props s.truths) && disjunctions_expected c ds s)

  pub disjunctions_expected : Bool → Disjunctions → PointOf → Bool
  disjunctions_expected c no_disjunctions s = true
  disjunctions_expected c (disjunction head js ds) s = (selected c head.mode js s && disjuncts_expected js s) && disjunctions_expected c ds s

  pub disjuncts_expected : Disjuncts → PointOf → Bool
  disjuncts_expected no_disjuncts s = true
  disjuncts_expected (disjunct head b js) s = expected (s.truths head.indicator) b s && disjuncts_expected js s

-- ---- propositions
root_plain : (b : Bool) (x d : ℤ) → pos 0 <ℤ d → x ≡ pick b d → (pos 0 ≤ℤ (x -ℤ d)) ↔ (b ≡ true)
root_plain true x d p e = (λ h. refl, λ h. omega (arith, ints))
root_plain false x d p e = (λ h. absurd (omega (arith, ints)), λ h. cc)

root_flipped : (b : Bool) (x d : ℤ) → pos 0 <ℤ d → d -ℤ x ≡ pick b d → (x ≤ℤ pos 0) ↔ (b ≡ true)
root_flipped true x d p e = (λ h. refl, λ h. omega (arith, ints))
root_flipped false x d p e = (λ h. absurd (omega (arith, ints)), λ h. cc)

demand_root : (l : Literal) (flipped b : Bool) (s : PointOf) (w : ℕ → ℤ) → pos 0 <ℤ s.over → reads_at l.column flipped s.over w ≡ pick b s.over → Exact (demanded l flipped ∷ []) b s w
demand_root l false b s w p e =
    exact_row AtLeast (plus (column (pos 1) l.column) (number minus)) (w l.column -ℤ s.over) b s w
    (rw (value-plus (column (pos 1) l.column) (number minus) s.over w, value-column (pos 1) l.column s.over w, value-number minus s.over w, minus_mul s.over) (omega (arith, ints)))
    (root_plain b (w l.column) s.over p e)
demand_root l true b s w p e =
    exact_row AtMost (column (pos 1) l.column) (w l.column) b s w (rw (value-column (pos 1) l.column s.over w) (omega (arith, ints))) (root_flipped b (w l.column) s.over p e)

must_says : (c b : Bool) → (c ≡ true → b ≡ true) ↔ (must c b ≡ true)
must_says true b = (λ h. h refl, λ h e. h)
must_says false b = (λ h. refl, λ h e. cc)

demand_exact : (first v : ℕ) (c : Guard) (l : Literal) (b : Bool) (s : PointOf) (w : ℕ → ℤ) → pos 0 <ℤ s.over → Booleans first v s w → Known v c → reads l s.over w ≡ pick b s.over → Exact (demand first c l ∷ []) (must (is_on s c) b) s w
demand_exact first v always l b s w p bo h e = demand_root l l.negated b s w p e
demand_exact first v (where_true k) l b s w p bo h e =
    let o = only_where (s.truths k) b s.over p in
    let m = must_says (s.truths k) b in
    exact_row AtMost (plus (guarded first (pos 1) (where_true k)) (literal_times minus l)) (pick (s.truths k) s.over -ℤ pick b s.over) _ s w
    (rw (value-plus (guarded first (pos 1) (where_true k)) (literal_times minus l) s.over w, value-switched first v (pos 1) (where_true k) s w bo h, value-lit minus l s.over w, e, minus_mul (pick b s.over)) (omega (arith, ints)))
    (λ h. m.0 (o.0 h), λ h. o.1 (m.1 h))

pub props_exact : (g : Setting) (c : Guard) (n : ℕ) (ps : List (PropTree × ℕ)) (s : PointOf) (w : ℕ → ℤ) → pos 0 <ℤ s.over → Booleans g.first g.booleans s w → Known g.booleans c → props_below g.booleans ps ≡ true → Exact (props_items g c n ps) (must (is_on s c) (props_hold ps s.truths)) s w
props_exact g c n [] s w p bo h e = exact_same [] true _ s w (sym (must_true (is_on s c))) (empty_exact s w)
props_exact g c n (q ∷ ps) s w p bo h e =
    let one = emitted g.first n q.0 in
    let d = demand g.first c (literal g.first n q.0) in
    exact_same _ _ _ s w (must_and (is_on s c) (truth_of q.0 s.truths) (props_hold ps s.truths))
    (append_exact (one ++ (d ∷ [])) s w
    (append_exact one s w (emitted_says g.booleans g.first n q.0 s w p bo (and_left (are_ids_below g.booleans q.0) _ e))
    (λ r x. demand_exact g.first g.booleans c (literal g.first n q.0) (truth_of q.0 s.truths) s w p bo h (literal_reads g.booleans g.first n q.0 s w p bo (and_left (are_ids_below g.booleans q.0) _ e) r)))
    (λ r x. props_exact g c (after n (one ++ (d ∷ []))) ps s w p bo h (and_right (are_ids_below g.booleans q.0) _ e)))

-- ---- selection
value-indicators : (first v : ℕ) (js : Disjuncts) (s : PointOf) (w : ℕ → ℤ) → Booleans first v s w → AllKnown v js → value (indicators first js) s.over w ≡ pos (count_on js s) *ℤ s.over
unfolding indicators
value-indicators first v no_disjuncts s w b h = value-number (pos 0) s.over w
value-indicators first v (disjunct head k js) s w b h =
    rw (
      value-plus (column (pos 1) (first + head.indicator)) (indicators first js) s.over w,
      value-column (pos 1) (first + head.indicator) s.over w,
      b head.indicator h.0,
      value-indicators first v js s w b h.1,
      pos_add (from_bool (s.truths head.indicator)) (count_on js s) s.over,
      pick_one (s.truths head.indicator) s.over,
    ) (omega (arith, ints))

count_equal : (m n : ℕ) (d : ℤ) → pos 0 <ℤ d → (pos m *ℤ d -ℤ pos n *ℤ d ≡ pos 0) ↔ (nat_eq m n ≡ true)
count_equal m n d p = (
  λ h. let a = count_le m n d p (omega (arith, ints)) in let b = count_le n m d p (omega (arith, ints)) in let e : m ≡ n = omega arith in rw e (nat_eq_same n),
  λ h. let e = nat_eq_true m n h in rw e (omega (arith, ints)),
)

count_least : (m n : ℕ) (d : ℤ) → pos 0 <ℤ d → (pos 0 ≤ℤ (pos m *ℤ d -ℤ pos n *ℤ d)) ↔ (nat_le n m ≡ true)
count_least m n d p = (
  λ h. let a = count_le n m d p (omega (arith, ints)) in grind (arith, nat_tests),
  λ h. let e : n ≤ m = grind (arith, nat_tests) in let a = count_mul n m d p e in omega (arith, ints),
)

select_value : (first v : ℕ) (c : Guard) (js : Disjuncts) (s : PointOf) (w : ℕ → ℤ) → Booleans first v s w → AllKnown v js → Known v c →
    value (plus (indicators first js) (guarded first minus c)) s.over w ≡ pos (count_on js s) *ℤ s.over -ℤ pos (from_bool (is_on s c)) *ℤ s.over
select_value first v c js s w b h z =
    rw (value-plus (indicators first js) (guarded first minus c) s.over w, value-indicators first v js s w b h, value-switched first v minus c s w b z, minus_mul (pick (is_on s c) s.over), pick_one (is_on s c) s.over) refl

root_value : (first v : ℕ) (js : Disjuncts) (s : PointOf) (w : ℕ → ℤ) → Booleans first v s w → AllKnown v js →
    value (plus (indicators first js) (number minus)) s.over w ≡ pos (count_on js s) *ℤ s.over -ℤ pos 1 *ℤ s.over
root_value first v js s w b h =
    rw (value-plus (indicators first js) (number minus) s.over w, value-indicators first v js s w b h, value-number minus s.over w, minus_mul s.over) (omega (arith, ints))

each_below_exact : (first v k : ℕ) (js : Disjuncts) (s : PointOf) (w : ℕ → ℤ) → pos 0 <ℤ s.over → Booleans first v s w → AllKnown v js → k < v → Exact (each_below first k js) (each_within (s.truths k) js s) s w
each_below_exact first v k no_disjuncts s w p b h z = empty_exact s w
each_below_exact first v k (disjunct head q js) s w p b h z =
    let a = plus (column (pos 1) (first + head.indicator)) (guarded first minus (where_true k)) in
    let o = only_where (s.truths head.indicator) (s.truths k) s.over p in
    let m = must_says (s.truths head.indicator) (s.truths k) in
    append_exact (stand AtMost a ∷ []) s w
    (exact_row AtMost a (pick (s.truths head.indicator) s.over -ℤ pick (s.truths k) s.over) _ s w
    (rw (value-plus (column (pos 1) (first + head.indicator)) (guarded first minus (where_true k)) s.over w, value-column (pos 1) (first + head.indicator) s.over w, b head.indicator h.0, value-switched first v minus (where_true k) s w b z, minus_mul (pick (s.truths k) s.over)) (omega (arith, ints)))
    (λ h. m.0 (o.0 h), λ h. o.1 (m.1 h)))
    (λ r x. each_below_exact first v k js s w p b h.1 z)

pub each_true : (js : Disjuncts) (s : PointOf) → each_within true js s ≡ true
each_true no_disjuncts s = refl
each_true (disjunct head b js) s = rw (must_true (s.truths head.indicator)) (each_true js s)

and_one : (x y : Bool) → y ≡ true → x ≡ (x && y)
and_one true y e = sym e
and_one false y e = refl

selection_exact : (first v : ℕ) (c : Guard) (mode : Mode) (js : Disjuncts) (s : PointOf) (w : ℕ → ℤ) → pos 0 <ℤ s.over → Booleans first v s w → AllKnown v js → Known v c → Exact (selection first c mode js) (selected (is_on s c) mode js s) s w
selection_exact first v always Xor js s w p b h z = exact_row Equal _ _ _ s w (root_value first v js s w b h) (count_equal (count_on js s) 1 s.over p)
selection_exact first v always Or js s w p b h z =
    exact_same _ _ _ s w (and_one (nat_le 1 (count_on js s)) (each_within true js s) (each_true js s))
    (exact_row AtLeast _ _ _ s w (root_value first v js s w b h) (count_least (count_on js s) 1 s.over p))
selection_exact first v (where_true k) Xor js s w p b h z = exact_row Equal _ _ _ s w (select_value first v (where_true k) js s w b h z) (count_equal (count_on js s) (from_bool (s.truths k)) s.over p)
selection_exact first v (where_true k) Or js s w p b h z =
    let a = plus (indicators first js) (guarded first minus (where_true k)) in
    append_exact (stand AtLeast a ∷ []) s w
    (exact_row AtLeast a _ _ s w (select_value first v (where_true k) js s w b h z) (count_least (count_on js s) (from_bool (s.truths k)) s.over p))
    (λ r x. each_below_exact first v k js s w p b h z)

-- ---- frames of the disjuncts
abbrev pub Fits : Setting → Frames → Disjuncts → PointOf → (ℕ → ℤ) → Type 0
Fits g frames no_disjuncts s w = Unit {0}
Fits g frames (disjunct head b js) s w = Around g (frame_in frames) (scale_in frames head.indicator) (where_true head.indicator) (λ j. occurs_in_block j b) s w × Fits g (next_frames frames) js s w

-- each indicator that is is_on lets c be is_on
abbrev pub Within : Bool → Disjuncts → PointOf → Type 0
Within c no_disjuncts s = Unit {0}
Within c (disjunct head b js) s = (s.truths head.indicator ≡ true → c ≡ true) × Within c js s

none_on : (js : Disjuncts) (s : PointOf) → count_on js s ≡ 0 → Within false js s
none_on no_disjuncts s e = tt
none_on (disjunct head b js) s e = (λ h. absurd (let z = ap from_bool h in omega arith), none_on js s (omega arith))

any_on : (js : Disjuncts) (s : PointOf) → Within true js s
any_on no_disjuncts s = tt
any_on (disjunct head b js) s = (λ h. refl, any_on js s)

each_on : (c : Bool) (js : Disjuncts) (s : PointOf) → each_within c js s ≡ true → Within c js s
each_on c no_disjuncts s e = tt
each_on c (disjunct head b js) s e = ((must_says (s.truths head.indicator) c).1 (and_left _ _ e), each_on c js s (and_right (must (s.truths head.indicator) c) _ e))

within_by : (c : Bool) (mode : Mode) (js : Disjuncts) (s : PointOf) → selected c mode js s ≡ true → Within c js s
within_by true mode js s e = any_on js s
within_by false Xor js s e = none_on js s (nat_eq_true (count_on js s) 0 e)
within_by false Or js s e = each_on false js s (and_right (nat_le 0 (count_on js s)) _ e)

-- the frame round them
fits_kept : (g : Setting) (f : ℕ → ℕ) (k c : Guard) (P : ℕ → Bool) (js : Disjuncts) (s : PointOf) (w : ℕ → ℤ) → Around g f k c P s w → AllKnown g.booleans js → ((j : ℕ) → occurs_within j js ≡ true → P j ≡ true) → Within (is_on s c) js s →
    Fits g (kept f k) js s w
fits_kept g f k c P no_disjuncts s w r n h v = tt
fits_kept g f k c P (disjunct head b js) s w r n h v = (
  record {
    boxed = r.boxed;
    columns = record { booleans = r.columns.booleans; scale = r.columns.scale; switch = n.0 };
    within = λ e. r.within (v.0 e);
    known = λ j e. r.known j (h j (or_left (occurs_in_block j b) (occurs_within j js) e));
    framed = λ j e. r.framed j (h j (or_left (occurs_in_block j b) (occurs_within j js) e));
  },
  fits_kept g f k c P js s w r n.1 (λ j e. h j (or_right (occurs_in_block j b) (occurs_within j js) e)) v.1,
)

-- their copies
fits_copied : (g : Setting) (vs : List ℕ) (i : ℕ) (js : Disjuncts) (s : PointOf) (w : ℕ → ℤ) → Boxed g.box s → Booleans g.first g.booleans s w → AllKnown g.booleans js → ((j : ℕ) → occurs_within j js ≡ true → (j < g.vars) × (mem j vs ≡ true)) →
    AreMeant (all_copies g (length vs) i vs js) s w → Fits g (copied vs i) js s w
fits_copied g vs i no_disjuncts s w bx bo n h r = tt
fits_copied g vs i (disjunct head b js) s w bx bo n h r =
    let a = (meant-append (copies g i head.indicator vs) (all_copies g (length vs) (i + length vs) vs js) s w).0 r in (
      record {
        boxed = bx;
        columns = record { booleans = bo; scale = n.0; switch = n.0 };
        within = λ e. e;
        known = λ j e. (h j (or_left (occurs_in_block j b) (occurs_within j js) e)).0;
        framed = λ j e. found g i head.indicator vs j s w a.0 (h j (or_left (occurs_in_block j b) (occurs_within j js) e)).1;
      },
      fits_copied g vs (i + length vs) js s w bx bo n.1 (λ j e. h j (or_right (occurs_in_block j b) (occurs_within j js) e)) a.1,
    )

or_assoc : (a b c : Bool) → (a || (b || c)) ≡ ((a || b) || c)
or_assoc true b c = refl
or_assoc false b c = refl

filter_by : (t : Bool) (p : ℕ → Bool) (j x : ℕ) (xs : List ℕ) → p x ≡ t → p j ≡ true → (mem j xs ≡ true → mem j (filter p xs) ≡ true) → (nat_eq j x || mem j xs) ≡ true → mem j (cond t (x ∷ filter p xs) (filter p xs)) ≡ true
filter_by true p j x xs q e f h = or_then (nat_eq j x) (mem j xs) _ (λ a. or_left (nat_eq j x) (mem j (filter p xs)) a) (λ a. or_right (nat_eq j x) (mem j (filter p xs)) (f a)) h
filter_by false p j x xs q e f h = or_then (nat_eq j x) (mem j xs) _ (λ a. let z = nat_eq_true j x a in absurd (let y : p j ≡ false = ap p z ∙ q in cc)) f h

mem_by : (t : Bool) (p : ℕ → Bool) (j x : ℕ) (xs : List ℕ) → p x ≡ t → (mem j (filter p xs) ≡ true → p j ≡ true) → mem j (cond t (x ∷ filter p xs) (filter p xs)) ≡ true → p j ≡ true
mem_by true p j x xs q f h = or_then (nat_eq j x) (mem j (filter p xs)) (p j) (λ a. ap p (nat_eq_true j x a) ∙ q) f h
mem_by false p j x xs q f h = f h

mem-append : (j : ℕ) (xs ys : List ℕ) → mem j (xs ++ ys) ≡ (mem j xs || mem j ys)
mem-append j [] ys = refl
mem-append j (x ∷ xs) ys = ap (λ b. nat_eq j x || b) (mem-append j xs ys) ∙ or_assoc (nat_eq j x) (mem j xs) (mem j ys)

mem-filter : (p : ℕ → Bool) (j : ℕ) (xs : List ℕ) → p j ≡ true → mem j xs ≡ true → mem j (filter p xs) ≡ true
mem-filter p j [] e h = h
mem-filter p j (x ∷ xs) e h = filter_by (p x) p j x xs refl e (λ q. mem-filter p j xs e q) h

filter_mem : (p : ℕ → Bool) (j : ℕ) (xs : List ℕ) → mem j (filter p xs) ≡ true → p j ≡ true
filter_mem p j [] h = cc
filter_mem p j (x ∷ xs) h = mem_by (p x) p j x xs refl (λ q. filter_mem p j xs q) h

mem_up_to : (n j : ℕ) → j < n → mem j (up_to n) ≡ true
mem_up_to zero j h = absurd (omega arith)
mem_up_to (suc n) j h = ⊎_elim
    (λ (e : j ≡ n). mem-append j (up_to n) (n ∷ []) ∙ or_right (mem j (up_to n)) _ (or_left (nat_eq j n) false (rw e (nat_eq_same n))))
    (λ (ne : j ≡ n → ⊥). mem-append j (up_to n) (n ∷ []) ∙ or_left (mem j (up_to n)) _ (mem_up_to n j (omega arith)))
    (cases_eq j n)

mem_occurring : (n j : ℕ) (js : Disjuncts) → j < n → occurs_within j js ≡ true → mem j (occurring n js) ≡ true
mem_occurring n j js h e = mem-filter (λ i. occurs_within i js) j (up_to n) e (mem_up_to n j h)

-- ---- one disjunction
own_exact : (t : Bool) (u : Option ℕ) (g : Setting) (f : ℕ → ℕ) (k c : Guard) (n : ℕ) (js : Disjuncts) (mark : ℕ) (s : PointOf) (w : ℕ → ℤ) → first_unbounded g.box (occurring g.vars js) ≡ u →
    (t ≡ true → count_on js s ≡ from_bool (is_on s c)) → AllKnown g.booleans js → Around g f k c (λ j. occurs_within j js) s w → Exact (own_items g f k c n t js mark u) true s w
own_exact false u g f k c n js mark s w e h z r = empty_exact s w
own_exact true (Some v) g f k c n js mark s w e h z r = exact_refused (no_bound mark v) true s w
own_exact true None g f k c n js mark s w e h z r =
    let vs = occurring g.vars js in
    laid_exact g f (is_same_guard k c) (length vs) n (n + times_size (length vs) js) k c js vs s w r.columns z (h refl) r.within (same_on k c s)
    (ready g f (is_on s k) vs s w r.boxed e (λ j q. r.framed j (filter_mem (λ i. occurs_within i js) j (up_to g.vars) q)))

own_fits : (t : Bool) (u : Option ℕ) (g : Setting) (f : ℕ → ℕ) (k c : Guard) (n : ℕ) (js : Disjuncts) (mark : ℕ) (s : PointOf) (w : ℕ → ℤ) →
    AllKnown g.booleans js → Around g f k c (λ j. occurs_within j js) s w → Within (is_on s c) js s → AreMeant (own_items g f k c n t js mark u) s w → Fits g (frames_of g f k n t js) js s w
own_fits false u g f k c n js mark s w z r v q = fits_kept g f k c (λ j. occurs_within j js) js s w r z (λ j e. e) v
own_fits true (Some x) g f k c n js mark s w z r v q = absurd q
own_fits true None g f k c n js mark s w z r v q =
    let vs = occurring g.vars js in
    fits_copied g vs n js s w r.boxed r.columns.booleans z (λ j e. (r.known j e, mem_occurring g.vars j js (r.known j e) e))
    ((meant-append (all_copies g (length vs) n vs js) (rests g (is_same_guard k c) (n + times_size (length vs) js) k c vs ++ sums f (is_same_guard k c) (length vs) n (n + times_size (length vs) js) vs js) s w).0 q).0

hulled_count : (g : Setting) (c : Bool) (mode : Mode) (js : Disjuncts) (s : PointOf) → selected c mode js s ≡ true → is_hulled g mode js ≡ true → count_on js s ≡ from_bool c
hulled_count g c Xor js s e h = nat_eq_true (count_on js s) (from_bool c) e
hulled_count g c Or js s e h = cc

-- ---- the induction
narrow : (g : Setting) (f : ℕ → ℕ) (k c : Guard) (P Q : ℕ → Bool) (s : PointOf) (w : ℕ → ℤ) → ((j : ℕ) → Q j ≡ true → P j ≡ true) → Around g f k c P s w → Around g f k c Q s w
narrow g f k c P Q s w h r = record { boxed = r.boxed; columns = r.columns; within = r.within; known = λ j e. r.known j (h j e); framed = λ j e. r.framed j (h j e) }

all_known : (u : ℕ) (js : Disjuncts) → disjuncts_booleans u js ≡ true → AllKnown u js
all_known u no_disjuncts e = tt
all_known u (disjunct head b js) e = (below_true head.indicator u (and_left (nat_lt head.indicator u) _ e), all_known u js (and_right (booleans_below u b) _ (and_right (nat_lt head.indicator u) _ e)))

mutual
  pub block_exact : (g : Setting) (f : ℕ → ℕ) (k c : Guard) (n : ℕ) (b : BlockTree) (s : PointOf) (w : ℕ → ℤ) → pos 0 <ℤ s.over → Around g f k c (λ j. occurs_in_block j b) s w → booleans_below g.booleans b ≡ true →
      Exact (block_items g f k c n b) (expected (is_on s c) b s) s w
  block_exact g f k c n (block items ds) s w p r e =
      let m = after n (rows_items g f k c items.rows) in
      append_exact (rows_items g f k c items.rows) s w
      (rows_exact g f k c (λ j. occurs_in_rows j items.rows) items.rows s w (narrow g f k c (λ j. occurs_in_block j (block items ds)) (λ j. occurs_in_rows j items.rows) s w (λ j e. or_left (occurs_in_rows j items.rows) (occurs_below j ds) e) r) (λ j e. e))
      (λ a x. append_exact (props_items g c m items.props) s w (props_exact g c m items.props s w p r.columns.booleans r.columns.switch (and_left (props_below g.booleans items.props) _ e))
      (λ a y. disjunctions_exact g f k c (after m (props_items g c m items.props)) ds s w p
      (narrow g f k c (λ j. occurs_in_block j (block items ds)) (λ j. occurs_below j ds) s w (λ j e. or_right (occurs_in_rows j items.rows) (occurs_below j ds) e) r) (and_right (props_below g.booleans items.props) _ e)))

  pub disjunctions_exact : (g : Setting) (f : ℕ → ℕ) (k c : Guard) (n : ℕ) (ds : Disjunctions) (s : PointOf) (w : ℕ → ℤ) → pos 0 <ℤ s.over → Around g f k c (λ j. occurs_below j ds) s w → disjunctions_booleans g.booleans ds ≡ true →
      Exact (disjunctions_items g f k c n ds) (disjunctions_expected (is_on s c) ds s) s w
  disjunctions_exact g f k c n no_disjunctions s w p r e = empty_exact s w
  disjunctions_exact g f k c n (disjunction head js ds) s w p r e =
      let t = is_hulled g head.mode js in
      let u = first_unbounded g.box (occurring g.vars js) in
      let sel = selection g.first c head.mode js in
      let m = after n sel in
      let own = own_items g f k c m t js head.mark u in
      let l = after m own in
      let z = all_known g.booleans js (and_left (disjuncts_booleans g.booleans js) _ e) in
      let first = narrow g f k c (λ j. occurs_below j (disjunction head js ds)) (λ j. occurs_within j js) s w (λ j e. or_left (occurs_within j js) (occurs_below j ds) e) r in
      append_exact (sel ++ (own ++ disjuncts_items g (frames_of g f k m t js) l js)) s w
      (append_exact sel s w (selection_exact g.first g.booleans c head.mode js s w p r.columns.booleans z r.columns.switch)
      (λ a x. append_exact own s w (own_exact t u g f k c m js head.mark s w refl (λ h. hulled_count g (is_on s c) head.mode js s x h) z first)
      (λ q y. disjuncts_exact g (frames_of g f k m t js) l js s w p (own_fits t u g f k c m js head.mark s w z first (within_by (is_on s c) head.mode js s x) q) (and_left (disjuncts_booleans g.booleans js) _ e))))
      (λ a x. disjunctions_exact g f k c (after n (sel ++ (own ++ disjuncts_items g (frames_of g f k m t js) l js))) ds s w p
      (narrow g f k c (λ j. occurs_below j (disjunction head js ds)) (λ j. occurs_below j ds) s w (λ j e. or_right (occurs_within j js) (occurs_below j ds) e) r) (and_right (disjuncts_booleans g.booleans js) _ e))

  pub disjuncts_exact : (g : Setting) (frames : Frames) (n : ℕ) (js : Disjuncts) (s : PointOf) (w : ℕ → ℤ) → pos 0 <ℤ s.over → Fits g frames js s w → disjuncts_booleans g.booleans js ≡ true →
      Exact (disjuncts_items g frames n js) (disjuncts_expected js s) s w
  disjuncts_exact g frames n no_disjuncts s w p h e = empty_exact s w
  disjuncts_exact g frames n (disjunct head b js) s w p h e =
      append_exact (block_items g (frame_in frames) (scale_in frames head.indicator) (where_true head.indicator) n b) s w
      (block_exact g (frame_in frames) (scale_in frames head.indicator) (where_true head.indicator) n b s w p h.0 (and_left (booleans_below g.booleans b) _ (and_right (nat_lt head.indicator g.booleans) _ e)))
      (λ a x. disjuncts_exact g (next_frames frames) (after n (block_items g (frame_in frames) (scale_in frames head.indicator) (where_true head.indicator) n b)) js s w p h.1 (and_right (booleans_below g.booleans b) _ (and_right (nat_lt head.indicator g.booleans) _ e)))
