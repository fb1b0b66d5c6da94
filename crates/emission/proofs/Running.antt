-- Runs of items, one after the other.
use Rattle.std.proofs.Common.{◌≡◌, ◌⊎◌, inl, inr, ⊎_elim, ℕ, ℤ, pos, ◌+ℤ◌, neg_ℤ, ◌-ℤ◌, Bool, true, false, List, [], ◌∷◌, ◌++◌, length, map, Option, Some, None, Ok, Err, refl, ap, sym, subst, ◌∙◌, suc, arith, append_assoc, length-append, append-nil, is_some, if◌then◌else◌}
use Rattle.std.proofs.lemmas.Int.{ints}
use Rattle.emission.specs.declared.halts.Halt.{Halt}
use Rattle.emission.specs.declared.halts.Halt.TheVariants.{Unfit, Memory}
use Rattle.milps.specs.declared.builder.MilpError.{MilpError}
use Rattle.milps.specs.declared.builder.MilpError.TheVariants.{Memory as lacking}
use Rattle.emission.specs.declared.literals.Literal.{Literal}
use Rattle.lp_rows.specs.declared.kinds.Rel.{Rel}
use Rattle.lp_rows.specs.declared.columns.Col.{Col}
use Rattle.emission.specs.Items.{Item, Refusal, after, col, cols_of, followed, is_accepted, refused, row, rows_of, stand}
use Rattle.emission.specs.Literals.{literal_times, literals_times, signed}
use Rattle.emission.specs.Run.{Adds, Runs, State, Status, act, halted, halted_by, is_fit, refused_by, run, step, taken, unless_halted}
use Rattle.emission.specs.Sums.{Sum, column, nothing, number, plus}
use Rattle.outcomes.specs.Calls.{Acts, unless}
use Rattle.lp_rows.specs.Rows.{RowValue}
use Rattle.milps.specs.Building.{refusal_of_col, refusal_of_row, row_outcome}
use Rattle.milps.specs.Milps.{MilpValue, normal_row}

pub run-append : (xs ys : List Item) (s : State) → run (xs ++ ys) s ≡ run ys (run xs s)
run-append [] ys s = refl
run-append (x ∷ xs) ys s = run-append xs ys (step x s)

-- a state that has stopped stays as it is
step_halted : (h : Halt) (i : Item) (s : State) → s.halt ≡ Some h → step i s ≡ s
step_halted h i s e = rw e refl

pub run_halted : (h : Halt) (is : List Item) (s : State) → s.halt ≡ Some h → run is s ≡ s
run_halted h [] s e = refl
run_halted h (i ∷ is) s e = ap (run is) (step_halted h i s e) ∙ run_halted h is s e

-- items make nothing of a state that has halted
pub runs_halted : (is : List Item) (h : Option Halt) (s : State) → s.halt ≡ h → is_some h ≡ true → Runs is s s
runs_halted is None s e t = cc
runs_halted is (Some h) s e t = record { runs = inl (sym (run_halted h is s e)) }

pub runs_none : (s : State) → Runs [] s s
runs_none s = record { runs = inl refl }

pub runs_then : (xs ys : List Item) (a b c : State) → Runs xs a b → Runs ys b c → Runs (xs ++ ys) a c
runs_then xs ys a b c p q = record {
  runs = ⊎_elim
      (λ (e : b ≡ run xs a). ⊎_elim
      (λ (f : c ≡ run ys b). inl (f ∙ ap (run ys) e ∙ sym (run-append xs ys a)))
      (λ (f : c.halt ≡ Some Memory). inr f) q.runs)
      (λ (e : b.halt ≡ Some Memory). ⊎_elim
      (λ (f : c ≡ run ys b). inr (ap (λ (s : State). s.halt) (f ∙ run_halted Memory ys b e) ∙ e))
      (λ (f : c.halt ≡ Some Memory). inr f) q.runs) p.runs;
}

-- one state that has the same value, or where memory ran out
pub runs_same : (is : List Item) (a b c : State) → (b ≡ a) ⊎ (b.halt ≡ Some Memory) → Runs is b c → Runs is a c
runs_same is a b c p q = record {
  runs = ⊎_elim
      (λ (e : b ≡ a). subst (λ s. (c ≡ run is s) ⊎ (c.halt ≡ Some Memory)) e q.runs)
      (λ (e : b.halt ≡ Some Memory). ⊎_elim
      (λ (f : c ≡ run is b). inr (ap (λ (s : State). s.halt) (f ∙ run_halted Memory is b e) ∙ e))
      (λ (f : c.halt ≡ Some Memory). inr f) q.runs) p;
}

runs_as_by : (h : Option Halt) (xs ys : List Item) (a b : State) → a.halt ≡ h → (a.halt ≡ None → xs ≡ ys) → Runs xs a b → Runs ys a b
runs_as_by None xs ys a b e f p = subst (λ is. Runs is a b) (f e) p
runs_as_by (Some h) xs ys a b e f p = record {
  runs = ⊎_elim
      (λ (q : b ≡ run xs a). inl (q ∙ run_halted h xs a e ∙ sym (run_halted h ys a e)))
      (λ (q : b.halt ≡ Some Memory). inr q) p.runs;
}

-- items that matter only while the state goes on
pub runs_as : (xs ys : List Item) (a b : State) → (a.halt ≡ None → xs ≡ ys) → Runs xs a b → Runs ys a b
runs_as xs ys a b f p = runs_as_by a.halt xs ys a b refl f p

went_on_by : (h : Option Halt) (is : List Item) (a b : State) → a.halt ≡ h → Runs is a b → b.halt ≡ None → a.halt ≡ None
went_on_by None is a b f p e = f
went_on_by (Some h) is a b f p e = absurd (⊎_elim
    (λ (q : b ≡ run is a). let z : b.halt ≡ Some h = ap (λ (s : State). s.halt) (q ∙ run_halted h is a f) ∙ f in let y : None ≡ Some h = sym e ∙ z in cc)
    (λ (q : b.halt ≡ Some Memory). let y : None ≡ Some Memory = sym e ∙ q in cc) p.runs)

-- what goes on in the end has gone on before
pub went_on : (is : List Item) (a b : State) → Runs is a b → b.halt ≡ None → a.halt ≡ None
went_on is a b p e = went_on_by a.halt is a b refl p e

-- ---- sums
abbrev made : List (ℕ × ℤ) → ℤ → Sum
made ts n = record { terms = ts; number = n }

pub plus_none : (a : Sum) → plus nothing a ≡ a
unfolding plus
plus_none a = let e : pos 0 +ℤ a.number ≡ a.number = omega (arith, ints) in ap (λ n. made a.terms n) e

pub plus_assoc : (a b c : Sum) → plus (plus a b) c ≡ plus a (plus b c)
unfolding plus
plus_assoc a b c =
    let e : (a.number +ℤ b.number) +ℤ c.number ≡ a.number +ℤ (b.number +ℤ c.number) = omega (arith, ints) in
    let f : (a.terms ++ b.terms) ++ c.terms ≡ a.terms ++ (b.terms ++ c.terms) = simp append_assoc in
    ap (λ n. made ((a.terms ++ b.terms) ++ c.terms) n) e ∙ ap (λ ts. made ts (a.number +ℤ (b.number +ℤ c.number))) f

pub lit_plain : (c : ℤ) (i : ℕ) → literal_times c (record { column = i; negated = false }) ≡ column c i
unfolding literal_times signed column
lit_plain c i = refl

pub lit_flipped : (c : ℤ) (i : ℕ) → literal_times c (record { column = i; negated = true }) ≡ plus (column (neg_ℤ c) i) (number c)
unfolding literal_times signed column plus number
lit_flipped c i = let e : c ≡ pos 0 +ℤ c = omega (arith, ints) in ap (λ n. made ((i, neg_ℤ c) ∷ []) n) e

kept_halt : (p q : Status) → (q.state ≡ p.state) → p.state.halt ≡ Some Memory → q.state.halt ≡ Some Memory
kept_halt p q e h = ap (λ (s : State). s.halt) e ∙ h

pub adds_then : (x y : Sum) (p q r : Status) → Adds x p q → Adds y q r → Adds (plus x y) p r
adds_then x y p q r a b = record {
  adds = ⊎_elim
      (λ (e : (q.open_sum ≡ plus p.open_sum x) × (q.state ≡ p.state)). ⊎_elim
      (λ (f : (r.open_sum ≡ plus q.open_sum y) × (r.state ≡ q.state)). inl (f.0 ∙ ap (λ z. plus z y) e.0 ∙ plus_assoc p.open_sum x y, f.1 ∙ e.1))
      (λ (f : r.state.halt ≡ Some Memory). inr f) b.adds)
      (λ (e : q.state.halt ≡ Some Memory). ⊎_elim
      (λ (f : (r.open_sum ≡ plus q.open_sum y) × (r.state ≡ q.state)). inr (kept_halt q r f.1 e))
      (λ (f : r.state.halt ≡ Some Memory). inr f) b.adds) a.adds;
}

-- a row of the sum that was added to nothing
pub adds_stand : (rel : Rel) (x : Sum) (p q : Status) (r : State) → p.open_sum ≡ nothing → Adds x p q → Runs (stand rel q.open_sum ∷ []) q.state r → Runs (stand rel x ∷ []) p.state r
adds_stand rel x p q r n a h = ⊎_elim
    (λ (e : (q.open_sum ≡ plus p.open_sum x) × (q.state ≡ p.state)).
    let f : q.open_sum ≡ x = e.0 ∙ ap (λ z. plus z x) n ∙ plus_none x in
    runs_same _ p.state q.state r (inl e.1) (subst (λ z. Runs (stand rel z ∷ []) q.state r) f h))
    (λ (e : q.state.halt ≡ Some Memory). runs_same _ p.state q.state r (inr e) (runs_as _ (stand rel x ∷ []) q.state r (λ z. absurd (let y : None ≡ Some Memory = sym z ∙ e in cc)) h))
    a.adds

pub lit_true : (c : ℤ) (i : ℕ) (t : Bool) → t ≡ true → literal_times c (record { column = i; negated = t }) ≡ plus (column (neg_ℤ c) i) (number c)
lit_true c i t e = rw e (lit_flipped c i)

pub lit_false : (c : ℤ) (i : ℕ) (t : Bool) → t ≡ false → literal_times c (record { column = i; negated = t }) ≡ column c i
lit_false c i t e = rw e (lit_plain c i)

pub zero_less : (c : ℤ) → pos 0 -ℤ c ≡ neg_ℤ c
zero_less c = omega (arith, ints)

-- ---- ids
length_taken : (o : Option MilpError) (s : State) (next : MilpValue) (n : ℕ) → length next.cols ≡ n → (taken o s next).halt ≡ None → length (taken o s next).milp.cols ≡ n
length_taken None s next n e f = e
length_taken (Some x) s next n e f = cc

length_row : (t : Bool) (r : RowValue) (s : State) (next : MilpValue) → length next.cols ≡ length s.milp.cols → (if t then taken (refusal_of_row (normal_row r) s.milp) s next else halted s Unfit).halt ≡ None →
    length (if t then taken (refusal_of_row (normal_row r) s.milp) s next else halted s Unfit).milp.cols ≡ length s.milp.cols
length_row true r s next e f = length_taken (refusal_of_row (normal_row r) s.milp) s next (length s.milp.cols) e f
length_row false r s next e f = cc

step_length : (h : Option Halt) (i : Item) (s : State) → s.halt ≡ h → (unless_halted h s (act i s)).halt ≡ None → length (unless_halted h s (act i s)).milp.cols ≡ after (length s.milp.cols) (i ∷ [])
step_length (Some h) i s e f = absurd (let g : Some h ≡ None = sym e ∙ f in cc)
step_length None (col k c m) s e f =
    length_taken (refusal_of_col c s.milp) s (record s.milp { cols = s.milp.cols ++ c ∷ [] }) (suc (length s.milp.cols)) (length-append s.milp.cols (c ∷ []) ∙ omega arith) f
step_length None (row r) s e f =
    length_row (is_fit (length s.milp.cols) r.terms) r s (record s.milp { rows = s.milp.rows ++ normal_row r ∷ [] }) refl f
step_length None (refused r) s e f = cc

pub after-append : (n : ℕ) (xs ys : List Item) → after n (xs ++ ys) ≡ after (after n xs) ys
after-append n [] ys = refl
after-append n (col i c m ∷ xs) ys = after-append (suc n) xs ys
after-append n (row q ∷ xs) ys = after-append n xs ys
after-append n (refused r ∷ xs) ys = after-append n xs ys

after-cons : (n : ℕ) (i : Item) (is : List Item) → after n (i ∷ is) ≡ after (after n (i ∷ [])) is
after-cons n (col k c m) is = refl
after-cons n (row r) is = refl
after-cons n (refused r) is = refl

run_going : (is : List Item) (s : State) → (run is s).halt ≡ None → s.halt ≡ None
run_going is s e = went_on is s (run is s) (record { runs = inl refl }) e

run_length : (is : List Item) (s : State) → (run is s).halt ≡ None → length (run is s).milp.cols ≡ after (length s.milp.cols) is
run_length [] s e = refl
run_length (i ∷ is) s e =
    run_length is (step i s) e ∙ ap (λ n. after n is) (step_length s.halt i s refl (run_going is (step i s) e)) ∙ sym (after-cons (length s.milp.cols) i is)

pub runs_length : (is : List Item) (a b : State) → Runs is a b → b.halt ≡ None → length b.milp.cols ≡ after (length a.milp.cols) is
runs_length is a b p e = ⊎_elim
    (λ (q : b ≡ run is a). ap (λ (s : State). length s.milp.cols) q ∙ run_length is a (ap (λ (s : State). s.halt) (sym q) ∙ e))
    (λ (q : b.halt ≡ Some Memory). absurd (let y : None ≡ Some Memory = sym e ∙ q in cc)) p.runs

-- ---- sums of literals
pub plus_zero : (a : Sum) → plus a (number (pos 0)) ≡ a
unfolding plus number
plus_zero a =
    let e : a.number +ℤ pos 0 ≡ a.number = omega (arith, ints) in
    let f : a.terms ++ [] ≡ a.terms = append-nil a.terms in
    ap (λ n. made (a.terms ++ []) n) e ∙ ap (λ ts. made ts a.number) f

number_plus : (a : Sum) → plus (number (pos 0)) a ≡ a
unfolding plus number
number_plus a = let e : pos 0 +ℤ a.number ≡ a.number = omega (arith, ints) in ap (λ n. made a.terms n) e

pub literals_push : (c : ℤ) (xs : List Literal) (x : Literal) → literals_times c (xs ++ x ∷ []) ≡ plus (literals_times c xs) (literal_times c x)
unfolding literals_times
literals_push c [] x = plus_zero (literal_times c x) ∙ sym (number_plus (literal_times c x))
literals_push c (y ∷ xs) x = ap (plus (literal_times c y)) (literals_push c xs x) ∙ sym (plus_assoc (literal_times c y) (literals_times c xs) (literal_times c x))

-- ---- what a run that didn't halt says
refused_halts : (r : Refusal) (s : State) → s.halt ≡ None → (step (refused r) s).halt ≡ Some (refused_by r)
refused_halts r s e = rw e refl

pub run_accepted : (is : List Item) (s : State) → (run is s).halt ≡ None → is_accepted is ≡ true
run_accepted [] s e = refl
run_accepted (col i c m ∷ is) s e = run_accepted is (step (col i c m) s) e
run_accepted (row q ∷ is) s e = run_accepted is (step (row q) s) e
run_accepted (refused r ∷ is) s e =
    let t = step (refused r) s in
    let g : t.halt ≡ None = run_going is t e in
    let n : s.halt ≡ None = run_going (refused r ∷ []) s g in
    let h : Some (refused_by r) ≡ None = sym (refused_halts r s n) ∙ g in cc

-- ---- a row that the builder refuses
refused_taken : (o : Option MilpError) (p next new : MilpValue) (x : MilpError) → Acts lacking p (unless o p (tt {0}) next) (Err x) new →
    (record { milp = new; halt = Some (halted_by x) } ≡ taken o (record { milp = p; halt = None }) next) ⊎ (Some (halted_by x) ≡ Some Memory)
refused_taken None p next new x a = ⊎_elim
    (λ (e : (Err x ≡ Ok (tt {0})) × (new ≡ next)). absurd (let y = e.0 in cc))
    (λ (e : (Err x ≡ Err lacking) × (new ≡ p)). inr (let y : x ≡ lacking = cc in ap (λ z. Some (halted_by z)) y)) a
refused_taken (Some e) p next new x a = ⊎_elim
    (λ (f : (Err x ≡ Err e) × (new ≡ p)). inl (let y : x ≡ e = cc in ap (λ z. record { milp = z; halt = Some (halted_by x) }) f.1 ∙ ap (λ z. record { milp = p; halt = Some (halted_by z) }) y))
    (λ (f : (Err x ≡ Err lacking) × (new ≡ p)). inr (let y : x ≡ lacking = cc in ap (λ z. Some (halted_by z)) y)) a

pub row_refused : (r : RowValue) (s : State) (new : MilpValue) (x : MilpError) → s.halt ≡ None → is_fit (length s.milp.cols) r.terms ≡ true → Acts lacking s.milp (row_outcome r s.milp) (Err x) new →
    Runs (row r ∷ []) s (record { milp = new; halt = Some (halted_by x) })
row_refused r s new x h f a =
    let next : MilpValue = record s.milp { rows = s.milp.rows ++ normal_row r ∷ [] } in
    let same : step (row r) s ≡ taken (refusal_of_row (normal_row r) s.milp) s next = rw (h, f) refl in
    let whole : s ≡ record { milp = s.milp; halt = None } = ap (λ o. record { milp = s.milp; halt = o }) h in
    record {
      runs = ⊎_elim
          (λ (e : record { milp = new; halt = Some (halted_by x) } ≡ taken (refusal_of_row (normal_row r) s.milp) (record { milp = s.milp; halt = None }) next).
          inl (e ∙ ap (λ z. taken (refusal_of_row (normal_row r) s.milp) z next) (sym whole) ∙ sym same))
          (λ (e : Some (halted_by x) ≡ Some Memory). inr e)
          (refused_taken (refusal_of_row (normal_row r) s.milp) s.milp next new x a);
    }

-- ---- lists that are emitted one after the other, each from the next id on
-- what is still to come after b makes of it what the whole makes of a, unless memory ran out
pub record Following (whole : ℕ → List Item) (a : State) (others : ℕ → List Item) (b : State) : Type 0 where
  pub follows : (run (others (length b.milp.cols)) b ≡ run (whole (length a.milp.cols)) a) ⊎ (b.halt ≡ Some Memory)

-- the same, where what follows is equal at the next id
pub following_as : (whole : ℕ → List Item) (a : State) (others same : ℕ → List Item) (b : State) → others (length b.milp.cols) ≡ same (length b.milp.cols) → Following whole a others b → Following whole a same b
following_as whole a others same b e w = record { follows = subst (λ is. (run is b ≡ run (whole (length a.milp.cols)) a) ⊎ (b.halt ≡ Some Memory)) e w.follows }

pub following_all : (whole : ℕ → List Item) (a : State) → Following whole a whole a
following_all whole a = record { follows = inl refl }

others_run : (h : Option Halt) (one others : ℕ → List Item) (b c : State) → c.halt ≡ h → c ≡ run (one (length b.milp.cols)) b → Runs (one (length b.milp.cols)) b c →
    run (others (length c.milp.cols)) c ≡ run (followed (length b.milp.cols) (one (length b.milp.cols)) others) b
others_run (Some h) one others b c e q r =
    let ys = others (after (length b.milp.cols) (one (length b.milp.cols))) in
    run_halted h (others (length c.milp.cols)) c e ∙ sym (run-append (one (length b.milp.cols)) ys b ∙ ap (run ys) (sym q) ∙ run_halted h ys c e)
others_run None one others b c e q r =
    let n = after (length b.milp.cols) (one (length b.milp.cols)) in
    ap (λ k. run (others k) c) (runs_length (one (length b.milp.cols)) b c r e) ∙ ap (run (others n)) q ∙ sym (run-append (one (length b.milp.cols)) (others n) b)

pub following_more : (whole : ℕ → List Item) (a : State) (one others : ℕ → List Item) (b c : State) → Following whole a (λ n. followed n (one n) others) b → Runs (one (length b.milp.cols)) b c → Following whole a others c
following_more whole a one others b c w r = record {
  follows = ⊎_elim
      (λ (e : run (followed (length b.milp.cols) (one (length b.milp.cols)) others) b ≡ run (whole (length a.milp.cols)) a). ⊎_elim
      (λ (q : c ≡ run (one (length b.milp.cols)) b). inl (others_run c.halt one others b c refl q r ∙ e))
      (λ (q : c.halt ≡ Some Memory). inr q) r.runs)
      (λ (e : b.halt ≡ Some Memory). ⊎_elim
      (λ (q : c ≡ run (one (length b.milp.cols)) b). inr (ap (λ (s : State). s.halt) (q ∙ run_halted Memory (one (length b.milp.cols)) b e) ∙ e))
      (λ (q : c.halt ≡ Some Memory). inr q) r.runs) w.follows;
}

-- nothing is still to come
pub following_done : (whole : ℕ → List Item) (a b : State) → Following whole a (λ n. []) b → Runs (whole (length a.milp.cols)) a b
following_done whole a b w = record { runs = w.follows }

-- one list after another
pub runs_followed : (one : List Item) (others : ℕ → List Item) (a b c : State) → Runs one a b → Runs (others (length b.milp.cols)) b c → Runs (followed (length a.milp.cols) one others) a c
runs_followed one others a b c p q =
    runs_then one (others (after (length a.milp.cols) one)) a b c p
    (runs_as (others (length b.milp.cols)) (others (after (length a.milp.cols) one)) b c (λ h. ap others (runs_length one a b p h)) q)

-- ---- what a run that did not halt has made
abbrev with_item : Item → MilpValue → MilpValue
with_item (col i c m) p = record p { cols = p.cols ++ c ∷ [] }
with_item (row r) p = record p { rows = p.rows ++ normal_row r ∷ [] }
with_item (refused r) p = p

abbrev with_items : List Item → MilpValue → MilpValue
with_items [] p = p
with_items (i ∷ is) p = with_items is (with_item i p)

taken_makes : (o : Option MilpError) (s : State) (next : MilpValue) → (taken o s next).halt ≡ None → (taken o s next).milp ≡ next
taken_makes None s next f = refl
taken_makes (Some x) s next f = cc

row_makes : (t : Bool) (r : RowValue) (s : State) (next : MilpValue) → (if t then taken (refusal_of_row (normal_row r) s.milp) s next else halted s Unfit).halt ≡ None →
    (if t then taken (refusal_of_row (normal_row r) s.milp) s next else halted s Unfit).milp ≡ next
row_makes true r s next f = taken_makes (refusal_of_row (normal_row r) s.milp) s next f
row_makes false r s next f = cc

step_makes : (h : Option Halt) (i : Item) (s : State) → s.halt ≡ h → (unless_halted h s (act i s)).halt ≡ None → (unless_halted h s (act i s)).milp ≡ with_item i s.milp
step_makes (Some h) i s e f = absurd (let g : Some h ≡ None = sym e ∙ f in cc)
step_makes None (col k c m) s e f = taken_makes (refusal_of_col c s.milp) s (record s.milp { cols = s.milp.cols ++ c ∷ [] }) f
step_makes None (row r) s e f = row_makes (is_fit (length s.milp.cols) r.terms) r s (record s.milp { rows = s.milp.rows ++ normal_row r ∷ [] }) f
step_makes None (refused r) s e f = cc

run_makes : (is : List Item) (s : State) → (run is s).halt ≡ None → (run is s).milp ≡ with_items is s.milp
run_makes [] s e = refl
run_makes (i ∷ is) s e = run_makes is (step i s) e ∙ ap (with_items is) (step_makes s.halt i s refl (run_going is (step i s) e))

abbrev pub listed_on : List Item → MilpValue → MilpValue
listed_on is p = record p { cols = p.cols ++ cols_of is; rows = p.rows ++ map normal_row (rows_of is) }

appended : (p : MilpValue) (cs : List Col) (rs : List RowValue) → cs ≡ p.cols → rs ≡ p.rows → record p { cols = cs; rows = rs } ≡ p
appended p cs rs e f = ap (λ x. record p { cols = x; rows = rs }) e ∙ ap (λ x. record p { rows = x }) f

with_items_listed : (is : List Item) (p : MilpValue) → with_items is p ≡ listed_on is p
with_items_listed [] p = sym (appended p (p.cols ++ []) (p.rows ++ []) (append-nil p.cols) (append-nil p.rows))
with_items_listed (col i c m ∷ is) p =
    let e : (p.cols ++ c ∷ []) ++ cols_of is ≡ p.cols ++ (c ∷ cols_of is) = simp append_assoc in
    with_items_listed is (record p { cols = p.cols ++ c ∷ [] }) ∙ ap (λ x. record p { cols = x; rows = p.rows ++ map normal_row (rows_of is) }) e
with_items_listed (row r ∷ is) p =
    let e : (p.rows ++ normal_row r ∷ []) ++ map normal_row (rows_of is) ≡ p.rows ++ (normal_row r ∷ map normal_row (rows_of is)) = simp append_assoc in
    with_items_listed is (record p { rows = p.rows ++ normal_row r ∷ [] }) ∙ ap (λ x. record p { cols = p.cols ++ cols_of is; rows = x }) e
with_items_listed (refused r ∷ is) p = with_items_listed is p

-- it has the columns and the rows that the items list, in their normal form, after those that stood
pub run_lists : (is : List Item) (s : State) → (run is s).halt ≡ None → (run is s).milp ≡ listed_on is s.milp
run_lists is s e = run_makes is s e ∙ with_items_listed is s.milp
