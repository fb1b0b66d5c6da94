-- Values of sums, and rows as what they say of a value.
use Rattle.std.proofs.Common.{◌≡◌, ℕ, ℤ, pos, negsuc, neg_ℤ, ◌+ℤ◌, ◌-ℤ◌, ◌*ℤ◌, ◌≤ℤ◌, ◌<ℤ◌, Bool, true, false, List, [], ◌∷◌, ◌++◌, length, arith, refl, ap, sym, subst, ◌∙◌, suc, zero, ◌+◌, ◌≤◌}
use Rattle.std.specs.Prelude.{◌↔◌}
use Rattle.std.proofs.lemmas.Int.{ints}
use Rattle.lp_rows.specs.declared.kinds.Kind.TheVariants.{Int}
use Rattle.lp_rows.specs.declared.kinds.Rel.{Rel}
use Rattle.lp_rows.specs.declared.kinds.Rel.TheVariants.{AtLeast, AtMost, Equal}
use Rattle.emission.specs.declared.literals.Literal.{Literal}
use Rattle.block_tree.specs.Satisfied.{PointOf}
use Rattle.emission.specs.Items.{AreMeant, Item, Meets, col, refused, row}
use Rattle.emission.specs.Literals.{literal_times, literals_times, signed}
use Rattle.propositions.proofs.Layers.{count_more}
use Rattle.emission.specs.Sums.{Sum, column, minus, number, pick, plus, row_of, value}
use Rattle.int_linear.proofs.Dots.{dot-append}
use Rattle.int_linear.proofs.Ring.{add_mul, le_cancel, le_mul, lt_mul, mul_nonneg, neg_mul, one_mul, products}
use Rattle.int_linear.specs.Terms.{dot}
use Rattle.lp_rows.specs.Holding.{holds_at}
use Rattle.milps.proofs.Columned.{IsWhole, Stands, stands_says}
use Rattle.propositions.specs.Truth.{true_count}
use Rattle.std.specs.Int.{from_bool}

-- ---- values of sums
pub value-plus : (a b : Sum) (d : ℤ) (w : ℕ → ℤ) → value (plus a b) d w ≡ value a d w +ℤ value b d w
unfolding value plus
value-plus a b d w = rw (dot-append a.terms b.terms w) (simp products (omega (arith, ints)))

pub minus_mul : (a : ℤ) → minus *ℤ a ≡ neg_ℤ a
unfolding minus
minus_mul a = neg_mul (pos 1) a ∙ ap neg_ℤ (one_mul a)

pub value-column : (c : ℤ) (i : ℕ) (d : ℤ) (w : ℕ → ℤ) → value (column c i) d w ≡ c *ℤ w i
unfolding value column
value-column c i d w = simp products (omega (arith, ints))

pub value-number : (c : ℤ) (d : ℤ) (w : ℕ → ℤ) → value (number c) d w ≡ c *ℤ d
unfolding value number
value-number c d w = omega (arith, ints)

-- what a literal reads
abbrev pub reads_at : ℕ → Bool → ℤ → (ℕ → ℤ) → ℤ
reads_at i false d w = w i
reads_at i true d w = d -ℤ w i

abbrev pub reads : Literal → ℤ → (ℕ → ℤ) → ℤ
reads l d w = reads_at l.column l.negated d w

value-times : (c : ℤ) (i : ℕ) (b : Bool) (d : ℤ) (w : ℕ → ℤ) → value (signed c i b) d w ≡ c *ℤ reads_at i b d w
unfolding value signed
value-times c i false d w = simp products (omega (arith, ints))
value-times c i true d w = simp products (omega (arith, ints))

pub value-lit : (c : ℤ) (l : Literal) (d : ℤ) (w : ℕ → ℤ) → value (literal_times c l) d w ≡ c *ℤ reads l d w
unfolding literal_times
value-lit c l d w = value-times c l.column l.negated d w

-- the literals read these truth_of values
abbrev pub Read : List Literal → List Bool → ℤ → (ℕ → ℤ) → Type 0
Read [] [] d w = Unit {0}
Read [] (b ∷ bs) d w = ⊥
Read (l ∷ ls) [] d w = ⊥
Read (l ∷ ls) (b ∷ bs) d w = (reads l d w ≡ pick b d) × Read ls bs d w

pub pick_one : (b : Bool) (d : ℤ) → pick b d ≡ pos (from_bool b) *ℤ d
pick_one true d = omega (arith, ints)
pick_one false d = omega (arith, ints)

pub pos_add : (a b : ℕ) (d : ℤ) → pos (a + b) *ℤ d ≡ pos a *ℤ d +ℤ pos b *ℤ d
pos_add a b d = add_mul (pos a) (pos b) d

pub value-lits : (c : ℤ) (ls : List Literal) (bs : List Bool) (d : ℤ) (w : ℕ → ℤ) → Read ls bs d w → value (literals_times c ls) d w ≡ c *ℤ (pos (true_count bs) *ℤ d)
unfolding literals_times
value-lits c [] [] d w h = rw (value-number (pos 0) d w) (simp products (omega (arith, ints)))
value-lits c [] (b ∷ bs) d w h = absurd h
value-lits c (l ∷ ls) [] d w h = absurd h
value-lits c (l ∷ ls) (b ∷ bs) d w h =
    let i = value-lits c ls bs d w h.1 in
    let more : value (literal_times c l) d w +ℤ value (literals_times c ls) d w ≡ c *ℤ (pos (from_bool b + true_count bs) *ℤ d) =
    rw (value-lit c l d w, h.0, i, pick_one b d, pos_add (from_bool b) (true_count bs) d) (simp products (omega (arith, ints))) in
    value-plus (literal_times c l) (literals_times c ls) d w ∙ more ∙ ap (λ n. c *ℤ (pos n *ℤ d)) (sym (count_more (λ x. x) b bs))

pub read_length : (ls : List Literal) (bs : List Bool) (d : ℤ) (w : ℕ → ℤ) → Read ls bs d w → length ls ≡ length bs
read_length [] [] d w h = refl
read_length [] (b ∷ bs) d w h = absurd h
read_length (l ∷ ls) [] d w h = absurd h
read_length (l ∷ ls) (b ∷ bs) d w h = ap suc (read_length ls bs d w h.1)

-- a row says that its sum's value stands in its relation to 0
row_says : (rel : Rel) (a : Sum) (d : ℤ) (w : ℕ → ℤ) → Stands rel (dot a.terms w) (neg_ℤ a.number *ℤ d) ↔ Stands rel (value a d w) (pos 0)
unfolding value
row_says AtMost a d w = (λ h. let m = simp neg_mul at h in omega (arith, ints), λ h. simp neg_mul (omega (arith, ints)))
row_says AtLeast a d w = (λ h. let m = simp neg_mul at h in omega (arith, ints), λ h. simp neg_mul (omega (arith, ints)))
row_says Equal a d w = (λ h. let m = simp neg_mul at h in omega (arith, ints), λ h. simp neg_mul (omega (arith, ints)))

-- a row at a known value
pub row_at : (rel : Rel) (a : Sum) (d : ℤ) (w : ℕ → ℤ) (x : ℤ) → value a d w ≡ x → (holds_at (row_of rel a) d w ≡ true) ↔ Stands rel x (pos 0)
row_at rel a d w x e =
    let s = stands_says rel (dot a.terms w) (neg_ℤ a.number *ℤ d) in
    let r = row_says rel a d w in
    (λ h. subst (λ y. Stands rel y (pos 0)) e (r.0 (s.1 h)), λ h. s.0 (r.1 (subst (λ y. Stands rel y (pos 0)) (sym e) h)))

bit_of : (q x d : ℤ) → pos 0 <ℤ d → x ≡ q *ℤ d → pos 0 ≤ℤ x → x ≤ℤ d → (b : Bool) × (x ≡ pick b d)
bit_of (pos zero) x d p e l h = (false, omega (arith, ints))
bit_of (pos (suc zero)) x d p e l h = (true, omega (arith, ints))
bit_of (pos (suc (suc n))) x d p e l h =
    let a : pos (suc (suc n)) *ℤ d ≡ pos 2 *ℤ d +ℤ pos n *ℤ d = (let s : suc (suc n) ≡ 2 + n = omega arith in rw s (pos_add 2 n d)) in
    let m = mul_nonneg (pos n) d (omega (arith, ints)) (omega (arith, ints)) in
    absurd (omega (arith, ints))
bit_of (negsuc n) x d p e l h =
    let m = lt_mul d (negsuc n) (pos 0) p (omega (arith, ints)) in
    let f = simp products at m in
    let g = simp products at e in
    absurd (omega (arith, ints))

-- 0 Or d
pub bit_cases : (x d : ℤ) → pos 0 <ℤ d → IsWhole Int d x → pos 0 ≤ℤ x → x ≤ℤ d → (b : Bool) × (x ≡ pick b d)
bit_cases x d p q l h = bit_of q.0 x d p q.1 l h

pub pick_whole : (b : Bool) (d : ℤ) → IsWhole Int d (pick b d)
pick_whole true d = (pos 1, omega (arith, ints))
pick_whole false d = (pos 0, omega (arith, ints))

pub pick_nonneg : (b : Bool) (d : ℤ) → pos 0 <ℤ d → pos 0 ≤ℤ pick b d
pick_nonneg true d p = omega (arith, ints)
pick_nonneg false d p = omega (arith, ints)

pub pick_le : (b : Bool) (d : ℤ) → pos 0 <ℤ d → pick b d ≤ℤ d
pick_le true d p = omega (arith, ints)
pick_le false d p = omega (arith, ints)

pub pick_same : (a b : Bool) (d : ℤ) → pos 0 <ℤ d → pick a d ≡ pick b d → a ≡ b
pick_same true true d p e = refl
pick_same false false d p e = refl
pick_same true false d p e = absurd (omega (arith, ints))
pick_same false true d p e = absurd (omega (arith, ints))

-- counts are stands by their multiples of d
pub count_le : (a b : ℕ) (d : ℤ) → pos 0 <ℤ d → (pos a *ℤ d) ≤ℤ (pos b *ℤ d) → a ≤ b
count_le a b d p h =
    let c = le_cancel d (pos a) (pos b) p (simp products at h) in
    omega (arith, ints)

pub count_mul : (a b : ℕ) (d : ℤ) → pos 0 <ℤ d → a ≤ b → (pos a *ℤ d) ≤ℤ (pos b *ℤ d)
count_mul a b d p h =
    let m = le_mul d (pos a) (pos b) (omega (arith, ints)) (omega (arith, ints)) in
    simp products m

pub meets-append : (xs ys : List Item) (d : ℤ) (w : ℕ → ℤ) → Meets (xs ++ ys) d w ↔ (Meets xs d w × Meets ys d w)
meets-append [] ys d w = (λ h. (tt, h), λ h. h.1)
meets-append (col i c m ∷ xs) ys d w = let r = meets-append xs ys d w in (λ h. ((h.0, (r.0 h.1).0), (r.0 h.1).1), λ h. (h.0.0, r.1 (h.0.1, h.1)))
meets-append (row q ∷ xs) ys d w = let r = meets-append xs ys d w in (λ h. ((h.0, (r.0 h.1).0), (r.0 h.1).1), λ h. (h.0.0, r.1 (h.0.1, h.1)))
meets-append (refused r ∷ xs) ys d w = (λ h. absurd h, λ h. h.0)

pub meant-append : (xs ys : List Item) (s : PointOf) (w : ℕ → ℤ) → AreMeant (xs ++ ys) s w ↔ (AreMeant xs s w × AreMeant ys s w)
meant-append [] ys s w = (λ h. (tt, h), λ h. h.1)
meant-append (col i c m ∷ xs) ys s w = let r = meant-append xs ys s w in (λ h. ((h.0, (r.0 h.1).0), (r.0 h.1).1), λ h. (h.0.0, r.1 (h.0.1, h.1)))
meant-append (row q ∷ xs) ys s w = meant-append xs ys s w
meant-append (refused r ∷ xs) ys s w = (λ h. absurd h, λ h. h.0)
