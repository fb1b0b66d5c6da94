-- Scales, and terms in whole numbers.
use Rattle.std.proofs.Common.{◌≡◌, ℕ, ◌+◌, ◌*◌, ◌/◌, ◌^◌, ◌<◌, ◌≤◌, ℤ, pos, negsuc, to_z, of_z, Ok, Err, subst, length, drop, get_or, Bool, true, false, ◌&&◌, if◌then◌else◌, List, [], ◌∷◌, ◌++◌, Option, Some, None, refl, ap, sym, ◌∙◌, inl, inr, append-nil, append_assoc, arith}
use Rattle.std.specs.Prelude.{nat_eq, nat_le, unsigned_abs}
use Rattle.std.specs.Prelude.{FitsSigned}
use Rattle.std.specs.Int.{IsGcd, w128}
use Rattle.std.proofs.lemmas.Bool.{cond-true, cond-false}
use Rattle.std.proofs.lemmas.Bool.Decides.{nat_tests}
use Rattle.std.proofs.lemmas.Int.{to_z-of_z}
use Rattle.std.proofs.lemmas.List.{at_drop_more}
use Rattle.std.proofs.lemmas.Nat.Gcd.{same_from_IsGcd}
use Rattle.outcomes.specs.Calls.{OrMemory, refused_or}
use Rattle.lp_rows.specs.declared.rows.RowError.{RowError}
use Rattle.lp_rows.specs.declared.rows.RowError.TheVariants as error
use Rattle.fractions.specs.Fraction.{Fraction}
use Rattle.lp_rows.specs.declared.kinds.Rel.{Rel}
use Rattle.lp_rows.specs.Rows.{RowValue, is_storable, are_storable, row_refusal, row_made}
use Rattle.text_grammar.proofs.Bools.{told}
use Rattle.lp_grammar.specs.Scaling.{divisor_of, common_multiple, scale_with, scale_over, scaled, stored_terms}
use Rattle.lp_grammar.specs.Taking.{Objective, row_by, objective_by}
use Rattle.lp_grammar.specs.Programs.{AreStored}
use Rattle.lp_parts.specs.Stored.{AreOrdered}
use Rattle.lp_parts.proofs.KeptTerms.{are_stored}
use Rattle.lp_parts.specs.Stored.{if_storable, stored_on}
use Rattle.lp_grammar.proofs.Scales.{divisor_is}

-- the least common multiple by a greatest common divisor
multiple_by : (p q g : ℕ) → IsGcd p q g → p * (q / g) ≡ common_multiple p q
multiple_by p q g gcd = ap (λ (d : ℕ). p * (q / d)) (same_from_IsGcd p q g (divisor_of p q) gcd (divisor_is p q))

-- it is the next scale, if it is small
pub scale_kept : (p q g m : ℕ) → IsGcd p q g → m ≡ p * (q / g) → m ≤ 10 ^ 30 → Some m ≡ scale_with q (Some p)
scale_kept p q g m gcd e small =
    let same : m ≡ common_multiple p q = e ∙ multiple_by p q g gcd in
    let within : nat_le (common_multiple p q) (10 ^ 30) ≡ true = is_within (common_multiple p q) m same small in
    ap (λ (n : ℕ). Some n) same ∙ sym (cond-true (nat_le (common_multiple p q) (10 ^ 30)) _ _ within)
  where
    is_within : (n m : ℕ) → m ≡ n → m ≤ 10 ^ 30 → nat_le n (10 ^ 30) ≡ true
    is_within n m e h = grind (arith, nat_tests)

pub scale_past : (p q g m : ℕ) → IsGcd p q g → m ≡ p * (q / g) → 10 ^ 30 < m → None ≡ scale_with q (Some p)
scale_past p q g m gcd e past =
    sym (cond-false (nat_le (common_multiple p q) (10 ^ 30)) _ _ (is_past (common_multiple p q) m (e ∙ multiple_by p q g gcd) past))
  where
    is_past : (n m : ℕ) → m ≡ n → 10 ^ 30 < m → nat_le n (10 ^ 30) ≡ false
    is_past n m e h = grind (arith, nat_tests)

-- terms one after the other are the terms that are stored
pub stored_told : (k : ℕ) (done : List (ℕ × ℤ)) (ts : List (ℕ × Fraction)) → stored_on k done ts ≡ (if are_storable (stored_terms k ts) then Some (done ++ stored_terms k ts) else None)
stored_told k done [] = ap (λ (l : List (ℕ × ℤ)). Some l) (sym (append-nil done))
stored_told k done (t ∷ ts) =
    let z : ℤ = scaled k t.1 in
    step done (t.0, z) (nat_eq (unsigned_abs z) 0) (stored_terms k ts) (zero_small z) (λ d. stored_on k d ts) (λ d. stored_told k d ts)
  where
    zero_small : (z : ℤ) → nat_eq (unsigned_abs z) 0 ≡ true → is_storable z ≡ true
    zero_small z e = grind (arith, nat_tests)

    step : (done : List (ℕ × ℤ)) (x : ℕ × ℤ) (zero : Bool) (w : List (ℕ × ℤ)) → (zero ≡ true → is_storable x.1 ≡ true)
        → (after : List (ℕ × ℤ) → Option (List (ℕ × ℤ))) → ((d : List (ℕ × ℤ)) → after d ≡ (if are_storable w then Some (d ++ w) else None))
        → (if is_storable x.1 then after (done ++ (if zero then [] else x ∷ [])) else None)
        ≡ (if are_storable (if zero then w else x ∷ w) then Some (done ++ (if zero then w else x ∷ w)) else None)
    step done x true w h after below =
        ap (λ (s : Bool). if s then after (done ++ []) else None) (h refl) ∙ below (done ++ []) ∙ ap (λ (l : List (ℕ × ℤ)). if are_storable w then Some (l ++ w) else None) (append-nil done)
    step done x false w h after below = elim (told (is_storable x.1)) [
      | inl t ↦
          ap (λ (s : Bool). if s then after (done ++ x ∷ []) else None) t ∙ below (done ++ x ∷ [])
          ∙ ap (λ (l : List (ℕ × ℤ)). if are_storable w then Some l else None) (append_assoc done (x ∷ []) w)
          ∙ sym (ap (λ (s : Bool). if s && are_storable w then Some (done ++ x ∷ w) else None) t)
      | inr f ↦
          ap (λ (s : Bool). if s then after (done ++ x ∷ []) else None) f ∙ sym (ap (λ (s : Bool). if s && are_storable w then Some (done ++ x ∷ w) else None) f)
    ]

-- terms that are stored, and terms that aren't
pub terms_kept : (k : ℕ) (ts : List (ℕ × Fraction)) (l : List (ℕ × ℤ)) → Some l ≡ stored_on k [] ts → (are_storable (stored_terms k ts) ≡ true) × (l ≡ stored_terms k ts)
terms_kept k ts l e = go (are_storable (stored_terms k ts)) (stored_terms k ts) (e ∙ stored_told k [] ts)
  where
    go : (b : Bool) (w : List (ℕ × ℤ)) → Some l ≡ (if b then Some w else None) → (b ≡ true) × (l ≡ w)
    go true w e = (refl, cc e)
    go false w e = absurd (cc e)

pub terms_refused : (k : ℕ) (ts : List (ℕ × Fraction)) → None ≡ stored_on k [] ts → are_storable (stored_terms k ts) ≡ false
terms_refused k ts e = go (are_storable (stored_terms k ts)) (stored_terms k ts) (e ∙ stored_told k [] ts)
  where
    nothing : Option (List (ℕ × ℤ))
    nothing = None

    go : (b : Bool) (w : List (ℕ × ℤ)) → None ≡ (if b then Some w else None) → b ≡ false
    go true w e = absurd (cc e)
    go false w e = refl

number_kept : (z n : ℤ) → Some n ≡ if_storable z → (is_storable z ≡ true) × (n ≡ z)
number_kept z n e = go (is_storable z) e
  where
    go : (b : Bool) → Some n ≡ (if b then Some z else None) → (b ≡ true) × (n ≡ z)
    go true e = (refl, cc e)
    go false e = absurd (cc e)

number_refused : (z : ℤ) → None ≡ if_storable z → is_storable z ≡ false
number_refused z e = go (is_storable z) e
  where
    go : (b : Bool) → None ≡ (if b then Some z else None) → b ≡ false
    go true e = absurd (cc e)
    go false e = refl

-- a row that is stored, and rows that aren't
pub row_kept : (k : ℕ) (ts : List (ℕ × Fraction)) (rel : Rel) (right : Fraction) (l : List (ℕ × ℤ)) (n : ℤ) → Some l ≡ stored_on k [] ts → Some n ≡ if_storable (scaled k right)
    → Some (record { terms = l; rel = rel; right = n }) ≡ row_by (Some k) ts rel right
row_kept k ts rel right l n e f =
    let a = terms_kept k ts l e in
    let b = number_kept (scaled k right) n f in
    let with_terms : List (ℕ × ℤ) → Option RowValue = λ x. Some (record { terms = x; rel = rel; right = n }) in
    let with_right : ℤ → Option RowValue = λ x. Some (record { terms = stored_terms k ts; rel = rel; right = x }) in
    ap with_terms a.1 ∙ ap with_right b.1 ∙ sym (ap (λ (x : Bool). if x && is_storable (scaled k right) then with_right (scaled k right) else None) a.0 ∙ ap (λ (x : Bool). if x then with_right (scaled k right) else None) b.0)

pub row_terms_refused : (k : ℕ) (ts : List (ℕ × Fraction)) (rel : Rel) (right : Fraction) → None ≡ stored_on k [] ts → None ≡ row_by (Some k) ts rel right
row_terms_refused k ts rel right e =
    let row : Option RowValue = Some (record { terms = stored_terms k ts; rel = rel; right = scaled k right }) in
    sym (ap (λ (x : Bool). if x && is_storable (scaled k right) then row else None) (terms_refused k ts e))

pub row_right_refused : (k : ℕ) (ts : List (ℕ × Fraction)) (rel : Rel) (right : Fraction) → None ≡ if_storable (scaled k right) → None ≡ row_by (Some k) ts rel right
row_right_refused k ts rel right e =
    let row : Option RowValue = Some (record { terms = stored_terms k ts; rel = rel; right = scaled k right }) in
    sym (ap (λ (x : Bool). if are_storable (stored_terms k ts) && x then row else None) (number_refused (scaled k right) e) ∙ neither (are_storable (stored_terms k ts)) row)
  where
    neither : (b : Bool) (row : Option RowValue) → (if b && false then row else None) ≡ None
    neither true row = refl
    neither false row = refl

-- an objective that is stored, and objectives that aren't
pub objective_kept : (k : ℕ) (ts : List (ℕ × Fraction)) (constant : Fraction) (l : List (ℕ × ℤ)) (n : ℤ) → Some l ≡ stored_on k [] ts → Some n ≡ if_storable (scaled k constant) → k ≤ 10 ^ 15
    → Some (record { terms = l; constant = n; scale = k }) ≡ objective_by (Some k) ts constant
objective_kept k ts constant l n e f small =
    let a = terms_kept k ts l e in
    let b = number_kept (scaled k constant) n f in
    let c : is_storable (pos k) ≡ true = is_small k small in
    let with_terms : List (ℕ × ℤ) → Option Objective = λ x. Some (record { terms = x; constant = n; scale = k }) in
    let with_constant : ℤ → Option Objective = λ x. Some (record { terms = stored_terms k ts; constant = x; scale = k }) in
    let whole : Option Objective = with_constant (scaled k constant) in
    ap with_terms a.1 ∙ ap with_constant b.1 ∙ sym (all (are_storable (stored_terms k ts)) (is_storable (scaled k constant)) (is_storable (pos k)) whole a.0 b.0 c)
  where
    is_small : (k : ℕ) → k ≤ 10 ^ 15 → nat_le k (10 ^ 15) ≡ true
    is_small k h = grind (arith, nat_tests)

    all : (a b c : Bool) (o : Option Objective) → a ≡ true → b ≡ true → c ≡ true → (if a && b && c then o else None) ≡ o
    all true b c o p q r = rw (q, r) refl
    all false b c o p q r = absurd (cc p)

pub objective_refused : (k : ℕ) (ts : List (ℕ × Fraction)) (constant : Fraction) → None ≡ stored_on k [] ts → None ≡ objective_by (Some k) ts constant
objective_refused k ts constant e =
    let whole : Option Objective = Some (record { terms = stored_terms k ts; constant = scaled k constant; scale = k }) in
    sym (ap (λ (x : Bool). if x && is_storable (scaled k constant) && is_storable (pos k) then whole else None) (terms_refused k ts e))

pub constant_refused : (k : ℕ) (ts : List (ℕ × Fraction)) (constant : Fraction) → None ≡ if_storable (scaled k constant) → None ≡ objective_by (Some k) ts constant
constant_refused k ts constant e =
    let whole : Option Objective = Some (record { terms = stored_terms k ts; constant = scaled k constant; scale = k }) in
    sym (ap (λ (x : Bool). if are_storable (stored_terms k ts) && x && is_storable (pos k) then whole else None) (number_refused (scaled k constant) e) ∙ neither (are_storable (stored_terms k ts)) (is_storable (pos k)) whole)
  where
    neither : (b c : Bool) (o : Option Objective) → (if b && false && c then o else None) ≡ None
    neither true c o = refl
    neither false c o = refl

pub scale_refused : (k : ℕ) (ts : List (ℕ × Fraction)) (constant : Fraction) → 10 ^ 15 < k → None ≡ objective_by (Some k) ts constant
scale_refused k ts constant past =
    let whole : Option Objective = Some (record { terms = stored_terms k ts; constant = scaled k constant; scale = k }) in
    sym (ap (λ (x : Bool). if are_storable (stored_terms k ts) && is_storable (scaled k constant) && x then whole else None) (is_past k past) ∙ neither (are_storable (stored_terms k ts)) (is_storable (scaled k constant)) whole)
  where
    is_past : (k : ℕ) → 10 ^ 15 < k → nat_le k (10 ^ 15) ≡ false
    is_past k h = grind (arith, nat_tests)

    neither : (b c : Bool) (o : Option Objective) → (if b && c && false then o else None) ≡ None
    neither true true o = refl
    neither true false o = refl
    neither false c o = refl

-- a number that may be stored is in the range of the code's numbers
storable_fits : (z : ℤ) → is_storable z ≡ true → FitsSigned w128 z
storable_fits (pos n) h = record { sfits = grind (arith, nat_tests) }
storable_fits (negsuc n) h = record { sfits = grind (arith, nat_tests) }

pub number_wraps : (z n : ℤ) → Some n ≡ if_storable z → to_z w128 (of_z w128 n) ≡ n
number_wraps z n e =
    let b = number_kept z n e in
    to_z-of_z w128 n (storable_fits n (ap is_storable b.1 ∙ b.0))

-- the row that was made
pub row_is_made : (row : RowValue) (l : List (ℕ × ℤ)) (rel : Rel) (n : ℤ) → OrMemory error.Memory (Ok row) (row_made l rel n) → row ≡ record { terms = l; rel = rel; right = n }
row_is_made row l rel n (inl e) = go (row_refusal l n) e
  where
    go : (refusal : Option RowError) → Ok row ≡ refused_or refusal (record { terms = l; rel = rel; right = n }) → row ≡ record { terms = l; rel = rel; right = n }
    go None e = cc e
    go (Some r) e = absurd (cc e)
row_is_made row l rel n (inr e) = absurd (cc e)

-- a scale that passed the greatest stays past it
pub none_over : (ts : List (ℕ × Fraction)) → scale_over None ts ≡ None
none_over [] = refl
none_over (t ∷ ts) = none_over ts

pub scale_stops : (ts : List (ℕ × Fraction)) (i k den : ℕ) (t : ℕ × Fraction) (o : Option ℕ) → i < length ts → t ≡ get_or ts i t → den ≡ unsigned_abs t.1.den → None ≡ scale_with den (Some k)
    → scale_over (Some k) (drop i ts) ≡ o → None ≡ o
scale_stops ts i k den t o lt item e stops so_far =
    sym (at_drop_more (scale_over (Some k)) ts i t lt
    ∙ ap (λ (u : ℕ × Fraction). scale_over (scale_with (unsigned_abs u.1.den) (Some k)) (drop (i + 1) ts)) (sym item)
    ∙ ap (λ (d : ℕ). scale_over (scale_with d (Some k)) (drop (i + 1) ts)) (sym e)
    ∙ ap (λ (s : Option ℕ). scale_over s (drop (i + 1) ts)) (sym stops) ∙ none_over (drop (i + 1) ts))
    ∙ so_far

-- a row that is stored is not refused
made_of_stored : (n : ℕ) (l : List (ℕ × ℤ)) (rel : Rel) (z : ℤ) → AreStored n l → is_storable z ≡ true → row_made l rel z ≡ Ok (record { terms = l; rel = rel; right = z })
made_of_stored n l rel z is s = rw (is.ascend, is.none, is.small, s) refl

pub stored_made : (n k : ℕ) (ts : List (ℕ × Fraction)) (rel : Rel) (l : List (ℕ × ℤ)) (z w : ℤ) (right : Fraction) (x y : RowError) → AreOrdered n ts → Some l ≡ stored_on k [] ts → Some z ≡ if_storable (scaled k right) → w ≡ z
    → x ≡ y → (y ≡ error.Memory → ⊥) → OrMemory error.Memory (Err x) (row_made l rel w) → ⊥
stored_made n k ts rel l z w right x y ordered e f g why other h = go h
  where
    stored : AreStored n l
    stored = let a = terms_kept k ts l e in subst (λ (m : List (ℕ × ℤ)). AreStored n m) (sym a.1) (are_stored n k ts ordered a.0)

    small : is_storable w ≡ true
    small = let b = number_kept (scaled k right) z f in ap is_storable (g ∙ b.1) ∙ b.0

    go : OrMemory error.Memory (Err x) (row_made l rel w) → ⊥
    go (inl m) = absurd (cc (m ∙ made_of_stored n l rel w stored small))
    go (inr m) = other (sym why ∙ cc m)

-- so it is where its terms and its right side are those that were made
pub never_refused : (k : ℕ) (ts : List (ℕ × Fraction)) (rel : Rel) (l m : List (ℕ × ℤ)) (z : ℤ) (right : Fraction) (x y : RowError) → AreOrdered (2 ^ 32) ts → m ≡ l → Some l ≡ stored_on k [] ts → Some z ≡ if_storable (scaled k right)
    → x ≡ y → (y ≡ error.Memory → ⊥) → OrMemory error.Memory (Err x) (row_made m rel (to_z w128 (of_z w128 z))) → ⊥
never_refused k ts rel l m z right x y ordered same e f why other h =
    stored_made (2 ^ 32) k ts rel m z (to_z w128 (of_z w128 z)) right x y ordered (ap (λ (t : List (ℕ × ℤ)). Some t) same ∙ e) f (number_wraps (scaled k right) z f) why other h
