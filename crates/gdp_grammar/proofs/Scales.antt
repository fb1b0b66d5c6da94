-- Whole numbers over a scale, in lowest terms, are stored again as those numbers over that scale.
use Rattle.std.proofs.Common.{◌≡◌, ℕ, zero, suc, ◌*◌, ◌/◌, ◌^◌, ◌<◌, ◌≤◌, ℤ, pos, negsuc, ◌*ℤ◌, true, false, ◌&&◌, ◌||◌, nat_lt, nat_le, ◌==◌, List, [], ◌∷◌, ◌++◌, map, refl, ap, sym, subst, ◌∙◌, append_assoc, append-nil, arith}
use Rattle.std.specs.Prelude.{unsigned_abs}
use Rattle.std.specs.Int.{IsGcd, ◌∣◌}
use Rattle.std.specs.List.{list_all}
use Rattle.std.proofs.Math.Nat.{div-mul_cancel, mul-div_cancel_left, dvd-mul_right, pos_of_dvd_of_pos, div-le_self}
use Rattle.std.proofs.lemmas.Bool.Decides.{nat_tests}
use Rattle.std.proofs.lemmas.Bool.{cond-false}
use Rattle.std.proofs.lemmas.Nat.Gcd.{le_of_dvd, dvd_trans}
use Rattle.lp_rows.specs.Rows.{is_storable, ascends_from, has_zero, are_storable}
use Rattle.model_tree.specs.Bounds.{has_small_parts}
use Rattle.model_tree.specs.Scaling.{are_numbers}
use Rattle.model_tree.specs.Scaling.{is_multiple, divides_all, all_divide, least_scale, are_positive, denominators, scale_of, scaled, scaled_terms, has_id, has_id_twice, insert_term, sorted_among, sorted_terms, stored_terms}
use Rattle.model_tree.proofs.ScalingLemmas.{divides, is_divided, least_scale_is, least_scale_below}
use Rattle.gdp_grammar.specs.Canonical.{terms_over}
use Rattle.gdp_grammar.specs.Lowest.{common_divisor, signed_as, over}
use Rattle.fractions.specs.Lowest as euclid
use Rattle.text_grammar.proofs.Bools.{both, and_true}
use Rattle.fractions.proofs.LowestLemmas.{common_divisor_is}
use Rattle.gdp_grammar.proofs.Lowest.{greatest_is_gcd, signed_times}

-- what the divisor of a number and a scale is
record IsDivisor (s : ℕ) (n : ℤ) (g : ℕ) : Type 0 where
  of_number : g ∣ unsigned_abs n
  of_scale : g ∣ s
  some : 0 < g

divisor_is : (s : ℕ) (n : ℤ) → 0 < s → IsDivisor s n (common_divisor n (pos s))
divisor_is s n some =
    let gcd = greatest_is_gcd (unsigned_abs n) s some in
    record { of_number = gcd.0; of_scale = gcd.1; some = pos_of_dvd_of_pos gcd.1 some }

-- the denominator times the divisor is the scale
den_times : (s g : ℕ) → g ∣ s → s / g * g ≡ s
den_times s g p = div-mul_cancel g p

den_some : (s g : ℕ) → 0 < s → g ∣ s → 0 < s / g
den_some s g some p = positive (s / g) g (den_times s g p)
  where
    positive : (q g : ℕ) → q * g ≡ s → 0 < q
    positive zero g e = absurd (omega (arith, e, some))
    positive (suc q) g e = omega arith

scale_over_den : (s g : ℕ) → 0 < s → g ∣ s → s / (s / g) ≡ g
scale_over_den s g some p = ap (λ x. x / (s / g)) (sym (den_times s g p)) ∙ mul-div_cancel_left g (den_some s g some p)

-- scaled by the scale, it is the number
pub scaled_again : (s : ℕ) (n : ℤ) → 0 < s → scaled s (over (pos s) n) ≡ n
scaled_again s n some =
    let d = divisor_is s n some in
    let g : ℕ = common_divisor n (pos s) in
    ap (λ x. signed_as n (unsigned_abs n / g) *ℤ pos x) (scale_over_den s g some d.of_scale) ∙ signed_times n g d.some d.of_number

pub scaled_terms_again : (s : ℕ) (ts : List (ℕ × ℤ)) → 0 < s → scaled_terms s (terms_over (pos s) ts) ≡ ts
scaled_terms_again s [] some = refl
scaled_terms_again s (t ∷ ts) some = ap (λ z. (t.0, z) ∷ scaled_terms s (terms_over (pos s) ts)) (scaled_again s t.1 some) ∙ ap (λ l. t ∷ l) (scaled_terms_again s ts some)

-- the denominators of numbers over a scale
dens : ℕ → List ℤ → List ℕ
dens s [] = []
dens s (n ∷ ns) = s / common_divisor n (pos s) ∷ dens s ns

abbrev coefficients : List (ℕ × ℤ) → List ℤ
coefficients [] = []
coefficients (t ∷ ts) = t.1 ∷ coefficients ts

dens_are : (s : ℕ) (ts : List (ℕ × ℤ)) → denominators (terms_over (pos s) ts) ≡ dens s (coefficients ts)
unfolding dens
dens_are s [] = refl
dens_are s (t ∷ ts) = ap (λ l. s / common_divisor t.1 (pos s) ∷ l) (dens_are s ts)

above : (x : ℕ) → 0 < x → nat_lt 0 x ≡ true
above x q = grind (arith, nat_tests)

dens_positive : (s : ℕ) (ns : List ℤ) → 0 < s → are_positive (dens s ns) ≡ true
unfolding dens
dens_positive s [] some = refl
dens_positive s (n ∷ ns) some =
    let d = divisor_is s n some in
    and_true (nat_lt 0 (s / common_divisor n (pos s))) (are_positive (dens s ns)) (above _ (den_some s (common_divisor n (pos s)) some d.of_scale)) (dens_positive s ns some)

dens_divide : (s : ℕ) (ns : List ℤ) → 0 < s → all_divide (dens s ns) s ≡ true
unfolding dens
dens_divide s [] some = refl
dens_divide s (n ∷ ns) some =
    let d = divisor_is s n some in
    let g : ℕ = common_divisor n (pos s) in
    let whole : (s / g) ∣ s = subst (λ x. (s / g) ∣ x) (den_times s g d.of_scale) (dvd-mul_right (s / g) g) in
    and_true (is_multiple (s / g) s) (all_divide (dens s ns) s) (is_divided (s / g) s whole) (dens_divide s ns some)

-- what divides two numbers divides their greatest common divisor
both_divide : (ds : List ℕ) (k s g : ℕ) → IsGcd k s g → all_divide ds k ≡ true → all_divide ds s ≡ true → all_divide ds g ≡ true
both_divide [] k s g gcd p q = refl
both_divide (d ∷ ds) k s g gcd p q =
    let a = both (is_multiple d k) (all_divide ds k) p in
    let b = both (is_multiple d s) (all_divide ds s) q in
    and_true (is_multiple d g) (all_divide ds g) (is_divided d g (gcd.2 d (divides d k a.0) (divides d s b.0))) (both_divide ds k s g gcd a.1 b.1)

-- what is left of a scale divides each number
leftover : (s k e g d : ℕ) → 0 < d → d * g ≡ s → e * k ≡ s → d ∣ k → e ∣ g
leftover s k e g d some p q h =
    let m : ℕ = k / d in
    let kd : m * d ≡ k = div-mul_cancel d h in
    let same : d * g ≡ d * (e * m) = p ∙ sym q ∙ ap (λ x. e * x) (sym kd) ∙ omega arith in
    let is : g ≡ e * m = sym (mul-div_cancel_left g some) ∙ ap (λ x. x / d) same ∙ mul-div_cancel_left (e * m) some in
    subst (λ x. e ∣ x) (sym is) (dvd-mul_right e m)

abbrev sizes : List ℤ → List ℕ
sizes ns = map unsigned_abs ns

leftover_divides : (s k e : ℕ) (ns : List ℤ) → 0 < s → e * k ≡ s → all_divide (dens s ns) k ≡ true → divides_all e (sizes ns) ≡ true
unfolding dens
leftover_divides s k e [] some q h = refl
leftover_divides s k e (n ∷ ns) some q h =
    let d = divisor_is s n some in
    let g : ℕ = common_divisor n (pos s) in
    let a = both (is_multiple (s / g) k) (all_divide (dens s ns) k) h in
    let in_divisor : e ∣ g = leftover s k e g (s / g) (den_some s g some d.of_scale) (den_times s g d.of_scale) q (divides (s / g) k a.0) in
    and_true (is_multiple e (unsigned_abs n)) (divides_all e (sizes ns)) (is_divided e (unsigned_abs n) (dvd_trans e in_divisor d.of_number)) (leftover_divides s k e ns some q a.1)

least_is : (s : ℕ) (ns : List ℤ) → 0 < s → ((d : ℕ) → divides_all d (s ∷ sizes ns) ≡ true → d ≡ 1) → least_scale (dens s ns) ≡ s
least_is s ns some least =
    let ds : List ℕ = dens s ns in
    let k : ℕ = least_scale ds in
    let l = least_scale_is ds (dens_positive s ns some) in
    let g : ℕ = euclid.common_divisor k s in
    let gcd : IsGcd k s g = common_divisor_is k s in
    let g_some : 0 < g = pos_of_dvd_of_pos gcd.1 some in
    let up : k ≤ g = least_scale_below ds g (dens_positive s ns some) g_some (both_divide ds k s g gcd l.divided (dens_divide s ns some)) in
    let down : g ≤ k = le_of_dvd (omega (arith, l.positive)) gcd.0 in
    let same : g ≡ k = omega (arith, up, down) in
    let in_scale : k ∣ s = subst (λ x. x ∣ s) same gcd.1 in
    let q : s / k * k ≡ s = div-mul_cancel k in_scale in
    let e_scale : (s / k) ∣ s = subst (λ x. (s / k) ∣ x) q (dvd-mul_right (s / k) k) in
    let one : s / k ≡ 1 = least (s / k) (and_true (is_multiple (s / k) s) (divides_all (s / k) (sizes ns)) (is_divided (s / k) s e_scale) (leftover_divides s k (s / k) ns some q l.divided)) in
    omega (arith, ap (λ x. x * k) one, q)

sizes_are : (ts : List (ℕ × ℤ)) → sizes (coefficients ts) ≡ map (λ t. unsigned_abs t.1) ts
sizes_are [] = refl
sizes_are (t ∷ ts) = ap (λ l. unsigned_abs t.1 ∷ l) (sizes_are ts)

-- the scale of these numbers over a scale is that scale, where only 1 divides them and it
pub scale_again : (s : ℕ) (ts : List (ℕ × ℤ)) (n : ℤ) → 0 < s → ((d : ℕ) → divides_all d (s ∷ unsigned_abs n ∷ map (λ t. unsigned_abs t.1) ts) ≡ true → d ≡ 1)
    → scale_of (terms_over (pos s) ts) (over (pos s) n) ≡ s
unfolding dens
scale_again s ts n some least =
    ap (λ l. least_scale (s / common_divisor n (pos s) ∷ l)) (dens_are s ts)
    ∙ least_is s (n ∷ coefficients ts) some (λ d h. least d (ap (λ l. divides_all d (s ∷ unsigned_abs n ∷ l)) (sym (sizes_are ts)) ∙ h))

-- terms in the order of their ids stay as they are
insert_last : {A : Type 0} (t : ℕ × A) (placed : List (ℕ × A)) → list_all (λ u. nat_lt u.0 t.0) placed ≡ true → insert_term t placed ≡ placed ++ t ∷ []
insert_last t [] h = refl
insert_last t (u ∷ us) h =
    let a = both (nat_lt u.0 t.0) (list_all (λ v. nat_lt v.0 t.0) us) h in
    cond-false (nat_lt t.0 u.0) _ _ (other u.0 t.0 a.0) ∙ ap (λ l. u ∷ l) (insert_last t us a.1)
  where
    other : (x y : ℕ) → nat_lt x y ≡ true → nat_lt y x ≡ false
    other x y p = grind (arith, nat_tests)

below_pushed : {A : Type 0} (x : ℕ) (placed : List (ℕ × A)) (t : ℕ × A) → list_all (λ u. nat_lt u.0 t.0) placed ≡ true → list_all (λ u. nat_lt u.0 (suc t.0)) (placed ++ t ∷ []) ≡ true
below_pushed x [] t h = and_true (nat_lt t.0 (suc t.0)) true (less t.0) refl
  where
    less : (x : ℕ) → nat_lt x (suc x) ≡ true
    less x = grind (arith, nat_tests)
below_pushed x (u ∷ us) t h =
    let a = both (nat_lt u.0 t.0) (list_all (λ v. nat_lt v.0 t.0) us) h in
    and_true (nat_lt u.0 (suc t.0)) (list_all (λ v. nat_lt v.0 (suc t.0)) (us ++ t ∷ [])) (more u.0 t.0 a.0) (below_pushed x us t a.1)
  where
    more : (x y : ℕ) → nat_lt x y ≡ true → nat_lt x (suc y) ≡ true
    more x y p = grind (arith, nat_tests)

below_more : {A : Type 0} (least least' : ℕ) (placed : List (ℕ × A)) → nat_le least least' ≡ true → list_all (λ u. nat_lt u.0 least) placed ≡ true → list_all (λ u. nat_lt u.0 least') placed ≡ true
below_more least least' [] le h = refl
below_more least least' (u ∷ us) le h =
    let a = both (nat_lt u.0 least) (list_all (λ v. nat_lt v.0 least) us) h in
    and_true (nat_lt u.0 least') (list_all (λ v. nat_lt v.0 least') us) (more u.0 least least' a.0 le) (below_more least least' us le a.1)
  where
    more : (x y z : ℕ) → nat_lt x y ≡ true → nat_le y z ≡ true → nat_lt x z ≡ true
    more x y z p q = grind (arith, nat_tests)

sorted_after : {A : Type 0} (least : ℕ) (placed ts : List (ℕ × A)) → list_all (λ u. nat_lt u.0 least) placed ≡ true → ascends_from least ts ≡ true → sorted_among placed ts ≡ placed ++ ts
sorted_after least placed [] h a = sym (append-nil placed)
sorted_after least placed (t ∷ ts) h a =
    let b = both (nat_le least t.0) (ascends_from (suc t.0) ts) a in
    let k = below_more least t.0 placed b.0 h in
    ap (λ l. sorted_among l ts) (insert_last t placed k) ∙ sorted_after (suc t.0) (placed ++ t ∷ []) ts (below_pushed 0 placed t k) b.1 ∙ append_assoc placed (t ∷ []) ts

pub sorted_again : {A : Type 0} (ts : List (ℕ × A)) → ascends_from 0 ts ≡ true → sorted_terms ts ≡ ts
sorted_again ts a = sorted_after 0 [] ts refl a

pub ascends_over : (scale : ℤ) (least : ℕ) (ts : List (ℕ × ℤ)) → ascends_from least (terms_over scale ts) ≡ ascends_from least ts
ascends_over scale least [] = refl
ascends_over scale least (t ∷ ts) = ap (λ b. nat_le least t.0 && b) (ascends_over scale (suc t.0) ts)

pub stored_again : (s : ℕ) (ts : List (ℕ × ℤ)) → 0 < s → ascends_from 0 ts ≡ true → stored_terms s (terms_over (pos s) ts) ≡ ts
stored_again s ts some a = ap (λ l. scaled_terms s l) (sorted_again (terms_over (pos s) ts) (ascends_over (pos s) 0 ts ∙ a)) ∙ scaled_terms_again s ts some

-- no id stands twice
not_below : {A : Type 0} (id least : ℕ) (ts : List (ℕ × A)) → nat_lt id least ≡ true → ascends_from least ts ≡ true → has_id id ts ≡ false
not_below id least [] l a = refl
not_below id least (t ∷ ts) l a =
    let b = both (nat_le least t.0) (ascends_from (suc t.0) ts) a in
    ap (λ x. x || has_id id ts) (other id least t.0 l b.0) ∙ not_below id (suc t.0) ts (more id least t.0 l b.0) b.1
  where
    other : (id least x : ℕ) → nat_lt id least ≡ true → nat_le least x ≡ true → (id == x) ≡ false
    other id least x p q = grind (arith, nat_tests)

    more : (id least x : ℕ) → nat_lt id least ≡ true → nat_le least x ≡ true → nat_lt id (suc x) ≡ true
    more id least x p q = grind (arith, nat_tests)

pub never_twice : {A : Type 0} (least : ℕ) (ts : List (ℕ × A)) → ascends_from least ts ≡ true → has_id_twice ts ≡ false
never_twice least [] a = refl
never_twice least (t ∷ ts) a =
    let b = both (nat_le least t.0) (ascends_from (suc t.0) ts) a in
    ap (λ x. x || has_id_twice ts) (not_below t.0 (suc t.0) ts (less t.0) b.1) ∙ never_twice (suc t.0) ts b.1
  where
    less : (x : ℕ) → nat_lt x (suc x) ≡ true
    less x = grind (arith, nat_tests)

-- the parts of a number over a scale are small where both are
size_signed : (n : ℤ) (k : ℕ) → unsigned_abs (signed_as n k) ≡ k
size_signed (pos n) k = refl
size_signed (negsuc n) zero = refl
size_signed (negsuc n) (suc k) = refl

small_below : (a b : ℕ) → a ≤ b → nat_le b (10 ^ 15) ≡ true → nat_le a (10 ^ 15) ≡ true
small_below a b le p = grind (arith, nat_tests)

pub num_small : (s : ℕ) (n : ℤ) → is_storable n ≡ true → is_storable (over (pos s) n).num ≡ true
num_small s n p =
    let g : ℕ = common_divisor n (pos s) in
    ap (λ x. nat_le x (10 ^ 15)) (size_signed n (unsigned_abs n / g)) ∙ small_below (unsigned_abs n / g) (unsigned_abs n) (div-le_self (unsigned_abs n) g) p

pub den_small : (s : ℕ) (n : ℤ) → is_storable (pos s) ≡ true → is_storable (over (pos s) n).den ≡ true
den_small s n p = small_below (s / common_divisor n (pos s)) s (div-le_self s (common_divisor n (pos s))) p

pub small_parts : (s : ℕ) (n : ℤ) → is_storable (pos s) ≡ true → is_storable n ≡ true → has_small_parts (over (pos s) n) ≡ true
small_parts s n p q = and_true (is_storable (over (pos s) n).num) (is_storable (over (pos s) n).den) (num_small s n q) (den_small s n p)

small_terms : (s : ℕ) (ts : List (ℕ × ℤ)) → is_storable (pos s) ≡ true → are_storable ts ≡ true → list_all (λ t. has_small_parts t.1) (terms_over (pos s) ts) ≡ true
small_terms s [] p q = refl
small_terms s (t ∷ ts) p q =
    let b = both (is_storable t.1) (are_storable ts) q in
    and_true (has_small_parts (over (pos s) t.1)) (list_all (λ t. has_small_parts t.1) (terms_over (pos s) ts)) (small_parts s t.1 p b.0) (small_terms s ts p b.1)

-- the numbers may be stored
pub numbers_again : (s : ℕ) (ts : List (ℕ × ℤ)) (n : ℤ) → 0 < s → is_storable (pos s) ≡ true → ascends_from 0 ts ≡ true → has_zero ts ≡ false → are_storable ts ≡ true → is_storable n ≡ true
    → are_numbers s (terms_over (pos s) ts) (over (pos s) n) ≡ true
numbers_again s ts n some p a z q r =
    rw (stored_again s ts some a, scaled_again s n some, z)
    (and_true _ (is_storable n) (and_true _ (are_storable ts) (and_true _ true (and_true _ (has_small_parts (over (pos s) n)) (small_terms s ts p q) (small_parts s n p r)) refl) q) r)
