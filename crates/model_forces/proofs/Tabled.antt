-- Tables of a path, half by half.
use Rattle.std.proofs.Common.{◌≡◌, ◌<◌, ◌≤◌, ◌-◌, ℕ, zero, suc, ◌+◌, ℤ, pos, ◌+ℤ◌, Bool, true, false, List, [], ◌∷◌, ◌++◌, length, reverse, take, get_or, set, Option, None, Some, nat_eq, int_le, if◌then◌else◌, cond, refl, sym, ◌∙◌, ap, arith}
use Rattle.std.proofs.lemmas.Int.{ints}
use Rattle.std.proofs.lemmas.Bool.Decides.{nat_tests}
use Rattle.std.proofs.lemmas.List.{append_assoc, reverse-append, take_more}
use Rattle.gdp_tables.specs.declared.tri.Tri.{Tri}
use Rattle.proof_tree.specs.declared.path.Split.{Split}
use Rattle.proof_tree.specs.declared.path.Split.TheVariants.{Int, Truth}
use Rattle.proof_tree.specs.declared.path.Half.{Half}
use Rattle.model_tree.specs.Variables.{VarValue}
use Rattle.model_forces.specs.declared.tables.Ends.{Ends}
use Rattle.model_forces.specs.Forces.{path_low, path_high, rows_of_path}
use Rattle.model_forces.specs.Paths.{tri_of_half, tri_after, tris_on, greatest_of, low_after, high_after, low_on, high_on}
use Rattle.model_forces.specs.Tables.{listed, tris_after, no_ends, tightened, ends_after, ends_on, narrowed, above, rows_of_ends}

-- one value more
pub listed_more : {A : Type 0} (t : ℕ → A) (k count : ℕ) (before : List A) → k < count → (before ++ t k ∷ []) ++ listed t (k + 1) (count - (k + 1)) ≡ before ++ listed t k (count - k)
listed_more t k count before l =
    let size : suc (count - (k + 1)) ≡ count - k = omega arith in
    let next : k + 1 ≡ suc k = omega arith in
    append_assoc before (t k ∷ []) (listed t (k + 1) (count - (k + 1))) ∙ ap (λ i. before ++ (t k ∷ listed t i (count - (k + 1)))) next ∙ ap (λ n. before ++ listed t k n) size

-- functions that are the same at the places have one list
listed_same : {A : Type 0} (t u : ℕ → A) (k n : ℕ) → ((j : ℕ) → k ≤ j → j < k + n → t j ≡ u j) → listed t k n ≡ listed u k n
listed_same t u k zero h = refl
listed_same t u k (suc n) h = ap (λ x. x ∷ listed t (suc k) n) (h k (omega arith) (omega arith)) ∙ ap (λ xs. u k ∷ xs) (listed_same t u (suc k) n (λ j l m. h j (omega arith) (omega arith)))

eq_true : (i j : ℕ) → i ≡ j → nat_eq i j ≡ true
eq_true i j e = grind (arith, nat_tests)

eq_false : (i j : ℕ) → i < j → nat_eq i j ≡ false
eq_false i j l = grind (arith, nat_tests)

eq_false_after : (i j : ℕ) → j < i → nat_eq i j ≡ false
eq_false_after i j l = grind (arith, nat_tests)

-- a list with one place changed
listed_set : {A : Type 0} (t : ℕ → A) (id : ℕ) (v : A) (k n i : ℕ) → id ≡ k + i → set (listed t k n) i v ≡ listed (λ j. cond (nat_eq id j) v (t j)) k n
listed_set t id v k zero i e = refl
listed_set t id v k (suc n) zero e =
    ap (λ b. cond b v (t k) ∷ listed t (suc k) n) (sym (eq_true id k (omega (arith, e))))
    ∙ ap (λ xs. cond (nat_eq id k) v (t k) ∷ xs) (listed_same t (λ j. cond (nat_eq id j) v (t j)) (suc k) n (λ j l m. ap (λ b. cond b v (t j)) (sym (eq_false id j (omega (arith, e, l))))))
listed_set t id v k (suc n) (suc i) e =
    ap (λ b. cond b v (t k) ∷ set (listed t (suc k) n) i v) (sym (eq_false_after id k (omega (arith, e))))
    ∙ ap (λ xs. cond (nat_eq id k) v (t k) ∷ xs) (listed_set t id v (suc k) n i (omega (arith, e)))

pub listed_at : {A : Type 0} (t : ℕ → A) (k n i : ℕ) (d : A) → i < n → get_or (listed t k n) i d ≡ t (k + i)
listed_at t k zero i d l = absurd (omega arith)
listed_at t k (suc n) zero d l = let same : k ≡ k + 0 = omega arith in ap t same
listed_at t k (suc n) (suc i) d l = let same : suc k + i ≡ k + suc i = omega arith in listed_at t (suc k) n i d (omega arith) ∙ ap t same

-- a half
marked : (s : Split) (second : Bool) (t : ℕ → Tri) (n : ℕ) → tris_after s second (listed t 0 n) ≡ listed (λ k. tri_after s second k (t k)) 0 n
marked (Int column bound) second t n = refl
marked (Truth id) second t n = listed_set t id (tri_of_half second) 0 n id (omega arith)

by_test : {A : Type 0} (b : Bool) (v w x : A) → (b ≡ true → v ≡ w) → cond b v x ≡ cond b w x
by_test true v w x h = h refl
by_test false v w x h = refl

equal_by : (i j : ℕ) → nat_eq i j ≡ true → i ≡ j
equal_by i j e = grind (arith, nat_tests)

narrowed_is : (s : Split) (second : Bool) (t : ℕ → Ends) (n : ℕ) → narrowed s second (listed t 0 n) ≡ listed (λ j. ends_after s second j (t j)) 0 n
narrowed_is (Truth id) second t n = refl
narrowed_is (Int column bound) second t n =
    let v = tightened (get_or (listed t 0 n) column no_ends) second bound in
    listed_set t column v 0 n column (omega arith)
    ∙ listed_same (λ j. cond (nat_eq column j) v (t j)) (λ j. cond (nat_eq column j) (tightened (t j) second bound) (t j)) 0 n (λ j l m. by_test (nat_eq column j) v (tightened (t j) second bound) (t j) (λ e. there j (omega arith) (equal_by column j e)))
  where
    there : (j : ℕ) → j < n → column ≡ j → tightened (get_or (listed t 0 n) column no_ends) second bound ≡ tightened (t j) second bound
    there j l e =
        let same : 0 + j ≡ j = omega arith in
        ap (λ e. tightened e second bound) (ap (λ i. get_or (listed t 0 n) i no_ends) e ∙ listed_at t 0 n j no_ends l ∙ ap t same)

one_more : (hs : List Half) (i : ℕ) (d : Half) → i < length hs → reverse (take (i + 1) hs) ≡ get_or hs i d ∷ reverse (take i hs)
one_more hs i d l = ap reverse (take_more hs i d l) ∙ reverse-append (take i hs) (get_or hs i d ∷ [])

pub tris_more : (hs : List Half) (i n : ℕ) (d : Half) (before now : List Tri) → i < length hs → now ≡ tris_after (get_or hs i d).split (get_or hs i d).second before → before ≡ listed (tris_on (reverse (take i hs))) 0 n
    → now ≡ listed (tris_on (reverse (take (i + 1) hs))) 0 n
tris_more hs i n d before now l f g =
    let h = get_or hs i d in
    f ∙ ap (tris_after h.split h.second) g ∙ marked h.split h.second (tris_on (reverse (take i hs))) n ∙ ap (λ p. listed (tris_on p) 0 n) (sym (one_more hs i d l))

pub ends_more : (hs : List Half) (i n : ℕ) (d : Half) (before now : List Ends) → i < length hs → now ≡ narrowed (get_or hs i d).split (get_or hs i d).second before → before ≡ listed (ends_on (reverse (take i hs))) 0 n
    → now ≡ listed (ends_on (reverse (take (i + 1) hs))) 0 n
ends_more hs i n d before now l f g =
    let h = get_or hs i d in
    f ∙ ap (narrowed h.split h.second) g ∙ narrowed_is h.split h.second (ends_on (reverse (take i hs))) n ∙ ap (λ p. listed (ends_on p) 0 n) (sym (one_more hs i d l))

-- the ends are the tightest low, which exceeds a number, and the tightest high
raised : (bound : ℤ) (o : Option ℤ) → greatest_of bound o +ℤ pos 1 ≡ greatest_of (bound +ℤ pos 1) (above o)
raised bound None = refl
raised bound (Some y) = pulled (int_le bound y) bound y ∙ ap (λ b. if b then y +ℤ pos 1 else bound +ℤ pos 1) (sym (same_order bound y))
  where
    same_order : (a b : ℤ) → int_le (a +ℤ pos 1) (b +ℤ pos 1) ≡ int_le a b
    same_order a b = grind (arith, ints)

    pulled : (b : Bool) (bound y : ℤ) → (if b then y else bound) +ℤ pos 1 ≡ (if b then y +ℤ pos 1 else bound +ℤ pos 1)
    pulled true bound y = refl
    pulled false bound y = refl

low_by : (b second : Bool) (bound : ℤ) (e : Ends) → above (cond b (tightened e second bound) e).under ≡ cond b (above (tightened e second bound).under) (above e.under)
low_by true second bound e = refl
low_by false second bound e = refl

high_by : (b second : Bool) (bound : ℤ) (e : Ends) → (cond b (tightened e second bound) e).high ≡ cond b (tightened e second bound).high e.high
high_by true second bound e = refl
high_by false second bound e = refl

same_both : {A : Type 0} (b : Bool) (x : A) → cond b x x ≡ x
same_both true x = refl
same_both false x = refl

low_step : (s : Split) (second : Bool) (j : ℕ) (e : Ends) → above (ends_after s second j e).under ≡ low_after s second j (above e.under)
low_step (Truth id) second j e = refl
low_step (Int column bound) false j e = low_by (nat_eq column j) false bound e ∙ same_both (nat_eq column j) (above e.under)
low_step (Int column bound) true j e = low_by (nat_eq column j) true bound e ∙ ap (λ z. cond (nat_eq column j) (Some z) (above e.under)) (raised bound e.under)

high_step : (s : Split) (second : Bool) (j : ℕ) (e : Ends) → (ends_after s second j e).high ≡ high_after s second j e.high
high_step (Truth id) second j e = refl
high_step (Int column bound) true j e = high_by (nat_eq column j) true bound e ∙ same_both (nat_eq column j) e.high
high_step (Int column bound) false j e = high_by (nat_eq column j) false bound e

low_is : (p : List Half) (j : ℕ) → above (ends_on p j).under ≡ low_on p j
low_is [] j = refl
low_is (h ∷ p) j = low_step h.split h.second j (ends_on p j) ∙ ap (low_after h.split h.second j) (low_is p j)

high_is : (p : List Half) (j : ℕ) → (ends_on p j).high ≡ high_on p j
high_is [] j = refl
high_is (h ∷ p) j = high_step h.split h.second j (ends_on p j) ∙ ap (high_after h.split h.second j) (high_is p j)

rows_from : (vs : List VarValue) (j : ℕ) (p : List Half) → rows_of_ends (listed (ends_on p) j (length vs)) j ≡ rows_of_path vs j p
rows_from [] j p = refl
rows_from (v ∷ vs) j p =
    let next : suc j ≡ j + 1 = omega arith in
    ap (λ i. path_low (above (ends_on p j).under) j ++ (path_high (ends_on p j).high j ++ rows_of_ends (listed (ends_on p) i (length vs)) (j + 1))) next
    ∙ ap (λ low. path_low low j ++ (path_high (ends_on p j).high j ++ rows_of_ends (listed (ends_on p) (j + 1) (length vs)) (j + 1))) (low_is p j)
    ∙ ap (λ high. path_low (low_on p j) j ++ (path_high high j ++ rows_of_ends (listed (ends_on p) (j + 1) (length vs)) (j + 1))) (high_is p j)
    ∙ ap (λ rows. path_low (low_on p j) j ++ (path_high (high_on p j) j ++ rows)) (rows_from vs (j + 1) p)

pub rows_of_table : (vs : List VarValue) (p : List Half) → rows_of_ends (listed (ends_on p) 0 (length vs)) 0 ≡ rows_of_path vs 0 p
rows_of_table vs p = rows_from vs 0 p

pub listed_length : {A : Type 0} (t : ℕ → A) (k n : ℕ) → length (listed t k n) ≡ n
listed_length t k zero = refl
listed_length t k (suc n) = ap suc (listed_length t (suc k) n)
