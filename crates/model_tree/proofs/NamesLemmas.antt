-- Names: the keys of a set and the bytes that they are, and one more that differs, among others.
use Rattle.std.proofs.Common.{◌≡◌, ℕ, Bool, true, false, ◌&&◌, ◌||◌, not, List, [], ◌∷◌, ◌++◌, map, refl, ap, ◌∙◌, arith, nat_eq, if◌then◌else◌}
use Rattle.std.proofs.lemmas.Bool.Decides.{nat_tests}
use Rattle.std.proofs.lemmas.List.{length-map, map-append}
use Rattle.std.specs.List.{list_any, prefix_len, position}
use Rattle.std.specs.Str.{bytes_eq}
use Rattle.model_tree.specs.Names.{has_name, is_name, are_names}
use Rattle.model_tree.proofs.Bools.{both, and_true, neither, not_true, is_not}

-- a test of the values is a test of what they are seen as
pub any_mapped : {K V : Type 0} (f : K → V) (test : V → Bool) (ks : List K) → list_any (λ k. test (f k)) ks ≡ list_any test (map f ks)
any_mapped f test [] = refl
any_mapped f test (k ∷ ks) = ap (λ b. test (f k) || b) (any_mapped f test ks)

pub prefix_mapped : {K V : Type 0} (f : K → V) (test : V → Bool) (ks : List K) → prefix_len (λ k. test (f k)) ks ≡ prefix_len test (map f ks)
prefix_mapped f test [] = refl
prefix_mapped f test (k ∷ ks) = rw (prefix_mapped f test ks)

pub position_mapped : {K V : Type 0} (f : K → V) (test : V → Bool) (ks : List K) → position (λ k. test (f k)) ks ≡ position test (map f ks)
position_mapped f test ks = rw (prefix_mapped f (λ v. not (test v)) ks, length-map ks f)

-- a new name goes last
pub pushed : {K : Type 0} (f : K → List ℕ) (name : List ℕ) (k : K) (ks after : List K) → f k ≡ name → has_name name (map f ks) ≡ false
    → after ≡ (if list_any (λ q. bytes_eq (f k) (f q)) ks then ks else ks ++ k ∷ [])
    → map f after ≡ map f ks ++ name ∷ []
pushed f name k ks after e absent h =
    let a : list_any (λ q. bytes_eq (f k) (f q)) ks ≡ false = any_mapped f (bytes_eq (f k)) ks ∙ rw e absent in
    let g : after ≡ ks ++ k ∷ [] = rw a at h in
    rw (g, map-append f ks (k ∷ []), e)

-- one more that differs, among others

bytes_eq_swap : (a b : List ℕ) → bytes_eq a b ≡ bytes_eq b a
bytes_eq_swap [] [] = refl
bytes_eq_swap [] (y ∷ ys) = refl
bytes_eq_swap (x ∷ xs) [] = refl
bytes_eq_swap (x ∷ xs) (y ∷ ys) = let e : nat_eq x y ≡ nat_eq y x = grind (arith, nat_tests) in rw (e, bytes_eq_swap xs ys)

has_middle : (n m : List ℕ) (xs ys : List (List ℕ)) → has_name n (xs ++ ys) ≡ false → bytes_eq n m ≡ false → has_name n (xs ++ m ∷ ys) ≡ false
has_middle n m [] ys h e = rw e h
has_middle n m (x ∷ xs) ys h e =
    let p = neither (bytes_eq n x) (has_name n (xs ++ ys)) h in rw p.0 (has_middle n m xs ys p.1 e)

pub has_append : (n : List ℕ) (xs ys : List (List ℕ)) → (has_name n xs || has_name n ys) ≡ has_name n (xs ++ ys)
has_append n [] ys = refl
has_append n (x ∷ xs) ys = or_assoc (bytes_eq n x) (has_name n xs) (has_name n ys) ∙ ap (λ b. bytes_eq n x || b) (has_append n xs ys)
  where
    or_assoc : (a b c : Bool) → ((a || b) || c) ≡ (a || (b || c))
    or_assoc true b c = refl
    or_assoc false b c = refl

pub names_middle : (n : List ℕ) (xs ys : List (List ℕ)) → is_name n ≡ true → has_name n (xs ++ ys) ≡ false → are_names (xs ++ ys) ≡ true → are_names (xs ++ n ∷ ys) ≡ true
names_middle n [] ys i h a =
    and_true (is_name n && not (has_name n ys)) (are_names ys) (and_true (is_name n) (not (has_name n ys)) i (is_not (has_name n ys) h)) a
names_middle n (x ∷ xs) ys i h a =
    let p = neither (bytes_eq n x) (has_name n (xs ++ ys)) h in
    let q = both (is_name x && not (has_name x (xs ++ ys))) (are_names (xs ++ ys)) a in
    let r = both (is_name x) (not (has_name x (xs ++ ys))) q.0 in
    let k = has_middle x n xs ys (not_true (has_name x (xs ++ ys)) r.1) (bytes_eq_swap x n ∙ p.0) in
    and_true (is_name x && not (has_name x (xs ++ n ∷ ys))) (are_names (xs ++ n ∷ ys))
    (and_true (is_name x) (not (has_name x (xs ++ n ∷ ys))) r.0 (is_not (has_name x (xs ++ n ∷ ys)) k))
    (names_middle n xs ys i p.1 q.1)
