-- Ids that are put into a set one by one.
use Rattle.std.proofs.Common.{◌≡◌, ℕ, ◌+◌, ◌<◌, Bool, true, false, cond, ◌||◌, List, ◌∷◌, drop, length, get_or, refl, sym, ap, ◌∙◌, arith, nat_lt, ◌==◌, add-one, drop-cons, ℤ, pos, slice_index_or}
use Rattle.std.proofs.lemmas.Bool.Decides.{nat_tests}
use Rattle.std.specs.BTreeSet.{BTreeSet, contains, Updates}
use Rattle.std.specs.Ordering.{is_eq, nat_cmp}
use Rattle.lp_rows.specs.Rows.{RowValue}
use Rattle.lp_rows.proofs.Steps.{from_place}
use Rattle.model_tree.specs.declared.tree.Disjunct.{Disjunct}
use Rattle.model_tree.specs.declared.tree.Disjunction.{Disjunction}
use Rattle.model_items.specs.Occurs.{occurs_in_rows, occurs_in_block, occurs_below, occurs_within}
use Rattle.model_items.specs.steps.Adding.{Adds}
use Rattle.model_tree.specs.Scaling.{has_id}
use Rattle.model_tree.specs.View.{disjunct_of, disjunction_of, disjuncts_of, disjunctions_of}

or_step : (n b t r total : Bool) → n ≡ (b || t) → (b || (t || r)) ≡ total → (n || r) ≡ total
or_step n true t r total e h = rw e h
or_step n false t r total e h = rw e h

or_two : (n b a x y : Bool) → n ≡ (b || y) → b ≡ (a || x) → n ≡ (a || (x || y))
or_two n b true x y e f = e ∙ ap (λ z. z || y) f
or_two n b false x y e f = e ∙ ap (λ z. z || y) f

-- a set with what two tests pass, one after the other
pub both_added : (f g : ℕ → Bool) (before between now : BTreeSet ℕ) → Adds f before between → Adds g between now → (id : ℕ) → contains nat_cmp now id ≡ (contains nat_cmp before id || (f id || g id))
both_added f g before between now p q id = or_two (contains nat_cmp now id) (contains nat_cmp between id) (contains nat_cmp before id) (f id) (g id) (q id) (p id)

-- one id
same_key : (k id : ℕ) → is_eq (nat_cmp k id) ≡ (id == k)
same_key k id = by_tests (nat_lt k id) (k == id) refl refl
  where
    by_tests : (a b : Bool) → nat_lt k id ≡ a → (k == id) ≡ b → is_eq (nat_cmp k id) ≡ (id == k)
    by_tests true b e f = let g : (id == k) ≡ false = grind (arith, nat_tests) in rw (e, g)
    by_tests false true e f = let g : (id == k) ≡ true = grind (arith, nat_tests) in rw (e, f, g)
    by_tests false false e f = let g : (id == k) ≡ false = grind (arith, nat_tests) in rw (e, f, g)

or_of : (a b : Bool) → cond a true b ≡ (b || a)
or_of true true = refl
or_of true false = refl
or_of false true = refl
or_of false false = refl

id_added : (k : ℕ) (before now : BTreeSet ℕ) → Updates nat_cmp before now k true → Adds (λ id. id == k) before now
id_added k before now u id = u.0 id ∙ ap (λ b. cond b true (contains nat_cmp before id)) (same_key k id) ∙ or_of (id == k) (contains nat_cmp before id)

pub term_added : (ts : List (ℕ × ℤ)) (i : ℕ) (start before now : BTreeSet ℕ) → i < length ts → Updates nat_cmp before now (slice_index_or ts i (0, pos 0)).0 true
    → ((id : ℕ) → (contains nat_cmp before id || has_id id (drop i ts)) ≡ (contains nat_cmp start id || has_id id ts))
    → (id : ℕ) → (contains nat_cmp now id || has_id id (drop (i + 1) ts)) ≡ (contains nat_cmp start id || has_id id ts)
term_added ts i start before now h u inv id =
    let t : ℕ × ℤ = slice_index_or ts i (0, pos 0) in
    or_step (contains nat_cmp now id) (contains nat_cmp before id) (id == t.0) (has_id id (drop (i + 1) ts)) (contains nat_cmp start id || has_id id ts)
    (id_added t.0 before now u id) (ap (λ (x : List (ℕ × ℤ)). contains nat_cmp before id || has_id id x) (sym (from_place ts i h)) ∙ inv id)

pub row_added : (rows : List (RowValue × ℕ)) (i : ℕ) (r : RowValue × ℕ) (start before now : BTreeSet ℕ) → i < length rows → r ≡ get_or rows i r → Adds (λ id. has_id id r.0.terms) before now
    → ((id : ℕ) → (contains nat_cmp before id || occurs_in_rows id (drop i rows)) ≡ (contains nat_cmp start id || occurs_in_rows id rows))
    → (id : ℕ) → (contains nat_cmp now id || occurs_in_rows id (drop (i + 1) rows)) ≡ (contains nat_cmp start id || occurs_in_rows id rows)
row_added rows i r start before now h e u inv id =
    let d : drop i rows ≡ r ∷ drop (i + 1) rows = rw (add-one, drop-cons rows i r, ← e) in
    or_step (contains nat_cmp now id) (contains nat_cmp before id) (has_id id r.0.terms) (occurs_in_rows id (drop (i + 1) rows)) (contains nat_cmp start id || occurs_in_rows id rows)
    (u id) (ap (λ (x : List (RowValue × ℕ)). contains nat_cmp before id || occurs_in_rows id x) (sym d) ∙ inv id)

pub disjunction_added : (ds : List Disjunction) (i : ℕ) (d : Disjunction) (start before now : BTreeSet ℕ) → i < length ds → d ≡ get_or ds i d → Adds (λ id. occurs_within id (disjunction_of d).1) before now
    → ((id : ℕ) → (contains nat_cmp before id || occurs_below id (disjunctions_of (drop i ds))) ≡ (contains nat_cmp start id || occurs_below id (disjunctions_of ds)))
    → (id : ℕ) → (contains nat_cmp now id || occurs_below id (disjunctions_of (drop (i + 1) ds))) ≡ (contains nat_cmp start id || occurs_below id (disjunctions_of ds))
disjunction_added ds i d start before now h e u inv id =
    let c : drop i ds ≡ d ∷ drop (i + 1) ds = rw (add-one, drop-cons ds i d, ← e) in
    or_step (contains nat_cmp now id) (contains nat_cmp before id) (occurs_within id (disjunction_of d).1) (occurs_below id (disjunctions_of (drop (i + 1) ds))) (contains nat_cmp start id || occurs_below id (disjunctions_of ds))
    (u id) (ap (λ (x : List Disjunction). contains nat_cmp before id || occurs_below id (disjunctions_of x)) (sym c) ∙ inv id)

pub disjunct_added : (js : List Disjunct) (i : ℕ) (j : Disjunct) (start before now : BTreeSet ℕ) → i < length js → j ≡ get_or js i j → Adds (λ id. occurs_in_block id (disjunct_of j).1) before now
    → ((id : ℕ) → (contains nat_cmp before id || occurs_within id (disjuncts_of (drop i js))) ≡ (contains nat_cmp start id || occurs_within id (disjuncts_of js)))
    → (id : ℕ) → (contains nat_cmp now id || occurs_within id (disjuncts_of (drop (i + 1) js))) ≡ (contains nat_cmp start id || occurs_within id (disjuncts_of js))
disjunct_added js i j start before now h e u inv id =
    let c : drop i js ≡ j ∷ drop (i + 1) js = rw (add-one, drop-cons js i j, ← e) in
    or_step (contains nat_cmp now id) (contains nat_cmp before id) (occurs_in_block id (disjunct_of j).1) (occurs_within id (disjuncts_of (drop (i + 1) js))) (contains nat_cmp start id || occurs_within id (disjuncts_of js))
    (u id) (ap (λ (x : List Disjunct). contains nat_cmp before id || occurs_within id (disjuncts_of x)) (sym c) ∙ inv id)
