-- Propositions name only Booleans that are declared before their block ends.
use Rattle.std.proofs.Common.{◌≡◌, ℕ, suc, ◌+◌, true, ◌&&◌, List, [], ◌∷◌, ◌++◌, length, refl, ap, sym, ◌∙◌, arith, ◌==◌, append-nil}
use Rattle.std.proofs.lemmas.Bool.Decides.{nat_tests}
use Rattle.propositions.specs.Tree.{PropTree}
use Rattle.propositions.specs.Truth.{are_ids_below}
use Rattle.model_builder.specs.Building.{OpenBlock, closed_block}
use Rattle.model_tree.specs.Earlier.{declared_by_end, name_only_first, names_earlier, disjunctions_name_earlier, disjuncts_name_earlier}
use Rattle.model_builder.specs.Nesting.{closed_disjunct}
use Rattle.model_tree.specs.PropLimits.{is_prop_sound, has_small_numbers, is_shallow_prop, has_fair_lists}
use Rattle.model_tree.specs.Sound.{are_props_sound, are_last_of}
use Rattle.model_tree.specs.Tree.{DisjunctHead, below_disjunctions}
use Rattle.model_tree.specs.View.{DisjunctTree, DisjunctionTree, disjuncts, disjunctions}
use Rattle.model_tree.proofs.Bools.{both, and_true}

-- one more disjunction, and one more disjunct
pub earlier-pushed : (ds : List DisjunctionTree) (d : DisjunctionTree) → disjunctions_name_earlier (disjunctions ds) ≡ true → disjuncts_name_earlier d.1 ≡ true
    → disjunctions_name_earlier (disjunctions (ds ++ d ∷ [])) ≡ true
earlier-pushed [] d h k = and_true (disjuncts_name_earlier d.1) true k refl
earlier-pushed (x ∷ xs) d h k =
    let p = both (disjuncts_name_earlier x.1) (disjunctions_name_earlier (disjunctions xs)) h in
    and_true (disjuncts_name_earlier x.1) (disjunctions_name_earlier (disjunctions (xs ++ d ∷ []))) p.0 (earlier-pushed xs d p.1 k)

pub within_earlier-pushed : (js : List DisjunctTree) (j : DisjunctTree) → disjuncts_name_earlier (disjuncts js) ≡ true → names_earlier (declared_by_end j.0 j.1) j.1 ≡ true
    → disjuncts_name_earlier (disjuncts (js ++ j ∷ [])) ≡ true
within_earlier-pushed [] j h k = and_true (names_earlier (declared_by_end j.0 j.1) j.1) true k refl
within_earlier-pushed (x ∷ xs) j h k =
    let p = both (names_earlier (declared_by_end x.0 x.1) x.1) (disjuncts_name_earlier (disjuncts xs)) h in
    and_true (names_earlier (declared_by_end x.0 x.1) x.1) (disjuncts_name_earlier (disjuncts (xs ++ j ∷ []))) p.0 (within_earlier-pushed xs j p.1 k)

-- sound propositions name only Booleans that there are
pub sound_names : (m : ℕ) (props : List (PropTree × ℕ)) → are_props_sound m props ≡ true → name_only_first m props ≡ true
sound_names m [] h = refl
sound_names m (q ∷ qs) h =
    let p = both (is_prop_sound m q.0) (are_props_sound m qs) h in
    let r = both (are_ids_below m q.0) (has_small_numbers q.0 && (is_shallow_prop q.0 && has_fair_lists q.0)) p.0 in
    and_true (are_ids_below m q.0) (name_only_first m qs) r.0 (sound_names m qs p.1)

-- the last indicators, of which this is the first, are the last Booleans
last_after : (m : ℕ) (xs ys : List DisjunctHead) → are_last_of m (xs ++ ys) ≡ true → are_last_of m ys ≡ true
last_after m [] ys h = h
last_after m (x ∷ xs) ys h = last_after m xs ys (both (x.indicator + suc (length (xs ++ ys)) == m) (are_last_of m (xs ++ ys)) h).1

counts_all : (m : ℕ) (head : DisjunctHead) (heads : List DisjunctHead) → are_last_of m (head ∷ heads) ≡ true → head.indicator + suc (length heads) ≡ m
counts_all m head heads h = same (head.indicator + suc (length heads)) m (both (head.indicator + suc (length heads) == m) (are_last_of m heads) h).0
  where
    same : (a b : ℕ) → (a == b) ≡ true → a ≡ b
    same a b e = grind (arith, nat_tests)

-- where a block ends as many Booleans are declared as there are
pub ends_at : (m : ℕ) (inner : OpenBlock) (before : List DisjunctHead)
    → are_last_of m (before ++ (((record { indicator = inner.indicator; mark = inner.mark }) ∷ below_disjunctions (disjunctions inner.closed)) ++ [])) ≡ true
    → declared_by_end (closed_disjunct inner).0 (closed_block inner) ≡ m
ends_at m inner before h =
    let head : DisjunctHead = record { indicator = inner.indicator; mark = inner.mark } in
    let heads = below_disjunctions (disjunctions inner.closed) in
    counts_all m head heads (ap (are_last_of m) (sym (append-nil (head ∷ heads))) ∙ last_after m before ((head ∷ heads) ++ []) h)

-- a block that ends names only Booleans declared so far
pub block_earlier : (m n : ℕ) (inner : OpenBlock) → n ≡ m → name_only_first m inner.props ≡ true → disjunctions_name_earlier (disjunctions inner.closed) ≡ true → names_earlier n (closed_block inner) ≡ true
block_earlier m n inner e named h =
    ap (λ k. names_earlier k (closed_block inner)) e ∙ and_true (name_only_first m inner.props) (disjunctions_name_earlier (disjunctions inner.closed)) named h
