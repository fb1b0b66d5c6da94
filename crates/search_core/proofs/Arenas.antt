-- What a write to an arena makes of its draft.
use Rattle.std.proofs.Common.{◌≡◌, ◌≢◌, ◌<◌, ◌≤◌, ℕ, ◌+◌, ◌-◌, append_assoc, true, false, List, [], ◌∷◌, ◌++◌, suc, zero, refl, sym, ap, ◌∙◌, arith, subst, length, get_or, set, nat_eq, ⊎_elim, get_or-set_same, get_or-set_other, length-set, length-append}
use Rattle.std.specs.Prelude.{slice_get, Some}
use Rattle.std.proofs.lemmas.List.{get_or_past}
use Rattle.std.proofs.lemmas.Bool.{cases_eq}
use Rattle.std.proofs.lemmas.Bool.Decides.{nat_tests}
use Rattle.proof_tree.specs.declared.path.Split.{Split}
use Rattle.search_core.specs.declared.arena.Slot.{Slot}
use Rattle.search_core.specs.declared.arena.Slot.TheVariants.{Open, Leaf, Fork}
use Rattle.proof_tree.specs.Tree.{preorder, leaf_of}
use Rattle.search_core.specs.declared.arena.Leaf as leaves
use Rattle.proof_tree.specs.declared.proof.Node.{Node}
use Rattle.proof_tree.specs.declared.proof.Node.TheVariants.{Split as fork_of, Refuted}
use Rattle.search_rules.specs.Machine.{Draft, open_node, leaf_node, fork_node, put, tree_of}
use Rattle.search_core.specs.Arena.{closure_of, draft_at, grown, IsArena, draft_of, StaysOpen}

-- where only the open slot n differs, the draft differs by what stands below n
record Differs (old new : List Slot) (n : ℕ) (below : Draft) : Type 0 where
  longer : length old ≤ length new
  same : (k : ℕ) → k < length old → k ≢ n → get_or new k Open ≡ get_or old k Open
  was : get_or old n Open ≡ Open
  now : (f : ℕ) → draft_at (suc f) new n ≡ below

slot_differs : (n : ℕ) (below : Draft) (to from : ℕ → Draft) (top k : ℕ) → k ≢ n → ((j : ℕ) → k < j → j < top → to j ≡ put n below (from j))
    → (s : Slot) → ((t : Split) (j : ℕ) → s ≡ Fork t j → (k < j) × (j + 1 < top)) → grown to k s ≡ put n below (grown from k s)
slot_differs n below to from top k ne go Open w = let b : nat_eq k n ≡ false = grind (arith, nat_tests) in rw b refl
slot_differs n below to from top k ne go (Leaf l) w = refl
slot_differs n below to from top k ne go (Fork s j) w =
    let o = w s j refl in
    let l = go j (omega (arith, o.0, o.1)) (omega (arith, o.0, o.1)) in
    let r = go (j + 1) (omega (arith, o.0, o.1)) (omega (arith, o.0, o.1)) in
    rw (l, r) refl

draft_differs : (old new : List Slot) (n : ℕ) (below : Draft) → IsArena old → Differs old new n below → (f g k : ℕ) → k < length old → length old ≤ k + f → length new ≤ k + g → draft_at g new k ≡ put n below (draft_at f old k)
draft_differs old new n below a d zero g k i p q = absurd (omega arith)
draft_differs old new n below a d (suc f) zero k i p q = absurd (let l = d.longer in omega arith)
draft_differs old new n below a d (suc f) (suc g) k i p q = ⊎_elim
    (λ (e : k ≡ n).
    let b : nat_eq n n ≡ true = grind (arith, nat_tests) in
    let w : draft_at (suc g) new k ≡ below = subst (λ x. draft_at (suc g) new x ≡ below) (sym e) (d.now g) in
    w ∙ rw (e, d.was, b) refl)
    (λ (ne : k ≡ n → ⊥).
    rw (d.same k i ne) (slot_differs n below (draft_at g new) (draft_at f old) (length old) k ne
    (λ j l m. draft_differs old new n below a d f g j m (omega arith) (omega arith))
    (get_or old k Open) (λ t j e. a k j t e)))
    (cases_eq k n)

get_is : (ss : List Slot) (n : ℕ) (x : Slot) → slice_get ss n ≡ Some x → get_or ss n Open ≡ x
get_is [] n x h = absurd cc
get_is (s ∷ ss) zero x h = cc
get_is (s ∷ ss) (suc n) x h = get_is ss n x h

pub closed_draft : (ss : List Slot) (n : ℕ) (l : leaves.Leaf) → IsArena ss → n < length ss → slice_get ss n ≡ Some Open → draft_of (set ss n (Leaf l)) ≡ put n (leaf_node (closure_of l)) (draft_of ss)
closed_draft ss n l a i o = draft_differs ss (set ss n (Leaf l)) n (leaf_node (closure_of l)) a
    (record {
      longer = omega (arith, length-set ss n (Leaf l));
      same = λ k p ne. get_or-set_other ss n k (Leaf l) Open ne;
      was = get_is ss n Open o;
      now = λ f. rw (get_or-set_same ss n (Leaf l) Open i) refl;
    })
    (length ss) (length (set ss n (Leaf l))) 0 (omega arith) (omega arith) (omega arith)

pub closed_arena : (ss : List Slot) (n : ℕ) (l : leaves.Leaf) → IsArena ss → n < length ss → IsArena (set ss n (Leaf l))
closed_arena ss n l a i k j s e = ⊎_elim
    (λ (q : k ≡ n). absurd (let x : get_or (set ss n (Leaf l)) k Open ≡ Leaf l = rw (q, get_or-set_same ss n (Leaf l) Open i) refl in cc))
    (λ (ne : k ≡ n → ⊥). let x : get_or (set ss n (Leaf l)) k Open ≡ get_or ss k Open = get_or-set_other ss n k (Leaf l) Open ne in
    let y = a k j s (sym x ∙ e) in (y.0, omega (arith, y.1, length-set ss n (Leaf l))))
    (cases_eq k n)

parted_get_same : (ss : List Slot) (n : ℕ) (s : Split) → n < length ss → get_or (set (ss ++ Open ∷ Open ∷ []) n (Fork s (length ss))) n Open ≡ Fork s (length ss)
parted_get_same ss n s i = get_or-set_same (ss ++ Open ∷ Open ∷ []) n (Fork s (length ss)) Open (omega (arith, length-append ss (Open ∷ Open ∷ [])))

open_tail : (ss : List Slot) (k : ℕ) → get_or (ss ++ Open ∷ Open ∷ []) k Open ≡ get_or ss k Open
open_tail [] zero = refl
open_tail [] (suc zero) = refl
open_tail [] (suc (suc k)) = refl
open_tail (s ∷ ss) zero = refl
open_tail (s ∷ ss) (suc k) = open_tail ss k

parted_get : (ss : List Slot) (n : ℕ) (s : Split) (k : ℕ) → k ≢ n → get_or (set (ss ++ Open ∷ Open ∷ []) n (Fork s (length ss))) k Open ≡ get_or ss k Open
parted_get ss n s k ne = get_or-set_other (ss ++ Open ∷ Open ∷ []) n k (Fork s (length ss)) Open ne ∙ open_tail ss k

open_leaf : (f : ℕ) (ss : List Slot) (k : ℕ) → get_or ss k Open ≡ Open → draft_at f ss k ≡ open_node k
open_leaf zero ss k e = refl
open_leaf (suc f) ss k e = rw e refl

pub parted_draft : (ss : List Slot) (n : ℕ) (s : Split) → IsArena ss → n < length ss → slice_get ss n ≡ Some Open
    → draft_of (set (ss ++ Open ∷ Open ∷ []) n (Fork s (length ss))) ≡ put n (fork_node s (open_node (length ss)) (open_node (length ss + 1))) (draft_of ss)
parted_draft ss n s a i o =
    let new = set (ss ++ Open ∷ Open ∷ []) n (Fork s (length ss)) in
    let past : (k : ℕ) → length ss ≤ k → get_or new k Open ≡ Open = λ k p. parted_get ss n s k (λ e. omega arith) ∙ get_or_past ss k Open p in
    draft_differs ss new n (fork_node s (open_node (length ss)) (open_node (length ss + 1))) a
    (record {
      longer = omega (arith, length-set (ss ++ Open ∷ Open ∷ []) n (Fork s (length ss)), length-append ss (Open ∷ Open ∷ []));
      same = λ k p ne. parted_get ss n s k ne;
      was = get_is ss n Open o;
      now = λ f. rw (parted_get_same ss n s i, open_leaf f new (length ss) (past (length ss) (omega arith)), open_leaf f new (length ss + 1) (past (length ss + 1) (omega arith))) refl;
    })
    (length ss) (length new) 0 (omega arith) (omega arith) (omega arith)

pub parted_arena : (ss : List Slot) (n : ℕ) (s : Split) → IsArena ss → n < length ss → IsArena (set (ss ++ Open ∷ Open ∷ []) n (Fork s (length ss)))
parted_arena ss n s a i k j t e = ⊎_elim
    (λ (q : k ≡ n).
    let x : Fork s (length ss) ≡ Fork t j = sym (parted_get_same ss n s i) ∙ subst (λ y. get_or (set (ss ++ Open ∷ Open ∷ []) n (Fork s (length ss))) y Open ≡ Fork t j) q e in
    let y : length ss ≡ j = cc in
    (omega arith, omega (arith, length-set (ss ++ Open ∷ Open ∷ []) n (Fork s (length ss)), length-append ss (Open ∷ Open ∷ []))))
    (λ (ne : k ≡ n → ⊥).
    let y = a k j t (sym (parted_get ss n s k ne) ∙ e) in
    (y.0, omega (arith, y.1, length-set (ss ++ Open ∷ Open ∷ []) n (Fork s (length ss)), length-append ss (Open ∷ Open ∷ []))))
    (cases_eq k n)

get_set_other : (ss : List Slot) (n k : ℕ) (x : Slot) → k ≢ n → slice_get (set ss n x) k ≡ slice_get ss k
get_set_other [] n k x ne = refl
get_set_other (s ∷ ss) zero zero x ne = absurd (ne refl)
get_set_other (s ∷ ss) zero (suc k) x ne = refl
get_set_other (s ∷ ss) (suc n) zero x ne = refl
get_set_other (s ∷ ss) (suc n) (suc k) x ne = get_set_other ss n k x (λ e. ne (ap suc e))

get_front : (ss ts : List Slot) (k : ℕ) (x : Slot) → slice_get ss k ≡ Some x → slice_get (ss ++ ts) k ≡ Some x
get_front [] ts k x e = absurd cc
get_front (s ∷ ss) ts zero x e = e
get_front (s ∷ ss) ts (suc k) x e = get_front ss ts k x e

get_first : (ss ts : List Slot) (x : Slot) → slice_get (ss ++ x ∷ ts) (length ss) ≡ Some x
get_first [] ts x = refl
get_first (s ∷ ss) ts x = get_first ss ts x

get_second : (ss ts : List Slot) (x y : Slot) → slice_get (ss ++ x ∷ y ∷ ts) (length ss + 1) ≡ Some y
get_second [] ts x y = refl
get_second (s ∷ ss) ts x y = let e : suc (length ss) + 1 ≡ suc (length ss + 1) = omega arith in rw e (get_second ss ts x y)

pub closed_others : (ss : List Slot) (n : ℕ) (l : leaves.Leaf) → StaysOpen n ss (set ss n (Leaf l))
closed_others ss n l k ne e = get_set_other ss n k (Leaf l) ne ∙ e

pub parted_others : (ss : List Slot) (n : ℕ) (s : Split) → StaysOpen n ss (set (ss ++ Open ∷ Open ∷ []) n (Fork s (length ss)))
parted_others ss n s k ne e = get_set_other (ss ++ Open ∷ Open ∷ []) n k (Fork s (length ss)) ne ∙ get_front ss (Open ∷ Open ∷ []) k Open e

pub parted_first : (ss : List Slot) (n : ℕ) (s : Split) → n < length ss → slice_get (set (ss ++ Open ∷ Open ∷ []) n (Fork s (length ss))) (length ss) ≡ Some Open
parted_first ss n s i = get_set_other (ss ++ Open ∷ Open ∷ []) n (length ss) (Fork s (length ss)) (λ e. omega arith) ∙ get_first ss (Open ∷ []) Open

pub parted_second : (ss : List Slot) (n : ℕ) (s : Split) → n < length ss → slice_get (set (ss ++ Open ∷ Open ∷ []) n (Fork s (length ss))) (length ss + 1) ≡ Some Open
parted_second ss n s i = get_set_other (ss ++ Open ∷ Open ∷ []) n (length ss + 1) (Fork s (length ss)) (λ e. omega arith) ∙ get_second ss [] Open Open

pub got_below : (ss : List Slot) (k : ℕ) (x : Slot) → slice_get ss k ≡ Some x → k < length ss
got_below [] k x e = absurd cc
got_below (s ∷ ss) zero x e = omega arith
got_below (s ∷ ss) (suc k) x e = let i = got_below ss k x e in omega arith

-- deeper looks see no more
same_slot : (to from : ℕ → Draft) (top k : ℕ) → ((j : ℕ) → k < j → j < top → to j ≡ from j) → (s : Slot) → ((t : Split) (j : ℕ) → s ≡ Fork t j → (k < j) × (j + 1 < top)) → grown to k s ≡ grown from k s
same_slot to from top k go Open w = refl
same_slot to from top k go (Leaf l) w = refl
same_slot to from top k go (Fork s j) w =
    let o = w s j refl in
    let l = go j (omega (arith, o.0, o.1)) (omega (arith, o.0, o.1)) in
    let r = go (j + 1) (omega (arith, o.0, o.1)) (omega (arith, o.0, o.1)) in
    rw (l, r) refl

pub same_depth : (ss : List Slot) → IsArena ss → (f g k : ℕ) → k < length ss → length ss ≤ k + f → length ss ≤ k + g → draft_at f ss k ≡ draft_at g ss k
same_depth ss a zero g k i p q = absurd (omega arith)
same_depth ss a (suc f) zero k i p q = absurd (omega arith)
same_depth ss a (suc f) (suc g) k i p q = same_slot (draft_at f ss) (draft_at g ss) (length ss) k (λ j l m. same_depth ss a f g j m (omega arith) (omega arith)) (get_or ss k Open) (λ t j e. a k j t e)

-- what stands at a node, by what stands at its two nodes
pub draft_here : (ss : List Slot) → IsArena ss → (k : ℕ) → k < length ss → draft_at (length ss) ss k ≡ grown (draft_at (length ss) ss) k (get_or ss k Open)
draft_here ss a k i =
    let n = length ss - 1 in
    let e : length ss ≡ suc n = omega arith in
    same_depth ss a (length ss) (suc (length ss)) k i (omega arith) (omega arith)

-- the nodes that are still to come, from the top of the stack on
abbrev pub pending : List Slot → List ℕ → List Node
pending ss [] = []
pending ss (k ∷ ks) = preorder (tree_of (draft_at (length ss) ss k)) ++ pending ss ks

abbrev pub AreInside : List Slot → List ℕ → Type 0
AreInside ss [] = Unit {0}
AreInside ss (k ∷ ks) = (k < length ss) × AreInside ss ks

pub pending_leaf : (ss : List Slot) (k : ℕ) (ks : List ℕ) (l : leaves.Leaf) → IsArena ss → k < length ss → get_or ss k Open ≡ Leaf l → pending ss (k ∷ ks) ≡ leaf_of (closure_of l) ∷ pending ss ks
pending_leaf ss k ks l a i e = rw (draft_here ss a k i, e) refl

pub pending_open : (ss : List Slot) (k : ℕ) (ks : List ℕ) → IsArena ss → k < length ss → get_or ss k Open ≡ Open → pending ss (k ∷ ks) ≡ Refuted [] ∷ pending ss ks
pending_open ss k ks a i e = rw (draft_here ss a k i, e) refl

pub pending_fork : (ss : List Slot) (k : ℕ) (ks : List ℕ) (s : Split) (j : ℕ) → IsArena ss → k < length ss → get_or ss k Open ≡ Fork s j → pending ss (k ∷ ks) ≡ fork_of s ∷ pending ss (j ∷ (j + 1) ∷ ks)
pending_fork ss k ks s j a i e = rw (draft_here ss a k i, e) (ap (λ xs. fork_of s ∷ xs) (append_assoc (preorder (tree_of (draft_at (length ss) ss j))) (preorder (tree_of (draft_at (length ss) ss (j + 1)))) (pending ss ks)))

-- a fork takes its two nodes onto the stack
pub fork_inside : (ss : List Slot) (k : ℕ) (ks : List ℕ) (s : Split) (j : ℕ) → IsArena ss → AreInside ss (k ∷ ks) → get_or ss k Open ≡ Fork s j → AreInside ss (j ∷ (j + 1) ∷ ks)
fork_inside ss k ks s j a i e = let o = a k j s e in (omega (arith, o.1), (o.1, i.1))

pub fork_goes_on : (ss : List Slot) (k : ℕ) (ks : List ℕ) (s : Split) (j : ℕ) (done all : List Node) → IsArena ss → AreInside ss (k ∷ ks) → get_or ss k Open ≡ Fork s j → done ++ pending ss (k ∷ ks) ≡ all
    → (done ++ fork_of s ∷ []) ++ pending ss (j ∷ (j + 1) ∷ ks) ≡ all
fork_goes_on ss k ks s j done all a i e h = append_assoc done (fork_of s ∷ []) (pending ss (j ∷ (j + 1) ∷ ks)) ∙ ap (λ xs. done ++ xs) (sym (pending_fork ss k ks s j a i.0 e)) ∙ h

pub single_arena : IsArena (Open ∷ [])
single_arena zero j s e = absurd cc
single_arena (suc zero) j s e = absurd cc
single_arena (suc (suc n)) j s e = absurd cc

pub leaf_goes_on : (ss : List Slot) (k : ℕ) (ks : List ℕ) (l : leaves.Leaf) (node : Node) (done all : List Node) → IsArena ss → AreInside ss (k ∷ ks) → get_or ss k Open ≡ Leaf l → node ≡ leaf_of (closure_of l) → done ++ pending ss (k ∷ ks) ≡ all
    → (done ++ node ∷ []) ++ pending ss ks ≡ all
leaf_goes_on ss k ks l node done all a i e n h = rw n (append_assoc done (leaf_of (closure_of l) ∷ []) (pending ss ks) ∙ ap (λ xs. done ++ xs) (sym (pending_leaf ss k ks l a i.0 e)) ∙ h)

pub open_goes_on : (ss : List Slot) (k : ℕ) (ks : List ℕ) (done all : List Node) → IsArena ss → AreInside ss (k ∷ ks) → get_or ss k Open ≡ Open → done ++ pending ss (k ∷ ks) ≡ all
    → (done ++ Refuted [] ∷ []) ++ pending ss ks ≡ all
open_goes_on ss k ks done all a i e h = append_assoc done (Refuted [] ∷ []) (pending ss ks) ∙ ap (λ xs. done ++ xs) (sym (pending_open ss k ks a i.0 e)) ∙ h

pub shorter : (done all rest : List Node) (x : Node) → (done ++ x ∷ []) ++ rest ≡ all → (length all - length (done ++ x ∷ [])) < (length all - length done)
shorter done all rest x h =
    let e : length all ≡ length (done ++ x ∷ []) + length rest = rw (← h) (length-append (done ++ x ∷ []) rest) in
    let f : length (done ++ x ∷ []) ≡ length done + 1 = length-append done (x ∷ []) in
    omega arith

pub fork_bound : (ss : List Slot) (k j : ℕ) (s : Split) → IsArena ss → get_or ss k Open ≡ Fork s j → (j + 1) < length ss
fork_bound ss k j s a e = (a k j s e).1
