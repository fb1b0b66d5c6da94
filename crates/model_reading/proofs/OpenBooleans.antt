-- The least open Boolean.
use Rattle.std.proofs.Common.{◌≡◌, ◌⊎◌, inl, inr, ◌<◌, ◌≤◌, ◌-◌, ℕ, zero, suc, ◌+◌, Bool, true, false, ◌||◌, List, [], ◌∷◌, length, reverse, Option, None, Some, nat_eq, if◌then◌else◌, refl, sym, ◌∙◌, ap, arith}
use Rattle.std.specs.List.{list_any}
use Rattle.gdp_tables.specs.declared.tri.Tri.{Tri}
use Rattle.gdp_tables.specs.declared.tri.Tri.TheVariants.{Open}
use Rattle.propositions.specs.Reading.{is_open}
use Rattle.proof_tree.specs.declared.path.Half.{Half}
use Rattle.proof_tree.specs.declared.path.Split.{Split}
use Rattle.proof_tree.specs.declared.path.Split.TheVariants.{Int, Truth}
use Rattle.model_tree.specs.Values.{ModelTree}
use Rattle.model_forces.specs.Paths.{tri_of_half, tri_after, tris_on, tris_from, tris_at}
use Rattle.model_forces.proofs.OnPath.{at_below}
use Rattle.model_forces.proofs.Reversed.{from_root}
use Rattle.model_reading.specs.Reading.{first_open, least_open}
use Rattle.model_reading.specs.Passing.{is_on, names}

open_same : (t u : ℕ → Tri) (k n : ℕ) → ((i : ℕ) → i < k + n → t i ≡ u i) → first_open t k n ≡ first_open u k n
open_same t u k zero h = refl
open_same t u k (suc n) h = rw (h k (omega arith), open_same t u (suc k) n (λ i l. h i (omega arith))) refl

pub open_at : (m : ModelTree) (path : List Half) → first_open (tris_on path) 0 (length m.booleans) ≡ least_open m path
open_at m path = open_same (tris_on path) (tris_at m path) 0 (length m.booleans) (λ i l. sym (at_below m path i (omega arith)))

-- a Boolean that a half names is known
half_known : (second : Bool) → is_open (tri_of_half second) ≡ false
half_known false = refl
half_known true = refl

after_by : (b second : Bool) (before : Tri) → (b ≡ true) ⊎ (is_open before ≡ false) → is_open (if b then tri_of_half second else before) ≡ false
after_by true second before h = half_known second
after_by false second before (inl e) = cc
after_by false second before (inr e) = e

after_known : (s : Split) (second : Bool) (k : ℕ) (before : Tri) → (is_on k s ≡ true) ⊎ (is_open before ≡ false) → is_open (tri_after s second k before) ≡ false
after_known (Int column bound) second k before (inl e) = cc
after_known (Int column bound) second k before (inr e) = e
after_known (Truth id) second k before h = after_by (nat_eq id k) second before h

or_cases : (a b : Bool) → (a || b) ≡ true → (a ≡ true) ⊎ (b ≡ true)
or_cases true b h = inl refl
or_cases false b h = inr h

by_case : {A B C : Type 0} → (A → C) → (B → C) → A ⊎ B → C
by_case f g (inl a) = f a
by_case f g (inr b) = g b

from_known : (hs : List Half) (k : ℕ) (before : Tri) → (list_any (names k) hs ≡ true) ⊎ (is_open before ≡ false) → is_open (tris_from before hs k) ≡ false
from_known [] k before (inl e) = cc
from_known [] k before (inr e) = e
from_known (h ∷ hs) k before (inr e) = from_known hs k (tri_after h.split h.second k before) (inr (after_known h.split h.second k before (inr e)))
from_known (h ∷ hs) k before (inl e) =
    by_case (λ f. from_known hs k (tri_after h.split h.second k before) (inr (after_known h.split h.second k before (inl f))))
    (λ f. from_known hs k (tri_after h.split h.second k before) (inl f)) (or_cases (names k h) (list_any (names k) hs) e)

pub named_known : (hs : List Half) (k : ℕ) → list_any (names k) hs ≡ true → is_open (tris_on (reverse hs) k) ≡ false
named_known hs k e = sym (ap is_open (from_root hs k)) ∙ from_known hs k Open (inl e)

-- Booleans that are known are passed
open_by : (b : Bool) (k : ℕ) (o : Option ℕ) → b ≡ false → (if b then Some k else o) ≡ o
open_by true k o e = let x : true ≡ false = e in cc
open_by false k o e = refl

pub open_step : (t : ℕ → Tri) (k count : ℕ) → k < count → is_open (t k) ≡ false → first_open t k (count - k) ≡ first_open t (k + 1) (count - (k + 1))
open_step t k count l e =
    let size : count - k ≡ suc (count - (k + 1)) = omega arith in
    let next : suc k ≡ k + 1 = omega arith in
    ap (first_open t k) size ∙ open_by (is_open (t k)) k (first_open t (suc k) (count - (k + 1))) e ∙ ap (λ i. first_open t i (count - (k + 1))) next

open_many : (t : ℕ → Tri) (k more count : ℕ) → k + more ≤ count → ((j : ℕ) → k ≤ j → j < k + more → is_open (t j) ≡ false) → first_open t k (count - k) ≡ first_open t (k + more) (count - (k + more))
open_many t k zero count l h = let same : k ≡ k + 0 = omega arith in ap (λ i. first_open t i (count - i)) same
open_many t k (suc more) count l h =
    let same : k + 1 + more ≡ k + suc more = omega arith in
    open_step t k count (omega arith) (h k (omega arith) (omega arith))
    ∙ open_many t (k + 1) more count (omega arith) (λ j a b. h j (omega arith) (omega arith))
    ∙ ap (λ i. first_open t i (count - i)) same

pub open_past : (hs : List Half) (k next count : ℕ) → k < count → is_open (tris_on (reverse hs) k) ≡ false → k + 1 ≤ next → next ≤ count → ((j : ℕ) → k + 1 ≤ j → j < next → list_any (names j) hs ≡ true)
    → first_open (tris_on (reverse hs)) k (count - k) ≡ first_open (tris_on (reverse hs)) next (count - next)
open_past hs k next count l e a b h =
    let same : k + 1 + (next - (k + 1)) ≡ next = omega arith in
    open_step (tris_on (reverse hs)) k count l e
    ∙ open_many (tris_on (reverse hs)) (k + 1) (next - (k + 1)) count (omega arith) (λ j c d. named_known hs j (h j c (omega arith)))
    ∙ ap (λ i. first_open (tris_on (reverse hs)) i (count - i)) same

-- past the last there is none, and an open one is the first
pub none_left : (t : ℕ → Tri) (k count : ℕ) → count ≤ k → None ≡ first_open t k (count - k)
none_left t k count l = let none : count - k ≡ 0 = omega arith in sym (ap (first_open t k) none)

open_now : (b : Bool) (k : ℕ) (o : Option ℕ) → b ≡ true → Some k ≡ (if b then Some k else o)
open_now true k o e = refl
open_now false k o e = cc

pub open_here : (t : ℕ → Tri) (k count : ℕ) → k < count → is_open (t k) ≡ true → Some k ≡ first_open t k (count - k)
open_here t k count l e =
    let size : count - k ≡ suc (count - (k + 1)) = omega arith in
    open_now (is_open (t k)) k (first_open t (suc k) (count - (k + 1))) e ∙ sym (ap (first_open t k) size)
