-- Frames as lists of columns.
use Rattle.std.proofs.Common.{◌≡◌, ℕ, zero, suc, ◌+◌, ◌*◌, ◌<◌, ◌==◌, true, List, [], ◌∷◌, ◌++◌, length, get_or, refl, ap, sym, ◌∙◌, arith, inl, inr, ◌⊎◌}
use Rattle.std.proofs.Math.ListN.{get_or-append}
use Rattle.std.proofs.Math.Seq.{get_or-append_seam}
use Rattle.std.proofs.lemmas.List.{get_or-map, length-map}
use Rattle.std.proofs.lemmas.Bool.Decides.{nat_tests}
use Rattle.milps.proofs.Columned.{and_left, and_right}
use Rattle.model_tree.specs.declared.tree.Disjunct.{Disjunct}
use Rattle.block_tree.specs.Tree.{Disjuncts, disjunct, no_disjuncts}
use Rattle.block_tree.specs.View.{disjuncts_of}
use Rattle.bigm_rewrite.specs.Answers.{columns}
use Rattle.hull_rewrite.proofs.Ascending.{up_to_length}
use Rattle.hull_rewrite.specs.Copies.{place, up_to}
use Rattle.hull_rewrite.specs.Expanded.{AreSameBelow, are_framed, frames_from, listed_frame}

below_or_last : (j n : ℕ) → j < suc n → (j < n) ⊎ (j ≡ n)
below_or_last j n h = grind arith

up_to_by : (n j : ℕ) → (j < n → get_or (up_to n) j 0 ≡ j) → (j < n) ⊎ (j ≡ n) → get_or (up_to n ++ n ∷ []) j 0 ≡ j
up_to_by n j f (inl k) = let l : j < length (up_to n) = (let e = up_to_length n in omega arith) in get_or-append (up_to n) (n ∷ []) 0 j l ∙ f k
up_to_by n j f (inr e) = ap (λ i. get_or (up_to n ++ n ∷ []) i 0) (e ∙ sym (up_to_length n)) ∙ get_or-append_seam (up_to n) n [] 0 ∙ sym e

up_to_at : (n j : ℕ) → j < n → get_or (up_to n) j 0 ≡ j
up_to_at zero j h = absurd (omega arith)
up_to_at (suc n) j h = up_to_by n j (up_to_at n j) (below_or_last j n h)

-- the columns of a frame that is listed
pub listed_columns : (n : ℕ) (f : ℕ → ℕ) → AreSameBelow n f (columns (listed_frame n f))
listed_columns n f = record { same = λ j h. let l : j < length (up_to n) = (let e = up_to_length n in omega arith) in sym (get_or-map f (up_to n) j 0 0 l ∙ ap f (up_to_at n j h)) }

pub listed_length : (n : ℕ) (f : ℕ → ℕ) → length (listed_frame n f) ≡ n
listed_length n f = simp length-map (up_to_length n)

same_length : (m n : ℕ) → m ≡ n → (m == n) ≡ true
same_length m n e = grind (arith, nat_tests)

pub frames_framed : (n : ℕ) (vs : List ℕ) (i : ℕ) (js : Disjuncts) → are_framed n (frames_from n vs i js) ≡ true
frames_framed n vs i no_disjuncts = refl
frames_framed n vs i (disjunct head b js) = rw (same_length (length (listed_frame n (place vs i))) n (listed_length n (place vs i))) (frames_framed n vs (i + length vs) js)

pub framed_at : (n : ℕ) (fs : List (List ℕ)) (k : ℕ) → are_framed n fs ≡ true → k < length fs → length (get_or fs k []) ≡ n
framed_at n [] k a h = absurd (omega arith)
framed_at n (f ∷ fs) zero a h = let e = and_left (length f == n) (are_framed n fs) a in grind (arith, nat_tests)
framed_at n (f ∷ fs) (suc k) a h = framed_at n fs k (and_right (length f == n) (are_framed n fs) a) (omega arith)

pub frames_length : (n : ℕ) (vs : List ℕ) (i : ℕ) (ds : List Disjunct) → length (frames_from n vs i (disjuncts_of ds)) ≡ length ds
frames_length n vs i [] = refl
frames_length n vs i (d ∷ ds) = ap suc (frames_length n vs (i + length vs) ds)

pub frame_at : (n : ℕ) (vs : List ℕ) (i : ℕ) (ds : List Disjunct) (k : ℕ) → k < length ds → get_or (frames_from n vs i (disjuncts_of ds)) k [] ≡ listed_frame n (place vs (i + length vs * k))
frame_at n vs i [] k h = absurd (omega arith)
frame_at n vs i (d ∷ ds) zero h = ap (λ j. listed_frame n (place vs j)) (omega arith)
frame_at n vs i (d ∷ ds) (suc k) h = frame_at n vs (i + length vs) ds k (omega arith) ∙ ap (λ j. listed_frame n (place vs j)) (grind arith)
