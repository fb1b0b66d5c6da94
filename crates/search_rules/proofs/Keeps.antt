-- Every legal log keeps the search's invariant, so a complete one shows its claim.
use Rattle.std.proofs.Common.{◌≡◌, ◌≢◌, ◌<◌, ◌≤◌, ◌⊎◌, ℕ, ◌+◌, ℤ, Bool, true, false, List, [], ◌∷◌, ◌++◌, refl, sym, ap, ◌∙◌, arith, append_assoc, subst, Option, Some, None, Result, Ok, Err, ⊎_elim, inl, inr, nat_eq, cond}
use Rattle.std.proofs.lemmas.Bool.{cases_eq}
use Rattle.std.proofs.lemmas.Bool.Decides.{nat_tests}
use Rattle.fractions.specs.Fraction.{Fraction}
use Rattle.lp_rows.specs.declared.columns.WideAt.{WideAt}
use Rattle.exact_simplex.specs.declared.log.Event.{Event}
use Rattle.exact_simplex.specs.declared.log.Event.TheVariants.{OpenRoot, Open, Move}
use Rattle.exact_simplex.specs.declared.moves.Move as moves
use Rattle.exact_simplex.specs.declared.moves.Move.TheVariants as move
use Rattle.exact_simplex.specs.Table.{Table}
use Rattle.exact_simplex.specs.Bland.{bland_move}
use Rattle.proof_tree.specs.declared.path.Split.{Split}
use Rattle.proof_tree.specs.declared.path.Half.{Half}
use Rattle.proof_tree.specs.Paths.{first, second}
use Rattle.proof_tree.specs.Tree.{Closure, refuted, bounded, logic_false, ProofTree, leaf, fork}
use Rattle.settling.specs.declared.ending.Ending.{Ending}
use Rattle.settling.specs.declared.ending.Ending.TheVariants as ends
use Rattle.settling.specs.Settled.{IsSettled}
use Rattle.search_rules.specs.declared.waiting.Waiting.{Waiting}
use Rattle.search_rules.specs.declared.waiting.Best.{Best}
use Rattle.search_rules.specs.Machine.{Meaning, Draft, open_node, leaf_node, fork_node, Rest, Work, Stage, resting, working, stuck, ended, root, start, put, value_of, below, child, settled, site_of, Comes, Begins, same_opening, open_at, IsStep, IsLegal, IsLegalLog, IsComplete, tree_of}
use Rattle.search_rules.specs.Claims.{Candidate, found_at, AtLeast, IsLess, IsProper, Words, IsReached, Settling, by_item, by_tableau, AreSound, IsProof, IsBest, Shows}
use Rattle.search_rules.proofs.Moves.{moved_reached}

-- x is one of the halves
abbrev Among : Waiting → List Waiting → Type 0
Among x [] = ⊥
Among x (h ∷ hs) = (x ≡ h) ⊎ Among x hs

among_left : (x : Waiting) (xs ys : List Waiting) → Among x xs → Among x (xs ++ ys)
among_left x [] ys i = absurd i
among_left x (h ∷ hs) ys i = ⊎_elim (λ e. inl e) (λ j. inr (among_left x hs ys j)) i

among_right : (x : Waiting) (xs ys : List Waiting) → Among x ys → Among x (xs ++ ys)
among_right x [] ys i = i
among_right x (h ∷ hs) ys i = inr (among_right x hs ys i)

among_cases : (x : Waiting) (xs ys : List Waiting) → Among x (xs ++ ys) → Among x xs ⊎ Among x ys
among_cases x [] ys i = inr i
among_cases x (h ∷ hs) ys i = ⊎_elim (λ e. inl (inl e)) (λ j. ⊎_elim (λ k. inl (inr k)) (λ k. inr k) (among_cases x hs ys j)) i

-- each open node of the draft, at its path, meets R
abbrev Opens : (ℕ → List Half → Type 0) → List Half → Draft → Type 0
Opens R p (open_node n) = R n p
Opens R p (leaf_node c) = Unit {0}
Opens R p (fork_node s a b) = Opens R (first s ∷ p) a × Opens R (second s ∷ p) b

-- each settled node stands at its path
abbrev Fits : Words → Option Fraction → List Half → Draft → Type 0
Fits w b p (open_node n) = Unit {0}
Fits w b p (leaf_node c) = w.closes p c b
Fits w b p (fork_node s t u) = w.allows p s × Fits w b (first s ∷ p) t × Fits w b (second s ∷ p) u

put_opens : (R R' : ℕ → List Half → Type 0) (n : ℕ) (new : Draft) → ((q : List Half) → R n q → Opens R' q new) → ((k : ℕ) (q : List Half) → k ≢ n → R k q → R' k q)
    → (p : List Half) (t : Draft) → Opens R p t → Opens R' p (put n new t)
put_opens R R' n new here other p (open_node k) o = ⊎_elim
    (λ (e : k ≡ n). let b : nat_eq k n ≡ true = grind (arith, nat_tests) in rw b (here p (subst (λ j. R j p) e o)))
    (λ (ne : k ≡ n → ⊥). let b : nat_eq k n ≡ false = grind (arith, nat_tests) in rw b (other k p ne o))
    (cases_eq k n)
put_opens R R' n new here other p (leaf_node c) o = tt
put_opens R R' n new here other p (fork_node s a b) o = (put_opens R R' n new here other (first s ∷ p) a o.0, put_opens R R' n new here other (second s ∷ p) b o.1)

put_fits : (w : Words) (b : Option Fraction) (R : ℕ → List Half → Type 0) (n : ℕ) (new : Draft) → ((q : List Half) → R n q → Fits w b q new)
    → (p : List Half) (t : Draft) → Opens R p t → Fits w b p t → Fits w b p (put n new t)
put_fits w b R n new here p (open_node k) o f = ⊎_elim
    (λ (e : k ≡ n). let c : nat_eq k n ≡ true = grind (arith, nat_tests) in rw c (here p (subst (λ j. R j p) e o)))
    (λ (ne : k ≡ n → ⊥). let c : nat_eq k n ≡ false = grind (arith, nat_tests) in rw c tt)
    (cases_eq k n)
put_fits w b R n new here p (leaf_node c) o f = f
put_fits w b R n new here p (fork_node s t u) o f = (f.0, put_fits w b R n new here (first s ∷ p) t o.0 f.1, put_fits w b R n new here (second s ∷ p) u o.1 f.2)

-- a lesser level closes what was closed
fits_later : (w : Words) (m : Meaning) → AreSound w m → (b : Option Fraction) (n : Fraction) → IsLess w n b → (p : List Half) (t : Draft) → Fits w b p t → Fits w (Some n) p t
fits_later w m a b n less p (open_node k) f = tt
fits_later w m a b n less p (leaf_node c) f = a.later p c b n f less
fits_later w m a b n less p (fork_node s t u) f = (f.0, fits_later w m a b n less (first s ∷ p) t f.1, fits_later w m a b n less (second s ∷ p) u f.2)

-- some half waits with this number and path
record Waits (hs : List Waiting) (n : ℕ) (p : List Half) : Type 0 where
  half : Waiting
  among : Among half hs
  number : half.number ≡ n
  path : half.path ≡ p

-- the best point, if there is one, is a point of that level
abbrev IsFound : Words → Option Best → Type 0
IsFound w None = Unit {0}
IsFound w (Some b) = (w.holds [] (found_at b.at b.truths)) × (w.has_value (found_at b.at b.truths) b.value)

-- the invariant, for halves that wait in any order
record Keeps (w : Words) (hs : List Waiting) (made : ℕ) (draft : Draft) (best : Option Best) : Type 0 where
  opens : Opens (Waits hs) [] draft
  fits : Fits w (value_of best) [] draft
  ready : (h : Waiting) → Among h hs → w.ready h.path h.kept
  fresh : (h : Waiting) → Among h hs → h.number < made
  apart : (g h : Waiting) → Among g hs → Among h hs → g.number ≡ h.number → g ≡ h
  found : IsFound w best

on_root : (w : Words) (m : Meaning) → AreSound w m → (p : List Half) (x : Candidate) → w.holds p x → w.holds [] x
on_root w m a [] x h = h
on_root w m a (s ∷ p) x h = on_root w m a p x (a.above s p x h)

opens_more : (R R' : ℕ → List Half → Type 0) → ((k : ℕ) (q : List Half) → R k q → R' k q) → (p : List Half) (t : Draft) → Opens R p t → Opens R' p t
opens_more R R' f p (open_node k) o = f k p o
opens_more R R' f p (leaf_node c) o = tt
opens_more R R' f p (fork_node s a b) o = (opens_more R R' f (first s ∷ p) a o.0, opens_more R R' f (second s ∷ p) b o.1)

new_ready : (w : Words) (h : Waiting) (own : ℕ) (r : Rest) (s : Split) (ray : Option (List ℤ)) (g : Waiting) → w.ready (first s ∷ h.path) (below h.kept ray) → w.ready (second s ∷ h.path) (below h.kept ray)
    → Among g (child h own r s ray false ∷ child h own r s ray true ∷ []) → w.ready g.path g.kept
new_ready w h own r s ray g one two i = ⊎_elim
    (λ (e : g ≡ child h own r s ray false). subst (λ x. w.ready x.path x.kept) (sym e) one)
    (λ j. ⊎_elim
    (λ (e : g ≡ child h own r s ray true). subst (λ x. w.ready x.path x.kept) (sym e) two)
    (λ j'. absurd j')
    j)
    i

new_number : (h : Waiting) (own : ℕ) (r : Rest) (s : Split) (ray : Option (List ℤ)) (g : Waiting) → Among g (child h own r s ray false ∷ child h own r s ray true ∷ []) → (r.made ≤ g.number) × (g.number < r.made + 2)
new_number h own r s ray g i = ⊎_elim
    (λ (e : g ≡ child h own r s ray false). let n : g.number ≡ r.made = ap (λ x. x.number) e in (omega arith, omega arith))
    (λ j. ⊎_elim
    (λ (e : g ≡ child h own r s ray true). let n : g.number ≡ r.made + 1 = ap (λ x. x.number) e in (omega arith, omega arith))
    (λ j'. absurd j')
    j)
    i

new_apart : (h : Waiting) (own : ℕ) (r : Rest) (s : Split) (ray : Option (List ℤ)) (f g : Waiting) → Among f (child h own r s ray false ∷ child h own r s ray true ∷ []) → Among g (child h own r s ray false ∷ child h own r s ray true ∷ [])
    → f.number ≡ g.number → f ≡ g
new_apart h own r s ray f g i j e = ⊎_elim
    (λ (a : f ≡ child h own r s ray false). ⊎_elim
    (λ (b : g ≡ child h own r s ray false). a ∙ sym b)
    (λ j'. ⊎_elim
    (λ (b : g ≡ child h own r s ray true). absurd (let n : f.number ≡ r.made = ap (λ x. x.number) a in let o : g.number ≡ r.made + 1 = ap (λ x. x.number) b in omega arith))
    (λ z. absurd z) j')
    j)
    (λ i'. ⊎_elim
    (λ (a : f ≡ child h own r s ray true). ⊎_elim
    (λ (b : g ≡ child h own r s ray false). absurd (let n : f.number ≡ r.made + 1 = ap (λ x. x.number) a in let o : g.number ≡ r.made = ap (λ x. x.number) b in omega arith))
    (λ j'. ⊎_elim
    (λ (b : g ≡ child h own r s ray true). a ∙ sym b)
    (λ z. absurd z) j')
    j)
    (λ z. absurd z) i')
    i

-- other halves, among which are the same
same_halves : (w : Words) (hs gs : List Waiting) (made : ℕ) (draft : Draft) (best : Option Best) → ((x : Waiting) → Among x hs → Among x gs) → ((x : Waiting) → Among x gs → Among x hs)
    → Keeps w hs made draft best → Keeps w gs made draft best
same_halves w hs gs made draft best to from k = record {
  opens = opens_more (Waits hs) (Waits gs) (λ n p r. record { half = r.half; among = to r.half r.among; number = r.number; path = r.path }) [] draft k.opens;
  fits = k.fits;
  ready = λ h i. k.ready h (from h i);
  fresh = λ h i. k.fresh h (from h i);
  apart = λ g h i j e. k.apart g h (from g i) (from h j) e;
  found = k.found;
}

-- the half of this number is this one
is_half : (w : Words) (h : Waiting) (hs : List Waiting) (made : ℕ) (draft : Draft) (best : Option Best) → Keeps w (h ∷ hs) made draft best → (q : List Half) → Waits (h ∷ hs) h.number q → h.path ≡ q
is_half w h hs made draft best k q r = ap (λ g. g.path) (sym (k.apart r.half h r.among (inl refl) r.number)) ∙ r.path

another : (h : Waiting) (hs : List Waiting) (n : ℕ) (q : List Half) → n ≢ h.number → Waits (h ∷ hs) n q → Waits hs n q
another h hs n q ne r = ⊎_elim
    (λ (e : r.half ≡ h). absurd (ne (sym r.number ∙ ap (λ g. g.number) e)))
    (λ (i : Among r.half hs). record { half = r.half; among = i; number = r.number; path = r.path })
    r.among

-- a leaf in the place of the half
closed_keeps : (w : Words) (h : Waiting) (hs : List Waiting) (made : ℕ) (draft : Draft) (best : Option Best) (c : Closure) → Keeps w (h ∷ hs) made draft best → w.closes h.path c (value_of best)
    → Keeps w hs made (put h.number (leaf_node c) draft) best
closed_keeps w h hs made draft best c k closes = record {
  opens = put_opens (Waits (h ∷ hs)) (Waits hs) h.number (leaf_node c) (λ q r. tt) (λ n q ne r. another h hs n q ne r) [] draft k.opens;
  fits = put_fits w (value_of best) (Waits (h ∷ hs)) h.number (leaf_node c) (λ q r. subst (λ p. w.closes p c (value_of best)) (is_half w h hs made draft best k q r) closes) [] draft k.opens k.fits;
  ready = λ g i. k.ready g (inr i);
  fresh = λ g i. k.fresh g (inr i);
  apart = λ f g i j e. k.apart f g (inr i) (inr j) e;
  found = k.found;
}

better_keeps : (w : Words) (m : Meaning) → AreSound w m → (h : Waiting) (hs : List Waiting) (made : ℕ) (draft : Draft) (best : Option Best) (b : Best) (c : Closure) → Keeps w (h ∷ hs) made draft best
    → w.holds h.path (found_at b.at b.truths) → w.has_value (found_at b.at b.truths) b.value → IsLess w b.value (value_of best) → w.closes h.path c (Some b.value) → Keeps w hs made (put h.number (leaf_node c) draft) (Some b)
better_keeps w m a h hs made draft best b c k on v less closes =
    closed_keeps w h hs made draft (Some b) c
    (record { opens = k.opens; fits = fits_later w m a (value_of best) b.value less [] draft k.fits; ready = k.ready; fresh = k.fresh; apart = k.apart; found = (on_root w m a h.path (found_at b.at b.truths) on, v) })
    closes

-- a split in the place of the half, with its two halves
parted_keeps : (w : Words) (h : Waiting) (own : ℕ) (r : Rest) (s : Split) (ray : Option (List ℤ)) → Keeps w (h ∷ r.waiting) r.made r.draft r.best
    → w.allows h.path s → w.ready (first s ∷ h.path) (below h.kept ray) → w.ready (second s ∷ h.path) (below h.kept ray)
    → Keeps w (r.waiting ++ child h own r s ray false ∷ child h own r s ray true ∷ []) (r.made + 2) (put h.number (fork_node s (open_node r.made) (open_node (r.made + 1))) r.draft) r.best
parted_keeps w h own r s ray k allows one two =
    let news : List Waiting = child h own r s ray false ∷ child h own r s ray true ∷ [] in
    let new : Draft = fork_node s (open_node r.made) (open_node (r.made + 1)) in
    record {
      opens = put_opens (Waits (h ∷ r.waiting)) (Waits (r.waiting ++ news)) h.number new
          (λ q i. let e = is_half w h r.waiting r.made r.draft r.best k q i in (
            record { half = child h own r s ray false; among = among_right (child h own r s ray false) r.waiting news (inl refl); number = refl; path = ap (λ p. first s ∷ p) e },
            record { half = child h own r s ray true; among = among_right (child h own r s ray true) r.waiting news (inr (inl refl)); number = refl; path = ap (λ p. second s ∷ p) e },
          ))
          (λ n q ne i. let o = another h r.waiting n q ne i in record { half = o.half; among = among_left o.half r.waiting news o.among; number = o.number; path = o.path })
          [] r.draft k.opens;
      fits = put_fits w (value_of r.best) (Waits (h ∷ r.waiting)) h.number new
          (λ q i. (subst (λ p. w.allows p s) (is_half w h r.waiting r.made r.draft r.best k q i) allows, tt, tt))
          [] r.draft k.opens k.fits;
      ready = λ g i. ⊎_elim (λ j. k.ready g (inr j)) (λ j. new_ready w h own r s ray g one two j) (among_cases g r.waiting news i);
      fresh = λ g i. ⊎_elim (λ j. let l : g.number < r.made = k.fresh g (inr j) in omega arith) (λ j. (new_number h own r s ray g j).1) (among_cases g r.waiting news i);
      apart = λ f g i j e. ⊎_elim
          (λ u. ⊎_elim
          (λ v. k.apart f g (inr u) (inr v) e)
          (λ v. absurd (let x : f.number < r.made = k.fresh f (inr u) in let y = new_number h own r s ray g v in omega (arith, y.0)))
          (among_cases g r.waiting news j))
          (λ u. ⊎_elim
          (λ v. absurd (let x : g.number < r.made = k.fresh g (inr v) in let y = new_number h own r s ray f u in omega (arith, y.0)))
          (λ v. new_apart h own r s ray f g u v e)
          (among_cases g r.waiting news j))
          (among_cases f r.waiting news i);
      found = k.found;
    }

-- the invariant at any stage
abbrev KeepsStage : Meaning → Words → Stage → Type 0
KeepsStage m w (resting r) = Keeps w r.waiting r.made r.draft r.best
KeepsStage m w (working k t) = Keeps w (k.half ∷ k.rest.waiting) k.rest.made k.rest.draft k.rest.best × (m.dead k.half.path ≡ None) × IsReached (site_of m k.half).force t
KeepsStage m w (stuck place) = Unit {0}
KeepsStage m w (ended at truths ray) = w.endless (found_at at truths) ray

proper_best : (w : Words) (m : Meaning) → AreSound w m → (best : Option Best) → IsFound w best → IsProper w (value_of best)
proper_best w m a None f = tt
proper_best w m a (Some b) f = a.proper (found_at b.at b.truths) b.value f.1

settled_keeps : (w : Words) (m : Meaning) → AreSound w m → (h : Waiting) (own : ℕ) (r : Rest) (e : Ending) → Settling m h.path h.kept (value_of r.best) e → Keeps w (h ∷ r.waiting) r.made r.draft r.best → KeepsStage m w (settled h own r (Ok e))
settled_keeps w m a h own r (ends.LogicFalse item) i k = closed_keeps w h r.waiting r.made r.draft r.best (logic_false item) k (a.endings h.path h.kept (value_of r.best) (ends.LogicFalse item) (k.ready h (inl refl)) (proper_best w m a r.best k.found) i)
settled_keeps w m a h own r (ends.Refuted ms) i k = closed_keeps w h r.waiting r.made r.draft r.best (refuted ms) k (a.endings h.path h.kept (value_of r.best) (ends.Refuted ms) (k.ready h (inl refl)) (proper_best w m a r.best k.found) i)
settled_keeps w m a h own r (ends.Bounded scale ms) i k = closed_keeps w h r.waiting r.made r.draft r.best (bounded scale ms) k (a.endings h.path h.kept (value_of r.best) (ends.Bounded scale ms) (k.ready h (inl refl)) (proper_best w m a r.best k.found) i)
settled_keeps w m a h own r (ends.Better at truths value scale ms) i k =
    let b = a.endings h.path h.kept (value_of r.best) (ends.Better at truths value scale ms) (k.ready h (inl refl)) (proper_best w m a r.best k.found) i in
    better_keeps w m a h r.waiting r.made r.draft r.best (record { at = at; truths = truths; value = value }) (bounded scale ms) k b.holds b.has_value b.less b.closes
settled_keeps w m a h own r (ends.Split s ray) i k =
    let p = a.endings h.path h.kept (value_of r.best) (ends.Split s ray) (k.ready h (inl refl)) (proper_best w m a r.best k.found) i in
    parted_keeps w h own r s ray k p.allowed p.first_ready p.second_ready
settled_keeps w m a h own r (ends.Endless at truths ray) i k = a.endings h.path h.kept (value_of r.best) (ends.Endless at truths ray) (k.ready h (inl refl)) (proper_best w m a r.best k.found) i

tableau_keeps : (w : Words) (m : Meaning) → AreSound w m → (x : Work) (t : Table) (result : Result Ending WideAt) → m.dead x.half.path ≡ None → IsReached (site_of m x.half).force t → IsSettled (site_of m x.half) t x.half.kept (value_of x.rest.best) result
    → Keeps w (x.half ∷ x.rest.waiting) x.rest.made x.rest.draft x.rest.best → KeepsStage m w (settled x.half x.number x.rest result)
tableau_keeps w m a x t (Ok e) alive reached i k = settled_keeps w m a x.half x.number x.rest e (by_tableau t alive reached i) k
tableau_keeps w m a x t (Err place) alive reached i k = tt

comes_keeps : (w : Words) (m : Meaning) → AreSound w m → (x : Work) (t : Table) (s : Stage) (d : moves.Move) → m.dead x.half.path ≡ None → IsReached (site_of m x.half).force t → Comes m x t s d
    → Keeps w (x.half ∷ x.rest.waiting) x.rest.made x.rest.draft x.rest.best → KeepsStage m w s
comes_keeps w m a x t s (move.Exchange enter leave) alive reached c k = subst (KeepsStage m w) (sym c) (k, alive, reached)
comes_keeps w m a x t s move.Optimal alive reached c k = subst (KeepsStage m w) (sym c.1.1) (tableau_keeps w m a x t c.0 alive reached c.1.0 k)
comes_keeps w m a x t s move.Infeasible alive reached c k = subst (KeepsStage m w) (sym c.1.1) (tableau_keeps w m a x t c.0 alive reached c.1.0 k)
comes_keeps w m a x t s (move.Unbounded enter) alive reached c k = subst (KeepsStage m w) (sym c.1.1) (tableau_keeps w m a x t c.0 alive reached c.1.0 k)

begins_keeps : (w : Words) (m : Meaning) → AreSound w m → (x : Work) (s : Stage) (d : Option ℕ) → m.dead x.half.path ≡ d → Begins m x s d → Keeps w (x.half ∷ x.rest.waiting) x.rest.made x.rest.draft x.rest.best → KeepsStage m w s
begins_keeps w m a x s (Some item) dead b k = subst (KeepsStage m w) (sym b) (settled_keeps w m a x.half x.number x.rest (ends.LogicFalse item) (by_item item dead refl) k)
begins_keeps w m a x s None dead b k = comes_keeps w m a x b.0 s (bland_move b.0) dead (record { sound = b.1.0.sound; form = b.1.0.form }) b.1.1 k

-- the half that is opened goes to the front
front : (h x : Waiting) (xs ys : List Waiting) → Among x (xs ++ h ∷ ys) → Among x (h ∷ (xs ++ ys))
front h x xs ys i = ⊎_elim (λ j. inr (among_left x xs ys j)) (λ j. ⊎_elim (λ e. inl e) (λ l. inr (among_right x xs ys l)) j) (among_cases x xs (h ∷ ys) i)

back : (h x : Waiting) (xs ys : List Waiting) → Among x (h ∷ (xs ++ ys)) → Among x (xs ++ h ∷ ys)
back h x xs ys i = ⊎_elim (λ e. among_right x xs (h ∷ ys) (inl e)) (λ j. ⊎_elim (λ l. among_left x xs (h ∷ ys) l) (λ l. among_right x xs (h ∷ ys) (inr l)) (among_cases x xs ys j)) i

-- what was taken, and the others, are the halves
opened_keeps : (w : Words) (r : Rest) (xs : List Waiting) (h : Waiting) (hs : List Waiting) (x : Work) (b : Bool) (later : Option Work) → Keeps w (xs ++ h ∷ hs) r.made r.draft r.best
    → (later ≡ Some x → Keeps w (x.half ∷ x.rest.waiting) x.rest.made x.rest.draft x.rest.best) → cond b (Some (record { half = h; number = r.opened; rest = record r { opened = r.opened + 1; waiting = xs ++ hs } })) later ≡ Some x
    → Keeps w (x.half ∷ x.rest.waiting) x.rest.made x.rest.draft x.rest.best
opened_keeps w r xs h hs x true later k go i =
    let y : Work = record { half = h; number = r.opened; rest = record r { opened = r.opened + 1; waiting = xs ++ hs } } in
    let e : y ≡ x = cc in
    subst (λ (z : Work). Keeps w (z.half ∷ z.rest.waiting) z.rest.made z.rest.draft z.rest.best) e (same_halves w (xs ++ h ∷ hs) (h ∷ (xs ++ hs)) r.made r.draft r.best (λ z j. front h z xs hs j) (λ z j. back h z xs hs j) k)
opened_keeps w r xs h hs x false later k go i = go i

open_keeps : (w : Words) (r : Rest) (e : Event) (xs ys : List Waiting) (x : Work) → Keeps w (xs ++ ys) r.made r.draft r.best → open_at r e xs ys ≡ Some x → Keeps w (x.half ∷ x.rest.waiting) x.rest.made x.rest.draft x.rest.best
open_keeps w r e xs [] x k i = absurd cc
open_keeps w r e xs (h ∷ hs) x k i = opened_keeps w r xs h hs x (same_opening e h.event) (open_at r e (xs ++ h ∷ []) hs) k (λ j. open_keeps w r e (xs ++ h ∷ []) hs x (rw append_assoc k) j) i

step_keeps : (w : Words) (m : Meaning) → AreSound w m → (s : Stage) (e : Event) (t : Stage) → KeepsStage m w s → IsStep m s e t → KeepsStage m w t
step_keeps w m a (resting r) e t k i = begins_keeps w m a i.0 t (m.dead i.0.half.path) refl i.1.1 (open_keeps w r e [] r.waiting i.0 k i.1.0)
step_keeps w m a (working x u) (Move enter leave) t k i =
    comes_keeps w m a x i.0 t (bland_move i.0) k.1 (moved_reached (site_of m x.half).force u (record { enter = enter; leave = leave }) i.0 k.2 i.1.0) i.1.1 k.0
step_keeps w m a (working x u) OpenRoot t k i = absurd i
step_keeps w m a (working x u) (Open parent second) t k i = absurd i
step_keeps w m a (stuck place) e t k i = absurd i
step_keeps w m a (ended at truths ray) e t k i = absurd i

legal_keeps : (w : Words) (m : Meaning) → AreSound w m → (s : Stage) (es : List Event) (t : Stage) → KeepsStage m w s → IsLegal m s es t → KeepsStage m w t
legal_keeps w m a s [] t k i = subst (KeepsStage m w) i k
legal_keeps w m a s (e ∷ es) t k i = legal_keeps w m a i.0 es t (step_keeps w m a s e i.0 k i.1.0) i.1.1

start_keeps : (w : Words) (m : Meaning) → AreSound w m → KeepsStage m w (resting start)
start_keeps w m a = record {
  opens = record { half = root; among = inl refl; number = refl; path = refl };
  fits = tt;
  ready = λ h i. ⊎_elim (λ (e : h ≡ root). subst (λ x. w.ready x.path x.kept) (sym e) a.start) (λ j. absurd j) i;
  fresh = λ h i. ⊎_elim (λ (e : h ≡ root). let n : h.number ≡ 0 = ap (λ x. x.number) e in omega arith) (λ j. absurd j) i;
  apart = λ g h i j e. ⊎_elim (λ (p : g ≡ root). ⊎_elim (λ (q : h ≡ root). p ∙ sym q) (λ z. absurd z) j) (λ z. absurd z) i;
  found = tt;
}

-- a draft in which nothing is open is a proof
proof_of : (w : Words) (b : Option Fraction) (R : ℕ → List Half → Type 0) → ((n : ℕ) (q : List Half) → R n q → ⊥) → (p : List Half) (t : Draft) → Opens R p t → Fits w b p t → IsProof w b p (tree_of t)
proof_of w b R never p (open_node n) o f = absurd (never n p o)
proof_of w b R never p (leaf_node c) o f = f
proof_of w b R never p (fork_node s t u) o f = (f.0, proof_of w b R never (first s ∷ p) t o.0 f.1, proof_of w b R never (second s ∷ p) u o.1 f.2)

-- what is proved holds of every point
pub proved : (w : Words) (m : Meaning) → AreSound w m → (b : Option Fraction) (p : List Half) (t : ProofTree) → IsProof w b p t → (x : Candidate) → w.holds p x → AtLeast w b x
proved w m a b p (leaf c) f x on = a.closing p c b x f on
proved w m a b p (fork s t u) f x on = ⊎_elim
    (λ o. proved w m a b (first s ∷ p) t f.1 x o)
    (λ o. proved w m a b (second s ∷ p) u f.2 x o)
    (a.parts p s x f.0 on)

best_of : (w : Words) (best : Option Best) → IsFound w best → ((x : Candidate) → w.holds [] x → AtLeast w (value_of best) x) → IsBest w best
best_of w None f h = h
best_of w (Some b) f h = (f.0, f.1, h)

complete_shows : (w : Words) (m : Meaning) → AreSound w m → (s : Stage) → KeepsStage m w s → IsComplete s → Shows w s
complete_shows w m a (resting r) k e =
    let k' : Keeps w [] r.made r.draft r.best = subst (λ hs. Keeps w hs r.made r.draft r.best) e k in
    let p = proof_of w (value_of r.best) (Waits []) (λ n q i. i.among) [] r.draft k'.opens k'.fits in
    (p, best_of w r.best k'.found (λ x on. proved w m a (value_of r.best) [] (tree_of r.draft) p x on))
complete_shows w m a (working x t) k e = absurd e
complete_shows w m a (stuck place) k e = absurd e
complete_shows w m a (ended at truths ray) k e = k

-- a complete legal log shows its claim, whatever its order
pub search_is_right : (w : Words) (m : Meaning) → AreSound w m → (log : List Event) (s : Stage) → IsLegalLog m log s → IsComplete s → Shows w s
search_is_right w m a log s i e = complete_shows w m a s (legal_keeps w m a (resting start) log s (start_keeps w m a) i) e

-- a half that is opened on the board of a legal log is ready
pub opened_ready : (w : Words) (m : Meaning) → AreSound w m → (log : List Event) (r : Rest) (e : Event) (x : Work) → IsLegalLog m log (resting r) → open_at r e [] r.waiting ≡ Some x → w.ready x.half.path x.half.kept
opened_ready w m a log r e x l i = (open_keeps w r e [] r.waiting x (legal_keeps w m a (resting start) log (resting r) (start_keeps w m a) l) i).ready x.half (inl refl)
