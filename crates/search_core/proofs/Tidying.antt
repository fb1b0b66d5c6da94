-- The halves that wait stay tidy.
use Rattle.std.proofs.Common.{◌≡◌, ◌≢◌, ◌<◌, ◌≤◌, ◌⊎◌, ℕ, ◌+◌, Bool, true, false, List, [], ◌∷◌, ◌++◌, suc, zero, refl, sym, ap, ◌∙◌, arith, append_assoc, subst, length, nat_eq, ⊎_elim, inl, inr, Some}
use Rattle.std.specs.Prelude.{slice_get}
use Rattle.std.specs.List.{remove}
use Rattle.std.proofs.lemmas.Bool.{cases_lt, ne_eqb}
use Rattle.std.proofs.lemmas.Bool.Decides.{nat_tests}
use Rattle.exact_simplex.specs.declared.log.Event.{Event}
use Rattle.exact_simplex.specs.declared.log.Event.TheVariants.{OpenRoot, Open, Move}
use Rattle.search_rules.specs.declared.waiting.Waiting.{Waiting}
use Rattle.search_core.specs.declared.arena.Slot.{Slot}
use Rattle.search_core.specs.declared.arena.Slot.TheVariants.{Open as Unsettled}
use Rattle.search_core.specs.Arena.{StaysOpen}
use Rattle.search_rules.specs.Machine.{Rest, same_bool, same_opening, open_at}
use Rattle.search_core.specs.Tidy.{IsTidy, IsTaken}
use Rattle.search_core.proofs.Arenas.{got_below}

-- where an element of the list without the p-th stood
record Stood (hs : List Waiting) (p i k : ℕ) : Type 0 where
  same : slice_get (remove hs p) i ≡ slice_get hs k
  before : i < p → k ≡ i
  after : p ≤ i → k ≡ i + 1

stood : (hs : List Waiting) (p i : ℕ) → p < length hs → (k : ℕ) × Stood hs p i k
stood [] p i l = absurd (omega arith)
stood (h ∷ hs) zero i l = (i + 1, record { same = let e : i + 1 ≡ suc i = omega arith in rw e refl; before = λ x. absurd (omega arith); after = λ x. refl })
stood (h ∷ hs) (suc p) zero l = (0, record { same = refl; before = λ x. refl; after = λ x. absurd (omega arith) })
stood (h ∷ hs) (suc p) (suc i) l =
    let r = stood hs p i (omega arith) in
    let s = r.1 in
    (suc r.0, record { same = s.same; before = λ x. ap suc (s.before (omega arith)); after = λ x. let e : r.0 ≡ i + 1 = s.after (omega arith) in omega arith })

order : (p i j k l : ℕ) → i < j → (i < p → k ≡ i) → (p ≤ i → k ≡ i + 1) → (j < p → l ≡ j) → (p ≤ j → l ≡ j + 1) → k < l
order p i j k l h a b c d = ⊎_elim
    (λ (x : j < p). let y : i < p = omega arith in let e = a y in let f = c x in omega arith)
    (λ (x : p ≤ j). let f : l ≡ j + 1 = d x in ⊎_elim
    (λ (y : i < p). let e : k ≡ i = a y in omega arith)
    (λ (y : p ≤ i). let e : k ≡ i + 1 = b y in omega arith)
    (cases_lt i p))
    (cases_lt j p)

pub taken_tidy : (n : ℕ) (hs : List Waiting) (slots : List Slot) (p : ℕ) → p < length hs → IsTidy n hs slots → IsTidy (n + 1) (remove hs p) slots
taken_tidy n hs slots p l t = record {
  apart = λ i j g h o e f. let a = stood hs p i l in let b = stood hs p j l in
      t.apart a.0 b.0 g h (order p i j a.0 b.0 o a.1.before a.1.after b.1.before b.1.after) (sym a.1.same ∙ e) (sym b.1.same ∙ f);
  numbers = λ i j g h o e f. let a = stood hs p i l in let b = stood hs p j l in
      t.numbers a.0 b.0 g h (order p i j a.0 b.0 o a.1.before a.1.after b.1.before b.1.after) (sym a.1.same ∙ e) (sym b.1.same ∙ f);
  older = λ i q h s e f. let a = stood hs p i l in let o = t.older a.0 q h s (sym a.1.same ∙ e) f in omega (arith, o);
  opening = λ i x y h e. let a = stood hs p i l in t.opening a.0 x y h (sym a.1.same ∙ e);
  unsettled = λ i h e. let a = stood hs p i l in t.unsettled a.0 h (sym a.1.same ∙ e);
}

apart_place : (p i k : ℕ) → (i < p → k ≡ i) → (p ≤ i → k ≡ i + 1) → (k < p) ⊎ (p < k)
apart_place p i k a b = ⊎_elim (λ (x : i < p). inl (let e = a x in omega arith)) (λ (x : p ≤ i). inr (let e = b x in omega arith)) (cases_lt i p)

pub taken : (n : ℕ) (hs : List Waiting) (slots : List Slot) (p : ℕ) (h : Waiting) → p < length hs → IsTidy n hs slots → slice_get hs p ≡ Some h → IsTaken h n (n + 1) (remove hs p) slots
taken n hs slots p h l t e = record {
  counted = omega arith;
  childless = λ i g s f q. let a = stood hs p i l in let o = t.older a.0 n g s (sym a.1.same ∙ f) q in omega (arith, o);
  unsettled = t.unsettled p h e;
  others = λ i g f. let a = stood hs p i l in let q : slice_get hs a.0 ≡ Some g = sym a.1.same ∙ f in
      ⊎_elim (λ (x : a.0 < p). λ s. t.numbers a.0 p g h x q e (sym s)) (λ (x : p < a.0). λ s. t.numbers p a.0 h g x e q s) (apart_place p i a.0 a.1.before a.1.after);
}

same_bool_self : (b : Bool) → same_bool b b ≡ true
same_bool_self true = refl
same_bool_self false = refl

same_self : (e : Event) → ((a b : ℕ) → e ≢ Move a b) → same_opening e e ≡ true
same_self OpenRoot h = refl
same_self (Open p s) h = let b : nat_eq p p ≡ true = grind (arith, nat_tests) in rw b (same_bool_self s)
same_self (Move a b) h = absurd (h a b refl)

-- the machine opens the half of that event
open_finds : (r : Rest) (e : Event) (before hs : List Waiting) (p : ℕ) (h : Waiting) → slice_get hs p ≡ Some h → ((i : ℕ) (g : Waiting) → i < p → slice_get hs i ≡ Some g → same_opening e g.event ≡ false)
    → same_opening e h.event ≡ true → open_at r e before hs ≡ Some (record { half = h; number = r.opened; rest = record r { opened = r.opened + 1; waiting = before ++ remove hs p } })
open_finds r e before [] p h i never found = absurd cc
open_finds r e before (g ∷ hs) zero h i never found = let q : g ≡ h = cc in rw (q, found) refl
open_finds r e before (g ∷ hs) (suc p) h i never found =
    let f : same_opening e g.event ≡ false = never 0 g (omega arith) refl in
    let rec = open_finds r e (before ++ g ∷ []) hs p h i (λ j x l q. never (suc j) x (omega arith) q) found in
    rw f (rec ∙ ap (λ ws. Some (record { half = h; number = r.opened; rest = record r { opened = r.opened + 1; waiting = ws } })) (append_assoc before (g ∷ []) (remove hs p)))

pub taken_opens : (r : Rest) (n : ℕ) (hs : List Waiting) (slots : List Slot) (p : ℕ) (h : Waiting) → IsTidy n hs slots → slice_get hs p ≡ Some h
    → open_at r h.event [] hs ≡ Some (record { half = h; number = r.opened; rest = record r { opened = r.opened + 1; waiting = remove hs p } })
taken_opens r n hs slots p h t e = open_finds r h.event [] hs p h e (λ i g l f. t.apart i p g h l f e) (same_self h.event (λ a b. t.opening p a b h e))

pub closed_tidy : (n own : ℕ) (h : Waiting) (hs : List Waiting) (old new : List Slot) → IsTidy n hs old → IsTaken h own n hs old → StaysOpen h.number old new → IsTidy n hs new
closed_tidy n own h hs old new t k s = record {
  apart = t.apart;
  numbers = t.numbers;
  opening = t.opening;
  older = t.older;
  unsettled = λ i g e. s g.number (k.others i g e) (t.unsettled i g e);
}

-- one half more
record IsNew (n : ℕ) (x : Waiting) (hs : List Waiting) (slots : List Slot) : Type 0 where
  apart : (i : ℕ) (g : Waiting) → slice_get hs i ≡ Some g → same_opening x.event g.event ≡ false
  numbers : (i : ℕ) (g : Waiting) → slice_get hs i ≡ Some g → x.number ≢ g.number
  older : (p : ℕ) (s : Bool) → x.event ≡ Open p s → p < n
  opening : (a b : ℕ) → x.event ≢ Move a b
  unsettled : slice_get slots x.number ≡ Some Unsettled

pushed : (hs : List Waiting) (x g : Waiting) (i : ℕ) → slice_get (hs ++ x ∷ []) i ≡ Some g → ((i < length hs) × (slice_get hs i ≡ Some g)) ⊎ ((i ≡ length hs) × (x ≡ g))
pushed [] x g zero e = inr (refl, cc)
pushed [] x g (suc i) e = absurd cc
pushed (h ∷ hs) x g zero e = inl (omega arith, e)
pushed (h ∷ hs) x g (suc i) e = ⊎_elim (λ a. inl (omega (arith, a.0), a.1)) (λ a. inr (ap suc a.0, a.1)) (pushed hs x g i e)

pushed_tidy : (n : ℕ) (x : Waiting) (hs : List Waiting) (slots : List Slot) → IsTidy n hs slots → IsNew n x hs slots → IsTidy n (hs ++ x ∷ []) slots
pushed_tidy n x hs slots t w = record {
  apart = λ i j g h o e f. ⊎_elim
      (λ b. ⊎_elim (λ a. t.apart i j g h o a.1 b.1) (λ a. absurd (omega (arith, a.0, b.0))) (pushed hs x g i e))
      (λ b. ⊎_elim (λ a. subst (λ y. same_opening y.event g.event ≡ false) b.1 (w.apart i g a.1)) (λ a. absurd (omega (arith, a.0, b.0))) (pushed hs x g i e))
      (pushed hs x h j f);
  numbers = λ i j g h o e f. ⊎_elim
      (λ b. ⊎_elim (λ a. t.numbers i j g h o a.1 b.1) (λ a. absurd (omega (arith, a.0, b.0))) (pushed hs x g i e))
      (λ b. ⊎_elim (λ a. subst (λ y. y.number ≢ g.number) b.1 (w.numbers i g a.1)) (λ a. absurd (omega (arith, a.0, b.0))) (pushed hs x g i e))
      (pushed hs x h j f);
  older = λ i p h s e f. ⊎_elim (λ a. t.older i p h s a.1 f) (λ a. w.older p s (ap (λ (y : Waiting). y.event) a.1 ∙ f)) (pushed hs x h i e);
  opening = λ i p q h e. ⊎_elim (λ a. t.opening i p q h a.1) (λ a. λ f. w.opening p q (ap (λ (y : Waiting). y.event) a.1 ∙ f)) (pushed hs x h i e);
  unsettled = λ i h e. ⊎_elim (λ a. t.unsettled i h a.1) (λ a. subst (λ y. slice_get slots y.number ≡ Some Unsettled) a.1 w.unsettled) (pushed hs x h i e);
}

older_apart : (n : ℕ) (b : Bool) (e : Event) → ((s : Bool) → e ≢ Open n s) → same_opening (Open n b) e ≡ false
older_apart n b OpenRoot h = refl
older_apart n b (Open p s) h = rw (ne_eqb n p (λ e. h s (ap (λ k. Open k s) (sym e)))) refl
older_apart n b (Move x y) h = refl

second_apart : (n : ℕ) → same_opening (Open n true) (Open n false) ≡ false
second_apart n = let b : nat_eq n n ≡ true = grind (arith, nat_tests) in rw b refl

pub parted_tidy : (n own : ℕ) (h a b : Waiting) (hs : List Waiting) (old new : List Slot) → IsTidy n hs old → IsTaken h own n hs old → StaysOpen h.number old new
    → a.event ≡ Open own false → b.event ≡ Open own true → a.number ≡ length old → b.number ≡ length old + 1
    → slice_get new (length old) ≡ Some Unsettled → slice_get new (length old + 1) ≡ Some Unsettled → IsTidy n ((hs ++ a ∷ []) ++ b ∷ []) new
parted_tidy n own h a b hs old new t k s ea eb na nb ua ub =
    let c = closed_tidy n own h hs old new t k s in
    let d = pushed_tidy n a hs new c (record {
      apart = λ i g e. rw ea (older_apart own false g.event (λ z. k.childless i g z e));
      numbers = λ i g e f. let l = got_below old g.number Unsettled (t.unsettled i g e) in omega (arith, l, na, f);
      older = λ p z f. let q : Open own false ≡ Open p z = sym ea ∙ f in let r : own ≡ p = cc in let o = k.counted in omega (arith, r, o);
      opening = λ x y f. let q : Open own false ≡ Move x y = sym ea ∙ f in cc;
      unsettled = rw na ua;
    }) in
    pushed_tidy n b (hs ++ a ∷ []) new d (record {
      apart = λ i g e. ⊎_elim
          (λ x. rw eb (older_apart own true g.event (λ z. k.childless i g z x.1)))
          (λ x. rw (eb, ← ap (λ (y : Waiting). y.event) x.1, ea) (second_apart own))
          (pushed hs a g i e);
      numbers = λ i g e f. ⊎_elim
          (λ x. let l = got_below old g.number Unsettled (t.unsettled i g x.1) in omega (arith, l, nb, f))
          (λ x. let q : a.number ≡ g.number = ap (λ (y : Waiting). y.number) x.1 in omega (arith, na, nb, f, q))
          (pushed hs a g i e);
      older = λ p z f. let q : Open own true ≡ Open p z = sym eb ∙ f in let r : own ≡ p = cc in let o = k.counted in omega (arith, r, o);
      opening = λ x y f. let q : Open own true ≡ Move x y = sym eb ∙ f in cc;
      unsettled = rw nb ub;
    })

only : (x : Waiting) (i : ℕ) (h : Waiting) → slice_get (x ∷ []) i ≡ Some h → x ≡ h
only x zero h a = cc
only x (suc i) h a = absurd cc

alone : (x : Waiting) (i j : ℕ) (g h : Waiting) → i < j → slice_get (x ∷ []) j ≡ Some h → ⊥
alone x i zero g h o b = omega arith
alone x i (suc j) g h o b = cc

pub start_tidy : (x : Waiting) (slots : List Slot) → x.event ≡ OpenRoot → slice_get slots x.number ≡ Some Unsettled → IsTidy 0 (x ∷ []) slots
start_tidy x slots e u = record {
  apart = λ i j g h o a b. absurd (alone x i j g h o b);
  numbers = λ i j g h o a b. absurd (alone x i j g h o b);
  older = λ i p h s a b. absurd (let q : OpenRoot ≡ Open p s = sym e ∙ ap (λ (y : Waiting). y.event) (only x i h a) ∙ b in cc);
  opening = λ i u v h a b. let q : OpenRoot ≡ Move u v = sym e ∙ ap (λ (y : Waiting). y.event) (only x i h a) ∙ b in cc;
  unsettled = λ i h a. subst (λ (y : Waiting). slice_get slots y.number ≡ Some Unsettled) (only x i h a) u;
}
