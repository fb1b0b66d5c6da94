-- Steps are read again from their bytes.
use Rattle.std.proofs.Common.{◌≡◌, ℕ, zero, suc, ◌+◌, ◌*◌, ◌≤◌, ℤ, Bool, true, false, List, [], ◌∷◌, ◌++◌, Option, Some, None, Result, Ok, Err, OnOk, OnErr, length, take, drop, reverse, refl, sym, ap, subst, ◌∙◌, arith, append_assoc, length-append}
use Rattle.std.specs.Prelude.{is_some}
use Rattle.std.proofs.lemmas.List.{reverse-append, reverse-reverse, take-append-drop}
use Rattle.std.proofs.Math.Seq.{take-append_seam}
use Rattle.packed_numbers.specs.Packed.{packed_natural, packed_number}
use Rattle.packed_numbers.proofs.Reading.{reads_natural, reads_number, still_before}
use Rattle.proof_tree.specs.declared.path.Split.{Split}
use Rattle.proof_tree.specs.declared.path.Split.TheVariants as split
use Rattle.milp_forces.specs.declared.track.Step.{Step}
use Rattle.milp_forces.specs.Tracks.{bit, is_on_truth, tag_of, packed_split, packed_before, packed_step, packed_steps, split_in, before_in, is_second, has_before, has_truth, step_in, first_steps, steps_in, SplitFits, BeforeFits, StepsFit, ArePacked}

-- what is on top of bytes stands on them
pub below : (old new top : List ℕ) → reverse new ≡ top ++ reverse old → take (length old) new ≡ old
below old new top e =
    let whole : new ≡ old ++ reverse top = sym (reverse-reverse new) ∙ ap reverse e ∙ reverse-append top (reverse old) ∙ ap (λ xs. xs ++ reverse top) (reverse-reverse old) in
    rw whole (take-append_seam old (reverse top))

pub put_below : {T E : Type 0} (r : Result T E) (old new top : List ℕ) → OnOk r (reverse new ≡ top ++ reverse old) → OnErr r (new ≡ old) → take (length old) new ≡ old
put_below (Ok x) old new top ok err = below old new top ok
put_below (Err x) old new top ok err = below old new [] (ap reverse err)

pub still_below : (old middle new : List ℕ) → take (length old) middle ≡ old → take (length middle) new ≡ middle → take (length old) new ≡ old
still_below old middle new e f =
    let whole : new ≡ middle ++ drop (length middle) new = sym (take-append-drop (length middle) new) ∙ ap (λ xs. xs ++ drop (length middle) new) f in
    rw whole (still_before (length old) old middle (drop (length middle) new) refl e)

second_said : (a b c : Bool) → is_second (bit a + 2 * bit b + 4 * bit c) ≡ a
second_said false false false = refl
second_said false false true = refl
second_said false true false = refl
second_said false true true = refl
second_said true false false = refl
second_said true false true = refl
second_said true true false = refl
second_said true true true = refl

before_said : (a b c : Bool) → has_before (bit a + 2 * bit b + 4 * bit c) ≡ b
before_said false false false = refl
before_said false false true = refl
before_said false true false = refl
before_said false true true = refl
before_said true false false = refl
before_said true false true = refl
before_said true true false = refl
before_said true true true = refl

truth_said : (a b c : Bool) → has_truth (bit a + 2 * bit b + 4 * bit c) ≡ c
truth_said false false false = refl
truth_said false false true = refl
truth_said false true false = refl
truth_said false true true = refl
truth_said true false false = refl
truth_said true false true = refl
truth_said true true false = refl
truth_said true true true = refl

split_again : (s : Split) (rest : List ℕ) → split_in (is_on_truth s) (packed_split s ++ rest) ≡ (s, rest)
split_again (split.Int c k) rest =
    rw (append_assoc (packed_natural c) (packed_number k) rest, reads_natural c (packed_number k ++ rest)) (ap (λ (w : ℤ × List ℕ). (split.Int c w.0, w.1)) (reads_number k rest))
split_again (split.Truth id) rest = rw (reads_natural id rest) refl

before_again : (b : Option ℤ) (rest : List ℕ) → before_in (is_some b) (packed_before b ++ rest) ≡ (b, rest)
before_again None rest = refl
before_again (Some k) rest = ap (λ (w : ℤ × List ℕ). (Some w.0, w.1)) (reads_number k rest)

step_again : (s : Step) (rest : List ℕ) → step_in (tag_of s) ((packed_split s.half.split ++ packed_before s.before) ++ rest) ≡ (s, rest)
step_again s rest =
    let a = s.half.second in
    let b = is_some s.before in
    let c = is_on_truth s.half.split in
    rw (append_assoc (packed_split s.half.split) (packed_before s.before) rest, second_said a b c, before_said a b c, truth_said a b c, split_again s.half.split (packed_before s.before ++ rest), before_again s.before rest) refl

first_again : (most : ℕ) (ss : List Step) → length (packed_steps ss) ≤ most → first_steps most (packed_steps ss) ≡ ss
first_again zero [] h = refl
first_again (suc most) [] h = refl
first_again zero (s ∷ ss) h = absurd (omega arith)
first_again (suc most) (s ∷ ss) h =
    let numbers : List ℕ = packed_split s.half.split ++ packed_before s.before in
    ap (λ (w : Step × List ℕ). w.0 ∷ first_steps most w.1) (step_again s (packed_steps ss))
    ∙ ap (λ xs. s ∷ xs) (first_again most ss (omega (arith, length-append numbers (packed_steps ss))))

again : (ss : List Step) → steps_in (packed_steps ss) ≡ ss
again ss = first_again (length (packed_steps ss)) ss (omega arith)

-- bytes of steps are packed
packed : (ss : List Step) → StepsFit ss → ArePacked (packed_steps ss)
packed ss f = record { same = ap packed_steps (again ss); fit = subst StepsFit (sym (again ss)) f }

grown : (s : Step) (bytes new : List ℕ) → ArePacked bytes → new ≡ packed_step s ++ bytes → new ≡ packed_steps (s ∷ steps_in bytes)
grown s bytes new p e = e ∙ ap (λ xs. packed_step s ++ xs) (sym p.same)

pub pushed : (s : Step) (bytes new : List ℕ) → ArePacked bytes → new ≡ packed_step s ++ bytes → steps_in new ≡ s ∷ steps_in bytes
pushed s bytes new p e = ap steps_in (grown s bytes new p e) ∙ again (s ∷ steps_in bytes)

pushed_packed : (s : Step) (bytes new : List ℕ) → ArePacked bytes → SplitFits s.half.split × BeforeFits s.before → new ≡ packed_step s ++ bytes → ArePacked new
pushed_packed s bytes new p f e = subst ArePacked (sym (grown s bytes new p e)) (packed (s ∷ steps_in bytes) (f.0, f.1, p.fit))

-- after a push, refused or not
pub pushed_or_not : {T E : Type 0} (r : Result T E) (s : Step) (old new : List ℕ) → ArePacked (reverse old) → SplitFits s.half.split × BeforeFits s.before
    → OnOk r (reverse new ≡ packed_step s ++ reverse old) → OnErr r (new ≡ old) → ArePacked (reverse new)
pushed_or_not (Ok x) s old new p f ok err = pushed_packed s (reverse old) (reverse new) p f ok
pushed_or_not (Err x) s old new p f ok err = subst (λ xs. ArePacked (reverse xs)) (sym err) p

behind : (tag : ℕ) (bytes : List ℕ) (s : Step) (ss : List Step) → packed_steps (s ∷ ss) ≡ tag ∷ bytes → step_in tag bytes ≡ (s, packed_steps ss)
behind tag bytes s ss e =
    let numbers : List ℕ = (packed_split s.half.split ++ packed_before s.before) ++ packed_steps ss in
    let same : step_in tag bytes ≡ step_in (tag_of s) numbers = cc in
    same ∙ step_again s (packed_steps ss)

rest_again : (tag : ℕ) (bytes : List ℕ) → ArePacked (tag ∷ bytes) → (step_in tag bytes).1 ≡ packed_steps (first_steps (length bytes) (step_in tag bytes).1)
rest_again tag bytes p = ap (λ (w : Step × List ℕ). w.1) (behind tag bytes (step_in tag bytes).0 (first_steps (length bytes) (step_in tag bytes).1) p.same)

pub popped : (tag : ℕ) (bytes : List ℕ) → ArePacked (tag ∷ bytes) → steps_in (tag ∷ bytes) ≡ (step_in tag bytes).0 ∷ steps_in (step_in tag bytes).1
popped tag bytes p =
    let ss = first_steps (length bytes) (step_in tag bytes).1 in
    ap (λ xs. (step_in tag bytes).0 ∷ xs) (sym (again ss) ∙ ap steps_in (sym (rest_again tag bytes p)))

pub popped_packed : (tag : ℕ) (bytes : List ℕ) → ArePacked (tag ∷ bytes) → ArePacked (step_in tag bytes).1
popped_packed tag bytes p = subst ArePacked (sym (rest_again tag bytes p)) (packed (first_steps (length bytes) (step_in tag bytes).1) (p.fit).2)

-- what is taken in parts
pub taken : (tag : ℕ) (bytes middle rest : List ℕ) (s : Split) (b : Option ℤ) → s ≡ (split_in (has_truth tag) bytes).0 → middle ≡ (split_in (has_truth tag) bytes).1
    → b ≡ (before_in (has_before tag) middle).0 → rest ≡ (before_in (has_before tag) middle).1
    → (let step : Step = record { half = record { split = s; second = is_second tag }; before = b } in (step, rest)) ≡ step_in tag bytes
taken tag bytes middle rest s b e m f r = rw (f, r, m, e) refl
