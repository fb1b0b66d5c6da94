-- A path's halves, each with what stood before it, as bytes: the last half is read first.
use Rattle.std.specs.Prelude.{◌≡◌, ℕ, zero, suc, ◌+◌, ◌*◌, ◌/◌, ◌%◌, ◌<◌, ◌^◌, ◌==◌, ℤ, Bool, true, false, List, [], ◌∷◌, ◌++◌, Option, Some, None, is_some, length}
use Rattle.std.specs.Int.RustNames.{FitsSigned}
use mir.Syntax.{w128}
use Rattle.packed_numbers.specs.Packed.{packed_natural, packed_number, natural_in, number_in}
use Rattle.proof_tree.specs.declared.path.Split.{Split}
use Rattle.proof_tree.specs.declared.path.Split.TheVariants as split
use Rattle.milp_forces.specs.declared.track.Step.{Step}

-- yes as 1, no as 0
abbrev pub bit : Bool → ℕ
bit true = 1
bit false = 0

-- whether the split is on a Boolean
abbrev pub is_on_truth : Split → Bool
is_on_truth (split.Int c k) = false
is_on_truth (split.Truth id) = true

-- the tag of a step, three bits: a second half, something stood before, a split on a Boolean
abbrev pub tag_of : Step → ℕ
tag_of s = bit s.half.second + 2 * bit (is_some s.before) + 4 * bit (is_on_truth s.half.split)

-- the numbers of a split
abbrev pub packed_split : Split → List ℕ
packed_split (split.Int c k) = packed_natural c ++ packed_number k
packed_split (split.Truth id) = packed_natural id

-- what stood before, if anything did
abbrev pub packed_before : Option ℤ → List ℕ
packed_before None = []
packed_before (Some k) = packed_number k

-- a step as bytes: its tag, its split, and what stood before
abbrev pub packed_step : Step → List ℕ
packed_step s = tag_of s ∷ (packed_split s.half.split ++ packed_before s.before)

-- steps one behind the other
abbrev pub packed_steps : List Step → List ℕ
packed_steps [] = []
packed_steps (s ∷ ss) = packed_step s ++ packed_steps ss

-- the split that the bytes begin with, on a Boolean or not, and the bytes behind it
abbrev pub split_in : Bool → List ℕ → Split × List ℕ
split_in true bytes = (split.Truth (natural_in bytes).0, (natural_in bytes).1)
split_in false bytes = (split.Int (natural_in bytes).0 (number_in (natural_in bytes).1).0, (number_in (natural_in bytes).1).1)

-- what stood before, if anything did, and the bytes behind it
abbrev pub before_in : Bool → List ℕ → Option ℤ × List ℕ
before_in true bytes = (Some (number_in bytes).0, (number_in bytes).1)
before_in false bytes = (None, bytes)

-- whether the tag is that of a second half
abbrev pub is_second : ℕ → Bool
is_second tag = tag % 2 == 1

-- whether by the tag something stood before
abbrev pub has_before : ℕ → Bool
has_before tag = tag / 2 % 2 == 1

-- whether the tag is that of a split on a Boolean
abbrev pub has_truth : ℕ → Bool
has_truth tag = tag / 4 == 1

-- the step whose tag this is, and the bytes behind it
abbrev pub step_in : ℕ → List ℕ → Step × List ℕ
step_in tag bytes =
    let s : Split × List ℕ = split_in (has_truth tag) bytes in
    let b : Option ℤ × List ℕ = before_in (has_before tag) s.1 in
    (record { half = record { split = s.0; second = is_second tag }; before = b.0 }, b.1)

-- the steps of the bytes, at most so many
abbrev pub first_steps : ℕ → List ℕ → List Step
first_steps zero bytes = []
first_steps (suc most) [] = []
first_steps (suc most) (tag ∷ bytes) = (step_in tag bytes).0 ∷ first_steps most (step_in tag bytes).1

-- the steps of the bytes
abbrev pub steps_in : List ℕ → List Step
steps_in bytes = first_steps (length bytes) bytes

-- the numbers of the split have the width of their types
abbrev pub SplitFits : Split → Type 0
SplitFits (split.Int c k) = (c < 2 ^ 32) × FitsSigned w128 k
SplitFits (split.Truth id) = id < 2 ^ 32

-- what stood before has 128 bits
abbrev pub BeforeFits : Option ℤ → Type 0
BeforeFits None = Unit {0}
BeforeFits (Some k) = FitsSigned w128 k

-- the numbers of the steps have the width of their types
abbrev pub StepsFit : List Step → Type 0
StepsFit [] = Unit {0}
StepsFit (s ∷ ss) = SplitFits s.half.split × BeforeFits s.before × StepsFit ss

-- the bytes are those of steps
pub record ArePacked (bytes : List ℕ) : Type 0 where
  pub same : packed_steps (steps_in bytes) ≡ bytes
  pub fit : StepsFit (steps_in bytes)
