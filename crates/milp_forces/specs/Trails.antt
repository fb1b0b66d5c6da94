-- The tightest bounds that a path sets, kept as tables, and what stood in them before each half.
use Rattle.std.specs.Prelude.{◌≡◌, ℕ, ℤ, Bool, true, false, List, [], ◌∷◌, Option, None, slice_index_or}
use Rattle.proof_tree.specs.declared.path.Split.{Split}
use Rattle.proof_tree.specs.declared.path.Split.TheVariants as split
use Rattle.proof_tree.specs.declared.path.Half.{Half}
use Rattle.milp_forces.specs.declared.track.Step.{Step}
use Rattle.milp_forces.specs.Forces.{low_at, high_at}

-- what a table has for column j, none past its end
abbrev pub kept : List (Option ℤ) → ℕ → Option ℤ
kept table j = slice_index_or table j None

-- the tables have the tightest lows and highs of the path
pub record AreKept (lows highs : List (Option ℤ)) (p : List Half) : Type 0 where
  pub low : (j : ℕ) → kept lows j ≡ low_at p j
  pub high : (j : ℕ) → kept highs j ≡ high_at p j

-- the halves of splits on Booleans
abbrev pub with_truth : Split → Half → List Half → List Half
with_truth (split.Int c k) h hs = hs
with_truth (split.Truth id) h hs = h ∷ hs

abbrev pub truths_of : List Half → List Half
truths_of [] = []
truths_of (h ∷ p) = with_truth h.split h (truths_of p)

-- what stood before a half of this split, of its column and on its side
abbrev pub stood : Split → Bool → List Half → Option ℤ
stood (split.Int c k) true p = low_at p c
stood (split.Int c k) false p = high_at p c
stood (split.Truth id) second p = None

-- each half of the path with what stood before it
abbrev pub steps_of : List Half → List Step
steps_of [] = []
steps_of (h ∷ p) = record { half = h; before = stood h.split h.second p } ∷ steps_of p

-- the halves of steps
abbrev pub halves_of : List Step → List Half
halves_of [] = []
halves_of (s ∷ ss) = s.half ∷ halves_of ss
