-- The tests of a proof's nodes, the first of which that fails decides.
use Rattle.std.specs.Prelude.{◌≡◌, ◌⊎◌, ℕ, suc, List, [], ◌∷◌, Result, Ok, Err}
use Rattle.proof_tree.specs.declared.path.Split.{Split}
use Rattle.proof_tree.specs.declared.path.Half.{Half}
use Rattle.proof_tree.specs.declared.proof.Node.{Node}
use Rattle.proof_tree.specs.declared.proof.Node.TheVariants as node
use Rattle.proof_tree.specs.declared.checker.Cause.{Cause}
use Rattle.proof_tree.specs.declared.checker.CheckError.{CheckError}
use Rattle.proof_tree.specs.declared.checker.CheckError.TheVariants.{At}
use Rattle.proof_tree.specs.Paths.{first, second}
use Rattle.proof_tree.specs.Tree.{Closure, leaf_of}

-- a node that fails is named, or else what follows decides
abbrev pub decided : ℕ → Result (Unit {0}) Cause → Result (Unit {0}) CheckError → Result (Unit {0}) CheckError
decided k (Ok u) rest = rest
decided k (Err cause) rest = Err (At k cause)

-- the verdict over nodes numbered from k on
abbrev pub verdict : (List Half → Node → Result (Unit {0}) Cause) → ℕ → List (List Half × Node) → Result (Unit {0}) CheckError
verdict test k [] = Ok tt
verdict test k (v ∷ vs) = decided k (test v.0 v.1) (verdict test (suc k) vs)

-- what the tests promise: two halves hold every point of a node, and a leaf that passes has only good ones
pub record AreSound (P : Type 0) (test : List Half → Node → Result (Unit {0}) Cause) (holds : List Half → P → Type 0) (good : P → Type 0) : Type 0 where
  pub covers : (p : List Half) (s : Split) (x : P) → test p (node.Split s) ≡ Ok tt → holds p x → holds (first s ∷ p) x ⊎ holds (second s ∷ p) x
  pub closes : (p : List Half) (c : Closure) (x : P) → test p (leaf_of c) ≡ Ok tt → holds p x → good x
