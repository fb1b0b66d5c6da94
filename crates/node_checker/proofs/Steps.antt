-- A step of the walk.
use Rattle.std.proofs.Common.{◌≡◌, ◌<◌, ℕ, ◌+◌, Bool, true, false, List, [], ◌∷◌, length, drop, get_or, Option, Result, Ok, Err, refl, inl, inr, sym, ap, ◌∙◌, cond, Some}
use Rattle.fractions.specs.Fraction.{Fraction}
use Rattle.proof_tree.specs.declared.path.Half.{Half}
use Rattle.proof_tree.specs.declared.proof.Node.{Node}
use Rattle.proof_tree.specs.declared.proof.Node.TheVariants as node
use Rattle.proof_tree.specs.declared.checker.Cause.{Cause}
use Rattle.proof_tree.specs.declared.checker.Cause.TheVariants as cause
use Rattle.proof_tree.specs.declared.checker.CheckError.{CheckError}
use Rattle.proof_tree.specs.Paths.{second, after_leaf, rest_of}
use Rattle.proof_tree.specs.Tree.{next_path, walk}
use Rattle.proof_tree.specs.Checks.{verdict}
use Rattle.proof_tree.proofs.Walks.{verdict_at, fails_here}
use Rattle.node_checker.specs.Subjects.{Subject, IsAllowed}
use Rattle.outcomes.specs.Calls.{OrMemory}
use Rattle.proof_tree.specs.declared.checker.CheckError.TheVariants as refused
use Rattle.node_checker.specs.declared.errors.NodeError.{NodeError}
use Rattle.node_checker.specs.declared.errors.NodeError.TheVariants as error
use Rattle.node_checker.specs.Tests.{node_test, where_true, Tells, Refuses}

pub where_passes : (test : Bool) (cause : Cause) → where_true test cause ≡ Ok tt → test ≡ true
where_passes true cause h = refl
where_passes false cause h = absurd cc

after_allowed : (s : Subject) (p : List Half) → IsAllowed s p → IsAllowed s (rest_of (after_leaf p))
after_allowed s [] a = tt
after_allowed s (h ∷ p) a = by h.second (after_allowed s p a.1)
  where
    by : (b : Bool) → IsAllowed s (rest_of (after_leaf p)) → IsAllowed s (rest_of (cond b (after_leaf p) (Some (second h.split ∷ p))))
    by true more = more
    by false more = a

-- the next node's path is allowed where a split's test passes
pub next_allowed : (s : Subject) (least : Option Fraction) (p : List Half) (n : Node) → IsAllowed s p → node_test s least p n ≡ Ok tt → IsAllowed s (rest_of (next_path p n))
next_allowed s least p (node.Split split) a h = (where_passes (s.allows p split) cause.Tree h, a)
next_allowed s least p (node.Refuted ms) a h = after_allowed s p a
next_allowed s least p (node.Bounded scale ms) a h = after_allowed s p a
next_allowed s least p (node.LogicFalse item) a h = after_allowed s p a

pub goes_on : (test : List Half → Node → Result (Unit {0}) Cause) (k : ℕ) (p : List Half) (all ns : List Node) (n : Node) (v : Result (Unit {0}) CheckError) → all ≡ n ∷ ns
    → test p n ≡ Ok tt → verdict test k (walk p all) ≡ v → verdict test (k + 1) (walk (rest_of (next_path p n)) ns) ≡ v
goes_on test k p all ns n v e t w = let a = rw t at (verdict_at test k p all ns n e) in sym a ∙ w

pub ends : (test : List Half → Node → Result (Unit {0}) Cause) (k : ℕ) (p : List Half) (all ns : List Node) (n : Node) (e : NodeError) (refusal : CheckError) (v w : Result (Unit {0}) CheckError) → all ≡ n ∷ ns
    → Tells (Err e) (test p n) → Refuses k e refusal → verdict test k (walk p all) ≡ v → v ≡ w → OrMemory refused.Memory (Err refusal) w
ends test k p all ns n (error.Fails cause) refusal v w h t r q z = inl (ap Err r ∙ fails_here test k p all ns n cause v h (sym t) q ∙ z)
ends test k p all ns n error.Memory refusal v w h t r q z = inr (ap Err r)
