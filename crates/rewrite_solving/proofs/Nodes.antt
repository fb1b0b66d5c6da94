-- The proof of a search over a program passes the checker's tests.
use Rattle.std.proofs.Common.{◌≡◌, ℕ, suc, ℤ, pos, ◌+ℤ◌, ◌*ℤ◌, ◌≤ℤ◌, ◌<ℤ◌, true, List, [], ◌∷◌, ◌++◌, All, Option, Some, None, Ok, Result, int_le, refl, ap, ◌∙◌, arith}
use Rattle.std.proofs.lemmas.Int.{ints}
use Rattle.std.proofs.lemmas.List.Elements.{All-cons, All-nil, All-head, All-tail, All-append}
use Rattle.fractions.specs.Fraction.{Fraction}
use Rattle.int_linear.proofs.Ring.{products, le_mul, le_cancel}
use Rattle.lp_rows.specs.declared.kinds.Kind.{Kind}
use Rattle.lp_rows.specs.declared.kinds.Kind.TheVariants.{Int}
use Rattle.fractions.specs.Width.{is_narrow}
use Rattle.proof_tree.specs.declared.path.Split.{Split}
use Rattle.proof_tree.specs.declared.path.Split.TheVariants as split
use Rattle.proof_tree.specs.declared.path.Half.{Half}
use Rattle.proof_tree.specs.declared.proof.Node.{Node}
use Rattle.proof_tree.specs.declared.proof.Node.TheVariants as node
use Rattle.proof_tree.specs.declared.checker.Cause.{Cause}
use Rattle.proof_tree.specs.Paths.{first, second}
use Rattle.proof_tree.specs.Tree.{Closure, refuted, bounded, logic_false, leaf_of, ProofTree, leaf, fork, preorder, visits}
use Rattle.proof_tree.specs.Checks.{verdict}
use Rattle.proof_tree.proofs.Walks.{walk_is}
use Rattle.search_rules.specs.Claims.{IsProof}
use Rattle.search_rules.specs.Problem.{words_of, Passes}
use Rattle.milps.specs.Milps.{MilpValue}
use Rattle.milps.proofs.Columned.{and_true}
use Rattle.milp_forces.specs.Milps.{kind_at, Allows}
use Rattle.milp_nodes.specs.Nodes.{problem_of}
use Rattle.node_checker.specs.Tests.{node_test, is_at_least}
use Rattle.certificate_checker.specs.Programs.{is_int, is_inner, may_stand, subject_of}
use Rattle.certificate_checker.specs.Answers.{nodes_group, refused_by, node_refusal}
use Rattle.milp_nodes.specs.Nodes.{milp_meaning}

-- the search's best value and the least that a proof is to show are one
abbrev pub IsSame : Option Fraction → Option Fraction → Type 0
IsSame None None = Unit {0}
IsSame None (Some w) = ⊥
IsSame (Some b) None = ⊥
IsSame (Some b) (Some w) = (w.num *ℤ b.den ≡ b.num *ℤ w.den) × (pos 0 <ℤ w.den)

int_le_of : (a b : ℤ) → a ≤ℤ b → int_le a b ≡ true
int_le_of a b h = grind (arith, ints)

reaches : (b w : Fraction) (scale right : ℤ) → w.num *ℤ b.den ≡ b.num *ℤ w.den → pos 0 <ℤ w.den → pos 0 <ℤ b.den → (b.num *ℤ scale) ≤ℤ (right *ℤ b.den) → is_at_least right scale w ≡ true
reaches b w scale right e l d h =
    let a = le_mul w.den (b.num *ℤ scale) (right *ℤ b.den) (omega (arith, ints, l)) h in
    let p : w.den *ℤ (b.num *ℤ scale) ≡ (b.num *ℤ w.den) *ℤ scale = simp products refl in
    let q = ap (λ z. z *ℤ scale) e in
    let r : (w.num *ℤ b.den) *ℤ scale ≡ b.den *ℤ (w.num *ℤ scale) = simp products refl in
    let t : w.den *ℤ (right *ℤ b.den) ≡ b.den *ℤ (right *ℤ w.den) = simp products refl in
    int_le_of (w.num *ℤ scale) (right *ℤ w.den) (le_cancel b.den (w.num *ℤ scale) (right *ℤ w.den) d (omega (arith, ints, a, p, q, r, t)))

kind_is : (k : Kind) → k ≡ Int → is_int k ≡ true
kind_is k e = rw e refl

stands : (m : MilpValue) (s : Split) → Allows m s → may_stand m s ≡ true
stands m (split.Int j k) a =
    and_true (is_int (kind_at m.cols j)) (is_inner k) (kind_is (kind_at m.cols j) a.integer) (and_true (is_narrow k) (is_narrow (k +ℤ pos 1)) a.narrow a.next_narrow)
stands m (split.Truth id) a = absurd a

module _ (m : MilpValue) (b w : Option Fraction) (same : IsSame b w) where
  abbrev test : List Half → Node → Result (Unit {0}) Cause
  test p n = node_test (subject_of m) w p n

  leaf_passes : (p : List Half) (c : Closure) → Passes (problem_of m) (milp_meaning m) p c b → test p (leaf_of c) ≡ Ok tt
  leaf_passes p (refuted ms) h = rw h refl
  leaf_passes p (bounded scale ms) h = by b w same h
    where
      by : (b w : Option Fraction) → IsSame b w → Passes (problem_of m) (milp_meaning m) p (bounded scale ms) b → node_test (subject_of m) w p (node.Bounded scale ms) ≡ Ok tt
      by None w s h = absurd h
      by (Some b) None s h = absurd s
      by (Some b) (Some w) s h = rw (h.1.0, reaches b w scale h.0 s.0 s.1 h.1.2 h.1.1) refl
  leaf_passes p (logic_false item) h = absurd h

  abbrev Fine : (List Half × Node) → Type 0
  Fine v = test v.0 v.1 ≡ Ok tt

  all_pass : (p : List Half) (t : ProofTree) → IsProof (words_of (problem_of m) (milp_meaning m)) b p t → All Fine (visits p t)
  all_pass p (leaf c) h = All-cons Fine (p, leaf_of c) [] (leaf_passes p c h.0) (All-nil Fine)
  all_pass p (fork s t u) h =
      All-cons Fine (p, node.Split s) (visits (first s ∷ p) t ++ visits (second s ∷ p) u) (rw (stands m s h.0) refl)
      (All-append Fine (visits (first s ∷ p) t) (visits (second s ∷ p) u) (all_pass (first s ∷ p) t h.1) (all_pass (second s ∷ p) u h.2))

  all_decided : (vs : List (List Half × Node)) (k : ℕ) → All Fine vs → verdict test k vs ≡ Ok tt
  all_decided [] k a = refl
  all_decided (v ∷ vs) k a = rw (All-head Fine v vs a) (all_decided vs (suc k) (All-tail Fine v vs a))

  pub proof_passes : (proof : List Node) (t : ProofTree) → preorder t ≡ proof → IsProof (words_of (problem_of m) (milp_meaning m)) b [] t → nodes_group (subject_of m) w proof ≡ Ok tt
  proof_passes proof t e h = ap (λ vs. refused_by node_refusal (verdict test 0 vs)) (walk_is t proof e) ∙ ap (refused_by node_refusal) (all_decided (visits [] t) 0 (all_pass [] t h))
