-- The tests of an answer's proof pass: a leaf of the search closes its node by the same tests.
use Rattle.std.proofs.Common.{◌≡◌, ◌<◌, ℕ, suc, ℤ, pos, ◌+ℤ◌, ◌*ℤ◌, ◌<ℤ◌, ◌≤ℤ◌, Bool, true, List, [], ◌∷◌, ◌++◌, length, nat_lt, int_le, Option, Some, None, Result, Ok, Err, refl, sym, ◌∙◌, ap, subst, arith}
use Rattle.std.proofs.lemmas.Bool.Decides.{nat_tests}
use Rattle.std.proofs.lemmas.Int.{ints}
use Rattle.fractions.specs.Fraction.{Fraction}
use Rattle.gdp_tables.specs.declared.tri.Tri.{Tri}
use Rattle.gdp_tables.specs.declared.tri.Tri.TheVariants.{No, Open}
use Rattle.int_linear.specs.Sums.{at}
use Rattle.int_linear.specs.Terms.{dot}
use Rattle.int_linear.proofs.Dots.{dot_scale}
use Rattle.int_linear.proofs.Ring.{products, le_mul, le_cancel, mul_cancel, pos_cancel}
use Rattle.lp_rows.specs.declared.kinds.Kind.{Kind}
use Rattle.lp_rows.specs.declared.kinds.Kind.TheVariants as kind
use Rattle.lp_rows.specs.declared.kinds.Sense.{Sense}
use Rattle.lp_rows.specs.declared.kinds.Sense.TheVariants.{Min, Max}
use Rattle.lp_rows.specs.Points.{PointValue}
use Rattle.fractions.specs.Width.{is_narrow}
use Rattle.proof_tree.specs.declared.path.Split.{Split}
use Rattle.proof_tree.specs.declared.path.Split.TheVariants as split
use Rattle.proof_tree.specs.declared.path.Half.{Half}
use Rattle.proof_tree.specs.declared.proof.Node.{Node}
use Rattle.proof_tree.specs.declared.proof.Node.TheVariants as node
use Rattle.proof_tree.specs.declared.checker.Cause.{Cause}
use Rattle.proof_tree.specs.declared.checker.CheckError.{CheckError}
use Rattle.proof_tree.specs.Checks.{decided, verdict}
use Rattle.proof_tree.specs.Paths.{first, second}
use Rattle.proof_tree.specs.Tree.{Closure, refuted, bounded, logic_false, ProofTree, leaf, fork, leaf_of, preorder, visits, walk}
use Rattle.proof_tree.proofs.Walks.{walk_is}
use Rattle.propositions.specs.Reading.{tri_of, is_open}
use Rattle.exact_simplex.specs.declared.log.Event.{Event}
use Rattle.search_rules.specs.declared.outcome.Outcome.TheVariants as found
use Rattle.search_rules.specs.declared.outcome.Answer.TheVariants.{Done}
use Rattle.search_rules.specs.declared.waiting.Best.{Best}
use Rattle.search_rules.specs.Answered.{IsAnswer}
use Rattle.search_rules.specs.Claims.{IsProof}
use Rattle.search_rules.specs.Problem.{Passes, words_of}
use Rattle.model_items.specs.Items.{item_count_of, condition_of}
use Rattle.model_tree.specs.Values.{ModelTree}
use Rattle.int_linear.proofs.Bools.{and_from}
use Rattle.model_forces.specs.Paths.{tris_on, tris_at, is_no, kind_at, MayStand}
use Rattle.model_forces.specs.Forces.{goal_terms}
use Rattle.model_forces.proofs.Holding.{dot_negated}
use Rattle.model_nodes.specs.Nodes.{model_problem, model_meaning}
use Rattle.node_checker.specs.Tests.{signed, is_at_least, node_test}
use Rattle.answers.specs.declared.claim.Claim.{Claim}
use Rattle.answers.specs.declared.claim.Claim.TheVariants as claims
use Rattle.answer_tests.specs.Groups.{first_error, claim_groups}
use Rattle.certificate_checker.specs.Programs.{is_inner}
use Rattle.certificate_checker.specs.Answers.{node_refusal, refused_by, nodes_group, proof_groups, answer_groups}
use Rattle.certificate_checker.proofs.Accepted.{claim_passes}
use Rattle.lowest_terms.specs.Made.{IsMade, IsBestOf, IsEndlessOf}
use Rattle.lowest_terms.specs.Terms.{IsLowestOf}
use Rattle.logic_checker.specs.Models.{is_int_there, may_stand, is_false_at, nodes_of, least_at}

-- every node of the tree passes
abbrev AllPass : (List Half → Node → Result (Unit {0}) Cause) → List Half → ProofTree → Type 0
AllPass test p (leaf c) = test p (leaf_of c) ≡ Ok tt
AllPass test p (fork s t u) = (test p (node.Split s) ≡ Ok tt) × AllPass test (first s ∷ p) t × AllPass test (second s ∷ p) u

decided_by : (k : ℕ) (r : Result (Unit {0}) Cause) (rest : Result (Unit {0}) CheckError) → r ≡ Ok tt → rest ≡ Ok tt → decided k r rest ≡ Ok tt
decided_by k (Ok u) rest e h = h
decided_by k (Err cause) rest e h = absurd cc

decided_ok : (k : ℕ) (r : Result (Unit {0}) Cause) (rest : Result (Unit {0}) CheckError) → decided k r rest ≡ Ok tt → (r ≡ Ok tt) × (rest ≡ Ok tt)
decided_ok k (Ok u) rest h = (refl, h)
decided_ok k (Err cause) rest h = absurd cc

verdict_append : (test : List Half → Node → Result (Unit {0}) Cause) (k : ℕ) (xs ys : List (List Half × Node)) → verdict test k xs ≡ Ok tt → ((i : ℕ) → verdict test i ys ≡ Ok tt) → verdict test k (xs ++ ys) ≡ Ok tt
verdict_append test k [] ys h g = g k
verdict_append test k (x ∷ xs) ys h g =
    let d = decided_ok k (test x.0 x.1) (verdict test (suc k) xs) h in
    decided_by k (test x.0 x.1) (verdict test (suc k) (xs ++ ys)) d.0 (verdict_append test (suc k) xs ys d.1 g)

all_pass : (test : List Half → Node → Result (Unit {0}) Cause) (p : List Half) (t : ProofTree) → AllPass test p t → (k : ℕ) → verdict test k (visits p t) ≡ Ok tt
all_pass test p (leaf c) h k = decided_by k (test p (leaf_of c)) (Ok tt) h refl
all_pass test p (fork s t u) h k =
    decided_by k (test p (node.Split s)) (verdict test (suc k) (visits (first s ∷ p) t ++ visits (second s ∷ p) u)) h.0
    (verdict_append test (suc k) (visits (first s ∷ p) t) (visits (second s ∷ p) u) (all_pass test (first s ∷ p) t h.1 (suc k)) (all_pass test (second s ∷ p) u h.2))

-- what may stand, and what is false, as the checker tests it
open_is : (t : Tri) → t ≡ Open → is_open t ≡ true
open_is t e = rw e refl

less_is : (a b : ℕ) → a < b → nat_lt a b ≡ true
less_is a b l = grind (arith, nat_tests)

int_there : (k : Option Kind) → k ≡ Some kind.Int → is_int_there k ≡ true
int_there k e = rw e refl

no_is : (t : Tri) → t ≡ No → is_no t ≡ true
no_is t e = rw e refl

stands : (m : ModelTree) (p : List Half) (s : Split) → MayStand m p s → may_stand m p s ≡ true
stands m p (split.Int column k) h =
    and_from (is_int_there (kind_at m.vars column)) (is_inner k) (int_there (kind_at m.vars column) h.0) (and_from (is_narrow k) (is_narrow (k +ℤ pos 1)) h.1 h.2)
stands m p (split.Truth id) h = and_from (nat_lt id (length m.booleans)) (is_open (tris_on p id)) (less_is id (length m.booleans) h.0) (open_is (tris_on p id) h.1)

false_is : (m : ModelTree) (p : List Half) (item : ℕ) → item < item_count_of m → tri_of (condition_of m item) (tris_at m p) ≡ No → is_false_at m p item ≡ true
false_is m p item l e = and_from (nat_lt item (item_count_of m)) (is_no (tri_of (condition_of m item) (tris_at m p))) (less_is item (item_count_of m) l) (no_is (tri_of (condition_of m item) (tris_at m p)) e)

-- the quotient of two fractions is one
abbrev IsSame : Fraction → Fraction → Type 0
IsSame v w = (v.den *ℤ w.num ≡ v.num *ℤ w.den) × (pos 0 <ℤ w.den)

le_is : (a b : ℤ) → a ≤ℤ b → int_le a b ≡ true
le_is a b h = grind (arith, ints)

at_least_is : (right scale : ℤ) (v w : Fraction) → pos 0 <ℤ v.den → IsSame v w → (v.num *ℤ scale) ≤ℤ (right *ℤ v.den) → is_at_least right scale w ≡ true
at_least_is right scale v w q e h =
    let a = le_mul w.den (v.num *ℤ scale) (right *ℤ v.den) (let l = e.1 in omega (arith, ints, l)) h in
    let b : w.den *ℤ (v.num *ℤ scale) ≡ v.den *ℤ (w.num *ℤ scale) = turned v.num v.den w.num w.den scale e.0 in
    let c : w.den *ℤ (right *ℤ v.den) ≡ v.den *ℤ (right *ℤ w.den) = simp products refl in
    le_is (w.num *ℤ scale) (right *ℤ w.den) (le_cancel v.den (w.num *ℤ scale) (right *ℤ w.den) q (omega (arith, ints, a, b, c)))
  where
    turned : (n d g o s : ℤ) → d *ℤ g ≡ n *ℤ o → o *ℤ (n *ℤ s) ≡ d *ℤ (g *ℤ s)
    turned n d g o s e =
        let l : o *ℤ (n *ℤ s) ≡ (n *ℤ o) *ℤ s = simp products refl in
        let r : d *ℤ (g *ℤ s) ≡ (d *ℤ g) *ℤ s = simp products refl in
        l ∙ ap (λ z. z *ℤ s) (sym e) ∙ sym r

-- the best value of a search and the value that the checker wants are one
abbrev AreSame : Option Fraction → Option Fraction → Type 0
AreSame None None = Unit {0}
AreSame None (Some w) = ⊥
AreSame (Some v) None = ⊥
AreSame (Some v) (Some w) = IsSame v w

leaf_passes : (m : ModelTree) (p : List Half) (c : Closure) (b w : Option Fraction) → AreSame b w → Passes (model_problem m) (model_meaning m) p c b → node_test (nodes_of m) w p (leaf_of c) ≡ Ok tt
leaf_passes m p (refuted ms) b w e h = rw h refl
leaf_passes m p (bounded scale ms) None w e h = absurd h
leaf_passes m p (bounded scale ms) (Some v) None e h = absurd e
leaf_passes m p (bounded scale ms) (Some v) (Some w) e h = rw (h.1.0, at_least_is h.0 scale v w h.1.2 e h.1.1) refl
leaf_passes m p (logic_false item) b w e h = rw (false_is m p item h.0 h.1) refl

tree_passes : (m : ModelTree) (p : List Half) (t : ProofTree) (b w : Option Fraction) → AreSame b w → IsProof (words_of (model_problem m) (model_meaning m)) b p t → AllPass (node_test (nodes_of m) w) p t
tree_passes m p (leaf c) b w e h = leaf_passes m p c b w e h.0
tree_passes m p (fork s t u) b w e h = (rw (stands m p s h.0) refl, tree_passes m (first s ∷ p) t b w e h.1, tree_passes m (second s ∷ p) u b w e h.2)

nodes_pass : (m : ModelTree) (proof : List Node) (t : ProofTree) (b w : Option Fraction) → preorder t ≡ proof → AreSame b w → IsProof (words_of (model_problem m) (model_meaning m)) b [] t
    → first_error (nodes_group (nodes_of m) w proof ∷ []) ≡ Ok tt
nodes_pass m proof t b w o e h =
    let v : verdict (node_test (nodes_of m) w) 0 (walk [] proof) ≡ Ok tt =
    ap (verdict (node_test (nodes_of m) w) 0) (walk_is t proof o) ∙ all_pass (node_test (nodes_of m) w) [] t (tree_passes m [] t b w e h) 0 in
    ap (λ r. first_error (refused_by node_refusal r ∷ [])) v

-- the goal's value at a point and at it in lowest terms
signed_same : (sense : Sense) (ts : List (ℕ × ℤ)) (x y : PointValue) (v : Fraction) (l : IsLowestOf x y) → pos 0 <ℤ x.over → v.den *ℤ dot (goal_terms sense ts) (at x.nums) ≡ v.num *ℤ x.over
    → IsSame v (signed sense (dot ts (at y.nums)) y.over)
signed_same sense ts x y v l p e = by_sense sense (scaled e)
  where
    over : pos 0 <ℤ y.over
    over = pos_cancel l.factor y.over l.positive (subst (λ z. pos 0 <ℤ z) (l.same 0) p)

    nums : at x.nums ≡ (λ j. l.factor *ℤ at y.nums j)
    nums = λ i j. l.same (suc j) i

    turned : (k d g n o : ℤ) → pos 0 <ℤ k → d *ℤ (k *ℤ g) ≡ n *ℤ (k *ℤ o) → d *ℤ g ≡ n *ℤ o
    turned k d g n o q h =
        let a : k *ℤ (d *ℤ g) ≡ d *ℤ (k *ℤ g) = simp products refl in
        let b : k *ℤ (n *ℤ o) ≡ n *ℤ (k *ℤ o) = simp products refl in
        mul_cancel k (d *ℤ g) (n *ℤ o) q (a ∙ h ∙ sym b)

    scaled : v.den *ℤ dot (goal_terms sense ts) (at x.nums) ≡ v.num *ℤ x.over → v.den *ℤ dot (goal_terms sense ts) (at y.nums) ≡ v.num *ℤ y.over
    scaled h =
        turned l.factor v.den (dot (goal_terms sense ts) (at y.nums)) v.num y.over l.positive
        (ap (λ z. v.den *ℤ z) (sym (dot_scale (goal_terms sense ts) l.factor (at y.nums))) ∙ ap (λ f. v.den *ℤ dot (goal_terms sense ts) f) (sym nums) ∙ h ∙ ap (λ z. v.num *ℤ z) (l.same 0))

    by_sense : (s : Sense) → v.den *ℤ dot (goal_terms s ts) (at y.nums) ≡ v.num *ℤ y.over → IsSame v (signed s (dot ts (at y.nums)) y.over)
    by_sense Min h = (h, over)
    by_sense Max h = (ap (λ z. v.den *ℤ z) (sym (dot_negated ts (at y.nums))) ∙ h, over)

pub best_passes : (m : ModelTree) (steps : ℕ) (log : List Event) (b : Best) (proof : List Node) (claim : Claim) → IsAnswer (model_problem m) (model_meaning m) steps log (Done (found.Best b proof))
    → IsMade b.at (λ y r. IsBestOf m y b.truths proof r) (Ok claim) → first_error (answer_groups m (nodes_of m) (least_at m claim) claim) ≡ Ok tt
best_passes m steps log b proof claim a c =
    let y = c.0 in
    let v = c.2.0 in
    let best = claims.Best y b.truths v proof in
    let w = Some (signed m.goal.sense (dot m.goal.terms (at y.nums)) y.over) in
    let shown = a.0.0 in
    let tests : first_error (claim_groups m best) ≡ Ok tt = ap (λ k. first_error (claim_groups m k)) (sym c.2.1) ∙ c.2.2 in
    let nodes = nodes_pass m proof a.0.1.0 (Some b.value) w a.0.1.1.0 (signed_same m.goal.sense m.goal.terms b.at y b.value c.1 shown.0.point.point.over shown.1.1) a.0.1.1.1 in
    subst (λ k. first_error (answer_groups m (nodes_of m) (least_at m k) k) ≡ Ok tt) (sym c.2.1)
    (sym (claim_passes (claim_groups m best) (proof_groups (nodes_of m) w best) (sym tests)) ∙ nodes)

pub empty_passes : (m : ModelTree) (steps : ℕ) (log : List Event) (proof : List Node) → IsAnswer (model_problem m) (model_meaning m) steps log (Done (found.Empty proof))
    → first_error (answer_groups m (nodes_of m) None (claims.Empty proof)) ≡ Ok tt
empty_passes m steps log proof a = nodes_pass m proof a.0.1.0 None None a.0.1.1.0 tt a.0.1.1.1

pub endless_passes : (m : ModelTree) (x : PointValue) (truths : List Bool) (ray : List ℤ) (claim : Claim) → IsMade x (λ y r. IsEndlessOf m y truths ray r) (Ok claim)
    → first_error (answer_groups m (nodes_of m) (least_at m claim) claim) ≡ Ok tt
endless_passes m x truths ray claim c =
    let endless = claims.Endless c.0 truths ray in
    let tests : first_error (claim_groups m endless) ≡ Ok tt = ap (λ k. first_error (claim_groups m k)) (sym c.2.0) ∙ c.2.1 in
    subst (λ k. first_error (answer_groups m (nodes_of m) (least_at m k) k) ≡ Ok tt) (sym c.2.0) (sym (claim_passes (claim_groups m endless) [] (sym tests)))
