-- The outcome of a complete search is right.
use Rattle.std.proofs.Common.{◌≡◌, List, [], ◌∷◌, Option, Some, None, true, refl, ◌∙◌}
use Rattle.std.proofs.lemmas.List.Folds.{list_all-append}
use Rattle.std.specs.List.{list_all}
use Rattle.fractions.specs.Fraction.{Fraction}
use Rattle.lp_frame.proofs.Both.{both}
use Rattle.proof_tree.specs.declared.path.Half.{Half}
use Rattle.proof_tree.specs.Paths.{first, second}
use Rattle.proof_tree.specs.declared.proof.Node.{Node}
use Rattle.proof_tree.specs.Tree.{Closure, ProofTree, leaf, fork, preorder, leaf_of, is_listed}
use Rattle.search_rules.specs.declared.waiting.Best.{Best}
use Rattle.search_rules.specs.Machine.{value_of}
use Rattle.search_rules.specs.Claims.{Words, IsProof, IsBest}
use Rattle.search_rules.specs.Outcomes.{outcome_of, IsRightOutcome}

-- a proof whose leaves are listed is so as a list
pub proof_listed : (w : Words) → ((p : List Half) (c : Closure) (best : Option Fraction) → w.closes p c best → is_listed (leaf_of c) ≡ true) → (best : Option Fraction) (p : List Half) (t : ProofTree) → IsProof w best p t → list_all is_listed (preorder t) ≡ true
proof_listed w each best p (leaf c) i = both (is_listed (leaf_of c)) true (each p c best i) refl
proof_listed w each best p (fork s a b) i =
    list_all-append is_listed (preorder a) (preorder b)
    ∙ both (list_all is_listed (preorder a)) (list_all is_listed (preorder b)) (proof_listed w each best (first s ∷ p) a i.1) (proof_listed w each best (second s ∷ p) b i.2)

pub outcome_right : (w : Words) (best : Option Best) (proof : List Node) (t : ProofTree) → IsProof w (value_of best) [] t → IsBest w best → preorder t ≡ proof → IsRightOutcome w (outcome_of best proof)
outcome_right w None proof t p b e = (b, (t, (e, p)))
outcome_right w (Some best) proof t p b e = (b, (t, (e, p)))
