-- What is read of a node's parts is what its form gives.
use Rattle.std.proofs.Common.{◌≡◌, ℕ, ℤ, Bool, true, false, not, ◌&&◌, if◌then◌else◌, List, Option, None, Some, Ok, Err, refl}
use Rattle.fractions.specs.Width.{fits}
use Rattle.text_grammar.specs.Outcomes.{◌>>=◌, refused_where}
use Rattle.cert_grammar.specs.declared.cause.CertCause.TheVariants as cause
use Rattle.cert_grammar.specs.Nodes.{◌>?>◌, is_short, are_short, form_of, node_of}
use Rattle.proof_tree.specs.declared.path.Split.TheVariants as split
use Rattle.proof_tree.specs.declared.proof.Node.TheVariants as node
use Rattle.cert_lines.specs.declared.number.Natural.TheVariants as natural
use Rattle.cert_lines.specs.declared.number.Whole.TheVariants as whole
use Rattle.cert_lines.specs.declared.pairs.Pairs.TheVariants as pairs
use Rattle.cert_lines.specs.NodeReads.{node_with, int_result, truth_result, logic_result, refuted_result, bounded_result}
use Rattle.cert_lines.specs.Pairs.{pairs_read}
use Rattle.cert_lines.specs.Reads.{natural_read, whole_read}

pub node_with_is : (words : List (List ℕ)) → node_of words ≡ node_with (form_of words)
unfolding node_of
node_with_is words = refl

pub int_is : (a : Option ℕ) (b : Option ℤ) → int_result (natural_read a) (whole_read b) ≡ node_with (a >?> (λ j. b >?> (λ k. Some (node.Split (split.Int j k)))))
int_is None b = refl
int_is (Some j) None = go (is_short j)
  where
    go : (x : Bool) → int_result (if x then natural.Is j else natural.Wide) whole.Malformed ≡ Err cause.Form
    go true = refl
    go false = refl
int_is (Some j) (Some k) = go (is_short j) (fits k)
  where
    go : (x y : Bool) → int_result (if x then natural.Is j else natural.Wide) (if y then whole.Is k else whole.Wide) ≡ (refused_where (not (x && y)) cause.Number >>= (λ _. Ok (node.Split (split.Int j k))))
    go true true = refl
    go true false = refl
    go false true = refl
    go false false = refl

pub truth_is : (a : Option ℕ) → truth_result (natural_read a) ≡ node_with (a >?> (λ n. Some (node.Split (split.Truth n))))
truth_is None = refl
truth_is (Some n) = go (is_short n)
  where
    go : (x : Bool) → truth_result (if x then natural.Is n else natural.Wide) ≡ (refused_where (not x) cause.Number >>= (λ _. Ok (node.Split (split.Truth n))))
    go true = refl
    go false = refl

pub logic_is : (a : Option ℕ) → logic_result (natural_read a) ≡ node_with (a >?> (λ n. Some (node.LogicFalse n)))
logic_is None = refl
logic_is (Some n) = go (is_short n)
  where
    go : (x : Bool) → logic_result (if x then natural.Is n else natural.Wide) ≡ (refused_where (not x) cause.Number >>= (λ _. Ok (node.LogicFalse n)))
    go true = refl
    go false = refl

pub refuted_is : (o : Option (List (ℕ × ℤ))) → refuted_result (pairs_read o) ≡ node_with (o >?> (λ ps. Some (node.Refuted ps)))
refuted_is None = refl
refuted_is (Some ps) = go (are_short ps)
  where
    go : (x : Bool) → refuted_result (if x then pairs.Are ps else pairs.Wide) ≡ (refused_where (not x) cause.Number >>= (λ _. Ok (node.Refuted ps)))
    go true = refl
    go false = refl

pub bounded_is : (a : Option ℤ) (o : Option (List (ℕ × ℤ))) → bounded_result (whole_read a) (pairs_read o) ≡ node_with (a >?> (λ s. o >?> (λ ps. Some (node.Bounded s ps))))
bounded_is None o = refl
bounded_is (Some s) None = go (fits s)
  where
    go : (x : Bool) → bounded_result (if x then whole.Is s else whole.Wide) pairs.Malformed ≡ Err cause.Form
    go true = refl
    go false = refl
bounded_is (Some s) (Some ps) = go (fits s) (are_short ps)
  where
    go : (x y : Bool) → bounded_result (if x then whole.Is s else whole.Wide) (if y then pairs.Are ps else pairs.Wide) ≡ (refused_where (not (x && y)) cause.Number >>= (λ _. Ok (node.Bounded s ps)))
    go true true = refl
    go true false = refl
    go false true = refl
    go false false = refl
