-- Nodes that are read one after the other make a proof.
use Rattle.std.proofs.Common.{◌≡◌, ◌≢◌, ℕ, zero, suc, ◌-◌, Bool, true, false, List, [], ◌∷◌, ◌++◌, Ok, refl, ap, sym, ◌∙◌, append_assoc, append-nil, arith}
use Rattle.std.specs.List.{list_all}
use Rattle.text_grammar.proofs.Bools.{both, and_true}
use Rattle.cert_grammar.specs.Nodes.{node_of}
use Rattle.cert_grammar.proofs.Forms.{node_only}
use Rattle.proof_tree.specs.declared.proof.Node.{Node}
use Rattle.proof_tree.specs.Tree.{opens, closes, is_listed, IsProofList}
use Rattle.proof_tree.proofs.Trees.{proof_of}
use Rattle.cert_reader.specs.Grown.{IsGrown}

pub listed_node : (words : List (List ℕ)) (n : Node) → Ok n ≡ node_of words → is_listed n ≡ true
listed_node words n e = (node_only words n (sym e)).sound

all_more : (ns : List Node) (n : Node) → list_all is_listed ns ≡ true → is_listed n ≡ true → list_all is_listed (ns ++ n ∷ []) ≡ true
all_more [] n a l = and_true (is_listed n) true l refl
all_more (x ∷ xs) n a l =
    let b = both (is_listed x) (list_all is_listed xs) a in
    and_true (is_listed x) (list_all is_listed (xs ++ n ∷ [])) b.0 (all_more xs n b.1 l)

pub grown_start : IsGrown [] 1 false
grown_start = record { listed = refl; counted = λ more. refl; closed = λ e. absurd (cc e) }

pub grown_more : (ns : List Node) (n : Node) (halves after : ℕ) (ended : Bool) → IsGrown ns halves ended → is_listed n ≡ true → halves ≢ 0 → after ≡ opens n (halves - 1) → IsGrown (ns ++ n ∷ []) after false
grown_more ns n halves after ended is l some e = record {
  listed = all_more ns n is.listed l;
  counted = λ more.
      ap (closes 1) (append_assoc ns (n ∷ []) more) ∙ is.counted (n ∷ more) ∙ step halves some more
      ∙ ap (λ (k : ℕ). closes k more) (sym e);
  closed = λ wrong. absurd (cc wrong);
}
  where
    step : (h : ℕ) → h ≢ 0 → (more : List Node) → closes h (n ∷ more) ≡ closes (opens n (h - 1)) more
    step zero some more = absurd (some refl)
    step (suc k) some more = let e : k ≡ suc k - 1 = omega arith in ap (λ (j : ℕ). closes (opens n j) more) e

pub grown_end : (ns : List Node) (halves : ℕ) (ended : Bool) → IsGrown ns halves ended → halves ≡ 0 → IsGrown ns halves true
grown_end ns halves ended is none = record { listed = is.listed; counted = is.counted; closed = λ e. none }

pub grown_proof : (ns : List Node) (halves : ℕ) (ended : Bool) → IsGrown ns halves ended → ended ≡ true → IsProofList ns
grown_proof ns halves ended is e =
    let none : closes 1 ns ≡ true = ap (closes 1) (sym (append-nil ns)) ∙ is.counted [] ∙ ap (λ (h : ℕ). closes h []) (is.closed e) in
    proof_of ns (and_true (closes 1 ns) (list_all is_listed ns) none is.listed)
