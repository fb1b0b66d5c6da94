-- The lines of a proof lead to it, and lines that lead to a proof are its lines.
use Rattle.std.proofs.Common.{◌≡◌, ℕ, zero, suc, ◌+◌, Bool, true, false, not, ◌==◌, ◌&&◌, List, [], ◌∷◌, ◌++◌, codes, Result, Ok, Err, refl, ap, sym, subst, ◌∙◌, append-nil, append_assoc, if◌then◌else◌, arith}
use Rattle.std.proofs.lemmas.Bool.Decides.{nat_tests}
use Rattle.std.proofs.lemmas.Slice.Eq.{bytes_eq-Decides}
use Rattle.text_grammar.specs.Grammars.{LeadsBy}
use Rattle.text_grammar.specs.Outcomes.{◌>>=◌, refused_where}
use Rattle.text_grammar.proofs.Bools.{both, and_true}
use Rattle.cert_grammar.specs.declared.cause.CertCause.{CertCause}
use Rattle.cert_grammar.specs.declared.cause.CertCause.TheVariants as cause
use Rattle.cert_grammar.specs.Laws.{IsFittingProof, WrittenTree, TreeIsWritten}
use Rattle.cert_grammar.specs.Nodes.{node_words, node_of, node_fits}
use Rattle.proof_tree.specs.declared.path.Split.TheVariants as split
use Rattle.proof_tree.specs.declared.proof.Node.{Node}
use Rattle.proof_tree.specs.declared.proof.Node.TheVariants as node
use Rattle.proof_tree.specs.Tree.{closes, is_listed, opens}
use Rattle.cert_grammar.specs.Trees.{TreeTaken, with_node, with_end, is_end, with_words, tree_grammar, tree_lines}
use Rattle.cert_grammar.proofs.Forms.{are_nodes, proof_nodes, proof_closes, fitting_proof, node_again, IsRead, node_only}

-- what was taken before the end
abbrev pub at_nodes : ℕ → List Node → TreeTaken
at_nodes halves nodes = record { halves = halves; nodes = nodes; ended = false }

abbrev pub at_end : List Node → TreeTaken
at_end nodes = record { halves = 0; nodes = nodes; ended = true }

never_end : (n : Node) → is_end (node_words n) ≡ false
never_end (node.Split (split.Int column at)) = refl
never_end (node.Split (split.Truth id)) = refl
never_end (node.Refuted []) = refl
never_end (node.Refuted (p ∷ ps)) = refl
never_end (node.Bounded scale mults) = refl
never_end (node.LogicFalse place) = refl

node_taken : (n : Node) (halves : ℕ) (done : List Node) → node_fits n ≡ true → is_listed n ≡ true → with_words (at_nodes (suc halves) done) (node_words n) ≡ Ok (at_nodes (opens n halves) (done ++ n ∷ []))
unfolding with_words
node_taken n halves done f s = rw (never_end n, node_again n f s) refl

end_taken : (done : List Node) → with_words (at_nodes 0 done) (codes "end" ∷ []) ≡ Ok (at_end done)
unfolding with_words
end_taken done = refl

pub lead : (k halves : ℕ) (done ns : List Node) → are_nodes ns ≡ true → closes halves ns ≡ true → LeadsBy tree_grammar k (at_nodes halves done) (tree_lines ns) (at_end (done ++ ns))
lead k zero done [] f t = (at_end done, end_taken done, ap at_end (sym (append-nil done)))
lead k (suc halves) done [] f t = absurd (cc t)
lead k zero done (n ∷ ns) f t = absurd (cc t)
lead k (suc halves) done (n ∷ ns) f t =
    let b = both (node_fits n && is_listed n) (are_nodes ns) f in
    let c = both (node_fits n) (is_listed n) b.0 in
    let next : TreeTaken = at_nodes (opens n halves) (done ++ n ∷ []) in (
      next,
      node_taken n halves done c.0 c.1,
      subst (λ (l : List Node). LeadsBy tree_grammar (k + 1) next (tree_lines ns) (at_end l)) (append_assoc done (n ∷ []) ns) (lead (k + 1) (opens n halves) (done ++ n ∷ []) ns b.1 t),
    )

pub written_tree : WrittenTree
written_tree nodes is = record { taken = at_end nodes; leads = lead 1 1 [] nodes (proof_nodes nodes is) (proof_closes nodes is); gives = refl }

-- after the end no line is taken
record LeadsOn (halves : ℕ) (done : List Node) (lines : List (List (List ℕ))) (after : TreeTaken) : Type 0 where
  more : List Node
  taken : after.nodes ≡ done ++ more
  fit : are_nodes more ≡ true
  trees : closes halves more ≡ true
  lines_are : lines ≡ tree_lines more

pub end_words : (words : List (List ℕ)) → is_end words ≡ true → words ≡ codes "end" ∷ []
end_words [] e = absurd (cc e)
end_words (w ∷ []) e = ap (λ (x : List ℕ). x ∷ []) ((bytes_eq-Decides w (codes "end")).0 e)
end_words (w ∷ v ∷ ws) e = absurd (cc e)

-- a line before the end is the end or a node
pub data Step (halves : ℕ) (done : List Node) (words : List (List ℕ)) (after : TreeTaken) : Type 0 where
  ends : halves ≡ 0 → words ≡ codes "end" ∷ [] → after ≡ at_end done → Step halves done words after
  goes : (n : Node) (below : ℕ) → halves ≡ suc below → IsRead words n → after ≡ at_nodes (opens n below) (done ++ n ∷ []) → Step halves done words after

pub step_of : (halves : ℕ) (done : List Node) (words : List (List ℕ)) (after : TreeTaken) → with_words (at_nodes halves done) words ≡ Ok after → Step halves done words after
unfolding with_words
step_of halves done words after e = go (is_end words) refl e
  where
    ended : (z : Bool) → (halves == 0) ≡ z → is_end words ≡ true → (refused_where (not z) cause.Shape >>= (λ _. Ok (record { halves = halves; nodes = done; ended = true }))) ≡ Ok after → Step halves done words after
    ended true is end e =
        let none : halves ≡ 0 = zero_is halves is in
        let same : record { halves = halves; nodes = done; ended = true } ≡ after = cc e in
        ends none (end_words words end) (sym same ∙ ap (λ (h : ℕ). record { halves = h; nodes = done; ended = true }) none)
      where
        zero_is : (n : ℕ) → (n == 0) ≡ true → n ≡ 0
        zero_is n e = grind (arith, nat_tests)
    ended false is end e = absurd (cc e)

    noded : (n : Node) (h : ℕ) → halves ≡ h → node_of words ≡ Ok n → with_node (at_nodes halves done) n h ≡ Ok after → Step halves done words after
    noded n zero is r e = absurd (cc e)
    noded n (suc below) is r e =
        let same : at_nodes (opens n below) (done ++ n ∷ []) ≡ after = cc e in
        goes n below is (node_only words n r) (sym same)

    read : (r : Result Node CertCause) → node_of words ≡ r → (r >>= (λ n. with_node (at_nodes halves done) n halves)) ≡ Ok after → Step halves done words after
    read (Ok n) is e = noded n halves refl is e
    read (Err c) is e = absurd (cc e)

    go : (b : Bool) → is_end words ≡ b → (if b then with_end (at_nodes halves done) else (node_of words >>= (λ n. with_node (at_nodes halves done) n halves))) ≡ Ok after → Step halves done words after
    go true is e = ended (halves == 0) refl is e
    go false is e = read (node_of words) refl e

-- no line stands behind the end
none_behind : (k : ℕ) (done : List Node) (lines : List (List (List ℕ))) (after : TreeTaken) → LeadsBy tree_grammar k (at_end done) lines after → (lines ≡ []) × (at_end done ≡ after)
unfolding with_words
none_behind k done [] after e = (refl, e)
none_behind k done (l ∷ ls) after e = absurd (cc e.1)

leads_on : (k halves : ℕ) (done : List Node) (lines : List (List (List ℕ))) (after : TreeTaken) → LeadsBy tree_grammar k (at_nodes halves done) lines after → after.ended ≡ true → LeadsOn halves done lines after
leads_on k halves done [] after e end = absurd (cc (ap (λ (t : TreeTaken). t.ended) e ∙ end))
leads_on k halves done (l ∷ ls) after e end =
    go (step_of halves done l e.0 e.1) (λ (h : ℕ) (d : List Node) (lead : LeadsBy tree_grammar (k + 1) (at_nodes h d) ls after). leads_on (k + 1) h d ls after lead end)
  where
    go : Step halves done l e.0 → ((h : ℕ) (d : List Node) → LeadsBy tree_grammar (k + 1) (at_nodes h d) ls after → LeadsOn h d ls after) → LeadsOn halves done (l ∷ ls) after
    go (ends none words is) below =
        let b = none_behind (k + 1) done ls after (subst (λ (t : TreeTaken). LeadsBy tree_grammar (k + 1) t ls after) is e.2) in
        record {
          more = [];
          taken = sym (ap (λ (t : TreeTaken). t.nodes) b.1) ∙ sym (append-nil done);
          fit = refl;
          trees = ap (λ (n : ℕ). closes n []) none;
          lines_are = ap (λ (w : List (List ℕ)). w ∷ ls) words ∙ ap (λ (x : List (List (List ℕ))). (codes "end" ∷ []) ∷ x) b.0;
        }
    go (goes n half halves_are r is) below =
        let b = below (opens n half) (done ++ n ∷ []) (subst (λ (t : TreeTaken). LeadsBy tree_grammar (k + 1) t ls after) is e.2) in
        record {
          more = n ∷ b.more;
          taken = b.taken ∙ append_assoc done (n ∷ []) b.more;
          fit = and_true (node_fits n && is_listed n) (are_nodes b.more) (and_true (node_fits n) (is_listed n) r.fits_it r.sound) b.fit;
          trees = ap (λ (h : ℕ). closes h (n ∷ b.more)) halves_are ∙ b.trees;
          lines_are = ap (λ (w : List (List ℕ)). w ∷ ls) r.words_are ∙ ap (λ (x : List (List (List ℕ))). node_words n ∷ x) b.lines_are;
        }

pub tree_is_written : TreeIsWritten
tree_is_written lines nodes s = go s.taken.ended refl s.gives
  where
    go : (b : Bool) → s.taken.ended ≡ b → (refused_where (not b) cause.Form >>= (λ _. Ok s.taken.nodes)) ≡ Ok nodes → IsFittingProof nodes × (lines ≡ tree_lines nodes)
    go false is e = absurd (cc e)
    go true is e =
        let l = leads_on 1 1 [] lines s.taken s.leads is in
        let same : s.taken.nodes ≡ nodes = cc e in
        let more : l.more ≡ nodes = sym l.taken ∙ same in
        (fitting_proof nodes (ap are_nodes (sym more) ∙ l.fit) (ap (closes 1) (sym more) ∙ l.trees), l.lines_are ∙ ap tree_lines more)
