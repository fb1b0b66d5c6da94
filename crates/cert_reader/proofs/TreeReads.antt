-- What the lines of a proof give, step by step.
use Rattle.std.proofs.Common.{◌≡◌, ◌≢◌, ℕ, zero, suc, ◌-◌, true, false, List, [], ◌∷◌, ◌++◌, Result, Ok, Err, refl, ap, arith}
use Rattle.cert_grammar.specs.declared.cause.CertCause.{CertCause}
use Rattle.cert_grammar.specs.declared.cause.CertCause.TheVariants as cause
use Rattle.cert_grammar.specs.Nodes.{node_of}
use Rattle.proof_tree.specs.declared.proof.Node.{Node}
use Rattle.cert_grammar.specs.Trees.{TreeTaken, with_node, with_end, is_end, with_words}
use Rattle.proof_tree.specs.Tree.{opens}

abbrev ok_of : TreeTaken → Result TreeTaken CertCause
ok_of t = Ok t

pub never_open : (t : TreeTaken) (n : Node) → t.halves ≡ 0 → with_node t n t.halves ≡ Err cause.Shape
never_open t n e = ap (with_node t n) e

pub one_added : (t : TreeTaken) (n : Node) → t.halves ≢ 0 → with_node t n t.halves ≡ Ok (record { halves = opens n (t.halves - 1); nodes = t.nodes ++ n ∷ []; ended = false })
one_added t n some = go t.halves some
  where
    go : (h : ℕ) → h ≢ 0 → with_node t n h ≡ Ok (record { halves = opens n (h - 1); nodes = t.nodes ++ n ∷ []; ended = false })
    go zero some = absurd (some refl)
    go (suc h) some = let e : h ≡ suc h - 1 = omega arith in ap (λ (k : ℕ). ok_of (record { halves = opens n k; nodes = t.nodes ++ n ∷ []; ended = false })) e

pub words_behind : (t : TreeTaken) (words : List (List ℕ)) → t.ended ≡ true → with_words t words ≡ Err cause.Form
unfolding with_words
words_behind t words e = rw e refl

pub words_end : (t : TreeTaken) (words : List (List ℕ)) → t.ended ≡ false → is_end words ≡ true → with_words t words ≡ with_end t
unfolding with_words
words_end t words e f = rw (e, f) refl

pub words_bad : (t : TreeTaken) (words : List (List ℕ)) (c : CertCause) → t.ended ≡ false → is_end words ≡ false → node_of words ≡ Err c → with_words t words ≡ Err c
unfolding with_words
words_bad t words c e f n = rw (e, f, n) refl

pub words_node : (t : TreeTaken) (words : List (List ℕ)) (n : Node) → t.ended ≡ false → is_end words ≡ false → node_of words ≡ Ok n → with_words t words ≡ with_node t n t.halves
unfolding with_words
words_node t words n e f o = rw (e, f, o) refl
