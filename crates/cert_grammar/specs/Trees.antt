-- The nodes of a proof in preorder, line by line.
use Rattle.std.specs.Prelude.{ℕ, zero, suc, Bool, true, false, not, ◌==◌, List, [], ◌∷◌, ◌++◌, Result, Ok, Err, if◌then◌else◌, codes, bytes_eq}
use Rattle.text_grammar.specs.Grammars.{Grammar}
use Rattle.text_grammar.specs.Outcomes.{◌>>=◌, refused_where}
use Rattle.cert_grammar.specs.declared.cause.CertCause.{CertCause}
use Rattle.cert_grammar.specs.declared.cause.CertCause.TheVariants as cause
use Rattle.cert_grammar.specs.Nodes.{node_words, node_of}
use Rattle.proof_tree.specs.declared.proof.Node.{Node}
use Rattle.proof_tree.specs.Tree.{opens}

-- what the lines so far gave: how many halves are open, the nodes, and whether the end was among them
pub record TreeTaken : Type 0 where
  pub halves : ℕ
  pub nodes : List Node
  pub ended : Bool

-- one tree is open
abbrev pub tree_open : TreeTaken
tree_open = record { halves = 1; nodes = []; ended = false }

-- a node takes one of the open halves
abbrev pub with_node : TreeTaken → Node → ℕ → Result TreeTaken CertCause
with_node t n zero = Err cause.Shape
with_node t n (suc halves) = Ok (record { halves = opens n halves; nodes = t.nodes ++ n ∷ []; ended = false })

-- the end comes where no half is open
abbrev pub with_end : TreeTaken → Result TreeTaken CertCause
with_end t = do
  shape ← refused_where (not (t.halves == 0)) cause.Shape
  Ok (record t { ended = true })

-- the words are those of the end
abbrev pub is_end : List (List ℕ) → Bool
is_end (w ∷ []) = bytes_eq w (codes "end")
is_end _ = false

-- what a line with these words adds
unfoldable pub with_words : TreeTaken → List (List ℕ) → Result TreeTaken CertCause
with_words t words = do
  place ← refused_where t.ended cause.Form
  if is_end words then with_end t else (node_of words >>= (λ n. with_node t n t.halves))

-- a text that ends before its end is refused there
abbrev pub nodes_after : TreeTaken → Result (List Node) CertCause
nodes_after t = do
  end ← refused_where (not t.ended) cause.Form
  Ok t.nodes

-- the grammar of the lines behind `tree`, by their words
abbrev pub tree_grammar : Grammar (List (List ℕ)) TreeTaken (List Node) CertCause
tree_grammar = record { start = tree_open; step = λ line t words. with_words t words; finish = nodes_after }

-- the lines of a proof, by their words
abbrev pub tree_lines : List Node → List (List (List ℕ))
tree_lines [] = (codes "end" ∷ []) ∷ []
tree_lines (n ∷ ns) = node_words n ∷ tree_lines ns
