-- The text of an answer, part by part.
use Rattle.std.specs.Prelude.{ℕ, List, map, [], ◌∷◌, codes}
use Rattle.proof_tree.specs.declared.proof.Node.{Node}
use Rattle.text_grammar.specs.Printing.{text_of}
use Rattle.cert_grammar.specs.Answers.{exact_text_line}
use Rattle.cert_grammar.specs.Trees.{tree_lines}

-- the text of lines of words
abbrev pub words_text : List (List (List ℕ)) → List ℕ
words_text lines = text_of (map exact_text_line lines)

-- the lines of a proof
abbrev pub tree_part : List Node → List (List (List ℕ))
tree_part nodes = (codes "tree" ∷ []) ∷ tree_lines nodes

-- the lines of the claim that there is no point
abbrev pub empty_lines : List Node → List (List (List ℕ))
empty_lines nodes = (codes "empty" ∷ []) ∷ tree_part nodes
