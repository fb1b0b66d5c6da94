-- Nodes as they are read.
use Rattle.std.specs.Prelude.{ℕ, not, List, Option, Some, Result, Ok, Err}
use Rattle.text_grammar.specs.Outcomes.{◌>>=◌, refused_where, or_cause}
use Rattle.cert_grammar.specs.declared.cause.CertCause.{CertCause}
use Rattle.cert_grammar.specs.declared.cause.CertCause.TheVariants as cause
use Rattle.cert_grammar.specs.Nodes.{◌>?>◌, pairs_from, node_fits}
use Rattle.proof_tree.specs.declared.path.Split.TheVariants as split
use Rattle.proof_tree.specs.declared.proof.Node.{Node}
use Rattle.proof_tree.specs.declared.proof.Node.TheVariants as node
use Rattle.cert_lines.specs.declared.number.Natural.{Natural}
use Rattle.cert_lines.specs.declared.number.Natural.TheVariants as natural
use Rattle.cert_lines.specs.declared.number.Whole.{Whole}
use Rattle.cert_lines.specs.declared.number.Whole.TheVariants as whole
use Rattle.cert_lines.specs.declared.pairs.Pairs.{Pairs}
use Rattle.cert_lines.specs.declared.pairs.Pairs.TheVariants as pairs
use Rattle.cert_lines.specs.declared.nodes.NodeRead.{NodeRead}
use Rattle.cert_lines.specs.declared.nodes.NodeRead.TheVariants as read

-- a node as it is read
abbrev pub node_result : NodeRead → Result Node CertCause
node_result read.Malformed = Err cause.Form
node_result read.Wide = Err cause.Number
node_result (read.Is n) = Ok n

-- the node of a form, or the first cause that it is none
abbrev pub node_with : Option Node → Result Node CertCause
node_with form = do
  n ← or_cause cause.Form form
  number ← refused_where (not (node_fits n)) cause.Number
  Ok n

-- the form of multipliers alone
abbrev pub refuted_form : List (List ℕ) → Option Node
refuted_form words = pairs_from 0 words >?> (λ ps. Some (node.Refuted ps))

-- a split on a column, of its parts as they are read
abbrev pub int_result : Natural → Whole → Result Node CertCause
int_result natural.Malformed at = Err cause.Form
int_result natural.Wide whole.Malformed = Err cause.Form
int_result natural.Wide whole.Wide = Err cause.Number
int_result natural.Wide (whole.Is k) = Err cause.Number
int_result (natural.Is j) whole.Malformed = Err cause.Form
int_result (natural.Is j) whole.Wide = Err cause.Number
int_result (natural.Is j) (whole.Is k) = Ok (node.Split (split.Int j k))

-- a split on a Boolean
abbrev pub truth_result : Natural → Result Node CertCause
truth_result natural.Malformed = Err cause.Form
truth_result natural.Wide = Err cause.Number
truth_result (natural.Is n) = Ok (node.Split (split.Truth n))

-- a false place
abbrev pub logic_result : Natural → Result Node CertCause
logic_result natural.Malformed = Err cause.Form
logic_result natural.Wide = Err cause.Number
logic_result (natural.Is n) = Ok (node.LogicFalse n)

-- multipliers alone
abbrev pub refuted_result : Pairs → Result Node CertCause
refuted_result pairs.Malformed = Err cause.Form
refuted_result pairs.Wide = Err cause.Number
refuted_result (pairs.Are ps) = Ok (node.Refuted ps)

-- a scale and multipliers
abbrev pub bounded_result : Whole → Pairs → Result Node CertCause
bounded_result whole.Malformed ps = Err cause.Form
bounded_result whole.Wide pairs.Malformed = Err cause.Form
bounded_result whole.Wide pairs.Wide = Err cause.Number
bounded_result whole.Wide (pairs.Are ps) = Err cause.Number
bounded_result (whole.Is s) pairs.Malformed = Err cause.Form
bounded_result (whole.Is s) pairs.Wide = Err cause.Number
bounded_result (whole.Is s) (pairs.Are ps) = Ok (node.Bounded s ps)
