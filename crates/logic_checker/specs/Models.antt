-- The nodes of a proof over a model's own forces.
use Rattle.std.specs.Prelude.{ℕ, Bool, true, false, ◌&&◌, List, length, Option, Some, None, nat_lt}
use Rattle.fractions.specs.Fraction.{Fraction}
use Rattle.gdp_tables.specs.declared.tri.Tri.{Tri}
use Rattle.gdp_tables.specs.declared.tri.Tri.TheVariants.{No, Yes, Open}
use Rattle.int_linear.specs.Sums.{at}
use Rattle.int_linear.specs.Terms.{dot}
use Rattle.lp_rows.specs.declared.kinds.Kind.{Kind}
use Rattle.lp_rows.specs.declared.kinds.Kind.TheVariants.{Real, Int}
use Rattle.propositions.specs.Reading.{tri_of, is_open}
use Rattle.proof_tree.specs.declared.path.Split.{Split}
use Rattle.proof_tree.specs.declared.path.Split.TheVariants as split
use Rattle.proof_tree.specs.declared.path.Half.{Half}
use Rattle.model_items.specs.Items.{item_count_of, condition_of}
use Rattle.model_tree.specs.Values.{ModelTree}
use Rattle.model_forces.specs.Paths.{tris_on, tris_at, is_no, kind_at}
use Rattle.model_forces.specs.Forces.{model_force_of}
use Rattle.node_checker.specs.Subjects.{Subject}
use Rattle.node_checker.specs.Tests.{signed}
use Rattle.answers.specs.declared.claim.Claim.{Claim}
use Rattle.answers.specs.declared.claim.Claim.TheVariants.{Best, Empty, Endless}
use Rattle.certificate_checker.specs.Programs.{is_inner}

-- there is an integer variable
abbrev pub is_int_there : Option Kind → Bool
is_int_there None = false
is_int_there (Some Real) = false
is_int_there (Some Int) = true

-- a split may stand at a path: it is of an integer variable, at no end of i128, or of a Boolean that is open there
abbrev pub may_stand : ModelTree → List Half → Split → Bool
may_stand m p (split.Int column k) = is_int_there (kind_at m.vars column) && is_inner k
may_stand m p (split.Truth id) = nat_lt id (length m.booleans) && is_open (tris_on p id)

-- an item's condition is false at a path
abbrev pub is_false_at : ModelTree → List Half → ℕ → Bool
is_false_at m p item = nat_lt item (item_count_of m) && is_no (tri_of (condition_of m item) (tris_at m p))

abbrev pub nodes_of : ModelTree → Subject
nodes_of m = record {
  force = λ p. model_force_of m p true;
  allows = may_stand m;
  is_false = is_false_at m;
}

-- the goal's terms at the answer's point, without scale and constant
abbrev pub least_at : ModelTree → Claim → Option Fraction
least_at m (Best from truths value proof) = Some (signed m.goal.sense (dot m.goal.terms (at from.nums)) from.over)
least_at m (Empty proof) = None
least_at m (Endless from truths ray) = None
