-- What a finished search claims, and that its proof shows it.
use Rattle.std.specs.Prelude.{List, Option, Some, None}
use Rattle.proof_tree.specs.declared.proof.Node.{Node}
use Rattle.proof_tree.specs.Tree.{preorder}
use Rattle.search_rules.specs.declared.waiting.Best as found
use Rattle.search_rules.specs.declared.outcome.Outcome.{Outcome}
use Rattle.search_rules.specs.declared.outcome.Outcome.TheVariants.{Best, Empty}
use Rattle.search_rules.specs.Claims.{Words, IsShown}
use Rattle.search_rules.specs.Machine.{Rest, tree_of}

-- the claim is true, and its proof shows it
abbrev pub IsRightOutcome : Words → Outcome → Type 0
IsRightOutcome w (Best best proof) = IsShown w (Some best) proof
IsRightOutcome w (Empty proof) = IsShown w None proof

-- the outcome of a best point, or of none
abbrev pub outcome_of : Option found.Best → List Node → Outcome
outcome_of None proof = Empty proof
outcome_of (Some best) proof = Best best proof

-- the outcome of a search that rests so: its best point or none, with the preorder of its tree
abbrev pub outcome_at : Rest → Outcome
outcome_at rest = outcome_of rest.best (preorder (tree_of rest.draft))
