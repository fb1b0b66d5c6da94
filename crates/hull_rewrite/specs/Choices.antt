-- Which disjunctions are rewritten by hull.
use Rattle.std.specs.Prelude.{ℕ, ◌*◌, Bool, true, false, ◌&&◌, List, [], ◌∷◌, ◌++◌, length, nat_le, is_none}
use Rattle.model_tree.specs.declared.tree.Mode.{Mode}
use Rattle.model_tree.specs.declared.tree.Mode.TheVariants.{Xor, Or}
use Rattle.block_tree.specs.Tree.{BlockTree, block, Disjunctions, no_disjunctions, disjunction, Disjuncts, no_disjuncts, disjunct}
use Rattle.bound_propagation.specs.Boxes.{Box}
use Rattle.hull_rewrite.specs.declared.choices.Choice.{Choice}
use Rattle.hull_rewrite.specs.declared.choices.Choice.TheVariants.{BigM, Hull, Hybrid}
use Rattle.hull_rewrite.specs.Copies.{first_unbounded, occurring}
use Rattle.hull_rewrite.specs.Expanded.{disjunct_count}

abbrev pub is_xor : Mode → Bool
is_xor Xor = true
is_xor Or = false

-- few copies, of variables that have both bounds
abbrev pub is_small_hull : ℕ → Box → Disjuncts → Bool
is_small_hull n box js = nat_le (length (occurring n js) * disjunct_count js) 12 && is_none (first_unbounded box (occurring n js))

-- whether the choice takes hull for disjuncts of mode xor, where there are n variables
abbrev pub takes_hull : Choice → ℕ → Box → Disjuncts → Bool
takes_hull BigM n box js = false
takes_hull Hull n box js = true
takes_hull Hybrid n box js = is_small_hull n box js

-- whether each disjunction is rewritten by hull, in the order of the text: each before those of its disjuncts
abbrev mutual
  pub flags_in : (Disjuncts → Bool) → BlockTree → List Bool
  flags_in hulled (block items ds) = flags_below hulled ds

  pub flags_below : (Disjuncts → Bool) → Disjunctions → List Bool
  flags_below hulled no_disjunctions = []
  flags_below hulled (disjunction head js ds) = (is_xor head.mode && hulled js) ∷ (flags_within hulled js ++ flags_below hulled ds)

  pub flags_within : (Disjuncts → Bool) → Disjuncts → List Bool
  flags_within hulled no_disjuncts = []
  flags_within hulled (disjunct head b js) = flags_in hulled b ++ flags_within hulled js
