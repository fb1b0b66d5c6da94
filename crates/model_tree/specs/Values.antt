-- What a model is: its variables, its Booleans, its goal and its root block.
use Rattle.std.specs.Prelude.{ℕ, ℤ, pos, List, []}
use Rattle.lp_rows.specs.declared.kinds.Sense.{Sense}
use Rattle.lp_rows.specs.declared.kinds.Sense.TheVariants.{Min}
use Rattle.model_tree.specs.Variables.{VarValue, BooleanValue}
use Rattle.model_tree.specs.declared.tree.Block.{Block}
use Rattle.model_tree.specs.Tree.{BlockTree}
use Rattle.model_tree.specs.View.{block_of}

-- a goal (the objective): the sum of its terms and its constant are whole, and the goal is that sum over the scale
pub record GoalValue : Type 0 where
  pub sense : Sense
  pub terms : List (ℕ × ℤ)
  pub constant : ℤ
  pub scale : ℤ
  pub mark : ℕ

-- the goal of a model for which none was given
abbrev pub no_goal : GoalValue
no_goal = record { sense = Min; terms = []; constant = pos 0; scale = pos 1; mark = 0 }

-- what contracts see of a model; its root block is the stored one, whose plain tree `block_of` reads off
pub record ModelValue : Type 0 where
  pub vars : List VarValue
  pub booleans : List BooleanValue
  pub goal : GoalValue
  pub root : Block

-- a model as plain data
pub record ModelTree : Type 0 where
  pub vars : List VarValue
  pub booleans : List BooleanValue
  pub goal : GoalValue
  pub root : BlockTree

-- the plain data that a model is
abbrev pub model_tree : ModelValue → ModelTree
model_tree m = record { vars = m.vars; booleans = m.booleans; goal = m.goal; root = block_of m.root }
