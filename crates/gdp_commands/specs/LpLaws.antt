-- What `lp` promises of what it writes.
use Rattle.std.specs.Prelude.{◌≡◌, ℕ, ℤ, pos, true, ◌*ℤ◌, ◌≤ℤ◌, ◌<ℤ◌, List, length, None, Ok, Err}
use Rattle.answers.specs.declared.stop.Stop.{Stop}
use Rattle.answers.specs.declared.stop.Stop.TheVariants.{Wide}
use Rattle.gdp_io.specs.Shelf.{Contents, IsBehind}
use Rattle.int_linear.specs.Sums.{at}
use Rattle.int_linear.specs.Terms.{dot}
use Rattle.log_writer.specs.Logs.{log_text_of}
use Rattle.lp_answers.specs.declared.texts.LpTextError.TheVariants.{Value}
use Rattle.lp_answers.specs.Texts.{IsBestText, IsEndlessText, empty_text_of}
use Rattle.lp_grammar.specs.Reading.{LpValue}
use Rattle.lp_grammar.specs.Spelling.{LpSpells}
use Rattle.lp_rows.specs.declared.columns.WideAt.TheVariants as wide
use Rattle.lp_rows.specs.Points.{PointValue}
use Rattle.milp_forces.specs.Forces.{goal_of}
use Rattle.milp_forces.specs.Milps.{IsMilpPoint}
use Rattle.milp_nodes.specs.Nodes.{IsEndless}
use Rattle.milps.specs.Milps.{MilpValue}
use Rattle.search_rules.specs.declared.outcome.Answer as search
use Rattle.search_rules.specs.declared.outcome.Answer.TheVariants.{Done, Endless, Stopped}
use Rattle.search_rules.specs.declared.outcome.Outcome.TheVariants.{Best, Empty}
use Rattle.gdp_commands.specs.declared.status.Status.TheVariants as status
use Rattle.gdp_commands.specs.Answers.{Says}
use Rattle.gdp_commands.specs.Lp.{IsSearched, Searched}
use Rattle.gdp_commands.specs.Words.Form.{Lp}

-- numerators over a positive denominator that are a point of the program
pub record IsPoint (m : MilpValue) (x : PointValue) : Type 0 where
  pub over : pos 0 <ℤ x.over
  pub point : IsMilpPoint m x.over (at x.nums)

-- the goal's sum at the numerators, turned round where the goal is to be great
abbrev pub goal_at : MilpValue → PointValue → ℤ
goal_at m x = dot (goal_of m true) (at x.nums)

-- a point of the program, and none has a lesser goal
pub record IsBestPoint (m : MilpValue) (x : PointValue) : Type 0 where
  pub is : IsPoint m x
  pub least : (y : PointValue) → IsPoint m y → (goal_at m x *ℤ y.over) ≤ℤ (goal_at m y *ℤ x.over)

-- from the point along the ray all is a point, each with a lesser goal than the one before
pub record IsEndlessFrom (m : MilpValue) (x : PointValue) (ray : List ℤ) : Type 0 where
  pub over : pos 0 <ℤ x.over
  pub lower : (k : ℕ) → IsEndless m x.over (at x.nums) (at ray) k

-- The text names a best point of the program with the value of the objective there; or it says that there is no point, and
-- there is none; or it names a point and a ray along which the goal has no end.
pub data IsRightText (p : LpValue) (written : List ℕ) : Type 0 where
  best : (x : PointValue) → IsBestPoint p.milp x → IsBestText p x (Ok written) → IsRightText p written
  none : ((x : PointValue) → ¬ IsPoint p.milp x) → written ≡ empty_text_of → IsRightText p written
  endless : (x : PointValue) (ray : List ℤ) → IsEndlessFrom p.milp x ray → IsEndlessText p x ray written → IsRightText p written

-- some text behind the name spells a program, each column with its name, of which the text that is written is right
pub record IsSolvedBehind (contents : Contents) (name written : List ℕ) : Type 0 where
  pub text : List ℕ
  pub behind : IsBehind contents name text
  pub program : LpValue
  pub spelled : LpSpells text program
  pub named : length program.names ≡ length program.milp.cols
  pub right : IsRightText program written

-- What `lp` answers with status 0 is right of the program that the text behind the name spells.
abbrev pub LpSolvesTruly : Type 0
LpSolvesTruly =
    (steps : ℕ) (file : List ℕ) (contents : Contents) (written : List ℕ) →
    Says (Lp steps file) contents status.Done written → IsSolvedBehind contents file written

-- why nothing is told of the program: the search stopped for this, or the value of the objective at its best point is wide
abbrev pub IsStopOf : LpValue → search.Answer → Stop → Type 0
IsStopOf p (Stopped why) stop = stop ≡ why
IsStopOf p (Done (Best b proof)) stop = IsBestText p b.at (Err Value) × (stop ≡ Wide wide.Value)
IsStopOf p (Done (Empty proof)) stop = ⊥
IsStopOf p (Endless at truths ray) stop = ⊥

-- the text is that of the log of a search over the program, and of why it stopped after it
pub record IsStoppedText (steps : ℕ) (p : LpValue) (written : List ℕ) : Type 0 where
  pub searched : Searched
  pub is : IsSearched p.milp steps searched
  pub stop : Stop
  pub why : IsStopOf p searched.answer stop
  pub text : written ≡ log_text_of None searched.events stop

-- some text behind the name spells a program, over which a search stopped as the text that is written tells
pub record IsStoppedBehind (contents : Contents) (name : List ℕ) (steps : ℕ) (written : List ℕ) : Type 0 where
  pub text : List ℕ
  pub behind : IsBehind contents name text
  pub program : LpValue
  pub spelled : LpSpells text program
  pub stopped : IsStoppedText steps program written

-- What it answers with status 3 is the log of a search over that program in depth order, which ends where the steps do, with
-- one due, or before the first number past 128 bits.
abbrev pub LpGivesUpExactly : Type 0
LpGivesUpExactly =
    (steps : ℕ) (file : List ℕ) (contents : Contents) (written : List ℕ) →
    Says (Lp steps file) contents status.GaveUp written → IsStoppedBehind contents file steps written
