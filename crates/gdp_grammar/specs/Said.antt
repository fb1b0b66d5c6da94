-- What the lines of a text say of the goal, the rows, the propositions, the disjunctions and the disjuncts of its model:
-- of each, the line whose number is its mark.
use Rattle.std.specs.Prelude.{◌≡◌, ℕ, true, List, [], ◌∷◌, Option, Some, Result, Ok, slice_get}
use Rattle.fractions.specs.Fraction.{Fraction}
use Rattle.lp_rows.specs.declared.kinds.Rel.{Rel}
use Rattle.lp_rows.specs.declared.kinds.Sense.{Sense}
use Rattle.lp_rows.specs.Rows.{RowValue}
use Rattle.propositions.specs.Tree.{PropTree}
use Rattle.model_tree.specs.Scaling.{stored_row, stored_goal}
use Rattle.model_tree.specs.Tree.{DisjunctHead, DisjunctionHead, BlockTree, block, Disjunctions, no_disjunctions, disjunction, Disjuncts, no_disjuncts, disjunct}
use Rattle.model_tree.specs.Values.{GoalValue, no_goal}
use Rattle.model_tree.specs.Variables.{VarValue, BooleanValue}
use Rattle.gdp_grammar.specs.declared.cause.ReadCause.{ReadCause}
use Rattle.gdp_grammar.specs.Forms.{Form, Goal, Row, Logic, Disjunction, Disjunct, Signed, Summand}
use Rattle.gdp_grammar.specs.Numerals.{value_of}
use Rattle.gdp_grammar.specs.PropNames.{are_known, tree_in}
use Rattle.gdp_grammar.specs.PropReading.{prop_of}
use Rattle.gdp_grammar.specs.PropTexts.{NamedProp}
use Rattle.gdp_grammar.specs.Reading.{terms_of, constant_value}
use Rattle.gdp_grammar.specs.Tokens.{Piece}

-- the form of each line, by its number
abbrev pub FormsOf : Type 0
FormsOf = ℕ → Result Form ReadCause

-- The goal is that of a line of this form: its sense, and its terms and its constant over these variables in whole
-- numbers, with their scale.
pub record IsGoalBy (vars : List VarValue) (form : Result Form ReadCause) (goal : GoalValue) : Type 0 where
  pub sense : Sense
  pub sum : List Summand
  pub constant : Option Signed
  pub terms : List (ℕ × Fraction)
  pub number : Fraction
  pub says : form ≡ Ok (Goal sense sum constant)
  pub terms_are : terms_of vars sum ≡ Ok terms
  pub number_is : constant_value constant ≡ Some number
  pub stored : goal ≡ stored_goal sense terms number goal.mark

-- The goal is that of the lines with these numbers: of none the goal of a model without, of one the goal that it says,
-- with its number as the mark, and of more there is none.
abbrev pub IsGoalOf : List VarValue → FormsOf → List ℕ → GoalValue → Type 0
IsGoalOf vars forms [] goal = goal ≡ no_goal
IsGoalOf vars forms (line ∷ []) goal = (goal.mark ≡ line) × IsGoalBy vars (forms line) goal
IsGoalOf vars forms (line ∷ other ∷ lines) goal = ⊥

-- the row is that of a line of this form: its terms and its right side over these variables, in whole numbers
pub record IsRowBy (vars : List VarValue) (form : Result Form ReadCause) (row : RowValue) : Type 0 where
  pub sum : List Summand
  pub rel : Rel
  pub right : Signed
  pub terms : List (ℕ × Fraction)
  pub number : Fraction
  pub says : form ≡ Ok (Row sum rel right)
  pub terms_are : terms_of vars sum ≡ Ok terms
  pub number_is : value_of right.is_negative right.size ≡ Some number
  pub stored : row ≡ stored_row terms rel number

-- the proposition is that of a line of this form, by the numbers of these Booleans
pub record IsPropBy (booleans : List BooleanValue) (form : Result Form ReadCause) (prop : PropTree) : Type 0 where
  pub tokens : List Piece
  pub named : NamedProp
  pub says : form ≡ Ok (Logic tokens)
  pub read : prop_of tokens ≡ Ok named
  pub known : are_known booleans named ≡ true
  pub tree : prop ≡ tree_in booleans named

-- the disjunction has the mode that a line of this form says
abbrev pub IsDisjunctionBy : Result Form ReadCause → DisjunctionHead → Type 0
IsDisjunctionBy form head = form ≡ Ok (Disjunction head.mode)

-- the disjunct's indicator is the Boolean that a line of this form declares
pub record IsDisjunctBy (booleans : List BooleanValue) (form : Result Form ReadCause) (head : DisjunctHead) : Type 0 where
  pub name : List ℕ
  pub says : form ≡ Ok (Disjunct name)
  pub indicator : slice_get booleans head.indicator ≡ Some (name, head.mark)

-- each of these rows, and of these propositions, is as its line says
abbrev pub AreRowsSaid : List VarValue → FormsOf → List (RowValue × ℕ) → Type 0
AreRowsSaid vars forms [] = Unit {0}
AreRowsSaid vars forms (r ∷ rs) = IsRowBy vars (forms r.1) r.0 × AreRowsSaid vars forms rs

abbrev pub ArePropsSaid : List BooleanValue → FormsOf → List (PropTree × ℕ) → Type 0
ArePropsSaid booleans forms [] = Unit {0}
ArePropsSaid booleans forms (q ∷ qs) = IsPropBy booleans (forms q.1) q.0 × ArePropsSaid booleans forms qs

-- a block is as its lines say, and so is what is below it
abbrev mutual
  pub IsBlockSaid : List VarValue → List BooleanValue → FormsOf → BlockTree → Type 0
  IsBlockSaid vars booleans forms (block items ds) =
      AreRowsSaid vars forms items.rows × ArePropsSaid booleans forms items.props × AreDisjunctionsSaid vars booleans forms ds

  pub AreDisjunctionsSaid : List VarValue → List BooleanValue → FormsOf → Disjunctions → Type 0
  AreDisjunctionsSaid vars booleans forms no_disjunctions = Unit {0}
  AreDisjunctionsSaid vars booleans forms (disjunction head js ds) =
      IsDisjunctionBy (forms head.mark) head × AreDisjunctsSaid vars booleans forms js × AreDisjunctionsSaid vars booleans forms ds

  pub AreDisjunctsSaid : List VarValue → List BooleanValue → FormsOf → Disjuncts → Type 0
  AreDisjunctsSaid vars booleans forms no_disjuncts = Unit {0}
  AreDisjunctsSaid vars booleans forms (disjunct head b js) =
      IsDisjunctBy booleans (forms head.mark) head × IsBlockSaid vars booleans forms b × AreDisjunctsSaid vars booleans forms js
