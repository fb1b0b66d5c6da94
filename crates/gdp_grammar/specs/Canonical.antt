-- The canonical text of a model. It depends on no mark, and two models that differ in more have two texts.
use Rattle.std.specs.Prelude.{ℕ, ◌+◌, ℤ, pos, ◌==◌, List, [], ◌∷◌, ◌++◌, map, Option, None, Some, codes, unsigned_abs, slice_index_or, if◌then◌else◌}
use Rattle.std.specs.Fmt.{decimal}
use Rattle.std.specs.List.{list_any}
use Rattle.text_grammar.specs.Printing.{line_of, text_of, minus_word, sign_word}
use Rattle.fractions.specs.Fraction.{Fraction}
use Rattle.lp_rows.specs.declared.kinds.Kind.{Kind}
use Rattle.lp_rows.specs.declared.kinds.Kind.TheVariants.{Real, Int}
use Rattle.lp_rows.specs.declared.kinds.Rel.{Rel}
use Rattle.lp_rows.specs.declared.kinds.Rel.TheVariants.{AtMost, AtLeast, Equal}
use Rattle.lp_rows.specs.declared.kinds.Sense.{Sense}
use Rattle.lp_rows.specs.declared.kinds.Sense.TheVariants.{Min, Max}
use Rattle.lp_rows.specs.Rows.{RowValue}
use Rattle.propositions.specs.Tree.{PropTree}
use Rattle.model_tree.specs.declared.tree.Mode.{Mode}
use Rattle.model_tree.specs.declared.tree.Mode.TheVariants.{Xor, Or}
use Rattle.model_tree.specs.Tree.{DisjunctHead, BlockTree, block, Disjunctions, no_disjunctions, disjunction, Disjuncts, no_disjuncts, disjunct, below}
use Rattle.model_tree.specs.Values.{ModelTree}
use Rattle.model_tree.specs.Variables.{VarValue, BooleanValue}
use Rattle.model_tree.specs.View.{DisjunctTree, DisjunctionTree}
use Rattle.gdp_grammar.specs.Lowest.{over}
use Rattle.gdp_grammar.specs.PropNames.{named_in, prop_text}

-- the magnitude of a number: `p`, or `p/q`
abbrev pub size_word : Fraction → List ℕ
size_word f =
    if unsigned_abs f.den == 1 then decimal (unsigned_abs f.num) else decimal (unsigned_abs f.num) ++ 47 ∷ decimal (unsigned_abs f.den)

-- a number: its magnitude, with a `-` directly before it where it is negative
abbrev pub number_word : Fraction → List ℕ
number_word f = minus_word f.num ++ size_word f

-- an end of a bound: a number, or this word where there is none
abbrev pub end_word : List ℕ → Option Fraction → List ℕ
end_word none None = none
end_word none (Some f) = number_word f

abbrev pub kind_word : Kind → List ℕ
kind_word Real = codes "real"
kind_word Int = codes "int"

abbrev pub rel_word : Rel → List ℕ
rel_word AtMost = codes "<="
rel_word AtLeast = codes ">="
rel_word Equal = codes "="

abbrev pub sense_word : Sense → List ℕ
sense_word Min = codes "min"
sense_word Max = codes "max"

abbrev pub mode_word : Mode → List ℕ
mode_word Xor = codes "xor"
mode_word Or = codes "or"

-- the names of a model's variables and of its Booleans
abbrev pub var_names : ModelTree → List (List ℕ)
var_names m = map (λ v. v.0) m.vars

abbrev pub boolean_names : ModelTree → List (List ℕ)
boolean_names m = map (λ b. b.0) m.booleans

-- the name with this number
abbrev pub name_in : List (List ℕ) → ℕ → List ℕ
name_in names id = slice_index_or names id []

-- var NAME KIND LOW HIGH
abbrev pub var_line : VarValue → List ℕ
var_line v = line_of (codes "var") (v.0 ∷ kind_word v.1 ∷ end_word (codes "-inf") v.2.low ∷ end_word (codes "inf") v.2.high ∷ [])

-- boolean NAME
abbrev pub boolean_line : BooleanValue → List ℕ
boolean_line b = line_of (codes "boolean") (b.0 ∷ [])

-- terms after the first: of each its sign, its magnitude and its name
abbrev pub further_terms : List (List ℕ) → List (ℕ × Fraction) → List (List ℕ)
further_terms names [] = []
further_terms names (t ∷ ts) = sign_word t.1.num ∷ size_word t.1 ∷ name_in names t.0 ∷ further_terms names ts

-- a sum: its first term with its sign at the number, and further ones; or `0`
abbrev pub sum_words : List (List ℕ) → List (ℕ × Fraction) → List (List ℕ)
sum_words names [] = codes "0" ∷ []
sum_words names (t ∷ ts) = number_word t.1 ∷ name_in names t.0 ∷ further_terms names ts

-- terms whose coefficients are divided by this scale
abbrev pub terms_over : ℤ → List (ℕ × ℤ) → List (ℕ × Fraction)
terms_over scale terms = map (λ t. (t.0, over scale t.1)) terms

-- row SUM REL NUMBER, of the numbers that are stored
abbrev pub row_line : ModelTree → RowValue × ℕ → List ℕ
row_line m r =
    line_of (codes "row") (sum_words (var_names m) (terms_over (pos 1) r.0.terms) ++ rel_word r.0.rel ∷ number_word (over (pos 1) r.0.right) ∷ [])

-- a constant at the end of a goal: its sign and its magnitude, and nothing for 0
abbrev pub constant_words : Fraction → List (List ℕ)
constant_words f = if unsigned_abs f.num == 0 then [] else sign_word f.num ∷ size_word f ∷ []

-- the terms of a goal and its constant, or the constant alone
abbrev pub goal_words : List (List ℕ) → List (ℕ × Fraction) → Fraction → List (List ℕ)
goal_words names [] constant = number_word constant ∷ []
goal_words names (t ∷ ts) constant = sum_words names (t ∷ ts) ++ constant_words constant

-- min GOAL or max GOAL, of the numbers that are stored over the goal's scale
abbrev pub goal_line : ModelTree → List ℕ
goal_line m =
    line_of (sense_word m.goal.sense)
    (goal_words (var_names m) (terms_over m.goal.scale m.goal.terms) (over m.goal.scale m.goal.constant))

-- logic PROP, with the names of the Booleans
abbrev pub logic_line : ModelTree → PropTree × ℕ → List ℕ
logic_line m q = line_of (codes "logic") (prop_text (named_in (boolean_names m) q.0) ∷ [])

-- disjunction MODE
abbrev pub disjunction_line : Mode → List ℕ
disjunction_line mode = line_of (codes "disjunction") (mode_word mode ∷ [])

-- disjunct NAME
abbrev pub disjunct_line : ModelTree → ℕ → List ℕ
disjunct_line m indicator = line_of (codes "disjunct") (name_in (boolean_names m) indicator ∷ [])

-- A block has its rows, then its disjunctions and then its propositions, which so stand behind the indicators that they
-- may name. A disjunction has its disjuncts and `end`, and a disjunct its block and `end`.
abbrev mutual
  pub block_lines : ModelTree → BlockTree → List (List ℕ)
  block_lines m (block items ds) = map (row_line m) items.rows ++ (disjunctions_lines m ds ++ map (logic_line m) items.props)

  pub disjunctions_lines : ModelTree → Disjunctions → List (List ℕ)
  disjunctions_lines m no_disjunctions = []
  disjunctions_lines m (disjunction head js ds) =
      disjunction_line head.mode ∷ disjuncts_lines m js ++ codes "end" ∷ disjunctions_lines m ds

  pub disjuncts_lines : ModelTree → Disjuncts → List (List ℕ)
  disjuncts_lines m no_disjuncts = []
  disjuncts_lines m (disjunct head b js) =
      disjunct_line m head.indicator ∷ block_lines m b ++ codes "end" ∷ disjuncts_lines m js

-- the lines of one disjunction, and of one disjunct
abbrev pub lines_of_disjunction : ModelTree → DisjunctionTree → List (List ℕ)
lines_of_disjunction m d = disjunction_line d.0.mode ∷ disjuncts_lines m d.1 ++ codes "end" ∷ []

abbrev pub lines_of_disjunct : ModelTree → DisjunctTree → List (List ℕ)
lines_of_disjunct m j = disjunct_line m j.0.indicator ∷ block_lines m j.1 ++ codes "end" ∷ []

-- the numbers of these indicators
abbrev pub numbers_of : List DisjunctHead → List ℕ
numbers_of heads = map (λ head. head.indicator) heads

-- the numbers of the Booleans that are indicators: those of the disjuncts in a block and below it
abbrev pub indicators : BlockTree → List ℕ
indicators b = numbers_of (below b)

-- of these Booleans, the first of which has this number, those that are none of the indicators
abbrev pub free_from : ℕ → List ℕ → List BooleanValue → List BooleanValue
free_from id ids [] = []
free_from id ids (b ∷ bs) = if list_any (λ i. i == id) ids then free_from (id + 1) ids bs else b ∷ free_from (id + 1) ids bs

-- the Booleans of a model that are no indicators
abbrev pub free_booleans : ModelTree → List BooleanValue
free_booleans m = free_from 0 (indicators m.root) m.booleans

-- The lines of a model: the header, its variables, its Booleans that are no indicators, its goal and its root block.
abbrev pub canonical_lines : ModelTree → List (List ℕ)
canonical_lines m =
    codes "gdp 1" ∷ map var_line m.vars ++ (map boolean_line (free_booleans m) ++ goal_line m ∷ block_lines m m.root)

-- the canonical text of a model
unfoldable pub canonical_text : ModelTree → List ℕ
canonical_text m = text_of (canonical_lines m)
