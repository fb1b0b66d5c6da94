-- What the calls of a builder answer and leave that declare Booleans, open and close, and set the goal.
use Rattle.std.specs.Prelude.{ℕ, not, ◌||◌, List, [], ◌∷◌, ◌++◌, length, Option, None, Some, is_some, Result, Ok, Err, nat_le}
use Rattle.fractions.specs.Fraction.{Fraction}
use Rattle.outcomes.specs.Calls.{refuse_if, unless}
use Rattle.lp_rows.specs.declared.kinds.Sense.{Sense}
use Rattle.model_tree.specs.declared.errors.BuildError.{BuildError}
use Rattle.model_tree.specs.declared.errors.BuildError.TheVariants.{Place, NameTwice, Nesting, Limit, Missing}
use Rattle.model_tree.specs.declared.tree.Mode.{Mode}
use Rattle.model_tree.specs.Limits.{most_booleans, deepest_disjunct}
use Rattle.model_builder.specs.Building.{BuildingValue, OpenBlock, OpenDisjunction, empty_block, is_at_root, is_taken, closed_block}
use Rattle.model_tree.specs.Sound.{is_empty}
use Rattle.model_tree.specs.Names.{is_name}
use Rattle.lp_rows.specs.Holding.{ids_below}
use Rattle.model_tree.specs.Scaling.{refusal_of_terms, refusal_of_scale, stored_goal}
use Rattle.model_tree.specs.View.{DisjunctTree, DisjunctionTree, disjuncts}

-- why a Boolean is refused
abbrev pub refusal_of_boolean : List ℕ → BuildingValue → Option BuildError
refusal_of_boolean name b =
    refuse_if (not (is_at_root b) || not (is_empty b.inner.closed)) Place
    (refuse_if (is_taken name b) NameTwice
    (refuse_if (nat_le most_booleans (length b.booleans) || not (is_name name)) Limit None))

-- a Boolean is declared: the answer is its number
abbrev pub boolean_outcome : List ℕ → ℕ → BuildingValue → Result ℕ BuildError × BuildingValue
boolean_outcome name mark b =
    unless (refusal_of_boolean name b) b (length b.booleans) (record b { booleans = b.booleans ++ (name, mark) ∷ [] })

-- why a goal is refused
abbrev pub refusal_of_goal : List (ℕ × Fraction) → Fraction → BuildingValue → Option BuildError
refusal_of_goal terms constant b =
    refuse_if (not (is_at_root b) || is_some b.goal) Place
    (refusal_of_terms (ids_below (length b.vars) terms) terms constant (refusal_of_scale terms constant))

-- the goal is set
abbrev pub goal_outcome : Sense → List (ℕ × Fraction) → Fraction → ℕ → BuildingValue → Result (Unit {0}) BuildError × BuildingValue
goal_outcome sense terms constant mark b =
    unless (refusal_of_goal terms constant b) b tt (record b { goal = Some (stored_goal sense terms constant mark) })

-- a disjunction is opened in the innermost open block
abbrev pub open_disjunction_outcome : Mode → ℕ → BuildingValue → Result (Unit {0}) BuildError × BuildingValue
open_disjunction_outcome mode mark b =
    unless (refuse_if (is_some b.opened) Place None) b tt (record b { opened = Some (record { mode = mode; mark = mark; closed = [] }) })

-- why a disjunct is refused in an open disjunction
abbrev pub refusal_of_disjunct : List ℕ → BuildingValue → Option BuildError
refusal_of_disjunct name b =
    refuse_if (is_taken name b) NameTwice
    (refuse_if (nat_le deepest_disjunct (length b.outer)) Nesting
    (refuse_if (nat_le most_booleans (length b.booleans) || not (is_name name)) Limit None))

-- a disjunct is opened in this open disjunction: its indicator is the next Boolean
abbrev pub with_disjunct : List ℕ → ℕ → BuildingValue → OpenDisjunction → BuildingValue
with_disjunct name mark b d =
    record b { booleans = b.booleans ++ (name, mark) ∷ []; inner = empty_block (length b.booleans) mark; opened = None; outer = (b.inner, d) ∷ b.outer }

-- a disjunct is opened in the disjunction that is open, where one is: the answer is the number of its indicator
abbrev pub open_disjunct_in : Option OpenDisjunction → List ℕ → ℕ → BuildingValue → Result ℕ BuildError × BuildingValue
open_disjunct_in None name mark b = (Err Place, b)
open_disjunct_in (Some d) name mark b = unless (refusal_of_disjunct name b) b (length b.booleans) (with_disjunct name mark b d)

abbrev pub open_disjunct_outcome : List ℕ → ℕ → BuildingValue → Result ℕ BuildError × BuildingValue
open_disjunct_outcome name mark b = open_disjunct_in b.opened name mark b

-- the disjunct of what an open block holds
abbrev pub closed_disjunct : OpenBlock → DisjunctTree
closed_disjunct o = (record { indicator = o.indicator; mark = o.mark }, closed_block o)

-- the disjunction of what an open disjunction holds
abbrev pub closed_disjunction : OpenDisjunction → DisjunctionTree
closed_disjunction d = (record { mode = d.mode; mark = d.mark }, disjuncts d.closed)

-- this open disjunction is closed, and appended to the block around it
abbrev pub close_disjunction : BuildingValue → OpenDisjunction → Result (Unit {0}) BuildError × BuildingValue
close_disjunction b d =
    unless (refuse_if (is_empty d.closed) Missing None) b tt
    (record b { inner = record b.inner { closed = b.inner.closed ++ closed_disjunction d ∷ [] }; opened = None })

-- the innermost open block is closed, and appended to the disjunction around it
abbrev pub close_disjunct : BuildingValue → List (OpenBlock × OpenDisjunction) → Result (Unit {0}) BuildError × BuildingValue
close_disjunct b [] = (Err Place, b)
close_disjunct b (o ∷ os) =
    (Ok tt, record b { inner = o.0; opened = Some (record o.1 { closed = o.1.closed ++ closed_disjunct b.inner ∷ [] }); outer = os })

-- the innermost that is open is closed, and appended to what is around it
abbrev pub close_opened : Option OpenDisjunction → BuildingValue → Result (Unit {0}) BuildError × BuildingValue
close_opened (Some d) b = close_disjunction b d
close_opened None b = close_disjunct b b.outer

abbrev pub close_outcome : BuildingValue → Result (Unit {0}) BuildError × BuildingValue
close_outcome b = close_opened b.opened b
