-- What a list of items makes of a program: it goes on to the first item that is refused, and then stays as it is.
use Rattle.std.specs.Prelude.{◌≡◌, ◌⊎◌, ℕ, ℤ, Bool, ◌&&◌, List, [], ◌∷◌, ◌++◌, length, Option, Some, None, Result, Ok, Err, nat_le, if◌then◌else◌}
use Rattle.lp_rows.specs.Holding.{ids_below}
use Rattle.lp_rows.specs.Rows.{RowValue}
use Rattle.milps.specs.declared.builder.MilpError.{MilpError}
use Rattle.milps.specs.declared.builder.MilpError.TheVariants as refusal
use Rattle.lp_rows.specs.declared.kinds.Sense.{Sense}
use Rattle.milps.specs.Building.{are_summable, refusal_of_col, refusal_of_row, refusal_of_goal}
use Rattle.milps.specs.Milps.{MilpValue, normal_row, normal_terms}
use Rattle.emission.specs.declared.halts.Halt.{Halt}
use Rattle.emission.specs.declared.halts.Halt.TheVariants.{NoBound, TooWide, TooBig, Unfit, Memory}
use Rattle.emission.specs.Items.{Item, col, row, refused, Refusal, no_bound, too_wide}
use Rattle.emission.specs.Sums.{Sum, plus}

-- a program, and why its emission has halted, if it has
pub record State : Type 0 where
  pub milp : MilpValue
  pub halt : Option Halt

-- the halt that is a builder's refusal, and that which is an emission's
abbrev pub halted_by : MilpError → Halt
halted_by refusal.TooBig = TooBig
halted_by refusal.Coefficient = Unfit
halted_by refusal.Memory = Memory

abbrev pub refused_by : Refusal → Halt
refused_by (no_bound mark v) = NoBound mark v
refused_by (too_wide mark) = TooWide mark

-- the builder takes a row of these terms where there are that many columns
abbrev pub is_fit : ℕ → List (ℕ × ℤ) → Bool
is_fit count ts = nat_le (length ts) 4000 && ids_below count ts && are_summable ts

-- halted for this reason
abbrev pub halted : State → Halt → State
halted s h = record s { halt = Some h }

-- the next program, or the refusal
abbrev pub taken : Option MilpError → State → MilpValue → State
taken None s next = record s { milp = next }
taken (Some e) s next = halted s (halted_by e)

-- what a row makes of it
abbrev pub with_row : RowValue → State → State
with_row r s =
    if is_fit (length s.milp.cols) r.terms
    then taken (refusal_of_row (normal_row r) s.milp) s (record s.milp { rows = s.milp.rows ++ normal_row r ∷ [] })
    else halted s Unfit

-- what an item makes of it
abbrev pub act : Item → State → State
act (col i c m) s = taken (refusal_of_col c s.milp) s (record s.milp { cols = s.milp.cols ++ c ∷ [] })
act (row r) s = with_row r s
act (refused r) s = halted s (refused_by r)

abbrev pub unless_halted : Option Halt → State → State → State
unless_halted None s next = next
unless_halted (Some h) s next = s

abbrev pub step : Item → State → State
step i s = unless_halted s.halt s (act i s)

-- what items make of it, one after the other
abbrev pub run : List Item → State → State
run [] s = s
run (i ∷ is) s = run is (step i s)

-- the program with this goal, its terms in their normal form, or why there is none
abbrev pub with_goal : Sense → List (ℕ × ℤ) → MilpValue → Option MilpError → Result MilpValue Halt
with_goal sense ts p (Some e) = Err (halted_by e)
with_goal sense ts p None = Ok (record p { sense = sense; goal = normal_terms ts })

abbrev pub finished_by : Option Halt → Sense → List (ℕ × ℤ) → MilpValue → Result MilpValue Halt
finished_by (Some h) sense ts p = Err h
finished_by None sense ts p = if is_fit (length p.cols) ts then with_goal sense ts p (refusal_of_goal (normal_terms ts)) else Err Unfit

-- the program of a state that has not halted, with this goal
abbrev pub finished : Sense → List (ℕ × ℤ) → State → Result MilpValue Halt
finished sense ts s = finished_by s.halt sense ts s.milp

-- b is what the items make of a, unless memory ran out
pub record Runs (is : List Item) (a b : State) : Type 0 where
  pub runs : (b ≡ run is a) ⊎ (b.halt ≡ Some Memory)

-- an emitter's state and the sum that stands open in it
pub record Status : Type 0 where
  pub state : State
  pub open_sum : Sum

-- x is added to the open sum, unless memory ran out
pub record Adds (x : Sum) (p q : Status) : Type 0 where
  pub adds : ((q.open_sum ≡ plus p.open_sum x) × (q.state ≡ p.state)) ⊎ (q.state.halt ≡ Some Memory)

-- x is put at the end of xs, unless memory ran out
pub record Keeps {A : Type 0} (xs : List A) (x : A) (ys : List A) (a b : State) : Type 0 where
  pub keeps : ((ys ≡ xs ++ x ∷ []) × (b ≡ a)) ⊎ (b.halt ≡ Some Memory)
