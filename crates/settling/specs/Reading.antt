-- What is read out of the tableau of a force.
use Rattle.std.specs.Prelude.{ℕ, ℤ, List, Result, Ok, Err}
use Rattle.lp_rows.specs.declared.columns.WideAt.{WideAt}
use Rattle.lp_rows.specs.Points.{PointValue}
use Rattle.lp_frame.specs.declared.force.Force.{Force}
use Rattle.lp_frame.specs.Split.{AreLifted}
use Rattle.lp_frame.specs.Standard.{IsLifted}
use Rattle.exact_simplex.specs.declared.moves.ReadOut.{ReadOut}
use Rattle.exact_simplex.specs.declared.moves.ReadOut.TheVariants as refused
use Rattle.exact_simplex.specs.Table.{Table}
use Rattle.exact_simplex.specs.Values.{IsPointOf, IsPointRefusal}
use Rattle.exact_simplex.specs.Rays.{IsRayOf, IsRayRefusal}
use Rattle.settling.specs.declared.ending.TestError.{TestError}
use Rattle.settling.specs.declared.ending.TestError.TheVariants.{Wide, Memory}

-- the answer, or the place at which a number is wide; that memory ran out is the one free answer
abbrev pub Answers : {A : Type 0} → (Result A WideAt → Type 0) → Result A TestError → Type 0
Answers Holds (Ok answer) = Holds (Ok answer)
Answers Holds (Err (Wide place)) = Holds (Err place)
Answers Holds (Err Memory) = Unit {0}

-- a refused read-out
abbrev pub error_of : ReadOut → TestError
error_of (refused.Wide place) = Wide place
error_of refused.Memory = Memory

-- the answer where the sum behind it is not wide
abbrev pub keep : {A B : Type 0} → A → Result B WideAt → Result A WideAt
keep answer (Ok sum) = Ok answer
keep answer (Err place) = Err place

-- the point of the tableau's basis over the force's columns, or where a number of it is wide
abbrev pub IsPointRead : Table → Force → Result PointValue WideAt → Type 0
IsPointRead t force (Ok point) = (split : PointValue) × IsPointOf t split × IsLifted force.cols split point
IsPointRead t force (Err place) = IsPointRefusal t (refused.Wide place)

-- the ray along the entering column over the force's columns, or where a number of it is wide
abbrev pub IsRayRead : Table → Force → ℕ → Result (List ℤ) WideAt → Type 0
IsRayRead t force enter (Ok ray) = (split : List ℤ) × IsRayOf t enter split × AreLifted force.cols split ray
IsRayRead t force enter (Err place) = IsRayRefusal t enter (refused.Wide place)
