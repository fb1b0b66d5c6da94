-- What is read, or the first cause against it.
use Rattle.std.specs.Prelude.{Result, Ok, Err, Option, None, Some, Bool, if◌then◌else◌}

infixl 10 ◌>>=◌
-- goes on with what was read, or keeps the cause
abbrev pub ◌>>=◌ : {A B C : Type 0} → Result A C → (A → Result B C) → Result B C
(Ok x) >>= f = f x
(Err cause) >>= f = Err cause

-- refused with this cause where the test is true
abbrev pub refused_where : {C : Type 0} → Bool → C → Result (Unit {0}) C
refused_where test cause = if test then Err cause else Ok tt

-- the value, or the cause that there is none
abbrev pub or_cause : {A C : Type 0} → C → Option A → Result A C
or_cause cause None = Err cause
or_cause cause (Some x) = Ok x

-- f of what was read, or the cause
abbrev pub result_map : {A B C : Type 0} → (A → B) → Result A C → Result B C
result_map f (Ok x) = Ok (f x)
result_map f (Err cause) = Err cause
