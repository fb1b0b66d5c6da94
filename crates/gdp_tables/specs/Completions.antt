-- What is known of a truth value, and the truth values that complete it.
use Rattle.std.specs.Prelude.{◌≡◌, Bool, true, false}
use Rattle.gdp_tables.specs.declared.tri.Tri.{Tri}
use Rattle.gdp_tables.specs.declared.tri.Tri.TheVariants.{No, Yes, Open}

-- a truth value that is known
abbrev pub known : Bool → Tri
known false = No
known true = Yes

-- the truth value completes what is known: it is that where it is known, and either where it is open
abbrev pub Completes : Bool → Tri → Type 0
Completes truth No = truth ≡ false
Completes truth Yes = truth ≡ true
Completes truth Open = Unit {0}

-- whether two truth values are the same
abbrev pub are_same : Bool → Bool → Bool
are_same false false = true
are_same false true = false
are_same true false = false
are_same true true = true
