-- `and` and `or` of three-valued readings do not depend on their grouping.
use Rattle.std.proofs.Common.{◌≡◌, refl}
use Rattle.gdp_tables.specs.declared.tri.Tri.{Tri}
use Rattle.gdp_tables.specs.declared.tri.Tri.TheVariants.{No, Yes, Open}
use Rattle.gdp_tables.specs.Readings.{and_of, or_of}

pub no_and : (b : Tri) → and_of No b ≡ No
no_and No = refl
no_and Yes = refl
no_and Open = refl

pub yes_and : (b : Tri) → and_of Yes b ≡ b
yes_and No = refl
yes_and Yes = refl
yes_and Open = refl

pub and_yes : (a : Tri) → and_of a Yes ≡ a
and_yes No = refl
and_yes Yes = refl
and_yes Open = refl

pub no_or : (b : Tri) → or_of No b ≡ b
no_or No = refl
no_or Yes = refl
no_or Open = refl

pub or_no : (a : Tri) → or_of a No ≡ a
or_no No = refl
or_no Yes = refl
or_no Open = refl

pub yes_or : (b : Tri) → or_of Yes b ≡ Yes
yes_or No = refl
yes_or Yes = refl
yes_or Open = refl

pub and_assoc : (a b c : Tri) → and_of (and_of a b) c ≡ and_of a (and_of b c)
and_assoc No b c = rw (no_and b, no_and c, no_and (and_of b c)) refl
and_assoc Yes b c = rw (yes_and b, yes_and (and_of b c)) refl
and_assoc Open No c = rw (no_and c) refl
and_assoc Open Yes c = rw (yes_and c) refl
and_assoc Open Open No = refl
and_assoc Open Open Yes = refl
and_assoc Open Open Open = refl

pub or_assoc : (a b c : Tri) → or_of (or_of a b) c ≡ or_of a (or_of b c)
or_assoc No b c = rw (no_or b, no_or (or_of b c)) refl
or_assoc Yes b c = rw (yes_or b, yes_or c, yes_or (or_of b c)) refl
or_assoc Open No c = rw (no_or c) refl
or_assoc Open Yes c = rw (yes_or c) refl
or_assoc Open Open No = refl
or_assoc Open Open Yes = refl
or_assoc Open Open Open = refl

pub ruleset connectives = (and_assoc, or_assoc, yes_and, and_yes, no_or, or_no)
