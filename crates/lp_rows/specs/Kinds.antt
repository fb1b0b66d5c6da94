-- Which numbers a variable or a column of a kind takes.
use Rattle.std.specs.Prelude.{ℤ, Bool, true, ◌%◌, ◌==◌, unsigned_abs}
use Rattle.lp_rows.specs.declared.kinds.Kind.{Kind}
use Rattle.lp_rows.specs.declared.kinds.Kind.TheVariants.{Real, Int}

-- the number over D is whole: D divides it
abbrev pub is_whole : ℤ → ℤ → Bool
is_whole number over = unsigned_abs number % unsigned_abs over == 0

-- the number over D is one that a variable or a column of this kind takes
abbrev pub is_of_kind : Kind → ℤ → ℤ → Bool
is_of_kind Real number over = true
is_of_kind Int number over = is_whole number over
