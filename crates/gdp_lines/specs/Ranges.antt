-- The range of a number's parts.
use Rattle.std.specs.Prelude.{ℕ, ◌^◌, nat_le, Option, Some, None, if◌then◌else◌}

-- the part, if it is in range
abbrev pub in_range : ℕ → Option ℕ
in_range size = if nat_le size (10 ^ 15) then Some size else None
