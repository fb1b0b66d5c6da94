-- The numbers that a seed gives, one draw after the other: a linear congruential generator.
use Rattle.std.specs.Prelude.{ℕ, zero, suc, ◌+◌, ◌*◌, ◌/◌, ◌%◌}

-- the state that a seed begins with
abbrev pub seeded : ℕ → ℕ
seeded seed = seed % 2147483648

-- the state that follows this one
abbrev pub next : ℕ → ℕ
next state = (1103515245 * state + 12345) % 2147483648

-- the state after so many draws
abbrev pub after : (state draws : ℕ) → ℕ
after state zero = state
after state (suc draws) = next (after state draws)

-- the quotient that the next draw takes its number from
abbrev pub quotient : ℕ → ℕ
quotient state = next state / 65536

-- the number below a limit that the next draw gives
abbrev pub draw : (state limit : ℕ) → ℕ
draw state limit = quotient state % limit
