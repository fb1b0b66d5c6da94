-- Tests that are put together by "and", "or" and "not": std's lemmas, and the three that std leaves out.
use Rattle.std.proofs.Common.{◌≡◌, Bool, true, false, ◌&&◌, ◌||◌, refl}
use Rattle.std.proofs.lemmas.Bool.{true≢false, false≢true}
-- "and": both hold (`and_from`), so each does (`and_parts`); one that does not is enough (`and_left`, `and_right`)
pub use Rattle.std.proofs.lemmas.Bool.{and_from, and_parts, and_cases, and_left, and_right}
-- "or": one that holds is enough (`or_left`, `or_right`); neither does (`or_from`), so each does not (`or_parts`)
pub use Rattle.std.proofs.lemmas.Bool.{or_left, or_right, or_cases, or_from, or_parts}
-- "not", and the two cases of a test
pub use Rattle.std.proofs.lemmas.Bool.{not-true, not-false, not_from_true, not_from_false, cases_Bool}
-- a constant beside a test, and grouping
pub use Rattle.std.proofs.Math.Bool.{and-true, and-false, or-true, or-false, and_assoc, or_assoc, and_comm, or_comm}

pub and_first : (a b : Bool) → (a && b) ≡ true → a ≡ true
and_first true b h = refl
and_first false b h = h

pub and_second : (a b : Bool) → (a && b) ≡ true → b ≡ true
and_second true b h = h
and_second false b h = absurd (false≢true h)

-- the first does not hold, so the second does
pub or_second : (a b : Bool) → a ≡ false → (a || b) ≡ true → b ≡ true
or_second true b e h = absurd (true≢false e)
or_second false b e h = h
