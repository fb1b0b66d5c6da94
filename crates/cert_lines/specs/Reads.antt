-- What is read of numbers: those that don't fit are told apart from words that spell none.
use Rattle.std.specs.Prelude.{ℕ, ◌==◌, ℤ, Bool, false, nat_lt, List, [], ◌∷◌, Option, None, Some, if◌then◌else◌}
use Rattle.fractions.specs.Width.{fits}
use Rattle.cert_grammar.specs.Nodes.{is_short}
use Rattle.cert_lines.specs.declared.number.Natural.{Natural}
use Rattle.cert_lines.specs.declared.number.Natural.TheVariants as natural
use Rattle.cert_lines.specs.declared.number.Whole.{Whole}
use Rattle.cert_lines.specs.declared.number.Whole.TheVariants as whole

-- a natural number as it is read
abbrev pub natural_read : Option ℕ → Natural
natural_read None = natural.Malformed
natural_read (Some n) = if is_short n then natural.Is n else natural.Wide

-- a whole number as it is read
abbrev pub whole_read : Option ℤ → Whole
whole_read None = whole.Malformed
whole_read (Some z) = if fits z then whole.Is z else whole.Wide

-- the first digit that differs is less
abbrev pub digits_less : List ℕ → List ℕ → Bool
digits_less [] ys = false
digits_less (x ∷ xs) [] = false
digits_less (x ∷ xs) (y ∷ ys) = if x == y then digits_less xs ys else nat_lt x y
