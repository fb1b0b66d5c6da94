-- What a walk over rows adds to a set of ids.
use Rattle.std.specs.Prelude.{◌≡◌, ℕ, Bool, ◌||◌}
use Rattle.std.specs.BTreeSet.{BTreeSet, contains}
use Rattle.std.specs.Ordering.{nat_cmp}

-- the set has the ids that it had before and those that pass the test
abbrev pub Adds : (ℕ → Bool) → BTreeSet ℕ → BTreeSet ℕ → Type 0
Adds test before now = (id : ℕ) → contains nat_cmp now id ≡ (contains nat_cmp before id || test id)
