-- When a call may fail: only where a count of faults rose.
use Rattle.std.specs.Prelude.{ℕ, ◌+◌, ◌-◌, ◌^◌, ◌≤◌, List, Result, Ok, Err, min}

-- the count after one more fault; the last value stays
abbrev pub one_more_fault : ℕ → ℕ
one_more_fault count = min (count + 1) (2 ^ 64 - 1)

-- the count rose, or stands at its last value
abbrev pub Rose : ℕ → ℕ → Type 0
Rose before now = one_more_fault before ≤ now

-- a count for each name, none of which fell
abbrev pub NoneFell : (List ℕ → ℕ) → (List ℕ → ℕ) → Type 0
NoneFell before now = (name : List ℕ) → before name ≤ now name

-- a count of the faults alone: one more after a call that failed, and else as it was
abbrev pub count_after : {A E : Type 0} → Result A E → ℕ → ℕ
count_after (Ok answer) count = count
count_after (Err error) count = one_more_fault count
