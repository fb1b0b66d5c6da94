-- The bytes that were read so far, and what one more read does to them.
use Rattle.std.proofs.Common.{◌≡◌, ℕ, ◌+◌, ◌<◌, List, ◌++◌, length, drop, Some, arith, append_assoc, length-append, sym, ap, ◌∙◌, subst}
use Rattle.std.proofs.lemmas.List.{append-nil, drop_all}
use Rattle.gdp_io.specs.Shelf.{Contents, Places, SameContents, Reads, IsBehind, IsPast}

-- the text is what the contents begin with, and the place stands behind it
abbrev pub SoFar : Contents → Places → List ℕ → List ℕ → Type 0
SoFar contents is_at name text = (all : List ℕ) → contents name ≡ Some all →
    is_at name (length text) × (text ++ drop (length text) all ≡ all)

-- the same after bytes that a read gave
pub goes_on : (contents now : Contents) (was_at is_at : Places) (name text bytes : List ℕ) →
    SameContents contents now → SoFar contents was_at name text → Reads now was_at is_at bytes → SoFar contents is_at name (text ++ bytes)
goes_on contents now was_at is_at name text bytes same so_far reads all told =
    let before = so_far all told in
    let step = reads name (length text) before.0 in
    let gives = step.1 all (same name ∙ told) in
    let sums : length (text ++ bytes) ≡ length text + length bytes = length-append text bytes in
    let place : is_at name (length (text ++ bytes)) = rw sums step.0 in
    let whole : text ++ bytes ++ drop (length (text ++ bytes)) all ≡ all = rw (sums, append_assoc, ← gives.next) before.1 in
    (place, whole)

-- a read of nothing: the text is all
pub ends : (contents now : Contents) (was_at is_at : Places) (name text bytes : List ℕ) →
    SameContents contents now → SoFar contents was_at name text → Reads now was_at is_at bytes → length bytes ≡ 0 → IsBehind contents name text
ends contents now was_at is_at name text bytes same so_far reads none all told =
    let before = so_far all told in
    let gives = (reads name (length text) before.0).1 all (same name ∙ told) in
    sym (append-nil text) ∙ ap (λ rest. text ++ rest) (sym (drop_all (length text) all (gives.end none))) ∙ before.1

-- a read that passes the limit
pub past : (contents now : Contents) (was_at is_at : Places) (name text bytes : List ℕ) (limit : ℕ) →
    SameContents contents now → SoFar contents was_at name text → Reads now was_at is_at bytes → length text + length bytes ≡ limit + 1 → IsPast contents is_at name limit
past contents now was_at is_at name text bytes limit same so_far reads sums all told =
    let after = goes_on contents now was_at is_at name text bytes same so_far reads all told in
    let taken : length (text ++ bytes) ≡ limit + 1 = length-append text bytes ∙ sums in
    let long : limit < length all = omega (arith, taken, ap length after.1, length-append (text ++ bytes) (drop (length (text ++ bytes)) all)) in
    (long, subst (λ (n : ℕ). is_at name n) taken after.0)
