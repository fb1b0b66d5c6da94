-- What may be stored is narrow enough for its sign to be changed.
use Rattle.std.proofs.Common.{◌≡◌, ℕ, ℤ, Bool, true, false, not, ◌&&◌, List, None, refl}
use Rattle.outcomes.specs.Calls.{refuse_if}
use Rattle.lp_rows.specs.Rows.{is_storable, ascends_from, has_zero, are_storable, row_refusal}
use Rattle.model_tree.proofs.Bools.{first_holds, second_holds}

none_refused : {E : Type 0} (a z s : Bool) (one two three : E) → refuse_if (not a) one (refuse_if z two (refuse_if (not s) three None)) ≡ None → s ≡ true
none_refused true true true one two three h = refl
none_refused true true false one two three h = cc
none_refused true false true one two three h = refl
none_refused true false false one two three h = cc
none_refused false z true one two three h = refl
none_refused false z false one two three h = cc

both_storable : (ts : List (ℕ × ℤ)) (b : ℤ) → row_refusal ts b ≡ None → (are_storable ts && is_storable b) ≡ true
both_storable ts b h = none_refused (ascends_from 0 ts) (has_zero ts) (are_storable ts && is_storable b) _ _ _ h

pub terms_storable : (ts : List (ℕ × ℤ)) (b : ℤ) → row_refusal ts b ≡ None → are_storable ts ≡ true
terms_storable ts b h = first_holds (are_storable ts) (is_storable b) (both_storable ts b h)

pub right_storable : (ts : List (ℕ × ℤ)) (b : ℤ) → row_refusal ts b ≡ None → is_storable b ≡ true
right_storable ts b h = second_holds (are_storable ts) (is_storable b) (both_storable ts b h)
