-- What holds of what was taken goes on with each item, and the program that a text spells is one.
use Rattle.std.proofs.Common.{◌≤◌, ◌≡◌, ℕ, suc, ◌+◌, ◌<◌, Bool, true, false, ◌&&◌, ◌||◌, not, if◌then◌else◌, List, [], ◌∷◌, ◌++◌, length, Option, Some, None, refl, sym, subst, ◌∙◌, arith, length-append}
use Rattle.std.specs.Prelude.{nat_le, nat_lt}
use Rattle.std.specs.Str.{bytes_eq}
use Rattle.fractions.specs.Fraction.{Fraction}
use Rattle.lp_rows.specs.declared.kinds.Rel.{Rel}
use Rattle.lp_rows.specs.declared.kinds.Rel.TheVariants.{AtMost, AtLeast, Equal}
use Rattle.lp_rows.specs.Rows.{RowValue}
use Rattle.milps.specs.Building.{height_of}
use Rattle.lp_grammar.specs.declared.cause.LpCause.{LpCause}
use Rattle.lp_grammar.specs.declared.cause.LpCause.TheVariants as cause
use Rattle.lp_grammar.specs.declared.section.Section.{Section}
use Rattle.lp_grammar.specs.declared.section.Section.TheVariants as section
use Rattle.lp_grammar.specs.declared.stage.Column.{Column}
use Rattle.lp_grammar.specs.declared.stage.Pending.{Pending}
use Rattle.lp_grammar.specs.declared.stage.Stage.{Stage}
use Rattle.lp_grammar.specs.declared.stage.Stage.TheVariants.{Before, Goal, GoalLabel, Rows, RowLabel, Right, Bounds, BoundOf, BoundTo, BoundSign, BoundFrom, BoundOn, BoundMore, Names, Ended}
use Rattle.lp_grammar.specs.Items.{Item, Opens, Has}
use Rattle.lp_grammar.specs.Programs.{AreStored, IsStoredRow, most_cols, most_rows}
use Rattle.lp_grammar.specs.Reading.{and_then, with_number, goal_sign, goal_size, goal_token, is_empty, row_token, right_token, is_minus, signed_value, with_value, bound_name, bound_token, bound_of_token, bound_to_token, bound_sign_token, bound_from_token, stage_after, bound_from, bound_on_token, bound_more_token, integer_change, with_integer, name_token, colon_token, with_token, closed, is_due, opened, with_item}
use Rattle.lp_grammar.specs.Scaling.{has_id, insert_term}
use Rattle.lp_grammar.specs.Taking.{Taken, Objective, new_column, note_if, at_stage, numeral_value, is_huge, turned_if, or_one, is_out, nothing_pending, coefficient_of, with_sign, with_size, place_from, with_new_column, column_at, column_of, with_name, with_goal_term, with_row_term, with_constant, row_of, with_row, or_zero, objective_of, with_objective, with_column, added_rows, bounded_by, freed, turned, is_infinite_word, is_free_word}
use Rattle.lp_grammar.specs.Tokens.{Token, Name, Number, Sign, Compare, Colon, Barred, Stray, Numeral}
use Rattle.lp_parts.specs.Stored.{AreOrdered, IsStoredBound}
use Rattle.lp_reader.specs.Kept.{IsKeptStage, AreKept, IsKept}
use Rattle.lp_reader.proofs.KeptColumns.{signed_kept, KeepsBounds, KeepsKind, bounded_bounds, bounded_kind, freed_bounds, freed_kind, integer_bounds, changed_bounds, changed_length, changed_height, integer_height, new_bounds, new_height, stored_more, rows_more, row_added, height_added}
use Rattle.lp_parts.proofs.KeptTerms.{placed_ordered, none_ordered, ordered_more, row_kept, objective_kept}

-- what is taken, if it is
abbrev pub IfKept : ℕ → Option Taken → Type 0
IfKept m None = Unit {0}
IfKept m (Some t) = IsKept m t

then_kept : (m : ℕ) (o : Option Taken) (next : Taken → Option Taken) → IfKept m o → ((t : Taken) → IsKept m t → IfKept m (next t)) → IfKept m (and_then o next)
then_kept m None next k f = tt
then_kept m (Some t) next k f = f t k

if_kept : (m : ℕ) (b : Bool) (x y : Option Taken) → IfKept m x → IfKept m y → IfKept m (if b then x else y)
if_kept m true x y k l = k
if_kept m false x y k l = l

noted : (m : ℕ) (b : Bool) (c : LpCause) (t : Taken) → IsKept m t → IsKept m (note_if b c t)
noted m true c t k = k
noted m false c t k = k

numbered : (m : ℕ) (value : Option Fraction) (t : Taken) → IsKept m t → IsKept m (with_number value t)
numbered m value t k = noted m (is_out value) cause.Number t k

named : (m : ℕ) (name : List ℕ) (t : Taken) → IsKept m t → IsKept m (with_name name t)
named m name t k = noted m (not (nat_le (length name) 255)) cause.Limit t k

valued : (m : ℕ) (n : Numeral) (t : Taken) → IsKept m t → IsKept m (with_value n t)
valued m n t k = go (is_huge n)
  where
    go : (b : Bool) → IsKept m (if b then t else with_number (numeral_value n) t)
    go true = k
    go false = numbered m (numeral_value n) t k

-- ---- columns
-- one name and one row more are few
abbrev pub HasRoom : ℕ → Taken → Type 0
HasRoom m t = (length t.names < m) × (length t.rows < m)

room_noted : (m : ℕ) (b : Bool) (c : LpCause) (t : Taken) → HasRoom m t → HasRoom m (note_if b c t)
room_noted m true c t r = r
room_noted m false c t r = r

room_named : (m : ℕ) (name : List ℕ) (t : Taken) → HasRoom m t → HasRoom m (with_name name t)
room_named m name t r = room_noted m (not (nat_le (length name) 255)) cause.Limit t r

place_below : (k : ℕ) (name : List ℕ) (ns : List (List ℕ)) (id : ℕ) → place_from k name ns ≡ Some id → id < k + length ns
place_below k name [] id e = absurd (cc e)
place_below k name (n ∷ ns) id e = go (bytes_eq name n) e (λ h. place_below (suc k) name ns id h)
  where
    go : (b : Bool) → (if b then Some k else place_from (suc k) name ns) ≡ Some id → (place_from (suc k) name ns ≡ Some id → id < suc k + length ns) → id < k + suc (length ns)
    go true e below = let same : k ≡ id = cc e in omega (arith, same)
    go false e below = omega (arith, below e)

-- the column is one of those that are there, and all is kept
abbrev IsFoundKept : ℕ → ℕ × Taken → Type 0
IsFoundKept m found = (found.0 < length found.1.names) × IsKept m found.1

new_kept : (m : ℕ) (name : List ℕ) (t : Taken) → IsKept m t → HasRoom m t → AreKept m (length t.names + 1) t.goal t.terms (t.columns ++ new_column ∷ []) t.objective t.rows t.count
new_kept m name t k r = record {
  few_names = omega (arith, r.0);
  few_rows = k.1.few_rows;
  named = omega (arith, k.1.named, length-append t.columns (new_column ∷ []));
  bounds = new_bounds t.columns k.1.bounds;
  goal = ordered_more (length t.names) t.goal k.1.goal;
  terms = ordered_more (length t.names) t.terms k.1.terms;
  objective = stored_more (length t.names) t.objective.terms k.1.objective;
  rows = rows_more (length t.names) t.rows k.1.rows;
  counted = omega (arith, k.1.counted, new_height t.columns);
}

found_noted : (m : ℕ) (b : Bool) (c : LpCause) (id : ℕ) (t : Taken) → id < length t.names → IsKept m t → IsFoundKept m (id, note_if b c t)
found_noted m true c id t within k = (within, k)
found_noted m false c id t within k = (within, k)

new_found : (m : ℕ) (name : List ℕ) (t : Taken) → IsKept m t → HasRoom m t → IsFoundKept m (length t.names, with_new_column name t)
new_found m name t k r =
    let next : Taken = record t { names = t.names ++ name ∷ []; columns = t.columns ++ new_column ∷ [] } in
    let more : length t.names + 1 ≡ length (t.names ++ name ∷ []) = omega (arith, length-append t.names (name ∷ [])) in
    found_noted m (not (nat_lt (length t.names) most_cols)) cause.Limit (length t.names) next (omega (arith, more))
    (k.0, subst (λ (n : ℕ). AreKept m n t.goal t.terms (t.columns ++ new_column ∷ []) t.objective t.rows t.count) more (new_kept m name t k r))

column_kept : (m : ℕ) (t : Taken) (name : List ℕ) → IsKept m t → HasRoom m t → IsFoundKept m (column_of t name)
column_kept m t name k r = go (place_from 0 name t.names) refl
  where
    go : (o : Option ℕ) → place_from 0 name t.names ≡ o → IsFoundKept m (column_at t name o)
    go None e = new_found m name t k r
    go (Some id) e = let below = place_below 0 name t.names id e in (omega (arith, below), k)

-- ---- the objective and rows
-- kept with other sums
with_sums : (m : ℕ) (t : Taken) (aim sum : List (ℕ × Fraction)) → IsKept m t → AreOrdered (length t.names) aim → AreOrdered (length t.names) sum → AreKept m (length t.names) aim sum t.columns t.objective t.rows t.count
with_sums m t aim sum k a s = record {
  few_names = k.1.few_names;
  few_rows = k.1.few_rows;
  named = k.1.named;
  bounds = k.1.bounds;
  goal = a;
  terms = s;
  objective = k.1.objective;
  rows = k.1.rows;
  counted = k.1.counted;
}

goal_term : (m : ℕ) (found : ℕ × Taken) (f : Fraction) → IsFoundKept m found → IfKept m (with_goal_term found f)
goal_term m found f k = go (has_id found.0 found.1.goal) refl
  where
    go : (b : Bool) → has_id found.0 found.1.goal ≡ b → IfKept m (if b then None else Some (record found.1 { stage = Goal false nothing_pending; goal = insert_term (found.0, f) found.1.goal }))
    go true e = tt
    go false e = (tt, with_sums m found.1 (insert_term (found.0, f) found.1.goal) found.1.terms k.1 (placed_ordered (length found.1.names) found.0 f found.1.goal k.0 e k.1.1.goal) k.1.1.terms)

row_term : (m : ℕ) (found : ℕ × Taken) (f : Fraction) → IsFoundKept m found → IfKept m (with_row_term found f)
row_term m found f k = go (has_id found.0 found.1.terms) refl
  where
    go : (b : Bool) → has_id found.0 found.1.terms ≡ b → IfKept m (if b then None else Some (record found.1 { stage = Rows false nothing_pending; terms = insert_term (found.0, f) found.1.terms }))
    go true e = tt
    go false e = (tt, with_sums m found.1 found.1.goal (insert_term (found.0, f) found.1.terms) k.1 k.1.1.goal (placed_ordered (length found.1.names) found.0 f found.1.terms k.0 e k.1.1.terms))

constant_kept : (m : ℕ) (t : Taken) (p : Pending) (o : Option Fraction) → IsKept m t → IfKept m (with_constant t p o)
constant_kept m t p None k = if_kept m p.is_open None (Some t) tt k
constant_kept m t p (Some f) k = if_kept m (is_out t.constant) (Some (record t { constant = Some f })) None k tt

goal_sign_kept : (m : ℕ) (t : Taken) (p : Pending) (o : Option Fraction) (b : Bool) → IsKept m t → IfKept m (goal_sign t p o b)
goal_sign_kept m t p None b k = (tt, k.1)
goal_sign_kept m t p (Some f) b k =
    then_kept m (with_constant t p (Some f)) (λ next. Some (at_stage (Goal false (with_sign b nothing_pending)) next)) (constant_kept m t p (Some f) k) (λ next l. (tt, l.1))

goal_size_kept : (m : ℕ) (t : Taken) (p : Pending) (o value : Option Fraction) → IsKept m t → IfKept m (goal_size t p o value)
goal_size_kept m t p None value k = numbered m value (at_stage (Goal false (with_size (or_one value) p)) t) (tt, k.1)
goal_size_kept m t p (Some f) value k =
    then_kept m (with_constant t p (Some f)) (λ next. Some (with_number value (at_stage (Goal false (with_size (or_one value) nothing_pending)) next))) (constant_kept m t p (Some f) k)
    (λ next l. numbered m value (at_stage (Goal false (with_size (or_one value) nothing_pending)) next) (tt, l.1))

goal_kept : (m : ℕ) (t : Taken) (fresh : Bool) (p : Pending) (token : Token) (l : Bool) → IsKept m t → HasRoom m t → IfKept m (goal_token t fresh p token l)
goal_kept m t fresh p (Name name) l k r =
    let n : IsKept m (with_name name t) = named m name t k in
    if_kept m (fresh && l) (Some (at_stage GoalLabel (with_name name t))) (with_goal_term (column_of (with_name name t) name) (coefficient_of p)) (tt, n.1)
    (goal_term m (column_of (with_name name t) name) (coefficient_of p) (column_kept m (with_name name t) name n (room_named m name t r)))
goal_kept m t fresh p (Number n) l k r = goal_size_kept m t p p.size (numeral_value n) k
goal_kept m t fresh p (Sign b) l k r = goal_sign_kept m t p p.size b k
goal_kept m t fresh p (Compare rel) l k r = tt
goal_kept m t fresh p Colon l k r = tt
goal_kept m t fresh p Barred l k r = tt
goal_kept m t fresh p Stray l k r = tt

row_kept_by : (m : ℕ) (t : Taken) (fresh : Bool) (p : Pending) (token : Token) (l : Bool) → IsKept m t → HasRoom m t → IfKept m (row_token t fresh p token l)
row_kept_by m t fresh p (Name name) l k r =
    let n : IsKept m (with_name name t) = named m name t k in
    if_kept m (fresh && l) (Some (at_stage RowLabel (with_name name t))) (with_row_term (column_of (with_name name t) name) (coefficient_of p)) (tt, n.1)
    (row_term m (column_of (with_name name t) name) (coefficient_of p) (column_kept m (with_name name t) name n (room_named m name t r)))
row_kept_by m t fresh p (Number n) l k r =
    let next : Taken = at_stage (Rows false (with_size (or_one (numeral_value n)) p)) t in
    if_kept m (is_out p.size) (Some (with_number (numeral_value n) next)) None (numbered m (numeral_value n) next (tt, k.1)) tt
row_kept_by m t fresh p (Sign b) l k r = if_kept m (is_out p.size) (Some (at_stage (Rows false (with_sign b p)) t)) None (tt, k.1) tt
row_kept_by m t fresh p (Compare rel) l k r = if_kept m (p.is_open || is_empty t.terms) None (Some (at_stage (Right rel None) t)) tt (tt, k.1)
row_kept_by m t fresh p Colon l k r = tt
row_kept_by m t fresh p Barred l k r = tt
row_kept_by m t fresh p Stray l k r = tt

row_taken : (m : ℕ) (o : Option RowValue) (t : Taken) → IsKept m t → HasRoom m t → ((r : RowValue) → o ≡ Some r → IsStoredRow (length t.names) r) → IsKept m (with_row o t)
row_taken m None t k room f = (tt, with_sums m t t.goal [] k k.1.goal (none_ordered (length t.names)))
row_taken m (Some r) t k room f =
    let next : Taken = record t { stage = Rows true nothing_pending; terms = []; rows = t.rows ++ r ∷ []; count = t.count + height_of r.rel } in
    noted m (not (nat_le next.count most_rows)) cause.Limit next (
      tt,
      record {
        few_names = k.1.few_names;
        few_rows = omega (arith, room.1, length-append t.rows (r ∷ []));
        named = k.1.named;
        bounds = k.1.bounds;
        goal = k.1.goal;
        terms = none_ordered (length t.names);
        objective = k.1.objective;
        rows = row_added (length t.names) t.rows r k.1.rows (f r refl);
        counted = omega (arith, k.1.counted, height_added t.rows r);
      },
    )

right_sized : (m : ℕ) (t : Taken) (rel : Rel) (sign : Option Bool) (n : Numeral) → IsKept m t → HasRoom m t → IsKept m (with_row (row_of t.terms rel (turned_if (is_minus sign) (or_one (numeral_value n)))) (with_number (numeral_value n) t))
right_sized m t rel sign n k room =
    row_taken m (row_of t.terms rel (turned_if (is_minus sign) (or_one (numeral_value n)))) (with_number (numeral_value n) t) (numbered m (numeral_value n) t k) (room_noted m (is_out (numeral_value n)) cause.Number t room) (whether (is_out (numeral_value n)))
  where
    whether : (b : Bool) (r : RowValue) → row_of t.terms rel (turned_if (is_minus sign) (or_one (numeral_value n))) ≡ Some r → IsStoredRow (length (note_if b cause.Number t).names) r
    whether true r e = row_kept (length t.names) t.terms rel (turned_if (is_minus sign) (or_one (numeral_value n))) r k.1.terms e
    whether false r e = row_kept (length t.names) t.terms rel (turned_if (is_minus sign) (or_one (numeral_value n))) r k.1.terms e

right_kept : (m : ℕ) (t : Taken) (rel : Rel) (sign : Option Bool) (token : Token) → IsKept m t → HasRoom m t → IfKept m (right_token t rel sign token)
right_kept m t rel None (Name name) k r = tt
right_kept m t rel None (Number n) k r = right_sized m t rel None n k r
right_kept m t rel None (Sign b) k r = (tt, k.1)
right_kept m t rel None (Compare other) k r = tt
right_kept m t rel None Colon k r = tt
right_kept m t rel None Barred k r = tt
right_kept m t rel None Stray k r = tt
right_kept m t rel (Some s) (Name name) k r = tt
right_kept m t rel (Some s) (Number n) k r = right_sized m t rel (Some s) n k r
right_kept m t rel (Some s) (Sign b) k r = tt
right_kept m t rel (Some s) (Compare other) k r = tt
right_kept m t rel (Some s) Colon k r = tt
right_kept m t rel (Some s) Barred k r = tt
right_kept m t rel (Some s) Stray k r = tt

-- ---- bounds
changed : (m : ℕ) (id : ℕ) (change : Column → Column) (t : Taken) → KeepsBounds change → KeepsKind change → IsKept m t → IsKept m (with_column id change t)
changed m id change t bounds kind k = (
  k.0,
  record {
    few_names = k.1.few_names;
    few_rows = k.1.few_rows;
    named = k.1.named ∙ sym (changed_length id change t.columns);
    bounds = changed_bounds id change t.columns bounds k.1.bounds;
    goal = k.1.goal;
    terms = k.1.terms;
    objective = k.1.objective;
    rows = k.1.rows;
    counted = omega (arith, k.1.counted, changed_height id change t.columns kind);
  },
)

bound_changed : (m : ℕ) (id : ℕ) (rel : Rel) (bound : Option Fraction) (t : Taken) → IsStoredBound bound → IsKept m t → IsKept m (with_column id (bounded_by rel bound) t)
bound_changed m id rel bound t b k = changed m id (bounded_by rel bound) t (bounded_bounds rel bound b) (bounded_kind rel bound) k

bound_kept : (m : ℕ) (t : Taken) (token : Token) → IsKept m t → HasRoom m t → IfKept m (bound_token t token)
bound_kept m t (Name name) k r =
    let n : IsKept m (with_name name t) = named m name t k in
    if_kept m (is_infinite_word name) (Some (at_stage (BoundFrom None) t)) (if is_free_word name then None else Some (bound_name (column_of (with_name name t) name))) (tt, k.1)
    (if_kept m (is_free_word name) None (Some (bound_name (column_of (with_name name t) name))) tt (tt, (column_kept m (with_name name t) name n (room_named m name t r)).1.1))
bound_kept m t (Number n) k r = valued m n (at_stage (BoundFrom (signed_value false n)) t) (signed_kept false n, k.1)
bound_kept m t (Sign b) k r = (tt, k.1)
bound_kept m t (Compare rel) k r = tt
bound_kept m t Colon k r = tt
bound_kept m t Barred k r = tt
bound_kept m t Stray k r = tt

bound_of_kept : (m : ℕ) (t : Taken) (id : ℕ) (token : Token) → IsKept m t → IfKept m (bound_of_token t id token)
bound_of_kept m t id (Name name) k = if_kept m (is_free_word name) (Some (with_column id freed (at_stage Bounds t))) None (changed m id freed (at_stage Bounds t) freed_bounds freed_kind (tt, k.1)) tt
bound_of_kept m t id (Number n) k = tt
bound_of_kept m t id (Sign b) k = tt
bound_of_kept m t id (Compare rel) k = (tt, k.1)
bound_of_kept m t id Colon k = tt
bound_of_kept m t id Barred k = tt
bound_of_kept m t id Stray k = tt

bound_sized : (m : ℕ) (t : Taken) (id : ℕ) (rel : Rel) (sign : Option Bool) (n : Numeral) → IsKept m t → IsKept m (with_value n (with_column id (bounded_by rel (signed_value (is_minus sign) n)) (at_stage Bounds t)))
bound_sized m t id rel sign n k =
    valued m n (with_column id (bounded_by rel (signed_value (is_minus sign) n)) (at_stage Bounds t))
    (bound_changed m id rel (signed_value (is_minus sign) n) (at_stage Bounds t) (signed_kept (is_minus sign) n) (tt, k.1))

bound_word : (m : ℕ) (t : Taken) (id : ℕ) (rel : Rel) (name : List ℕ) → IsKept m t → IfKept m (if is_infinite_word name then Some (with_column id (bounded_by rel None) (at_stage Bounds t)) else None)
bound_word m t id rel name k = if_kept m (is_infinite_word name) (Some (with_column id (bounded_by rel None) (at_stage Bounds t))) None (bound_changed m id rel None (at_stage Bounds t) tt (tt, k.1)) tt

bound_to_kept : (m : ℕ) (t : Taken) (id : ℕ) (rel : Rel) (sign : Option Bool) (token : Token) → IsKept m t → IfKept m (bound_to_token t id rel sign token)
bound_to_kept m t id rel None (Name name) k = bound_word m t id rel name k
bound_to_kept m t id rel None (Number n) k = bound_sized m t id rel None n k
bound_to_kept m t id rel None (Sign b) k = (tt, k.1)
bound_to_kept m t id rel None (Compare r) k = tt
bound_to_kept m t id rel None Colon k = tt
bound_to_kept m t id rel None Barred k = tt
bound_to_kept m t id rel None Stray k = tt
bound_to_kept m t id rel (Some s) (Name name) k = bound_word m t id rel name k
bound_to_kept m t id rel (Some s) (Number n) k = bound_sized m t id rel (Some s) n k
bound_to_kept m t id rel (Some s) (Sign b) k = tt
bound_to_kept m t id rel (Some s) (Compare r) k = tt
bound_to_kept m t id rel (Some s) Colon k = tt
bound_to_kept m t id rel (Some s) Barred k = tt
bound_to_kept m t id rel (Some s) Stray k = tt

bound_sign_kept : (m : ℕ) (t : Taken) (b : Bool) (token : Token) → IsKept m t → IfKept m (bound_sign_token t b token)
bound_sign_kept m t b (Name name) k = if_kept m (is_infinite_word name) (Some (at_stage (BoundFrom None) t)) None (tt, k.1) tt
bound_sign_kept m t b (Number n) k = valued m n (at_stage (BoundFrom (signed_value b n)) t) (signed_kept b n, k.1)
bound_sign_kept m t b (Sign c) k = tt
bound_sign_kept m t b (Compare rel) k = tt
bound_sign_kept m t b Colon k = tt
bound_sign_kept m t b Barred k = tt
bound_sign_kept m t b Stray k = tt

bound_from_kept : (m : ℕ) (t : Taken) (bound : Option Fraction) (token : Token) → IsStoredBound bound → IsKept m t → IfKept m (bound_from_token t bound token)
bound_from_kept m t bound (Name name) b k = tt
bound_from_kept m t bound (Number n) b k = tt
bound_from_kept m t bound (Sign c) b k = tt
bound_from_kept m t bound (Compare rel) b k = (b, k.1)
bound_from_kept m t bound Colon b k = tt
bound_from_kept m t bound Barred b k = tt
bound_from_kept m t bound Stray b k = tt

after_kept : (rel : Rel) (id : ℕ) → IsKeptStage (stage_after rel id)
after_kept AtMost id = tt
after_kept AtLeast id = tt
after_kept Equal id = tt

bound_on_kept : (m : ℕ) (t : Taken) (bound : Option Fraction) (rel : Rel) (token : Token) → IsStoredBound bound → IsKept m t → HasRoom m t → IfKept m (bound_on_token t bound rel token)
bound_on_kept m t bound rel (Name name) b k r =
    let n : IsKept m (with_name name t) = named m name t k in
    let found : ℕ × Taken = column_of (with_name name t) name in
    if_kept m (is_infinite_word name || is_free_word name) None (Some (bound_from bound rel found)) tt
    (bound_changed m found.0 (turned rel) bound (at_stage (stage_after rel found.0) found.1) b (after_kept rel found.0, (column_kept m (with_name name t) name n (room_named m name t r)).1.1))
bound_on_kept m t bound rel (Number n) b k r = tt
bound_on_kept m t bound rel (Sign c) b k r = tt
bound_on_kept m t bound rel (Compare other) b k r = tt
bound_on_kept m t bound rel Colon b k r = tt
bound_on_kept m t bound rel Barred b k r = tt
bound_on_kept m t bound rel Stray b k r = tt

bound_more_kept : (m : ℕ) (t : Taken) (id : ℕ) (token : Token) → IsKept m t → HasRoom m t → IfKept m (bound_more_token t id token)
bound_more_kept m t id (Name name) k r = bound_kept m t (Name name) k r
bound_more_kept m t id (Number n) k r = bound_kept m t (Number n) k r
bound_more_kept m t id (Sign b) k r = bound_kept m t (Sign b) k r
bound_more_kept m t id (Compare AtMost) k r = (tt, k.1)
bound_more_kept m t id (Compare AtLeast) k r = tt
bound_more_kept m t id (Compare Equal) k r = tt
bound_more_kept m t id Colon k r = tt
bound_more_kept m t id Barred k r = tt
bound_more_kept m t id Stray k r = tt

integer_kept : (m : ℕ) (is_binary : Bool) (found : ℕ × Taken) → IsKept m found.1 → IsKept m (with_integer is_binary found)
integer_kept m is_binary found k =
    let t : Taken = found.1 in
    let next : Taken = with_column found.0 (integer_change is_binary) (record t { count = t.count + added_rows found.0 t.columns }) in
    noted m (not (nat_le next.count most_rows)) cause.Limit next (
      k.0,
      record {
        few_names = k.1.few_names;
        few_rows = k.1.few_rows;
        named = k.1.named ∙ sym (changed_length found.0 (integer_change is_binary) t.columns);
        bounds = changed_bounds found.0 (integer_change is_binary) t.columns (integer_bounds is_binary) k.1.bounds;
        goal = k.1.goal;
        terms = k.1.terms;
        objective = k.1.objective;
        rows = k.1.rows;
        counted = omega (arith, k.1.counted, integer_height is_binary found.0 t.columns);
      },
    )

name_kept : (m : ℕ) (t : Taken) (is_binary : Bool) (token : Token) → IsKept m t → HasRoom m t → IfKept m (name_token t is_binary token)
name_kept m t is_binary (Name name) k r = integer_kept m is_binary (column_of (with_name name t) name) (column_kept m (with_name name t) name (named m name t k) (room_named m name t r)).1
name_kept m t is_binary (Number n) k r = tt
name_kept m t is_binary (Sign b) k r = tt
name_kept m t is_binary (Compare rel) k r = tt
name_kept m t is_binary Colon k r = tt
name_kept m t is_binary Barred k r = tt
name_kept m t is_binary Stray k r = tt

colon_kept : (m : ℕ) (t : Taken) (stage : Stage) (token : Token) → IsKeptStage stage → IsKept m t → IfKept m (colon_token t stage token)
colon_kept m t stage (Name name) s k = tt
colon_kept m t stage (Number n) s k = tt
colon_kept m t stage (Sign b) s k = tt
colon_kept m t stage (Compare rel) s k = tt
colon_kept m t stage Colon s k = (s, k.1)
colon_kept m t stage Barred s k = tt
colon_kept m t stage Stray s k = tt

-- ---- tokens, sections and lines
token_kept : (m : ℕ) (t : Taken) (stage : Stage) (token : Token) (l : Bool) → IsKeptStage stage → IsKept m t → HasRoom m t → IfKept m (with_token t stage token l)
token_kept m t Before token l s k r = tt
token_kept m t (Goal fresh p) token l s k r = goal_kept m t fresh p token l k r
token_kept m t GoalLabel token l s k r = colon_kept m t (Goal false nothing_pending) token tt k
token_kept m t (Rows fresh p) token l s k r = row_kept_by m t fresh p token l k r
token_kept m t RowLabel token l s k r = colon_kept m t (Rows false nothing_pending) token tt k
token_kept m t (Right rel sign) token l s k r = right_kept m t rel sign token k r
token_kept m t Bounds token l s k r = bound_kept m t token k r
token_kept m t (BoundOf id) token l s k r = bound_of_kept m t id token k
token_kept m t (BoundTo id rel sign) token l s k r = bound_to_kept m t id rel sign token k
token_kept m t (BoundSign b) token l s k r = bound_sign_kept m t b token k
token_kept m t (BoundFrom bound) token l s k r = bound_from_kept m t bound token s k
token_kept m t (BoundOn bound rel) token l s k r = bound_on_kept m t bound rel token s k r
token_kept m t (BoundMore id) token l s k r = bound_more_kept m t id token k r
token_kept m t (Names is_binary) token l s k r = name_kept m t is_binary token k r
token_kept m t Ended token l s k r = tt

closed_kept : (m : ℕ) (t : Taken) (stage : Stage) → IsKept m t → IfKept m (closed t stage)
closed_kept m t Before k = k
closed_kept m t (Goal fresh p) k = constant_kept m t p p.size k
closed_kept m t GoalLabel k = tt
closed_kept m t (Rows fresh p) k = if_kept m fresh (Some t) None k tt
closed_kept m t RowLabel k = tt
closed_kept m t (Right rel sign) k = tt
closed_kept m t Bounds k = k
closed_kept m t (BoundOf id) k = tt
closed_kept m t (BoundTo id rel sign) k = tt
closed_kept m t (BoundSign b) k = tt
closed_kept m t (BoundFrom bound) k = tt
closed_kept m t (BoundOn bound rel) k = tt
closed_kept m t (BoundMore id) k = k
closed_kept m t (Names is_binary) k = k
closed_kept m t Ended k = tt

objective_taken : (m : ℕ) (o : Option Objective) (t : Taken) → IsKept m t → ((x : Objective) → o ≡ Some x → AreStored (length t.names) x.terms) → IsKept m (with_objective o t)
objective_taken m None t k f = k
objective_taken m (Some x) t k f = (
  k.0,
  record {
    few_names = k.1.few_names;
    few_rows = k.1.few_rows;
    named = k.1.named;
    bounds = k.1.bounds;
    goal = k.1.goal;
    terms = k.1.terms;
    objective = f x refl;
    rows = k.1.rows;
    counted = k.1.counted;
  },
)

fresh_goal : (m : ℕ) (t : Taken) → IsKept m t → AreKept m (length t.names) [] t.terms t.columns t.objective t.rows t.count
fresh_goal m t k = with_sums m t [] t.terms k (none_ordered (length t.names)) k.1.terms

opened_kept : (m : ℕ) (s : Section) (t : Taken) → IsKept m t → IsKept m (opened s t)
opened_kept m section.Minimize t k = (tt, fresh_goal m t k)
opened_kept m section.Maximize t k = (tt, fresh_goal m t k)
opened_kept m section.Constraints t k =
    objective_taken m (objective_of t.goal (or_zero t.constant)) (at_stage (Rows true nothing_pending) t) (tt, k.1) (λ x e. objective_kept (length t.names) t.goal (or_zero t.constant) x k.1.goal e)
opened_kept m section.Bounds t k = (tt, k.1)
opened_kept m section.General t k = (tt, k.1)
opened_kept m section.Binary t k = (tt, k.1)
opened_kept m section.End t k = (tt, k.1)

pub item_kept : (m : ℕ) (t : Taken) (i : Item) → IsKept m t → HasRoom m t → IfKept m (with_item t i)
item_kept m t (Opens s) k r =
    then_kept m (closed t t.stage) (λ next. Some (note_if (not (is_due t.stage s)) cause.Section (opened s next))) (closed_kept m t t.stage k)
    (λ next l. noted m (not (is_due t.stage s)) cause.Section (opened s next) (opened_kept m s next l))
item_kept m t (Has token l) k r = token_kept m t t.stage token l k.0 k r

-- what was kept with one item more is kept with more items
pub wider : (m n : ℕ) (t : Taken) → IsKept m t → length t.names ≤ n → length t.rows ≤ n → IsKept n t
wider m n t k names rows = (
  k.0,
  record {
    few_names = names;
    few_rows = rows;
    named = k.1.named;
    bounds = k.1.bounds;
    goal = k.1.goal;
    terms = k.1.terms;
    objective = k.1.objective;
    rows = k.1.rows;
    counted = k.1.counted;
  },
)
