-- Bytes and tokens bound the items of lines, and what is ready has room for its numbers.
use Rattle.std.proofs.Common.{◌≡◌, ℕ, zero, suc, ◌+◌, ◌-◌, ◌*◌, ◌^◌, ◌<◌, ◌≤◌, Bool, true, false, ◌&&◌, not, ◌==◌, if◌then◌else◌, List, [], ◌∷◌, length, map, Option, Some, None, Ok, refl, ap, sym, subst, ◌∙◌, arith}
use Rattle.std.specs.Prelude.{nat_lt, nat_le, ◌++◌}
use Rattle.std.proofs.lemmas.Bool.Decides.{nat_tests}
use Rattle.std.proofs.lemmas.List.{length-map}
use Rattle.fractions.specs.Fraction.{Fraction}
use Rattle.lp_rows.specs.declared.columns.Col.{Col}
use Rattle.lp_rows.specs.declared.kinds.Kind.{Kind}
use Rattle.lp_rows.specs.declared.kinds.Kind.TheVariants.{Real, Int}
use Rattle.lp_rows.specs.declared.kinds.Rel.{Rel}
use Rattle.lp_rows.specs.declared.kinds.Rel.TheVariants.{AtMost, AtLeast, Equal}
use Rattle.lp_rows.specs.Holding.{ids_below}
use Rattle.lp_rows.specs.Rows.{RowValue}
use Rattle.text_grammar.specs.Bytes.{is_blank, front}
use Rattle.text_grammar.specs.Lexers.{tokens_within, tokens_by}
use Rattle.text_grammar.specs.Lines.{newline_next, onto_first, lines_of}
use Rattle.text_grammar.proofs.Bools.{both, and_true}
use Rattle.milps.specs.Building.{height_of, rows_height, bounds_of, bounds_height}
use Rattle.lp_grammar.specs.declared.section.Section.{Section}
use Rattle.lp_grammar.specs.declared.section.Section.TheVariants as section
use Rattle.lp_grammar.specs.declared.stage.Pending.{Pending}
use Rattle.lp_grammar.specs.declared.stage.Stage.{Stage}
use Rattle.lp_grammar.specs.declared.stage.Stage.TheVariants.{Before, Goal, GoalLabel, Rows, RowLabel, Right, Bounds, BoundOf, BoundTo, BoundSign, BoundFrom, BoundOn, BoundMore, Names, Ended}
use Rattle.lp_grammar.specs.declared.cause.LpCause.{LpCause}
use Rattle.lp_grammar.specs.declared.cause.LpCause.TheVariants as cause
use Rattle.lp_grammar.specs.Programs.{most_cols}
use Rattle.lp_grammar.specs.Items.{Opens, Has, plain_items, section_of, are_constraints, with_section as section_with, opening_word, opening_of, items_with, items_of, colon_first, colon_next}
use Rattle.lp_grammar.specs.Reading.{with_number, closed, col_of, with_section, with_token, with_line}
use Rattle.lp_grammar.specs.Taking.{Taken, nothing_taken, new_column, note_if, with_constant, with_name, place_from, column_at, column_of, is_out}
use Rattle.lp_grammar.specs.Tokens.{Token, Name, Number, Sign, Compare, Colon, Barred, Stray, token_of, without_comment, tokens_of}
use Rattle.lp_parts.specs.Stored.{AreOrdered}
use Rattle.lp_reader.specs.Kept.{IsReady, most_items}
use Rattle.lp_reader.specs.Taken.{Leaves, LineLeaves, line_before}
use Rattle.lp_reader.proofs.Ready.{fewer, item_ready, line_ready, start_ready}

-- ---- bytes
-- how many bytes lines have
abbrev pub bytes_in : List (List ℕ) → ℕ
bytes_in [] = 0
bytes_in (l ∷ ls) = length l + bytes_in ls

onto_bytes : (b : ℕ) (ls : List (List ℕ)) → bytes_in (onto_first b ls) ≡ suc (bytes_in ls)
onto_bytes b [] = refl
onto_bytes b (l ∷ ls) = omega arith

pub text_bytes : (text : List ℕ) → bytes_in (lines_of text) ≤ length text
text_bytes [] = omega arith
text_bytes (b ∷ bs) = go (b == 10) (newline_next bs && (b == 13)) (text_bytes bs)
  where
    go : (x y : Bool) → bytes_in (lines_of bs) ≤ length bs → bytes_in (if x then [] ∷ lines_of bs else (if y then lines_of bs else onto_first b (lines_of bs))) ≤ suc (length bs)
    go true y h = omega (arith, h)
    go false true h = omega (arith, h)
    go false false h = omega (arith, h, onto_bytes b (lines_of bs))

front_short : (test : ℕ → Bool) (bytes : List ℕ) → length (front test bytes) ≤ length bytes
front_short test [] = omega arith
front_short test (b ∷ bs) = go (test b) (front_short test bs)
  where
    go : (x : Bool) → length (front test bs) ≤ length bs → length (if x then b ∷ front test bs else []) ≤ suc (length bs)
    go true h = omega (arith, h)
    go false h = omega arith

within_few : (n : ℕ) (bytes : List ℕ) → length (tokens_within token_of n bytes) ≤ n
within_few zero bytes = omega arith
within_few (suc n) [] = omega arith
within_few (suc n) (b ∷ bs) = go (is_blank b) (within_few n bs) (within_few n (token_of b bs).1)
  where
    go : (x : Bool) → length (tokens_within token_of n bs) ≤ n → length (tokens_within token_of n (token_of b bs).1) ≤ n
        → length (if x then tokens_within token_of n bs else (token_of b bs).0 ∷ tokens_within token_of n (token_of b bs).1) ≤ suc n
    go true h k = omega (arith, h)
    go false h k = omega (arith, k)

pub tokens_few : (line : List ℕ) → length (tokens_of line) ≤ length line
unfolding tokens_by
tokens_few line = let few = within_few (length (without_comment line)) (without_comment line) in let short = front_short (λ b. not (b == 92)) line in omega (arith, few, short)

pub plain_length : (ts : List Token) (next : Bool) → length (plain_items ts next) ≡ length ts
plain_length [] next = refl
plain_length (t ∷ ts) next = ap suc (plain_length ts next)

-- a section's word is a token
abbrev OpensShorter : ℕ → Option (Section × List Token) → Type 0
OpensShorter n None = Unit {0}
OpensShorter n (Some opened) = suc (length opened.1) ≤ n

word_shorter : (n : ℕ) (o : Option Section) (ts : List Token) → suc (length ts) ≤ n → OpensShorter n (section_with o ts)
word_shorter n None ts le = tt
word_shorter n (Some s) ts le = le

opening_shorter : (ts : List Token) → OpensShorter (length ts) (opening_of ts)
opening_shorter [] = tt
opening_shorter (Name first ∷ []) = word_shorter 1 (section_of first) [] (omega arith)
opening_shorter (Name first ∷ Name second ∷ ts) = go (are_constraints first second)
  where
    go : (b : Bool) → OpensShorter (suc (suc (length ts))) (if b then Some (section.Constraints, ts) else opening_word first (Name second ∷ ts))
    go true = omega arith
    go false = word_shorter (suc (suc (length ts))) (section_of first) (Name second ∷ ts) (omega arith)
opening_shorter (Name first ∷ Number n ∷ ts) = word_shorter (suc (suc (length ts))) (section_of first) (Number n ∷ ts) (omega arith)
opening_shorter (Name first ∷ Sign b ∷ ts) = word_shorter (suc (suc (length ts))) (section_of first) (Sign b ∷ ts) (omega arith)
opening_shorter (Name first ∷ Compare r ∷ ts) = word_shorter (suc (suc (length ts))) (section_of first) (Compare r ∷ ts) (omega arith)
opening_shorter (Name first ∷ Colon ∷ ts) = word_shorter (suc (suc (length ts))) (section_of first) (Colon ∷ ts) (omega arith)
opening_shorter (Name first ∷ Barred ∷ ts) = word_shorter (suc (suc (length ts))) (section_of first) (Barred ∷ ts) (omega arith)
opening_shorter (Name first ∷ Stray ∷ ts) = word_shorter (suc (suc (length ts))) (section_of first) (Stray ∷ ts) (omega arith)
opening_shorter (Number n ∷ ts) = tt
opening_shorter (Sign b ∷ ts) = tt
opening_shorter (Compare r ∷ ts) = tt
opening_shorter (Colon ∷ ts) = tt
opening_shorter (Barred ∷ ts) = tt
opening_shorter (Stray ∷ ts) = tt

opened_shorter : (ts : List Token) (s : Section) (rest : List Token) → Some (s, rest) ≡ opening_of ts → suc (length rest) ≤ length ts
opened_shorter ts s rest e = subst (λ (o : Option (Section × List Token)). OpensShorter (length ts) o) (sym e) (opening_shorter ts)

items_with_few : (ts : List Token) (o : Option (Section × List Token)) (next : Bool) → OpensShorter (length ts) o → length (items_with ts o next) ≤ length ts
items_with_few ts None next k = omega (arith, plain_length ts next)
items_with_few ts (Some opened) next k = go (colon_first opened.1 next)
  where
    go : (b : Bool) → length (if b then plain_items ts next else Opens opened.0 ∷ plain_items opened.1 next) ≤ length ts
    go true = omega (arith, plain_length ts next)
    go false = omega (arith, plain_length opened.1 next, k)

items_few : (line : List ℕ) (next : Bool) → length (items_of (tokens_of line) next) ≤ length line
items_few line next =
    let few = items_with_few (tokens_of line) (opening_of (tokens_of line)) next (opening_shorter (tokens_of line)) in
    let tokens = tokens_few line in
    omega (arith, few, tokens)

-- ---- room at each step
pub tokens_ready : (m : ℕ) (line : List ℕ) (ts : List Token) (t : Taken) → ts ≡ tokens_of line → IsReady m (length line) t → IsReady m (length ts) t
tokens_ready m line ts t e r = fewer m (length line) (length ts) t (omega (arith, tokens_few line, ap (λ (l : List Token). length l) e)) r

pub section_ready : (m : ℕ) (ts : List Token) (s : Section) (rest : List Token) (t : Taken) → Some (s, rest) ≡ opening_of ts → IsReady m (length ts) t → IsReady m 1 t
section_ready m ts s rest t e r = fewer m (length ts) 1 t (omega (arith, opened_shorter ts s rest e)) r

pub after_section : (m : ℕ) (ts : List Token) (s : Section) (rest : List Token) (fits : Bool) (t u : Taken) → Some (s, rest) ≡ opening_of ts → fits ≡ true → IsReady m (length ts) t → Leaves u fits (with_section t s) → IsReady m (length rest) u
after_section m ts s rest false t u e g r leaves = absurd (cc g)
after_section m ts s rest true t u e g r leaves = item_ready m (length rest) t (Opens s) (Some u) u (fewer m (length ts) (suc (length rest)) t (opened_shorter ts s rest e) r) leaves refl

pub before_token : (m : ℕ) (t : Taken) (token : Token) (left rest : List Token) → left ≡ token ∷ rest → IsReady m (length left) t → IsReady m 1 t
before_token m t token left rest e r = fewer m (length left) 1 t (omega (arith, ap (λ (l : List Token). length l) e)) r

pub after_token : (m : ℕ) (t u : Taken) (token : Token) (l fits : Bool) (left rest : List Token) → left ≡ token ∷ rest → fits ≡ true → IsReady m (length left) t → Leaves u fits (with_token t t.stage token l) → IsReady m (length rest) u
after_token m t u token l false left rest e g r leaves = absurd (cc g)
after_token m t u token l true left rest e g r leaves =
    item_ready m (length rest) t (Has token l) (Some u) u (fewer m (length left) (suc (length rest)) t (omega (arith, ap (λ (x : List Token). length x) e)) r) leaves refl

pub before_line : (m : ℕ) (t : Taken) (line : List ℕ) (all rest : List (List ℕ)) → all ≡ line ∷ rest → IsReady m (bytes_in all) t → IsReady m (length line) t
before_line m t line all rest e r = fewer m (bytes_in all) (length line) t (omega (arith, ap bytes_in e)) r

after_line : (m : ℕ) (t u : Taken) (line behind : List ℕ) (all rest : List (List ℕ)) → all ≡ line ∷ rest → IsReady m (bytes_in all) t → with_line t (line_before line behind) ≡ Ok u → IsReady m (bytes_in rest) u
after_line m t u line behind all rest e r step =
    let few = items_few line (colon_next (map tokens_of (lines_of behind))) in
    line_ready m (bytes_in rest) t u (line_before line behind)
    (fewer m (bytes_in all) (length (line_before line behind).items + bytes_in rest) t (omega (arith, few, ap bytes_in e)) r) step

pub after_taken : (m : ℕ) (t u : Taken) (line behind : List ℕ) (all rest : List (List ℕ)) (noted : Option LpCause) → noted ≡ None → all ≡ line ∷ rest → IsReady m (bytes_in all) t → LineLeaves u noted (with_line t (line_before line behind))
    → IsReady m (bytes_in rest) u
after_taken m t u line behind all rest None n e r leaves = after_line m t u line behind all rest e r leaves
after_taken m t u line behind all rest (Some c) n e r leaves = absurd (cc n)

pub text_ready : (text : List ℕ) (t : Taken) → t ≡ nothing_taken → length text < 2 ^ 32 - 1 → IsReady most_items (bytes_in (lines_of text)) t
text_ready text t e short =
    subst (λ (x : Taken). IsReady most_items (bytes_in (lines_of text)) x) (sym e)
    (fewer most_items most_items (bytes_in (lines_of text)) nothing_taken (omega (arith, text_bytes text, short)) (start_ready most_items))

-- ---- numbers
below_wider : (n m : ℕ) (ts : List (ℕ × Fraction)) → n ≤ m → ids_below n ts ≡ true → ids_below m ts ≡ true
below_wider n m [] le h = refl
below_wider n m (t ∷ ts) le h = let parts = both (nat_lt t.0 n) (ids_below n ts) h in and_true (nat_lt t.0 m) (ids_below m ts) (more t.0 n m parts.0 le) (below_wider n m ts le parts.1)
  where
    more : (x y z : ℕ) → nat_lt x y ≡ true → y ≤ z → nat_lt x z ≡ true
    more x y z p q = grind (arith, nat_tests)

pub ready_ordered : (more : ℕ) (t : Taken) → IsReady most_items more t → AreOrdered (2 ^ 32) t.terms
ready_ordered more t r = record { ascend = r.kept.1.terms.ascend; below = below_wider (length t.names) (2 ^ 32) t.terms (omega (arith, r.names)) r.kept.1.terms.below }

pub ready_goal : (more : ℕ) (t : Taken) → IsReady most_items more t → ids_below (2 ^ 32) t.goal ≡ true
ready_goal more t r = below_wider (length t.names) (2 ^ 32) t.goal (omega (arith, r.names)) r.kept.1.goal.below

height_few : (r : Rel) → height_of r ≤ 2
height_few AtMost = omega arith
height_few AtLeast = omega arith
height_few Equal = omega arith

bounds_few : (k : Kind) → bounds_of k ≤ 2
bounds_few Real = omega arith
bounds_few Int = omega arith

rows_few : (rs : List RowValue) → rows_height rs ≤ 2 * length rs
rows_few [] = omega arith
rows_few (r ∷ rs) = let one = height_few r.rel in let rest = rows_few rs in omega (arith, one, rest)

cols_few : (cs : List Col) → bounds_height cs ≤ 2 * length cs
cols_few [] = omega arith
cols_few (c ∷ cs) = let one = bounds_few c.kind in let rest = cols_few cs in omega (arith, one, rest)

pub ready_count : (more : ℕ) (t : Taken) → IsReady most_items more t → t.count ≤ 2 ^ 40
ready_count more t r =
    let rows = rows_few t.rows in
    let cols = cols_few (map col_of t.columns) in
    let same = length-map t.columns col_of in
    omega (arith, r.kept.1.counted, r.kept.1.named, rows, cols, same, r.names, r.rows)

-- what changes neither terms nor counts
noted_terms : (b : Bool) (c : LpCause) (t : Taken) → (note_if b c t).terms ≡ t.terms
noted_terms true c t = refl
noted_terms false c t = refl

noted_count : (b : Bool) (c : LpCause) (t : Taken) → (note_if b c t).count ≡ t.count
noted_count true c t = refl
noted_count false c t = refl

pub numbered_ordered : (n : ℕ) (value : Option Fraction) (t u : Taken) → u ≡ with_number value t → AreOrdered n t.terms → AreOrdered n u.terms
numbered_ordered n value t u e k = subst (λ (ts : List (ℕ × Fraction)). AreOrdered n ts) (sym (ap (λ (x : Taken). x.terms) e ∙ noted_terms (is_out value) cause.Number t)) k

pub numbered_count : (value : Option Fraction) (t u : Taken) → u ≡ with_number value t → u.count ≡ t.count
numbered_count value t u e = ap (λ (x : Taken). x.count) e ∙ noted_count (is_out value) cause.Number t

found_count : (name : List ℕ) (t : Taken) → (column_of t name).1.count ≡ t.count
found_count name t = go (place_from 0 name t.names)
  where
    go : (o : Option ℕ) → (column_at t name o).1.count ≡ t.count
    go None = noted_count (not (nat_lt (length t.names) most_cols)) cause.Limit (record t { names = t.names ++ name ∷ []; columns = t.columns ++ new_column ∷ [] })
    go (Some id) = refl

pub column_count : (name : List ℕ) (t u v : Taken) (found : ℕ × Taken) → u ≡ with_name name t → v ≡ found.1 → found ≡ column_of u name → v.count ≡ t.count
column_count name t u v found e f g =
    ap (λ (x : Taken). x.count) f ∙ ap (λ (x : ℕ × Taken). x.1.count) g ∙ found_count name u ∙ ap (λ (x : Taken). x.count) e ∙ noted_count (not (nat_le (length name) 255)) cause.Limit t

constant_goal : (t : Taken) (p : Pending) (o : Option Fraction) (u : Taken) → with_constant t p o ≡ Some u → u.goal ≡ t.goal
constant_goal t p None u e = go p.is_open e
  where
    go : (b : Bool) → (if b then None else Some t) ≡ Some u → u.goal ≡ t.goal
    go true e = absurd (cc e)
    go false e = let same : t ≡ u = cc e in ap (λ (x : Taken). x.goal) (sym same)
constant_goal t p (Some f) u e = go (is_out t.constant) e
  where
    next : Taken
    next = record t { constant = Some f }

    go : (b : Bool) → (if b then Some next else None) ≡ Some u → u.goal ≡ t.goal
    go false e = absurd (cc e)
    go true e = let same : next ≡ u = cc e in ap (λ (x : Taken). x.goal) (sym same)

itself : (t u : Taken) → Some t ≡ Some u → u.goal ≡ t.goal
itself t u e = let same : t ≡ u = cc e in ap (λ (x : Taken). x.goal) (sym same)

closed_goal : (t : Taken) (stage : Stage) (u : Taken) → closed t stage ≡ Some u → u.goal ≡ t.goal
closed_goal t Before u e = itself t u e
closed_goal t (Goal fresh p) u e = constant_goal t p p.size u e
closed_goal t GoalLabel u e = absurd (cc e)
closed_goal t (Rows true p) u e = itself t u e
closed_goal t (Rows false p) u e = absurd (cc e)
closed_goal t RowLabel u e = absurd (cc e)
closed_goal t (Right rel sign) u e = absurd (cc e)
closed_goal t Bounds u e = itself t u e
closed_goal t (BoundOf id) u e = absurd (cc e)
closed_goal t (BoundTo id rel sign) u e = absurd (cc e)
closed_goal t (BoundSign b) u e = absurd (cc e)
closed_goal t (BoundFrom bound) u e = absurd (cc e)
closed_goal t (BoundOn bound rel) u e = absurd (cc e)
closed_goal t (BoundMore id) u e = itself t u e
closed_goal t (Names is_binary) u e = itself t u e
closed_goal t Ended u e = absurd (cc e)

pub closed_below : (more : ℕ) (t u : Taken) (fits : Bool) → fits ≡ true → Leaves u fits (closed t t.stage) → IsReady most_items more t → ids_below (2 ^ 32) u.goal ≡ true
closed_below more t u false e leaves r = absurd (cc e)
closed_below more t u true e leaves r = ap (λ (ts : List (ℕ × Fraction)). ids_below (2 ^ 32) ts) (closed_goal t t.stage u leaves) ∙ ready_goal more t r
