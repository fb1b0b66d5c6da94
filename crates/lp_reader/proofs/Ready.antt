-- What is taken leaves room for the items that are left, and the program that a text spells is one.
use Rattle.std.proofs.Common.{◌≡◌, ℕ, suc, ◌+◌, ◌-◌, ◌<◌, ◌≤◌, Bool, true, false, ◌||◌, not, if◌then◌else◌, List, [], ◌∷◌, ◌++◌, length, map, Option, Some, None, Result, Ok, Err, refl, ap, sym, subst, ◌∙◌, arith}
use Rattle.std.specs.Prelude.{nat_le, nat_lt}
use Rattle.std.proofs.lemmas.Bool.Decides.{nat_tests}
use Rattle.std.proofs.lemmas.List.{length-map}
use Rattle.fractions.specs.Fraction.{Fraction}
use Rattle.lp_rows.specs.declared.kinds.Rel.{Rel}
use Rattle.lp_rows.specs.declared.kinds.Rel.TheVariants.{AtMost, AtLeast}
use Rattle.lp_rows.specs.Rows.{RowValue, is_storable}
use Rattle.text_grammar.specs.Grammars.{LeadsBy}
use Rattle.text_grammar.specs.Lines.{lines_of}
use Rattle.text_grammar.specs.Outcomes.{◌>>=◌, refused_where}
use Rattle.text_grammar.proofs.Bools.{both, and_true}
use Rattle.milps.specs.Building.{rows_height, bounds_height, width}
use Rattle.lp_grammar.specs.declared.cause.LpCause.{LpCause}
use Rattle.lp_grammar.specs.declared.cause.LpCause.TheVariants as cause
use Rattle.lp_grammar.specs.declared.stage.Column.{Column}
use Rattle.lp_grammar.specs.Items.{Item, Line, lp_lines}
use Rattle.lp_grammar.specs.Programs.{AreStored, AreStoredRows, IsMilp, most_cols, most_rows}
use Rattle.lp_grammar.specs.Reading.{and_then, is_empty, is_zero, col_of, end_row, low_row, bound_rows, may_end, milp_of, lp_of, is_within, program_after, LpValue, with_item, with_items, settled_with, settled, with_line, lp_grammar}
use Rattle.lp_grammar.specs.Taking.{Taken, nothing_taken}
use Rattle.lp_parts.specs.Stored.{IsStoredBound, AreStoredBounds}
use Rattle.lp_reader.specs.Kept.{IsKept, IsReady}
use Rattle.lp_reader.specs.Laws.{SpelledIsMilp}
use Rattle.lp_parts.proofs.KeptTerms.{none_ordered}
use Rattle.lp_reader.proofs.Kept.{IfKept, HasRoom, wider, item_kept}

-- ---- one item, items and lines
ready : (m more : ℕ) (u : Taken) → more ≤ m → IsKept (m - more) u → IsReady m more u
ready m more u le k = record {
  kept = wider (m - more) m u k (omega (arith, k.1.few_names)) (omega (arith, k.1.few_rows));
  names = omega (arith, k.1.few_names, le);
  rows = omega (arith, k.1.few_rows, le);
}

pub item_ready : (m more : ℕ) (t : Taken) (i : Item) (o : Option Taken) (u : Taken) → IsReady m (suc more) t → with_item t i ≡ o → o ≡ Some u → IsReady m more u
item_ready m more t i o u r e f =
    let room : HasRoom (m - more) t = (omega (arith, r.names), omega (arith, r.rows)) in
    let k : IsKept (m - more) t = wider m (m - more) t r.kept (omega (arith, r.names)) (omega (arith, r.rows)) in
    ready m more u (omega (arith, r.names)) (subst (λ (x : Option Taken). IfKept (m - more) x) (e ∙ f) (item_kept (m - more) t i k room))

pub fewer : (m more less : ℕ) (t : Taken) → less ≤ more → IsReady m more t → IsReady m less t
fewer m more less t le r = record { kept = r.kept; names = omega (arith, r.names, le); rows = omega (arith, r.rows, le) }

items_ready : (m more : ℕ) (is : List Item) (t u : Taken) → IsReady m (length is + more) t → with_items t is ≡ Some u → IsReady m more u
items_ready m more [] t u r e =
    let same : t ≡ u = cc e in
    subst (λ (x : Taken). IsReady m more x) same (fewer m (0 + more) more t (omega arith) r)
items_ready m more (i ∷ is) t u r e = go (with_item t i) refl e (λ next f h. items_ready m more is next u (item_ready m (length is + more) t i (Some next) next (fewer m (suc (length is) + more) (suc (length is + more)) t (omega arith) r) f refl) h)
  where
    go : (o : Option Taken) → with_item t i ≡ o → and_then o (λ next. with_items next is) ≡ Some u → ((next : Taken) → with_item t i ≡ Some next → with_items next is ≡ Some u → IsReady m more u) → IsReady m more u
    go None s e rest = absurd (cc e)
    go (Some next) s e rest = rest next s e

settled_is : (o : Option Taken) (u : Taken) → settled o ≡ Ok u → o ≡ Some u
settled_is None u e = absurd (cc e)
settled_is (Some t) u e = go t.noted e
  where
    go : (why : Option LpCause) → settled_with t why ≡ Ok u → Some t ≡ Some u
    go None e = let same : t ≡ u = cc e in ap (λ (x : Taken). Some x) same
    go (Some c) e = absurd (cc e)

pub line_ready : (m more : ℕ) (t u : Taken) (line : Line) → IsReady m (length line.items + more) t → with_line t line ≡ Ok u → IsReady m more u
unfolding with_line
line_ready m more t u line r e = go line.is_barred e
  where
    go : (b : Bool) → (if b then Err cause.Unsupported else settled (with_items t line.items)) ≡ Ok u → IsReady m more u
    go true e = absurd (cc e)
    go false e = items_ready m more line.items t u r (settled_is (with_items t line.items) u e)

-- how many items lines have
abbrev pub items_in : List Line → ℕ
items_in [] = 0
items_in (l ∷ ls) = length l.items + items_in ls

lines_ready : (m number : ℕ) (t u : Taken) (ls : List Line) → IsReady m (items_in ls) t → LeadsBy lp_grammar number t ls u → IsReady m 0 u
lines_ready m number t u [] r e = subst (λ (x : Taken). IsReady m 0 x) e r
lines_ready m number t u (l ∷ ls) r e = lines_ready m (number + 1) e.0 u ls (line_ready m (items_in ls) t e.0 l r e.1) e.2

pub start_ready : (m : ℕ) → IsReady m m nothing_taken
start_ready m = record {
  kept = (
    tt,
    record {
      few_names = omega arith;
      few_rows = omega arith;
      named = refl;
      bounds = tt;
      goal = none_ordered 0;
      terms = none_ordered 0;
      objective = record { ascend = refl; none = refl; small = refl; below = refl };
      rows = tt;
      counted = refl;
    },
  );
  names = omega arith;
  rows = omega arith;
}

-- ---- the program
is_le : (a b : ℕ) → a ≤ b → nat_le a b ≡ true
is_le a b h = grind (arith, nat_tests)

at_most : (a b : ℕ) → nat_le a b ≡ true → a ≤ b
at_most a b h = grind (arith, nat_tests)

less_test : (a b : ℕ) → a < b → nat_lt a b ≡ true
less_test a b h = grind (arith, nat_tests)

rows_both : (n : ℕ) (xs ys : List RowValue) → AreStoredRows n xs → AreStoredRows n ys → AreStoredRows n (xs ++ ys)
rows_both n [] ys k l = l
rows_both n (x ∷ xs) ys k l = (k.0, rows_both n xs ys k.1 l)

end_stored : (n id : ℕ) (rel : Rel) (bound : Option Fraction) → id < n → IsStoredBound bound → AreStoredRows n (end_row id rel bound)
end_stored n id rel None within k = tt
end_stored n id rel (Some f) within k = (
  record {
    terms = record {
      ascend = and_true (nat_le 0 id) true (is_le 0 id (omega arith)) refl;
      none = ap (λ (b : Bool). b || false) k.some;
      small = and_true (is_storable f.den) true k.den refl;
      below = and_true (nat_lt id n) true (less_test id n within) refl;
    };
    right = k.num;
  },
  tt,
)

low_stored : (n id : ℕ) (bound : Option Fraction) → id < n → IsStoredBound bound → AreStoredRows n (low_row id bound)
low_stored n id bound within k = go (is_zero bound)
  where
    go : (b : Bool) → AreStoredRows n (if b then [] else end_row id AtLeast bound)
    go true = tt
    go false = end_stored n id AtLeast bound within k

bounds_stored : (n id : ℕ) (cs : List Column) → id + length cs ≤ n → AreStoredBounds cs → AreStoredRows n (bound_rows id cs)
bounds_stored n id [] le k = tt
bounds_stored n id (c ∷ cs) le k =
    rows_both n (low_row id c.low) (end_row id AtMost c.high ++ bound_rows (suc id) cs) (low_stored n id c.low (omega (arith, le)) k.0.0)
    (rows_both n (end_row id AtMost c.high) (bound_rows (suc id) cs) (end_stored n id AtMost c.high (omega (arith, le)) k.0.1) (bounds_stored n (suc id) cs (omega (arith, le)) k.1))

some_names : (names : List (List ℕ)) → is_empty names ≡ false → 0 < length names
some_names [] e = absurd (cc e)
some_names (n ∷ ns) e = omega arith

is_milp : (m : ℕ) (t : Taken) → IsKept m t → is_empty t.names ≡ false → is_within (milp_of t) ≡ true → IsMilp (milp_of t)
is_milp m t k e w =
    let same : length t.names ≡ length (map col_of t.columns) = k.1.named ∙ sym (length-map t.columns col_of) in
    let parts = both (nat_le (width (map col_of t.columns)) most_cols) (nat_le (rows_height (t.rows ++ bound_rows 0 t.columns) + bounds_height (map col_of t.columns)) most_rows) w in
    record {
      some = subst (λ (n : ℕ). 0 < n) same (some_names t.names e);
      rows = subst (λ (n : ℕ). AreStoredRows n (t.rows ++ bound_rows 0 t.columns)) same
          (rows_both (length t.names) t.rows (bound_rows 0 t.columns) k.1.rows (bounds_stored (length t.names) 0 t.columns (omega (arith, k.1.named)) k.1.bounds));
      goal = subst (λ (n : ℕ). AreStored n t.objective.terms) same k.1.objective;
      cols_within = at_most (width (map col_of t.columns)) most_cols parts.0;
      rows_within = at_most (rows_height (t.rows ++ bound_rows 0 t.columns) + bounds_height (map col_of t.columns)) most_rows parts.1;
    }

ended : Bool → Bool → LpValue → Result LpValue LpCause
ended missing past p = refused_where missing cause.Form >>= (λ _. refused_where past cause.Limit >>= (λ _. Ok p))

-- what is given at the end
pub record IsGiven (t : Taken) (p : LpValue) : Type 0 where
  pub some : is_empty t.names ≡ false
  pub within : is_within (milp_of t) ≡ true
  pub same : lp_of t ≡ p

given_is : (t : Taken) (p : LpValue) → program_after t ≡ Ok p → IsGiven t p
unfolding program_after ended
given_is t p e = go (not (may_end t.stage)) (is_empty t.names) (is_within (milp_of t)) refl refl e
  where
    go : (a b w : Bool) → is_empty t.names ≡ b → is_within (milp_of t) ≡ w → ended (a || b) (not w) (lp_of t) ≡ Ok p → IsGiven t p
    go true b w f g e = absurd (cc e)
    go false true w f g e = absurd (cc e)
    go false false false f g e = absurd (cc e)
    go false false true f g e = record { some = f; within = g; same = cc e }

pub spelled_is_milp : SpelledIsMilp
spelled_is_milp text p s =
    let ls : List Line = lp_lines (lines_of text) in
    let k = (lines_ready (items_in ls) 1 nothing_taken s.taken ls (start_ready (items_in ls)) s.leads).kept in
    let g = given_is s.taken p s.gives in (
      subst (λ (q : LpValue). IsMilp q.milp) g.same (is_milp (items_in ls) s.taken k g.some g.within),
      subst (λ (q : LpValue). length q.names ≡ length q.milp.cols) g.same (k.1.named ∙ sym (length-map s.taken.columns col_of)),
    )
