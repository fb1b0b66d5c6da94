-- A builder takes the goal.
use Rattle.std.proofs.Common.{◌≡◌, ℕ, zero, suc, ◌+◌, ◌*◌, ◌%◌, ◌^◌, ◌<◌, ◌≤◌, ℤ, pos, Bool, true, false, not, ◌||◌, List, [], ◌∷◌, ◌++◌, length, Option, None, Some, Result, Ok, nat_le, nat_lt, nat_eq, refl, ap, sym, ◌∙◌, subst, arith, append_assoc}
use Rattle.std.specs.Prelude.{is_ok, is_some, unsigned_abs}
use Rattle.std.proofs.lemmas.Bool.Decides.{nat_tests}
use Rattle.std.proofs.lemmas.List.{map-append}
use Rattle.fractions.specs.Fraction.{Fraction}
use Rattle.outcomes.specs.Calls.{refuse_if, unless}
use Rattle.lp_rows.specs.declared.kinds.Rel.TheVariants.{AtMost}
use Rattle.lp_rows.specs.declared.kinds.Sense.TheVariants.{Max}
use Rattle.lp_rows.specs.Holding.{ids_below}
use Rattle.lp_rows.specs.Rows.{ascends_from, has_zero, are_storable, is_storable, row_refusal}
use Rattle.model_builder.specs.Building.{BuildingValue, is_at_root}
use Rattle.model_builder.specs.Nesting.{goal_outcome, refusal_of_goal}
use Rattle.model_tree.specs.Scaling.{refusal_of_terms, refusal_of_scale, stored_goal}
use Rattle.model_tree.specs.Values.{GoalValue}
use Rattle.model_tree.specs.declared.errors.BuildError.{BuildError}
use Rattle.model_tree.specs.declared.errors.BuildError.TheVariants.{Place}
use Rattle.gdp_grammar.specs.Canonical.{terms_over}
use Rattle.gdp_grammar.specs.Lowest.{over}
use Rattle.gdp_grammar.proofs.FormsGiven.{row_whole, terms_pass}
use Rattle.gdp_grammar.proofs.Scales.{scale_again, scaled_again, stored_again}
use Rattle.text_grammar.proofs.Bools.{both, and_true}
use Rattle.model_maker.specs.Draws.{next, after, draw, quotient}
use Rattle.model_maker.specs.Generated.{whole, goal_terms, goal_of}
use Rattle.model_maker.specs.Steps.{IsAccepted, as_fractions, CanAim}
use Rattle.model_maker.proofs.Pairs.{one_on}
use Rattle.model_maker.proofs.Whole.{over_one, fractions_over}

-- terms that ascend, are stored, are not 0 and stand below a number, with one more
record IsFit (k : ℕ) (ts : List (ℕ × ℤ)) : Type 0 where
  ascends : ascends_from 0 ts ≡ true
  below : ids_below k ts ≡ true
  nonzero : has_zero ts ≡ false
  storable : are_storable ts ≡ true

ascends_pushed : (least k : ℕ) (ts : List (ℕ × ℤ)) (t : ℕ × ℤ) → ascends_from least ts ≡ true → ids_below k ts ≡ true → least ≤ t.0 → k ≤ t.0 → ascends_from least (ts ++ t ∷ []) ≡ true
ascends_pushed least k [] t a i p q = let e : nat_le least t.0 ≡ true = grind (arith, nat_tests, p) in rw e refl
ascends_pushed least k (u ∷ us) t a i p q =
    let x = both (nat_le least u.0) (ascends_from (suc u.0) us) a in
    let y = both (nat_lt u.0 k) (ids_below k us) i in
    and_true (nat_le least u.0) (ascends_from (suc u.0) (us ++ t ∷ [])) x.0 (ascends_pushed (suc u.0) k us t x.1 y.1 (under u.0 k t.0 y.0 q) q)
  where
    under : (a k b : ℕ) → nat_lt a k ≡ true → k ≤ b → suc a ≤ b
    under a k b h le = grind (arith, nat_tests)

below_pushed : (k m : ℕ) (ts : List (ℕ × ℤ)) (t : ℕ × ℤ) → k ≤ m → t.0 < m → ids_below k ts ≡ true → ids_below m (ts ++ t ∷ []) ≡ true
below_pushed k m [] t le lt i = let e : nat_lt t.0 m ≡ true = grind (arith, nat_tests, lt) in rw e refl
below_pushed k m (u ∷ us) t le lt i =
    let y = both (nat_lt u.0 k) (ids_below k us) i in
    and_true (nat_lt u.0 m) (ids_below m (us ++ t ∷ [])) (further u.0 k m y.0 le) (below_pushed k m us t le lt y.1)
  where
    further : (a k m : ℕ) → nat_lt a k ≡ true → k ≤ m → nat_lt a m ≡ true
    further a k m h le = grind (arith, nat_tests)

storable_pushed : (ts : List (ℕ × ℤ)) (t : ℕ × ℤ) → are_storable ts ≡ true → is_storable t.1 ≡ true → are_storable (ts ++ t ∷ []) ≡ true
storable_pushed [] t s p = rw p refl
storable_pushed (u ∷ us) t s p =
    let y = both (is_storable u.1) (are_storable us) s in and_true (is_storable u.1) (are_storable (us ++ t ∷ [])) y.0 (storable_pushed us t y.1 p)

nonzero_pushed : (ts : List (ℕ × ℤ)) (t : ℕ × ℤ) → has_zero ts ≡ false → nat_eq (unsigned_abs t.1) 0 ≡ false → has_zero (ts ++ t ∷ []) ≡ false
nonzero_pushed [] t z p = rw p refl
nonzero_pushed (u ∷ us) t z p = rest (nat_eq (unsigned_abs u.1) 0) z (λ h. nonzero_pushed us t h p)
  where
    rest : (a : Bool) → (a || has_zero us) ≡ false → (has_zero us ≡ false → has_zero (us ++ t ∷ []) ≡ false) → (a || has_zero (us ++ t ∷ [])) ≡ false
    rest true h f = absurd (cc h)
    rest false h f = f h

pushed : (k id n : ℕ) (ts : List (ℕ × ℤ)) → k ≤ id → 1 ≤ n → n ≤ 100 → IsFit k ts → IsFit (id + 1) (ts ++ (id, pos n) ∷ [])
pushed k id n ts le some small f = record {
  ascends = ascends_pushed 0 k ts (id, pos n) f.ascends f.below (omega arith) le;
  below = below_pushed k (id + 1) ts (id, pos n) (omega (arith, le)) (omega arith) f.below;
  nonzero = nonzero_pushed ts (id, pos n) f.nonzero (positive n some);
  storable = storable_pushed ts (id, pos n) f.storable (fits n small);
}
  where
    positive : (n : ℕ) → 1 ≤ n → nat_eq n 0 ≡ false
    positive n h = grind (arith, nat_tests)

    fits : (n : ℕ) → n ≤ 100 → nat_le n (10 ^ 15) ≡ true
    fits n h = grind (arith, nat_tests)

drawn_small : (s : ℕ) → 1 + draw s 5 ≤ 100
drawn_small s = let lt : quotient s % 5 < 5 = omega arith in omega (arith, lt)

goal_fit : (s n : ℕ) → IsFit (2 * n) (goal_terms s n)
goal_fit s zero = record { ascends = refl; below = refl; nonzero = refl; storable = refl }
goal_fit s (suc i) =
    let p : ℕ = 1 + draw (after s (2 * i)) 5 in
    let q : ℕ = 1 + draw (after s (2 * i + 1)) 5 in
    let one = pushed (2 * i) (2 * i) p (goal_terms s i) (omega arith) (omega arith) (drawn_small (after s (2 * i))) (goal_fit s i) in
    let two = pushed (2 * i + 1) (2 * i + 1) q (goal_terms s i ++ (2 * i, pos p) ∷ []) (omega arith) (omega arith) (drawn_small (after s (2 * i + 1))) one in
    let joined = append_assoc (goal_terms s i) ((2 * i, pos p) ∷ []) ((2 * i + 1, pos q) ∷ []) in
    let count : 2 * i + 1 + 1 ≡ 2 * suc i = omega arith in
    subst (λ (k : ℕ). IsFit k (goal_terms s (suc i))) count (subst (IsFit (2 * i + 1 + 1)) joined two)

goal_stored : (s n : ℕ) → row_refusal (goal_terms s n) (pos 0) ≡ None
goal_stored s n = let f = goal_fit s n in rw (f.ascends, f.nonzero, f.storable) refl

-- the goal is set
abbrev aimed : BuildingValue → GoalValue → BuildingValue
aimed b g = record b { goal = Some g }

goal_over : (b : BuildingValue) (s n : ℕ) → CanAim n b
    → goal_outcome Max (terms_over (pos 1) (goal_terms s n)) (over (pos 1) (pos 0)) (2 * n + 2) b ≡ (Ok tt, aimed b (goal_of s n))
goal_over b s n can =
    let gs : List (ℕ × ℤ) = goal_terms s n in
    let ts : List (ℕ × Fraction) = terms_over (pos 1) gs in
    let w = row_whole (record { terms = gs; rel = AtMost; right = pos 0 }) (goal_stored s n) in
    let ids : ids_below (length b.vars) gs ≡ true = ap (λ (k : ℕ). ids_below k gs) can.vars ∙ (goal_fit s n).below in
    let below : Option BuildError = refusal_of_scale ts (over (pos 1) (pos 0)) in
    let scale : below ≡ None = rw (scale_again 1 gs (pos 0) w.some w.least) refl in
    let root : is_at_root b ≡ true = rw (can.opened, can.root) refl in
    let refusal : refusal_of_goal ts (over (pos 1) (pos 0)) b ≡ None =
    ap (λ (t : Bool). refuse_if (not t || is_some b.goal) Place (refusal_of_terms (ids_below (length b.vars) ts) ts (over (pos 1) (pos 0)) below)) root
    ∙ ap (λ (o : Option GoalValue). refuse_if (is_some o) Place (refusal_of_terms (ids_below (length b.vars) ts) ts (over (pos 1) (pos 0)) below)) can.goal
    ∙ terms_pass (length b.vars) 1 gs (pos 0) below w ids ∙ scale in
    let stored : stored_goal Max ts (over (pos 1) (pos 0)) (2 * n + 2) ≡ goal_of s n =
    rw (scale_again 1 gs (pos 0) w.some w.least, stored_again 1 gs w.some w.ascends, scaled_again 1 (pos 0) w.some) refl in
    ap (λ (x : Option BuildError). unless x b tt (aimed b (stored_goal Max ts (over (pos 1) (pos 0)) (2 * n + 2)))) refusal
    ∙ ap (λ (g : GoalValue). (Ok tt, aimed b g)) stored

pub goal_taken : (b : BuildingValue) (s n : ℕ) (ts : List (ℕ × Fraction)) → CanAim n b → ts ≡ as_fractions (goal_terms s n)
    → goal_outcome Max ts (whole 0) (2 * n + 2) b ≡ (Ok tt, aimed b (goal_of s n))
goal_taken b s n ts can e =
    subst (λ (us : List (ℕ × Fraction)). goal_outcome Max us (whole 0) (2 * n + 2) b ≡ (Ok tt, aimed b (goal_of s n))) (sym (e ∙ fractions_over (goal_terms s n)))
    (subst (λ (f : Fraction). goal_outcome Max (terms_over (pos 1) (goal_terms s n)) f (2 * n + 2) b ≡ (Ok tt, aimed b (goal_of s n))) (over_one (pos 0)) (goal_over b s n can))

pub goal_accepted : (b : BuildingValue) (s n : ℕ) (ts : List (ℕ × Fraction)) → CanAim n b → ts ≡ as_fractions (goal_terms s n) → IsAccepted (goal_outcome Max ts (whole 0) (2 * n + 2) b)
goal_accepted b s n ts can e = ap (λ (o : Result (Unit {0}) BuildError × BuildingValue). is_ok o.0) (goal_taken b s n ts can e)

pub goal_added : (b : BuildingValue) (s n : ℕ) (ts : List (ℕ × Fraction)) → CanAim n b → ts ≡ as_fractions (goal_terms s n)
    → (goal_outcome Max ts (whole 0) (2 * n + 2) b).1 ≡ aimed b (goal_of s n)
goal_added b s n ts can e = ap (λ (o : Result (Unit {0}) BuildError × BuildingValue). o.1) (goal_taken b s n ts can e)

-- two more terms
pub terms_added : (s i p q : ℕ) (before one two : List (ℕ × Fraction)) → before ≡ as_fractions (goal_terms s i) → one ≡ before ++ (2 * i, whole p) ∷ [] → two ≡ one ++ (2 * i + 1, whole q) ∷ []
    → p ≡ 1 + draw (after s (2 * i)) 5 → q ≡ 1 + draw (next (after s (2 * i))) 5 → two ≡ as_fractions (goal_terms s (i + 1))
terms_added s i p q before one two start first second p_drawn q_drawn =
    let more : as_fractions (goal_terms s (suc i)) ≡ as_fractions (goal_terms s i) ++ (2 * i, whole (1 + draw (after s (2 * i)) 5)) ∷ (2 * i + 1, whole (1 + draw (after s (2 * i + 1)) 5)) ∷ [] =
    map-append (λ (t : ℕ × ℤ). (t.0, record { num = t.1; den = pos 1 })) (goal_terms s i) _ in
    let at : 1 + draw (after s (2 * i + 1)) 5 ≡ q = ap (λ (x : ℕ). 1 + draw x 5) (one_on s i) ∙ sym q_drawn in
    let next_i : suc i ≡ i + 1 = omega arith in
    second ∙ ap (λ (l : List (ℕ × Fraction)). l ++ (2 * i + 1, whole q) ∷ []) (first ∙ ap (λ (l : List (ℕ × Fraction)). l ++ (2 * i, whole p) ∷ []) start)
    ∙ append_assoc (as_fractions (goal_terms s i)) ((2 * i, whole p) ∷ []) ((2 * i + 1, whole q) ∷ [])
    ∙ ap (λ (x : ℕ). as_fractions (goal_terms s i) ++ (2 * i, whole x) ∷ (2 * i + 1, whole q) ∷ []) p_drawn
    ∙ ap (λ (x : ℕ). as_fractions (goal_terms s i) ++ (2 * i, whole (1 + draw (after s (2 * i)) 5)) ∷ (2 * i + 1, whole x) ∷ []) (sym at)
    ∙ sym more ∙ ap (λ (k : ℕ). as_fractions (goal_terms s k)) next_i
