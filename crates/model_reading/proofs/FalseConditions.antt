-- When the condition of an item is read as false.
use Rattle.std.proofs.Common.{◌≡◌, ℕ, Bool, true, false, ◌&&◌, ◌||◌, refl, ◌∙◌, ap, sym}
use Rattle.gdp_tables.specs.declared.tri.Tri.{Tri}
use Rattle.gdp_tables.specs.declared.tri.Tri.TheVariants.{No, Yes, Open}
use Rattle.gdp_tables.specs.Readings.{not_of, and_of, or_of}
use Rattle.propositions.specs.Reading.{tri_of, tris_of, and_all, is_yes}
use Rattle.model_tree.specs.declared.tree.Mode.{Mode}
use Rattle.model_tree.specs.Tree.{Disjuncts, no_disjuncts, disjunct}
use Rattle.model_items.specs.Items.{selection, each_implies}
use Rattle.model_forces.specs.Paths.{is_no}
use Rattle.model_reading.specs.Passing.{has_yes}

-- an implication is false where what it is from is true and what it leads to is false
pub implied_false : (a b : Tri) → is_no (or_of (not_of a) b) ≡ (is_yes a && is_no b)
implied_false No No = refl
implied_false No Yes = refl
implied_false No Open = refl
implied_false Yes No = refl
implied_false Yes Yes = refl
implied_false Yes Open = refl
implied_false Open No = refl
implied_false Open Yes = refl
implied_false Open Open = refl

and_false : (a b : Tri) → is_no (and_of a b) ≡ (is_no a || is_no b)
and_false No No = refl
and_false No Yes = refl
and_false No Open = refl
and_false Yes No = refl
and_false Yes Yes = refl
and_false Yes Open = refl
and_false Open No = refl
and_false Open Yes = refl
and_false Open Open = refl

or_nothing : (b : Bool) → (b || false) ≡ b
or_nothing true = refl
or_nothing false = refl

and_nothing : (b : Bool) → (b && false) ≡ false
and_nothing true = refl
and_nothing false = refl

and_yes : (b : Bool) → (b && true) ≡ b
and_yes true = refl
and_yes false = refl

-- that each of some indicators implies another is false just where one is true and the other is false
implies_false : (y : ℕ) (js : Disjuncts) (t : ℕ → Tri) → is_no (and_all (tris_of (each_implies y js) t)) ≡ (has_yes js t && is_no (t y))
implies_false y no_disjuncts t = refl
implies_false y (disjunct head b js) t =
    and_false (or_of (not_of (t head.indicator)) (t y)) (and_all (tris_of (each_implies y js) t))
    ∙ ap (λ a. a || is_no (and_all (tris_of (each_implies y js) t))) (implied_false (t head.indicator) (t y))
    ∙ ap (λ a. (is_yes (t head.indicator) && is_no (t y)) || a) (implies_false y js t)
    ∙ both (is_yes (t head.indicator)) (has_yes js t) (is_no (t y))
  where
    both : (a b c : Bool) → ((a && c) || (b && c)) ≡ ((a || b) && c)
    both true true true = refl
    both true true false = refl
    both true false true = refl
    both true false false = refl
    both false true true = refl
    both false true false = refl
    both false false true = refl
    both false false false = refl

-- the condition of a disjunction in the block of an indicator
choice_false : (y : ℕ) (mode : Mode) (js : Disjuncts) (t : ℕ → Tri)
    → is_no (and_of (or_of (not_of (t y)) (tri_of (selection mode js) t)) (and_all (tris_of (each_implies y js) t)))
    ≡ ((is_yes (t y) && is_no (tri_of (selection mode js) t)) || (has_yes js t && is_no (t y)))
choice_false y mode js t =
    and_false (or_of (not_of (t y)) (tri_of (selection mode js) t)) (and_all (tris_of (each_implies y js) t))
    ∙ ap (λ a. a || is_no (and_all (tris_of (each_implies y js) t))) (implied_false (t y) (tri_of (selection mode js) t))
    ∙ ap (λ a. (is_yes (t y) && is_no (tri_of (selection mode js) t)) || a) (implies_false y js t)

pub where_yes : (y : ℕ) (mode : Mode) (js : Disjuncts) (t : ℕ → Tri) → Yes ≡ t y → is_no (tri_of (selection mode js) t)
    ≡ is_no (and_of (or_of (not_of (t y)) (tri_of (selection mode js) t)) (and_all (tris_of (each_implies y js) t)))
where_yes y mode js t e =
    sym (choice_false y mode js t ∙ ap (λ v. (is_yes v && is_no (tri_of (selection mode js) t)) || (has_yes js t && is_no v)) (sym e)
    ∙ ap (λ a. is_no (tri_of (selection mode js) t) || a) (and_nothing (has_yes js t)) ∙ or_nothing (is_no (tri_of (selection mode js) t)))

pub where_no : (y : ℕ) (mode : Mode) (js : Disjuncts) (t : ℕ → Tri) → No ≡ t y → has_yes js t
    ≡ is_no (and_of (or_of (not_of (t y)) (tri_of (selection mode js) t)) (and_all (tris_of (each_implies y js) t)))
where_no y mode js t e =
    sym (choice_false y mode js t ∙ ap (λ v. (is_yes v && is_no (tri_of (selection mode js) t)) || (has_yes js t && is_no v)) (sym e) ∙ and_yes (has_yes js t))

pub where_open : (y : ℕ) (mode : Mode) (js : Disjuncts) (t : ℕ → Tri) → Open ≡ t y → false
    ≡ is_no (and_of (or_of (not_of (t y)) (tri_of (selection mode js) t)) (and_all (tris_of (each_implies y js) t)))
where_open y mode js t e =
    sym (choice_false y mode js t ∙ ap (λ v. (is_yes v && is_no (tri_of (selection mode js) t)) || (has_yes js t && is_no v)) (sym e) ∙ and_nothing (has_yes js t))

pub ruleset falsity = (implied_false)
