-- The rows in force below a block.
use Rattle.std.proofs.Common.{◌≡◌, ℕ, Bool, true, false, not, ◌&&◌, List, ◌++◌, All, if◌then◌else◌, refl, sym, ◌∙◌, subst}
use Rattle.std.proofs.lemmas.List.Elements.{All-nil, All-append}
use Rattle.gdp_tables.specs.declared.tri.Tri.{Tri}
use Rattle.gdp_tables.specs.declared.tri.Tri.TheVariants.{No, Yes, Open}
use Rattle.gdp_tables.specs.Completions.{Completes}
use Rattle.lp_frame.specs.declared.force.AtMost.{AtMost}
use Rattle.lp_frame.specs.Force.{HoldsAt}
use Rattle.point_tests.specs.Satisfied.{PointOf, rows_hold, props_hold, true_count, mode_allows, is_off, are_disjunctions_off, are_disjuncts_off, is_satisfied, are_disjunctions_satisfied, are_disjuncts_satisfied}
use Rattle.model_tree.specs.Tree.{BlockTree, block, Disjunctions, no_disjunctions, disjunction, Disjuncts, no_disjuncts, disjunct}
use Rattle.model_tree.specs.View.{rows_in}
use Rattle.model_tree.proofs.Bools.{first_holds, second_holds, and_true}
use Rattle.model_items.specs.Force.{do_rows_in_force_hold, do_rows_below_hold, do_rows_within_hold}
use Rattle.model_forces.specs.Forces.{at_most_rows, where_yes, rows_below, rows_of_disjunctions, rows_of_disjuncts}
use Rattle.model_forces.proofs.Holding.{all_left, all_right, rows_into, rows_back}

abbrev pub Holds : PointOf → AtMost → Type 0
Holds p row = HoldsAt p.over p.nums row

where_into : (p : PointOf) (t : Tri) (rows : List AtMost) → (t ≡ Yes → All (Holds p) rows) → All (Holds p) (where_yes t rows)
where_into p No rows h = All-nil (Holds p)
where_into p Yes rows h = h refl
where_into p Open rows h = All-nil (Holds p)

pub own_rows : (b : BlockTree) (p : PointOf) → is_satisfied b p ≡ true → All (Holds p) (at_most_rows (rows_in b))
own_rows (block items ds) p h = rows_into items.rows p (first_holds (rows_hold items.rows p) (props_hold items.props p.truths && are_disjunctions_satisfied ds p) h)

-- a false indicator is not known to be true
not_yes : (truth : Bool) (t : Tri) → Completes truth t → truth ≡ false → t ≡ Yes → ⊥
not_yes truth No c f e = cc
not_yes truth Yes c f e = let x : true ≡ false = sym c ∙ f in cc
not_yes truth Open c f e = cc

true_of_not : (b : Bool) → not b ≡ true → b ≡ false
true_of_not true h = sym h
true_of_not false h = refl

mutual
  off_into : (b : BlockTree) (p : PointOf) (t : ℕ → Tri) → ((k : ℕ) → Completes (p.truths k) (t k)) → is_off b p.truths ≡ true → All (Holds p) (rows_below b t)
  off_into (block items ds) p t c h = offs_into ds p t c h

  offs_into : (ds : Disjunctions) (p : PointOf) (t : ℕ → Tri) → ((k : ℕ) → Completes (p.truths k) (t k)) → are_disjunctions_off ds p.truths ≡ true → All (Holds p) (rows_of_disjunctions ds t)
  offs_into no_disjunctions p t c h = All-nil (Holds p)
  offs_into (disjunction head js ds) p t c h =
      All-append (Holds p) (rows_of_disjuncts js t) (rows_of_disjunctions ds t)
      (within_off js p t c (first_holds (are_disjuncts_off js p.truths) (are_disjunctions_off ds p.truths) h))
      (offs_into ds p t c (second_holds (are_disjuncts_off js p.truths) (are_disjunctions_off ds p.truths) h))

  within_off : (js : Disjuncts) (p : PointOf) (t : ℕ → Tri) → ((k : ℕ) → Completes (p.truths k) (t k)) → are_disjuncts_off js p.truths ≡ true → All (Holds p) (rows_of_disjuncts js t)
  within_off no_disjuncts p t c h = All-nil (Holds p)
  within_off (disjunct head b js) p t c h =
      let here = not (p.truths head.indicator) in
      let inside = is_off b p.truths in
      let two = first_holds (here && inside) (are_disjuncts_off js p.truths) h in
      let no = true_of_not (p.truths head.indicator) (first_holds here inside two) in
      let rows = at_most_rows (rows_in b) in
      All-append (Holds p) (where_yes (t head.indicator) rows) (rows_below b t ++ rows_of_disjuncts js t)
      (where_into p (t head.indicator) rows (λ e. absurd (not_yes (p.truths head.indicator) (t head.indicator) (c head.indicator) no e)))
      (All-append (Holds p) (rows_below b t) (rows_of_disjuncts js t) (off_into b p t c (second_holds here inside two))
      (within_off js p t c (second_holds (here && inside) (are_disjuncts_off js p.truths) h)))

-- a disjunct's own rows and those below it, by its indicator
part_into : (b : BlockTree) (p : PointOf) (t : ℕ → Tri) → (is_satisfied b p ≡ true → All (Holds p) (rows_below b t)) → (is_off b p.truths ≡ true → All (Holds p) (rows_below b t)) → (truth : Bool) (tri : Tri)
    → Completes truth tri → (if truth then is_satisfied b p else is_off b p.truths) ≡ true → All (Holds p) (where_yes tri (at_most_rows (rows_in b))) × All (Holds p) (rows_below b t)
part_into b p t f g true tri d h = (where_into p tri (at_most_rows (rows_in b)) (λ y. own_rows b p h), f h)
part_into b p t f g false tri d h = (where_into p tri (at_most_rows (rows_in b)) (λ y. absurd (not_yes false tri d refl y)), g h)

mutual
  pub on_into : (b : BlockTree) (p : PointOf) (t : ℕ → Tri) → ((k : ℕ) → Completes (p.truths k) (t k)) → is_satisfied b p ≡ true → All (Holds p) (rows_below b t)
  on_into (block items ds) p t c h =
      let props = props_hold items.props p.truths in
      ons_into ds p t c (second_holds props (are_disjunctions_satisfied ds p) (second_holds (rows_hold items.rows p) (props && are_disjunctions_satisfied ds p) h))

  ons_into : (ds : Disjunctions) (p : PointOf) (t : ℕ → Tri) → ((k : ℕ) → Completes (p.truths k) (t k)) → are_disjunctions_satisfied ds p ≡ true → All (Holds p) (rows_of_disjunctions ds t)
  ons_into no_disjunctions p t c h = All-nil (Holds p)
  ons_into (disjunction head js ds) p t c h =
      let mode = mode_allows head.mode (true_count js p.truths) in
      let inside = are_disjuncts_satisfied js p in
      let later = are_disjunctions_satisfied ds p in
      All-append (Holds p) (rows_of_disjuncts js t) (rows_of_disjunctions ds t)
      (within_into js p t c (second_holds mode inside (first_holds (mode && inside) later h)))
      (ons_into ds p t c (second_holds (mode && inside) later h))

  within_into : (js : Disjuncts) (p : PointOf) (t : ℕ → Tri) → ((k : ℕ) → Completes (p.truths k) (t k)) → are_disjuncts_satisfied js p ≡ true → All (Holds p) (rows_of_disjuncts js t)
  within_into no_disjuncts p t c h = All-nil (Holds p)
  within_into (disjunct head b js) p t c h =
      let inside = if p.truths head.indicator then is_satisfied b p else is_off b p.truths in
      let rows = at_most_rows (rows_in b) in
      let both = part_into b p t (λ s. on_into b p t c s) (λ s. off_into b p t c s) (p.truths head.indicator) (t head.indicator) (c head.indicator) (first_holds inside (are_disjuncts_satisfied js p) h) in
      All-append (Holds p) (where_yes (t head.indicator) rows) (rows_below b t ++ rows_of_disjuncts js t) both.0
      (All-append (Holds p) (rows_below b t) (rows_of_disjuncts js t) both.1
      (within_into js p t c (second_holds inside (are_disjuncts_satisfied js p) h)))

-- back, where each true Boolean is known to be true
where_back : (p : PointOf) (t : Tri) (rows : List AtMost) → t ≡ Yes → All (Holds p) (where_yes t rows) → All (Holds p) rows
where_back p t rows e h = subst (λ s. All (Holds p) (where_yes s rows)) e h

if_true : (b c : Bool) → (b ≡ true → c ≡ true) → (if b then c else true) ≡ true
if_true true c f = f refl
if_true false c f = refl

mutual
  pub on_back : (b : BlockTree) (p : PointOf) (t : ℕ → Tri) → ((k : ℕ) → p.truths k ≡ true → t k ≡ Yes) → All (Holds p) (at_most_rows (rows_in b)) → All (Holds p) (rows_below b t) → do_rows_in_force_hold b p ≡ true
  on_back (block items ds) p t d own h = and_true (rows_hold items.rows p) (do_rows_below_hold ds p) (rows_back items.rows p own) (ons_back ds p t d h)

  ons_back : (ds : Disjunctions) (p : PointOf) (t : ℕ → Tri) → ((k : ℕ) → p.truths k ≡ true → t k ≡ Yes) → All (Holds p) (rows_of_disjunctions ds t) → do_rows_below_hold ds p ≡ true
  ons_back no_disjunctions p t d h = refl
  ons_back (disjunction head js ds) p t d h =
      and_true (do_rows_within_hold js p) (do_rows_below_hold ds p)
      (within_back js p t d (all_left (Holds p) (rows_of_disjuncts js t) (rows_of_disjunctions ds t) h))
      (ons_back ds p t d (all_right (Holds p) (rows_of_disjuncts js t) (rows_of_disjunctions ds t) h))

  within_back : (js : Disjuncts) (p : PointOf) (t : ℕ → Tri) → ((k : ℕ) → p.truths k ≡ true → t k ≡ Yes) → All (Holds p) (rows_of_disjuncts js t) → do_rows_within_hold js p ≡ true
  within_back no_disjuncts p t d h = refl
  within_back (disjunct head b js) p t d h =
      let rows = at_most_rows (rows_in b) in
      let here = where_yes (t head.indicator) rows in
      let rest = all_right (Holds p) here (rows_below b t ++ rows_of_disjuncts js t) h in
      let inner = all_left (Holds p) (rows_below b t) (rows_of_disjuncts js t) rest in
      and_true (if p.truths head.indicator then do_rows_in_force_hold b p else true) (do_rows_within_hold js p)
      (if_true (p.truths head.indicator) (do_rows_in_force_hold b p)
      (λ e. on_back b p t d (where_back p (t head.indicator) rows (d head.indicator e) (all_left (Holds p) here (rows_below b t ++ rows_of_disjuncts js t) h)) inner))
      (within_back js p t d (all_right (Holds p) (rows_below b t) (rows_of_disjuncts js t) rest))
