-- What a builder keeps of the places of disjuncts: how deep they stand, and that their indicators are the last Booleans.
use Rattle.std.proofs.Common.{◌≡◌, ℕ, suc, ◌+◌, ◌≤◌, true, false, ◌&&◌, List, [], ◌∷◌, ◌++◌, length, Option, Some, None, refl, ap, sym, ◌∙◌, subst, arith, nat_lt, nat_le, ◌==◌, is_none, length-append, append-nil, append_assoc}
use Rattle.std.proofs.lemmas.Bool.Decides.{nat_tests}
use Rattle.model_builder.specs.Building.{OpenBlock, OpenDisjunction, BuildingValue, empty_block, is_at_root, closed_block}
use Rattle.model_tree.specs.Sound.{is_empty, is_shallow, are_disjunctions_shallow, are_disjuncts_shallow, are_last_of}
use Rattle.model_tree.specs.Earlier.{name_only_first, names_earlier, disjunctions_name_earlier, disjuncts_name_earlier}
use Rattle.model_builder.specs.Nesting.{closed_disjunct, closed_disjunction}
use Rattle.model_builder.specs.Whole.{are_around_shallow, are_around_earlier, head_within, heads_in, heads_in_opened, heads_around, IsNested}
use Rattle.model_tree.specs.Tree.{DisjunctHead, below, below_disjunctions, below_disjuncts}
use Rattle.model_tree.specs.View.{DisjunctTree, DisjunctionTree, disjuncts, disjunctions}
use Rattle.model_builder.proofs.EarlierLemmas.{earlier-pushed, within_earlier-pushed, ends_at, block_earlier}
use Rattle.model_tree.proofs.Bools.{both, and_true}

-- lists that are empty

empty_is : {A : Type 0} (xs : List A) → is_empty xs ≡ true → xs ≡ []
empty_is [] h = refl
empty_is (x ∷ xs) h = absurd (differ (sym (not_zero (length xs)) ∙ h))
  where
    not_zero : (n : ℕ) → (suc n == 0) ≡ false
    not_zero n = grind (arith, nat_tests)

    differ : false ≡ true → ⊥
    differ q = cc

none_is : {A : Type 0} (o : Option A) → is_none o ≡ true → o ≡ None
none_is None h = refl
none_is (Some x) h = cc

-- one more indicator, which is the next Boolean

last_pushed : (m : ℕ) (heads : List DisjunctHead) (head : DisjunctHead) → head.indicator ≡ m → are_last_of m heads ≡ true → are_last_of (m + 1) (heads ++ head ∷ []) ≡ true
last_pushed m [] head e h = and_true (head.indicator + 1 == m + 1) true (next head.indicator m e) refl
  where
    next : (i n : ℕ) → i ≡ n → (i + 1 == n + 1) ≡ true
    next i n q = grind (arith, nat_tests)
last_pushed m (x ∷ xs) head e h =
    let p = both (x.indicator + suc (length xs) == m) (are_last_of m xs) h in
    let l : length (xs ++ head ∷ []) ≡ length xs + 1 = length-append xs (head ∷ []) in
    and_true (x.indicator + suc (length (xs ++ head ∷ [])) == m + 1) (are_last_of (m + 1) (xs ++ head ∷ []))
    (one_more x.indicator (length xs) (length (xs ++ head ∷ [])) m l p.0) (last_pushed m xs head e p.1)
  where
    one_more : (i n k j : ℕ) → k ≡ n + 1 → (i + suc n == j) ≡ true → (i + suc k == j + 1) ≡ true
    one_more i n k j q r = grind (arith, nat_tests)

-- one more disjunction, and one more disjunct

below-pushed : (ds : List DisjunctionTree) (d : DisjunctionTree) → below_disjunctions (disjunctions (ds ++ d ∷ [])) ≡ below_disjunctions (disjunctions ds) ++ below_disjuncts d.1
below-pushed [] d = append-nil (below_disjuncts d.1)
below-pushed (x ∷ xs) d = ap (λ l. below_disjuncts x.1 ++ l) (below-pushed xs d) ∙ sym (append_assoc (below_disjuncts x.1) (below_disjunctions (disjunctions xs)) (below_disjuncts d.1))

within-pushed : (js : List DisjunctTree) (j : DisjunctTree) → below_disjuncts (disjuncts (js ++ j ∷ [])) ≡ below_disjuncts (disjuncts js) ++ (j.0 ∷ below j.1)
within-pushed [] j = ap (λ l. j.0 ∷ l) (append-nil (below j.1))
within-pushed (x ∷ xs) j =
    ap (λ l. x.0 ∷ (below x.1 ++ l)) (within-pushed xs j) ∙ ap (λ l. x.0 ∷ l) (sym (append_assoc (below x.1) (below_disjuncts (disjuncts xs)) (j.0 ∷ below j.1)))

shallow-pushed : (depth : ℕ) (ds : List DisjunctionTree) (d : DisjunctionTree) → are_disjunctions_shallow depth (disjunctions ds) ≡ true
    → are_disjuncts_shallow depth d.1 ≡ true → are_disjunctions_shallow depth (disjunctions (ds ++ d ∷ [])) ≡ true
shallow-pushed depth [] d h k = and_true (are_disjuncts_shallow depth d.1) true k refl
shallow-pushed depth (x ∷ xs) d h k =
    let p = both (are_disjuncts_shallow depth x.1) (are_disjunctions_shallow depth (disjunctions xs)) h in
    and_true (are_disjuncts_shallow depth x.1) (are_disjunctions_shallow depth (disjunctions (xs ++ d ∷ []))) p.0 (shallow-pushed depth xs d p.1 k)

within_shallow-pushed : (depth : ℕ) (js : List DisjunctTree) (j : DisjunctTree) → are_disjuncts_shallow depth (disjuncts js) ≡ true
    → nat_lt depth 8 ≡ true → is_shallow (suc depth) j.1 ≡ true → are_disjuncts_shallow depth (disjuncts (js ++ j ∷ [])) ≡ true
within_shallow-pushed depth [] j h l k =
    and_true (nat_lt depth 8 && is_shallow (suc depth) j.1) true (and_true (nat_lt depth 8) (is_shallow (suc depth) j.1) l k) refl
within_shallow-pushed depth (x ∷ xs) j h l k =
    let p = both (nat_lt depth 8 && is_shallow (suc depth) x.1) (are_disjuncts_shallow depth (disjuncts xs)) h in
    and_true (nat_lt depth 8 && is_shallow (suc depth) x.1) (are_disjuncts_shallow depth (disjuncts (xs ++ j ∷ []))) p.0 (within_shallow-pushed depth xs j p.1 l k)

-- nothing is nested in a builder that is new

pub nothing_nested : (m : ℕ) (inner : OpenBlock) → inner.closed ≡ [] → IsNested m inner None []
nothing_nested m inner e = record {
  few_around = omega arith;
  shallow = ap (λ ds. are_disjunctions_shallow 0 (disjunctions ds)) e;
  shallow_opened = refl;
  shallow_around = refl;
  indicators = ap (λ ds. are_last_of m (below_disjunctions (disjunctions ds) ++ [])) e;
  earlier = ap (λ ds. disjunctions_name_earlier (disjunctions ds)) e;
  earlier_opened = refl;
  earlier_around = refl;
}

-- a Boolean is declared before the first disjunction

boolean_at : (m : ℕ) (inner : OpenBlock) (opened : Option OpenDisjunction) (outer : List (OpenBlock × OpenDisjunction)) → inner.closed ≡ [] → opened ≡ None → outer ≡ [] → IsNested m inner opened outer
boolean_at m inner opened outer e f g = subst (λ o. IsNested m inner o outer) (sym f) (subst (λ o. IsNested m inner None o) (sym g) (nothing_nested m inner e))

pub boolean_nested : (m : ℕ) (b : BuildingValue) → is_at_root b ≡ true → is_empty b.inner.closed ≡ true → IsNested m b.inner b.opened b.outer
boolean_nested m b r c =
    let p = both (is_none b.opened) (is_empty b.outer) r in
    boolean_at m b.inner b.opened b.outer (empty_is b.inner.closed c) (none_is b.opened p.0) (empty_is b.outer p.1)

-- a disjunction is opened

pub disjunction_nested : (m : ℕ) (inner : OpenBlock) (d : OpenDisjunction) (outer : List (OpenBlock × OpenDisjunction)) → d.closed ≡ [] → IsNested m inner None outer → IsNested m inner (Some d) outer
disjunction_nested m inner d outer e n = record {
  few_around = n.few_around;
  shallow = n.shallow;
  shallow_opened = ap (λ js. are_disjuncts_shallow (length outer) (disjuncts js)) e;
  shallow_around = n.shallow_around;
  indicators = ap (λ js. are_last_of m (heads_around outer ++ (heads_in inner outer ++ below_disjuncts (disjuncts js)))) e ∙ n.indicators;
  earlier = n.earlier;
  earlier_opened = ap (λ js. disjuncts_name_earlier (disjuncts js)) e;
  earlier_around = n.earlier_around;
}

-- a disjunct is opened: its indicator is the next Boolean

pub disjunct_nested : (m mark : ℕ) (inner : OpenBlock) (d : OpenDisjunction) (outer : List (OpenBlock × OpenDisjunction)) → nat_le 8 (length outer) ≡ false
    → IsNested m inner (Some d) outer → IsNested (m + 1) (empty_block m mark) None ((inner, d) ∷ outer)
disjunct_nested m mark inner d outer few n =
    let head : DisjunctHead = record { indicator = m; mark = mark } in
    let heads = heads_around outer ++ (heads_in inner outer ++ below_disjuncts (disjuncts d.closed)) in
    record {
      few_around = at_most (length outer) few;
      shallow = refl;
      shallow_opened = refl;
      shallow_around =
          and_true (are_disjunctions_shallow (length outer) (disjunctions inner.closed) && are_disjuncts_shallow (length outer) (disjuncts d.closed)) (are_around_shallow outer)
          (and_true (are_disjunctions_shallow (length outer) (disjunctions inner.closed)) (are_disjuncts_shallow (length outer) (disjuncts d.closed)) n.shallow n.shallow_opened) n.shallow_around;
      indicators = last_pushed m heads head refl n.indicators;
      earlier = refl;
      earlier_opened = refl;
      earlier_around =
          and_true (disjunctions_name_earlier (disjunctions inner.closed)) (disjuncts_name_earlier (disjuncts d.closed) && are_around_earlier outer) n.earlier
          (and_true (disjuncts_name_earlier (disjuncts d.closed)) (are_around_earlier outer) n.earlier_opened n.earlier_around);
    }
  where
    at_most : (k : ℕ) → nat_le 8 k ≡ false → suc k ≤ 8
    at_most k h = grind (arith, nat_tests)

-- a disjunction is closed

pub closed_disjunction_nested : (m : ℕ) (inner : OpenBlock) (d : OpenDisjunction) (outer : List (OpenBlock × OpenDisjunction))
    → IsNested m inner (Some d) outer → IsNested m (record inner { closed = inner.closed ++ closed_disjunction d ∷ [] }) None outer
closed_disjunction_nested m inner d outer n =
    let head = head_within (record { indicator = inner.indicator; mark = inner.mark }) outer in
    let ds = below_disjunctions (disjunctions inner.closed) in
    let js = below_disjuncts (disjuncts d.closed) in
    let f : head ++ (below_disjunctions (disjunctions (inner.closed ++ closed_disjunction d ∷ [])) ++ []) ≡ (head ++ ds) ++ js =
    ap (λ l. head ++ l) (append-nil (below_disjunctions (disjunctions (inner.closed ++ closed_disjunction d ∷ []))) ∙ below-pushed inner.closed (closed_disjunction d)) ∙ sym (append_assoc head ds js) in
    record {
      few_around = n.few_around;
      shallow = shallow-pushed (length outer) inner.closed (closed_disjunction d) n.shallow n.shallow_opened;
      shallow_opened = refl;
      shallow_around = n.shallow_around;
      earlier = earlier-pushed inner.closed (closed_disjunction d) n.earlier n.earlier_opened;
      earlier_opened = refl;
      earlier_around = n.earlier_around;
      indicators = ap (λ l. are_last_of m (heads_around outer ++ l)) (append_assoc head (below_disjunctions (disjunctions (inner.closed ++ closed_disjunction d ∷ []))) [] ∙ f) ∙ n.indicators;
    }

-- a disjunct is closed

pub closed_disjunct_nested : (m : ℕ) (inner : OpenBlock) (o : OpenBlock × OpenDisjunction) (os : List (OpenBlock × OpenDisjunction))
    → name_only_first m inner.props ≡ true → IsNested m inner None (o ∷ os) → IsNested m o.0 (Some (record o.1 { closed = o.1.closed ++ closed_disjunct inner ∷ [] })) os
closed_disjunct_nested m inner o os named n =
    let ds = disjunctions inner.closed in
    let p = both (are_disjunctions_shallow (length os) (disjunctions o.0.closed) && are_disjuncts_shallow (length os) (disjuncts o.1.closed)) (are_around_shallow os) n.shallow_around in
    let q = both (are_disjunctions_shallow (length os) (disjunctions o.0.closed)) (are_disjuncts_shallow (length os) (disjuncts o.1.closed)) p.0 in
    let e = both (disjunctions_name_earlier (disjunctions o.0.closed)) (disjuncts_name_earlier (disjuncts o.1.closed) && are_around_earlier os) n.earlier_around in
    let k = both (disjuncts_name_earlier (disjuncts o.1.closed)) (are_around_earlier os) e.1 in
    let a = heads_around os in
    let b = heads_in o.0 os in
    let c = below_disjuncts (disjuncts o.1.closed) in
    let head : DisjunctHead = record { indicator = inner.indicator; mark = inner.mark } in
    let last = head ∷ below_disjunctions ds in
    let f : a ++ (b ++ below_disjuncts (disjuncts (o.1.closed ++ closed_disjunct inner ∷ []))) ≡ (a ++ (b ++ c)) ++ (last ++ []) =
    ap (λ l. a ++ (b ++ l)) (within-pushed o.1.closed (closed_disjunct inner))
    ∙ ap (λ l. a ++ l) (sym (append_assoc b c last)) ∙ sym (append_assoc a (b ++ c) last) ∙ ap (λ l. (a ++ (b ++ c)) ++ l) (sym (append-nil last)) in
    record {
      few_around = omega (arith, n.few_around);
      shallow = q.0;
      shallow_opened = within_shallow-pushed (length os) o.1.closed (closed_disjunct inner) q.1 (less (length os) n.few_around) n.shallow;
      shallow_around = p.1;
      indicators = ap (λ l. are_last_of m l) f ∙ n.indicators;
      earlier = e.0;
      earlier_opened = within_earlier-pushed o.1.closed (closed_disjunct inner) k.0 (block_earlier m _ inner (ends_at m inner (a ++ (b ++ c)) n.indicators) named n.earlier);
      earlier_around = k.1;
    }
  where
    less : (k : ℕ) → suc k ≤ 8 → nat_lt k 8 ≡ true
    less k h = grind (arith, nat_tests)

-- what a model keeps of it

pub root_shallow : (m : ℕ) (b : BuildingValue) → is_at_root b ≡ true → IsNested m b.inner b.opened b.outer → is_shallow 0 (closed_block b.inner) ≡ true
root_shallow m b r n =
    let p = both (is_none b.opened) (is_empty b.outer) r in
    ap (λ o. are_disjunctions_shallow (length o) (disjunctions b.inner.closed)) (sym (empty_is b.outer p.1)) ∙ n.shallow

pub root_indicators : (m : ℕ) (b : BuildingValue) → is_at_root b ≡ true → IsNested m b.inner b.opened b.outer → are_last_of m (below (closed_block b.inner)) ≡ true
root_indicators m b r n =
    let p = both (is_none b.opened) (is_empty b.outer) r in
    let ds = below_disjunctions (disjunctions b.inner.closed) in
    ap (λ l. are_last_of m l) (sym (append-nil ds))
    ∙ ap (λ o. are_last_of m (heads_around [] ++ (heads_in b.inner [] ++ heads_in_opened o))) (sym (none_is b.opened p.0))
    ∙ ap (λ o. are_last_of m (heads_around o ++ (heads_in b.inner o ++ heads_in_opened b.opened))) (sym (empty_is b.outer p.1)) ∙ n.indicators

pub root_earlier : (m : ℕ) (b : BuildingValue) → name_only_first m b.inner.props ≡ true → IsNested m b.inner b.opened b.outer → names_earlier m (closed_block b.inner) ≡ true
root_earlier m b named n = block_earlier m m b.inner refl named n.earlier
