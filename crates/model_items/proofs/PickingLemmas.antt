-- The reading at a place of lists that stand one after another.
use Rattle.std.proofs.Common.{◌≡◌, ℕ, zero, suc, ◌+◌, ◌<◌, true, ◌&&◌, List, [], ◌∷◌, ◌++◌, map, length, drop, get_or, slice_index_or, nat_lt, Option, Some, Result, Ok, Err, refl, ap, sym, ◌∙◌, arith, add-one, drop-cons}
use Rattle.std.proofs.lemmas.List.{map-append}
use Rattle.gdp_tables.specs.declared.tri.Tri.{Tri}
use Rattle.propositions.proofs.Connectives.{and_assoc, yes_and, and_yes}
use Rattle.propositions.specs.declared.tree.Prop.{Prop}
use Rattle.propositions.specs.Reading.{tri_of}
use Rattle.propositions.specs.Tree.{PropTree}
use Rattle.propositions.specs.Truth.{are_ids_below}
use Rattle.propositions.specs.View.{prop_tree}
use Rattle.model_tree.specs.declared.tree.Disjunct.{Disjunct}
use Rattle.model_tree.specs.declared.tree.Disjunction.{Disjunction}
use Rattle.model_tree.specs.Earlier.{name_only_first}
use Rattle.model_items.specs.Items.{enforced, choice, conditions_in, conditions_of_disjunctions, conditions_of_disjuncts}
use Rattle.model_items.specs.steps.Picking.{readings, reading_at, is_block_below, are_disjunctions_below, are_disjuncts_below}
use Rattle.model_tree.specs.PropLimits.{is_prop_sound, has_small_numbers, is_shallow_prop, has_fair_lists}
use Rattle.model_tree.specs.Sound.{are_rows_below, are_props_sound, is_filled, is_block_sound, are_disjunctions_sound, are_disjuncts_sound}
use Rattle.model_tree.specs.Tree.{BlockTree, block, Disjunctions, no_disjunctions, disjunction, Disjuncts, no_disjuncts, disjunct}
use Rattle.model_tree.specs.View.{DisjunctTree, DisjunctionTree, disjunction_of, disjunct_of, disjunctions_of, disjuncts_of, props_of, props_in, disjunctions_in}
use Rattle.model_tree.proofs.Bools.{first_holds, second_holds, and_true}

-- the answer where it is found, else what is found from the rest of the place on
abbrev pub or_else : Result Tri ℕ → (ℕ → Result Tri ℕ) → Result Tri ℕ
or_else (Ok t) f = Ok t
or_else (Err rest) f = f rest

pub at_append : (ts us : List Tri) (n : ℕ) → reading_at (ts ++ us) n ≡ or_else (reading_at ts n) (reading_at us)
at_append [] us n = refl
at_append (t ∷ ts) us zero = refl
at_append (t ∷ ts) us (suc n) = at_append ts us n

pub readings_append : (f : ℕ → Tri) (cs ds : List PropTree) (n : ℕ)
    → reading_at (readings f (cs ++ ds)) n ≡ or_else (reading_at (readings f cs) n) (reading_at (readings f ds))
readings_append f cs ds n = rw (map-append (λ c. tri_of c f) cs ds) (at_append (readings f cs) (readings f ds) n)

pub ruleset picked = (readings_append)

pub ruleset connected = (and_assoc, yes_and, and_yes)

-- the first and those after it
pub first_at : (t : Tri) (ts : List Tri) (n : ℕ) → n ≡ 0 → Ok t ≡ reading_at (t ∷ ts) n
first_at t ts zero h = refl
first_at t ts (suc n) h = cc

pub later_at : (t : Tri) (ts : List Tri) (n m : ℕ) → m + 1 ≡ n → reading_at ts m ≡ reading_at (t ∷ ts) n
later_at t ts zero m h = absurd (omega arith)
later_at t ts (suc n) m h = let e : m ≡ n = omega arith in ap (reading_at ts) e

-- the found one is that of the whole list
pub found : (ts us : List Tri) (n : ℕ) (t : Tri) → Ok t ≡ reading_at ts n → Ok t ≡ reading_at (ts ++ us) n
found ts us n t h = sym (rw (at_append ts us n, ← h) refl)

pub passed : (ts us : List Tri) (n m : ℕ) → Err m ≡ reading_at ts n → reading_at us m ≡ reading_at (ts ++ us) n
passed ts us n m h = sym (rw (at_append ts us n, ← h) refl)

pub props_split : (qs : List (Prop × ℕ)) (i : ℕ) (q : Prop × ℕ) (under : Option ℕ) (f : ℕ → Tri) → i < length qs → q ≡ get_or qs i q
    → readings f (map (λ q. enforced under q.0) (props_of (drop i qs)))
    ≡ tri_of (enforced under (prop_tree q.0)) f ∷ readings f (map (λ q. enforced under q.0) (props_of (drop (i + 1) qs)))
props_split qs i q under f h e = rw (add-one, drop-cons qs i q, ← e) refl

-- the readings of a disjunction's items
abbrev pub choice_readings : Option ℕ → DisjunctionTree → (ℕ → Tri) → List Tri
choice_readings under d f = readings f (choice under d.0.mode d.1 ∷ conditions_of_disjuncts d.1)

pub disjunctions_split : (ds : List Disjunction) (i : ℕ) (d : Disjunction) (under : Option ℕ) (f : ℕ → Tri) → i < length ds → d ≡ get_or ds i d
    → readings f (conditions_of_disjunctions under (disjunctions_of (drop i ds)))
    ≡ choice_readings under (disjunction_of d) f ++ readings f (conditions_of_disjunctions under (disjunctions_of (drop (i + 1) ds)))
disjunctions_split ds i d under f h e =
    rw (add-one, drop-cons ds i d, ← e)
    (map-append (λ c. tri_of c f) (choice under (disjunction_of d).0.mode (disjunction_of d).1 ∷ conditions_of_disjuncts (disjunction_of d).1) (conditions_of_disjunctions under (disjunctions_of (drop (suc i) ds))))

-- the readings of the items of a disjunct's block
abbrev pub block_readings : DisjunctTree → (ℕ → Tri) → List Tri
block_readings j f = readings f (conditions_in (Some j.0.indicator) j.1)

pub disjuncts_split : (js : List Disjunct) (i : ℕ) (j : Disjunct) (f : ℕ → Tri) → i < length js → j ≡ get_or js i j
    → readings f (conditions_of_disjuncts (disjuncts_of (drop i js)))
    ≡ block_readings (disjunct_of j) f ++ readings f (conditions_of_disjuncts (disjuncts_of (drop (i + 1) js)))
disjuncts_split js i j f h e =
    rw (add-one, drop-cons js i j, ← e)
    (map-append (λ c. tri_of c f) (conditions_in (Some (disjunct_of j).0.indicator) (disjunct_of j).1) (conditions_of_disjuncts (disjuncts_of (drop (suc i) js))))

-- a disjunction's items before those of the disjunctions after it
pub disjunction_found : (ds : List Disjunction) (i : ℕ) (d : Disjunction) (under : Option ℕ) (f : ℕ → Tri) (n : ℕ) (t : Tri) → i < length ds → d ≡ get_or ds i d
    → Ok t ≡ reading_at (choice_readings under (disjunction_of d) f) n
    → Ok t ≡ reading_at (readings f (conditions_of_disjunctions under (disjunctions_of (drop i ds)))) n
disjunction_found ds i d under f n t h e r =
    found (choice_readings under (disjunction_of d) f) (readings f (conditions_of_disjunctions under (disjunctions_of (drop (i + 1) ds)))) n t r
    ∙ ap (λ ts. reading_at ts n) (sym (disjunctions_split ds i d under f h e))

pub disjunction_passed : (ds : List Disjunction) (i : ℕ) (d : Disjunction) (under : Option ℕ) (f : ℕ → Tri) (n m : ℕ) → i < length ds → d ≡ get_or ds i d
    → Err m ≡ reading_at (choice_readings under (disjunction_of d) f) n
    → reading_at (readings f (conditions_of_disjunctions under (disjunctions_of (drop (i + 1) ds)))) m
    ≡ reading_at (readings f (conditions_of_disjunctions under (disjunctions_of (drop i ds)))) n
disjunction_passed ds i d under f n m h e r =
    passed (choice_readings under (disjunction_of d) f) (readings f (conditions_of_disjunctions under (disjunctions_of (drop (i + 1) ds)))) n m r
    ∙ ap (λ ts. reading_at ts n) (sym (disjunctions_split ds i d under f h e))

-- the items of a disjunct's block before those of the disjuncts after it
pub disjunct_found : (js : List Disjunct) (i : ℕ) (j : Disjunct) (f : ℕ → Tri) (n : ℕ) (t : Tri) → i < length js → j ≡ get_or js i j
    → Ok t ≡ reading_at (block_readings (disjunct_of j) f) n
    → Ok t ≡ reading_at (readings f (conditions_of_disjuncts (disjuncts_of (drop i js)))) n
disjunct_found js i j f n t h e r =
    found (block_readings (disjunct_of j) f) (readings f (conditions_of_disjuncts (disjuncts_of (drop (i + 1) js)))) n t r
    ∙ ap (λ ts. reading_at ts n) (sym (disjuncts_split js i j f h e))

pub disjunct_passed : (js : List Disjunct) (i : ℕ) (j : Disjunct) (f : ℕ → Tri) (n m : ℕ) → i < length js → j ≡ get_or js i j
    → Err m ≡ reading_at (block_readings (disjunct_of j) f) n
    → reading_at (readings f (conditions_of_disjuncts (disjuncts_of (drop (i + 1) js)))) m
    ≡ reading_at (readings f (conditions_of_disjuncts (disjuncts_of (drop i js)))) n
disjunct_passed js i j f n m h e r =
    passed (block_readings (disjunct_of j) f) (readings f (conditions_of_disjuncts (disjuncts_of (drop (i + 1) js)))) n m r
    ∙ ap (λ ts. reading_at ts n) (sym (disjuncts_split js i j f h e))

-- a block's propositions before its disjunctions
pub block_passed : (b : BlockTree) (under : Option ℕ) (f : ℕ → Tri) (n m : ℕ)
    → Err m ≡ reading_at (readings f (map (λ q. enforced under q.0) (props_in b))) n
    → reading_at (readings f (conditions_of_disjunctions under (disjunctions_in b))) m ≡ reading_at (readings f (conditions_in under b)) n
block_passed (block items ds) under f n m r =
    passed (readings f (map (λ q. enforced under q.0) items.props)) (readings f (conditions_of_disjunctions under ds)) n m r
    ∙ ap (λ ts. reading_at ts n) (sym (map-append (λ c. tri_of c f) (map (λ q. enforced under q.0) items.props) (conditions_of_disjunctions under ds)))

-- within the list there is a reading, that of the condition there
pub reading_within : (f : ℕ → Tri) (cs : List PropTree) (n : ℕ) (other : PropTree) → n < length cs → reading_at (readings f cs) n ≡ Ok (tri_of (slice_index_or cs n other) f)
reading_within f [] n other h = absurd (omega arith)
reading_within f (c ∷ cs) zero other h = refl
reading_within f (c ∷ cs) (suc n) other h = reading_within f cs n other (omega arith)

pub only_found : (t u : Tri) (r : Result Tri ℕ) → Ok t ≡ r → r ≡ Ok u → t ≡ u
only_found t u r h k = let e = h ∙ k in cc

pub never_passed : (m : ℕ) (t u : Tri) (r : Result Tri ℕ) → Err m ≡ r → r ≡ Ok u → t ≡ u
never_passed m t u r h k = let e = h ∙ k in cc

-- propositions that keep the limits name only Booleans that there are
props_below : (m : ℕ) (qs : List (PropTree × ℕ)) → are_props_sound m qs ≡ true → name_only_first m qs ≡ true
props_below m [] h = refl
props_below m (q ∷ qs) h =
    and_true (are_ids_below m q.0) (name_only_first m qs)
    (first_holds (are_ids_below m q.0) (has_small_numbers q.0 && (is_shallow_prop q.0 && has_fair_lists q.0)) (first_holds (is_prop_sound m q.0) (are_props_sound m qs) h))
    (props_below m qs (second_holds (is_prop_sound m q.0) (are_props_sound m qs) h))

mutual
  pub block_below : (n m : ℕ) (b : BlockTree) → is_block_sound n m b ≡ true → is_block_below m b ≡ true
  block_below n m (block items ds) h =
      let k = second_holds (are_rows_below n items.rows) (are_props_sound m items.props && are_disjunctions_sound n m ds) h in
      and_true (name_only_first m items.props) (are_disjunctions_below m ds)
      (props_below m items.props (first_holds (are_props_sound m items.props) (are_disjunctions_sound n m ds) k))
      (disjunctions_below n m ds (second_holds (are_props_sound m items.props) (are_disjunctions_sound n m ds) k))

  pub disjunctions_below : (n m : ℕ) (ds : Disjunctions) → are_disjunctions_sound n m ds ≡ true → are_disjunctions_below m ds ≡ true
  disjunctions_below n m no_disjunctions h = refl
  disjunctions_below n m (disjunction head js ds) h =
      let k = first_holds (is_filled js && are_disjuncts_sound n m js) (are_disjunctions_sound n m ds) h in
      and_true (are_disjuncts_below m js) (are_disjunctions_below m ds)
      (disjuncts_below n m js (second_holds (is_filled js) (are_disjuncts_sound n m js) k))
      (disjunctions_below n m ds (second_holds (is_filled js && are_disjuncts_sound n m js) (are_disjunctions_sound n m ds) h))

  pub disjuncts_below : (n m : ℕ) (js : Disjuncts) → are_disjuncts_sound n m js ≡ true → are_disjuncts_below m js ≡ true
  disjuncts_below n m no_disjuncts h = refl
  disjuncts_below n m (disjunct head b js) h =
      let k = first_holds (nat_lt head.indicator m && is_block_sound n m b) (are_disjuncts_sound n m js) h in
      and_true (is_block_below m b) (are_disjuncts_below m js)
      (block_below n m b (second_holds (nat_lt head.indicator m) (is_block_sound n m b) k))
      (disjuncts_below n m js (second_holds (nat_lt head.indicator m && is_block_sound n m b) (are_disjuncts_sound n m js) h))
