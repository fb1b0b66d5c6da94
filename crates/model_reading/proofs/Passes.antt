-- Items that stand one after another are passed one after another.
use Rattle.std.proofs.Common.{◌≡◌, ℕ, zero, suc, ◌+◌, ◌<◌, ◌^◌, Bool, true, false, cond, List, [], ◌∷◌, ◌++◌, map, length, drop, get_or, Option, None, Some, Result, Ok, Err, IfOk, if◌then◌else◌, refl, ap, sym, subst, ◌∙◌, arith, add-one, drop-cons}
use Rattle.std.proofs.lemmas.List.{length-append}
use Rattle.std.proofs.lemmas.Iterator.Adapters.{position_from-zero}
use Rattle.std.specs.List.{position, position_from}
use Rattle.gdp_tables.specs.declared.tri.Tri.{Tri}
use Rattle.propositions.specs.declared.tree.Prop.{Prop}
use Rattle.propositions.specs.Tree.{PropTree}
use Rattle.propositions.specs.View.{prop_tree}
use Rattle.model_tree.specs.declared.tree.Disjunct.{Disjunct}
use Rattle.model_tree.specs.declared.tree.Disjunction.{Disjunction}
use Rattle.model_tree.specs.Tree.{BlockTree, block, Disjunctions}
use Rattle.model_tree.specs.View.{DisjunctTree, DisjunctionTree, disjunction_of, disjunct_of, disjunctions_of, disjuncts_of, props_of, props_in, disjunctions_in}
use Rattle.model_items.specs.Items.{enforced, choice, conditions_in, conditions_of_disjunctions, conditions_of_disjuncts}
use Rattle.model_reading.specs.Reading.{is_false}
use Rattle.model_reading.specs.Passing.{passed}

-- what comes of the next conditions, unless one before them is false
abbrev pub and_then : Result ℕ ℕ → (ℕ → Result ℕ ℕ) → Result ℕ ℕ
and_then (Ok next) f = f next
and_then (Err item) f = Err item

then_by : (b : Bool) (k : ℕ) (r s : Result ℕ ℕ) (f : ℕ → Result ℕ ℕ) → r ≡ and_then s f → (if b then Err k else r) ≡ and_then (if b then Err k else s) f
then_by true k r s f e = refl
then_by false k r s f e = e

pub passed_append : (t : ℕ → Tri) (cs ds : List PropTree) (k : ℕ) → passed t (cs ++ ds) k ≡ and_then (passed t cs k) (passed t ds)
passed_append t [] ds k = refl
passed_append t (c ∷ cs) ds k = then_by (is_false t c) k (passed t (cs ++ ds) (k + 1)) (passed t cs (k + 1)) (passed t ds) (passed_append t cs ds (k + 1))

count_by : (b : Bool) (k n m : ℕ) (r : Result ℕ ℕ) → (r ≡ Ok n → n ≡ k + 1 + m) → (if b then Err k else r) ≡ Ok n → n ≡ k + suc m
count_by true k n m r f e = cc
count_by false k n m r f e = let g = f e in omega (arith, g)

pub passed_count : (t : ℕ → Tri) (cs : List PropTree) (k n : ℕ) → passed t cs k ≡ Ok n → n ≡ k + length cs
passed_count t [] k n e = let same : k ≡ n = cc in omega (arith, same)
passed_count t (c ∷ cs) k n e = count_by (is_false t c) k n (length cs) (passed t cs (k + 1)) (passed_count t cs (k + 1) n) e

-- the first parts pass, or stop
pub goes_on : (t : ℕ → Tri) (cs ds : List PropTree) (k n : ℕ) → Ok n ≡ passed t cs k → passed t ds n ≡ passed t (cs ++ ds) k
goes_on t cs ds k n e = sym (passed_append t cs ds k ∙ ap (λ r. and_then r (passed t ds)) (sym e))

pub stops : (t : ℕ → Tri) (cs ds : List PropTree) (k n : ℕ) → Err n ≡ passed t cs k → Err n ≡ passed t (cs ++ ds) k
stops t cs ds k n e = sym (passed_append t cs ds k ∙ ap (λ r. and_then r (passed t ds)) (sym e))

pub few_on : (t : ℕ → Tri) (cs ds : List PropTree) (k n : ℕ) → Ok n ≡ passed t cs k → k + length (cs ++ ds) < 2 ^ 32 → n + length ds < 2 ^ 32
few_on t cs ds k n e h =
    let c = passed_count t cs k n (sym e) in
    let l = length-append cs ds in
    omega (arith, c, l, h)

pub few_first : (cs ds : List PropTree) (k : ℕ) → k + length (cs ++ ds) < 2 ^ 32 → k + length cs < 2 ^ 32
few_first cs ds k h = let l = length-append cs ds in omega (arith, l, h)

-- the first of propositions, and those after it
pub props_split : (qs : List (Prop × ℕ)) (i : ℕ) (q : Prop × ℕ) (under : Option ℕ) → i < length qs → q ≡ get_or qs i q
    → map (λ q. enforced under q.0) (props_of (drop i qs)) ≡ enforced under (prop_tree q.0) ∷ map (λ q. enforced under q.0) (props_of (drop (i + 1) qs))
props_split qs i q under h e = rw (add-one, drop-cons qs i q, ← e) refl

-- a disjunction's conditions
abbrev pub choices : Option ℕ → DisjunctionTree → List PropTree
choices under d = choice under d.0.mode d.1 ∷ conditions_of_disjuncts d.1

pub disjunctions_split : (ds : List Disjunction) (i : ℕ) (d : Disjunction) (under : Option ℕ) → i < length ds → d ≡ get_or ds i d
    → conditions_of_disjunctions under (disjunctions_of (drop i ds)) ≡ choices under (disjunction_of d) ++ conditions_of_disjunctions under (disjunctions_of (drop (i + 1) ds))
disjunctions_split ds i d under h e = rw (add-one, drop-cons ds i d, ← e) refl

-- the conditions of a disjunct's block
abbrev pub within : DisjunctTree → List PropTree
within j = conditions_in (Some j.0.indicator) j.1

pub disjuncts_split : (js : List Disjunct) (i : ℕ) (j : Disjunct) → i < length js → j ≡ get_or js i j
    → conditions_of_disjuncts (disjuncts_of (drop i js)) ≡ within (disjunct_of j) ++ conditions_of_disjuncts (disjuncts_of (drop (i + 1) js))
disjuncts_split js i j h e = rw (add-one, drop-cons js i j, ← e) refl

pub block_split : (b : BlockTree) (under : Option ℕ) → conditions_in under b ≡ map (λ q. enforced under q.0) (props_in b) ++ conditions_of_disjunctions under (disjunctions_in b)
block_split (block items ds) under = refl

-- what is found
abbrev pub found_in : Result ℕ ℕ → Option ℕ
found_in (Ok next) = None
found_in (Err item) = Some item

found_by : (b : Bool) (k : ℕ) (o : Option ℕ) (r : Result ℕ ℕ) → o ≡ found_in r → cond b (Some k) o ≡ found_in (if b then Err k else r)
found_by true k o r e = refl
found_by false k o r e = e

found_from : (t : ℕ → Tri) (cs : List PropTree) (k : ℕ) → position_from (is_false t) k cs ≡ found_in (passed t cs k)
found_from t [] k = refl
found_from t (c ∷ cs) k = found_by (is_false t c) k (position_from (is_false t) (k + 1) cs) (passed t cs (k + 1)) (found_from t cs (k + 1))

pub found_is : (t : ℕ → Tri) (cs : List PropTree) → position (is_false t) cs ≡ found_in (passed t cs 0)
found_is t cs = position_from-zero (is_false t) cs ∙ found_from t cs 0

-- where none is found, none is false
none_by : {X : Type 0} (b : Bool) (x : X) (o : Option X) → cond b (Some x) o ≡ None → (b ≡ false) × (o ≡ None)
none_by true x o h = cc
none_by false x o h = (refl, h)

none_from : (test : PropTree → Bool) (cs : List PropTree) (k : ℕ) → position_from test k cs ≡ None → (i : ℕ) (other : PropTree) → i < length cs → test (get_or cs i other) ≡ false
none_from test [] k h i other l = absurd (omega arith)
none_from test (c ∷ cs) k h zero other l = (none_by (test c) k (position_from test (k + 1) cs) h).0
none_from test (c ∷ cs) k h (suc i) other l = none_from test cs (k + 1) (none_by (test c) k (position_from test (k + 1) cs) h).1 i other (omega arith)

pub none_false : (test : PropTree → Bool) (cs : List PropTree) → position test cs ≡ None → (i : ℕ) (other : PropTree) → i < length cs → test (get_or cs i other) ≡ false
none_false test cs h = none_from test cs 0 (sym (position_from-zero test cs) ∙ h)

-- a block: its propositions, then its disjunctions
pub block_on : (b : BlockTree) (under : Option ℕ) (t : ℕ → Tri) (k n : ℕ) (qs : List (PropTree × ℕ)) (ds : Disjunctions) → qs ≡ props_in b → ds ≡ disjunctions_in b
    → Ok n ≡ passed t (map (λ q. enforced under q.0) qs) k → passed t (conditions_of_disjunctions under ds) n ≡ passed t (conditions_in under b) k
block_on (block items es) under t k n qs ds p q e =
    ap (λ x. passed t (conditions_of_disjunctions under x) n) q
    ∙ goes_on t (map (λ q. enforced under q.0) items.props) (conditions_of_disjunctions under es) k n (e ∙ ap (λ x. passed t (map (λ q. enforced under q.0) x) k) p)

pub block_stops : (b : BlockTree) (under : Option ℕ) (t : ℕ → Tri) (k n : ℕ) (qs : List (PropTree × ℕ)) → qs ≡ props_in b
    → Err n ≡ passed t (map (λ q. enforced under q.0) qs) k → Err n ≡ passed t (conditions_in under b) k
block_stops (block items es) under t k n qs p e =
    stops t (map (λ q. enforced under q.0) items.props) (conditions_of_disjunctions under es) k n (e ∙ ap (λ x. passed t (map (λ q. enforced under q.0) x) k) p)

-- there is room for the numbers of the items after them
pub block_few : (b : BlockTree) (under : Option ℕ) (t : ℕ → Tri) (k : ℕ) (qs : List (PropTree × ℕ)) (r : Result ℕ ℕ) → qs ≡ props_in b
    → r ≡ passed t (map (λ q. enforced under q.0) qs) k → k + length (conditions_in under b) < 2 ^ 32 → IfOk r (λ n. n + length (conditions_of_disjunctions under (disjunctions_in b)) < 2 ^ 32)
block_few (block items es) under t k qs (Ok n) p e h =
    few_on t (map (λ q. enforced under q.0) items.props) (conditions_of_disjunctions under es) k n (e ∙ ap (λ x. passed t (map (λ q. enforced under q.0) x) k) p) h
block_few (block items es) under t k qs (Err n) p e h = tt

-- a disjunction and those after it
pub disjunction_on : (ds : List Disjunction) (i : ℕ) (d : Disjunction) (under : Option ℕ) (t : ℕ → Tri) (k n : ℕ) → i < length ds → d ≡ get_or ds i d → Ok n ≡ passed t (choices under (disjunction_of d)) k
    → passed t (conditions_of_disjunctions under (disjunctions_of (drop (i + 1) ds))) n ≡ passed t (conditions_of_disjunctions under (disjunctions_of (drop i ds))) k
disjunction_on ds i d under t k n h e r =
    goes_on t (choices under (disjunction_of d)) (conditions_of_disjunctions under (disjunctions_of (drop (i + 1) ds))) k n r
    ∙ ap (λ cs. passed t cs k) (sym (disjunctions_split ds i d under h e))

pub disjunction_stops : (ds : List Disjunction) (i : ℕ) (d : Disjunction) (under : Option ℕ) (t : ℕ → Tri) (k n : ℕ) → i < length ds → d ≡ get_or ds i d → Err n ≡ passed t (choices under (disjunction_of d)) k
    → Err n ≡ passed t (conditions_of_disjunctions under (disjunctions_of (drop i ds))) k
disjunction_stops ds i d under t k n h e r =
    stops t (choices under (disjunction_of d)) (conditions_of_disjunctions under (disjunctions_of (drop (i + 1) ds))) k n r
    ∙ ap (λ cs. passed t cs k) (sym (disjunctions_split ds i d under h e))

pub disjunction_few : (ds : List Disjunction) (i : ℕ) (d : Disjunction) (under : Option ℕ) (t : ℕ → Tri) (k n : ℕ) → i < length ds → d ≡ get_or ds i d → Ok n ≡ passed t (choices under (disjunction_of d)) k
    → k + length (conditions_of_disjunctions under (disjunctions_of (drop i ds))) < 2 ^ 32 → n + length (conditions_of_disjunctions under (disjunctions_of (drop (i + 1) ds))) < 2 ^ 32
disjunction_few ds i d under t k n h e r f =
    few_on t (choices under (disjunction_of d)) (conditions_of_disjunctions under (disjunctions_of (drop (i + 1) ds))) k n r
    (subst (λ cs. k + length cs < 2 ^ 32) (disjunctions_split ds i d under h e) f)

-- a disjunct's block and those after it
pub disjunct_on : (js : List Disjunct) (i : ℕ) (j : Disjunct) (t : ℕ → Tri) (k n : ℕ) → i < length js → j ≡ get_or js i j → Ok n ≡ passed t (within (disjunct_of j)) k
    → passed t (conditions_of_disjuncts (disjuncts_of (drop (i + 1) js))) n ≡ passed t (conditions_of_disjuncts (disjuncts_of (drop i js))) k
disjunct_on js i j t k n h e r =
    goes_on t (within (disjunct_of j)) (conditions_of_disjuncts (disjuncts_of (drop (i + 1) js))) k n r ∙ ap (λ cs. passed t cs k) (sym (disjuncts_split js i j h e))

pub disjunct_stops : (js : List Disjunct) (i : ℕ) (j : Disjunct) (t : ℕ → Tri) (k n : ℕ) → i < length js → j ≡ get_or js i j → Err n ≡ passed t (within (disjunct_of j)) k
    → Err n ≡ passed t (conditions_of_disjuncts (disjuncts_of (drop i js))) k
disjunct_stops js i j t k n h e r =
    stops t (within (disjunct_of j)) (conditions_of_disjuncts (disjuncts_of (drop (i + 1) js))) k n r ∙ ap (λ cs. passed t cs k) (sym (disjuncts_split js i j h e))

pub disjunct_few : (js : List Disjunct) (i : ℕ) (j : Disjunct) (t : ℕ → Tri) (k n : ℕ) → i < length js → j ≡ get_or js i j → Ok n ≡ passed t (within (disjunct_of j)) k
    → k + length (conditions_of_disjuncts (disjuncts_of (drop i js))) < 2 ^ 32 → n + length (conditions_of_disjuncts (disjuncts_of (drop (i + 1) js))) < 2 ^ 32
disjunct_few js i j t k n h e r f =
    few_on t (within (disjunct_of j)) (conditions_of_disjuncts (disjuncts_of (drop (i + 1) js))) k n r (subst (λ cs. k + length cs < 2 ^ 32) (disjuncts_split js i j h e) f)

-- one proposition more
pub prop_on : (qs : List (Prop × ℕ)) (i : ℕ) (q : Prop × ℕ) (under : Option ℕ) (t : ℕ → Tri) (k : ℕ) → i < length qs → q ≡ get_or qs i q → is_false t (enforced under (prop_tree q.0)) ≡ false
    → passed t (map (λ q. enforced under q.0) (props_of (drop (i + 1) qs))) (k + 1) ≡ passed t (map (λ q. enforced under q.0) (props_of (drop i qs))) k
prop_on qs i q under t k h e f =
    sym (ap (λ cs. passed t cs k) (props_split qs i q under h e)
    ∙ ap (λ b. if b then Err k else passed t (map (λ q. enforced under q.0) (props_of (drop (i + 1) qs))) (k + 1)) f)
