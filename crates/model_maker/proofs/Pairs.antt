-- A builder takes the variables and the goal.
use Rattle.std.proofs.Common.{◌≡◌, ℕ, zero, suc, ◌+◌, ◌*◌, ◌<◌, ◌≤◌, Bool, true, false, ◌||◌, List, [], ◌∷◌, ◌++◌, length, map, codes, Result, Ok, nat_le, refl, ap, ◌∙◌, arith, add-one, append_assoc, length-append}
use Rattle.std.specs.Prelude.{is_ok}
use Rattle.std.specs.Fmt.{decimal}
use Rattle.std.proofs.lemmas.Bool.Decides.{nat_tests}
use Rattle.std.proofs.lemmas.Bool.{agree_below_at}
use Rattle.std.proofs.lemmas.List.{map-append}
use Rattle.lp_rows.specs.declared.kinds.Kind.{Kind}
use Rattle.lp_rows.specs.declared.kinds.Kind.TheVariants.{Real, Int}
use Rattle.model_builder.specs.Building.{BuildingValue, is_at_root, is_taken, var_outcome, new_building}
use Rattle.model_tree.specs.Bounds.{is_bound}
use Rattle.model_tree.specs.Names.{has_name, is_name}
use Rattle.model_tree.specs.Variables.{VarValue}
use Rattle.model_tree.specs.declared.errors.BuildError.{BuildError}
use Rattle.model_maker.specs.Draws.{next, after, draw}
use Rattle.model_maker.specs.Generated.{numbered, up_to, vars_of, real_var, whole_var}
use Rattle.model_maker.specs.Steps.{IsAccepted, pair_names, with_vars}
use Rattle.model_maker.proofs.Names.{var_names_are, first_new, second_new_after, x_name, n_name}

-- two draws further
pub two_on : (s i : ℕ) → after s (2 * (i + 1)) ≡ next (next (after s (2 * i)))
two_on s i = let e : 2 * (i + 1) ≡ suc (suc (2 * i)) = omega arith in ap (after s) e

pub one_on : (s i : ℕ) → after s (2 * i + 1) ≡ next (after s (2 * i))
one_on s i = let e : 2 * i + 1 ≡ suc (2 * i) = omega arith in ap (after s) e

-- bounds from 0 to a small number
bound_small : (high : ℕ) → high ≤ 100 → is_bound (up_to high) ≡ true
bound_small high le = agree_below_at (λ h. is_bound (up_to h)) (λ h. true) 101 high refl (omega (arith, le))

-- a variable is taken at the root
var_taken : (b : BuildingValue) (name : List ℕ) (kind : Kind) (high line : ℕ) → is_at_root b ≡ true → is_taken name b ≡ false → is_name name ≡ true → length b.vars < 500 → high ≤ 100
    → var_outcome name kind (up_to high) line b ≡ (Ok (length b.vars), record b { vars = b.vars ++ (name, kind, up_to high, line) ∷ [] })
var_taken b name kind high line root new named few small =
    let room : nat_le 500 (length b.vars) ≡ false = grind (arith, nat_tests, few) in
    rw (root, new, bound_small high small, room, named) refl

pub vars_long : (s i : ℕ) → length (vars_of s i) ≡ 2 * i
vars_long s zero = refl
vars_long s (suc i) =
    let more : List VarValue = real_var (after s (2 * i)) i ∷ whole_var (after s (2 * i)) i ∷ [] in
    omega (arith, length-append (vars_of s i) more, vars_long s i)

abbrev more_vars : BuildingValue → List ℕ → Kind → ℕ → ℕ → BuildingValue
more_vars b name kind high line = record b { vars = b.vars ++ (name, kind, up_to high, line) ∷ [] }

real_taken : (s i high line : ℕ) → i < 20 → high ≤ 100
    → var_outcome (numbered (codes "x") i) Real (up_to high) line (with_vars s i) ≡ (Ok (length (vars_of s i)), more_vars (with_vars s i) (numbered (codes "x") i) Real high line)
real_taken s i high line lt small =
    let new : has_name (120 ∷ decimal i) (map (λ (v : VarValue). v.0) (vars_of s i)) ≡ false = ap (has_name (120 ∷ decimal i)) (var_names_are s i) ∙ first_new 120 110 i i refl (omega arith) lt in
    var_taken (with_vars s i) (120 ∷ decimal i) Real high line refl (ap (λ (t : Bool). t || false) new) (x_name i lt) (omega (arith, lt, vars_long s i)) small

whole_taken : (s i high other line before : ℕ) → i < 20 → high ≤ 100
    → var_outcome (numbered (codes "n") i) Int (up_to high) line (more_vars (with_vars s i) (numbered (codes "x") i) Real other before)
    ≡ (Ok (length (more_vars (with_vars s i) (numbered (codes "x") i) Real other before).vars), more_vars (more_vars (with_vars s i) (numbered (codes "x") i) Real other before) (numbered (codes "n") i) Int high line)
whole_taken s i high other line before lt small =
    let b : BuildingValue = more_vars (with_vars s i) (numbered (codes "x") i) Real other before in
    let names : map (λ (v : VarValue). v.0) b.vars ≡ pair_names 120 110 i ++ (120 ∷ decimal i) ∷ [] =
    map-append (λ (v : VarValue). v.0) (vars_of s i) _ ∙ ap (λ (ns : List (List ℕ)). ns ++ (120 ∷ decimal i) ∷ []) (var_names_are s i) in
    let new : has_name (110 ∷ decimal i) (map (λ (v : VarValue). v.0) b.vars) ≡ false = ap (has_name (110 ∷ decimal i)) names ∙ second_new_after 120 110 i refl lt in
    var_taken b (110 ∷ decimal i) Int high line refl (ap (λ (t : Bool). t || false) new) (n_name i lt) (omega (arith, lt, vars_long s i, length-append (vars_of s i) ((numbered (codes "x") i, Real, up_to other, before) ∷ []))) small

-- a pair of variables
pub record IsPair (s i : ℕ) (b b1 : BuildingValue) (x n : List ℕ) (x_high n_high : ℕ) : Type 0 where
  pub before : b ≡ with_vars s i
  pub below : i < 20
  pub x_is : x ≡ numbered (codes "x") i
  pub n_is : n ≡ numbered (codes "n") i
  pub x_small : x_high ≤ 100
  pub n_small : n_high ≤ 100
  pub between : b1 ≡ (var_outcome x Real (up_to x_high) (2 * i + 2) b).1

real_out : (s i : ℕ) (b : BuildingValue) (x : List ℕ) (x_high : ℕ) → b ≡ with_vars s i → i < 20 → x ≡ numbered (codes "x") i → x_high ≤ 100
    → var_outcome x Real (up_to x_high) (2 * i + 2) b ≡ (Ok (length (vars_of s i)), more_vars (with_vars s i) (numbered (codes "x") i) Real x_high (2 * i + 2))
real_out s i b x x_high e lt is small =
    ap (λ (c : BuildingValue). var_outcome x Real (up_to x_high) (2 * i + 2) c) e ∙ ap (λ (w : List ℕ). var_outcome w Real (up_to x_high) (2 * i + 2) (with_vars s i)) is
    ∙ real_taken s i x_high (2 * i + 2) lt small

pub real_accepted : (s i : ℕ) (b : BuildingValue) (x : List ℕ) (x_high : ℕ) → b ≡ with_vars s i → i < 20 → x ≡ numbered (codes "x") i → x_high ≤ 100
    → IsAccepted (var_outcome x Real (up_to x_high) (2 * i + 2) b)
real_accepted s i b x x_high e lt is small = ap (λ (o : Result ℕ BuildError × BuildingValue). is_ok o.0) (real_out s i b x x_high e lt is small)

whole_out : (s i : ℕ) (b b1 : BuildingValue) (x n : List ℕ) (x_high n_high : ℕ) → IsPair s i b b1 x n x_high n_high
    → var_outcome n Int (up_to n_high) (2 * i + 3) b1
    ≡ (Ok (length (more_vars (with_vars s i) (numbered (codes "x") i) Real x_high (2 * i + 2)).vars), more_vars (more_vars (with_vars s i) (numbered (codes "x") i) Real x_high (2 * i + 2)) (numbered (codes "n") i) Int n_high (2 * i + 3))
whole_out s i b b1 x n x_high n_high p =
    let e : b1 ≡ more_vars (with_vars s i) (numbered (codes "x") i) Real x_high (2 * i + 2) =
    p.between ∙ ap (λ (o : Result ℕ BuildError × BuildingValue). o.1) (real_out s i b x x_high p.before p.below p.x_is p.x_small) in
    ap (λ (c : BuildingValue). var_outcome n Int (up_to n_high) (2 * i + 3) c) e
    ∙ ap (λ (w : List ℕ). var_outcome w Int (up_to n_high) (2 * i + 3) (more_vars (with_vars s i) (numbered (codes "x") i) Real x_high (2 * i + 2))) p.n_is
    ∙ whole_taken s i n_high x_high (2 * i + 3) (2 * i + 2) p.below p.n_small

pub whole_accepted : (s i : ℕ) (b b1 : BuildingValue) (x n : List ℕ) (x_high n_high : ℕ) → IsPair s i b b1 x n x_high n_high → IsAccepted (var_outcome n Int (up_to n_high) (2 * i + 3) b1)
whole_accepted s i b b1 x n x_high n_high p = ap (λ (o : Result ℕ BuildError × BuildingValue). is_ok o.0) (whole_out s i b b1 x n x_high n_high p)

pub pair_added : (s i : ℕ) (b b1 b2 : BuildingValue) (x n : List ℕ) (x_high n_high : ℕ) → IsPair s i b b1 x n x_high n_high
    → x_high ≡ 5 + draw (after s (2 * i)) 6 → n_high ≡ 5 + draw (next (after s (2 * i))) 6
    → b2 ≡ (var_outcome n Int (up_to n_high) (2 * i + 3) b1).1 → b2 ≡ with_vars s (i + 1)
pair_added s i b b1 b2 x n x_high n_high p x_drawn n_drawn last =
    let made : b2 ≡ more_vars (more_vars (with_vars s i) (numbered (codes "x") i) Real x_high (2 * i + 2)) (numbered (codes "n") i) Int n_high (2 * i + 3) =
    last ∙ ap (λ (o : Result ℕ BuildError × BuildingValue). o.1) (whole_out s i b b1 x n x_high n_high p) in
    let joined : vars_of s i ++ (numbered (codes "x") i, Real, up_to x_high, 2 * i + 2) ∷ (numbered (codes "n") i, Int, up_to n_high, 2 * i + 3) ∷ [] ≡ vars_of s (i + 1) =
    rw (x_drawn, n_drawn, add-one) refl in
    let assoc = append_assoc (vars_of s i) ((numbered (codes "x") i, Real, up_to x_high, 2 * i + 2) ∷ []) ((numbered (codes "n") i, Int, up_to n_high, 2 * i + 3) ∷ []) in
    made ∙ ap (λ (vs : List VarValue). record new_building { vars = vs }) (assoc ∙ joined)
