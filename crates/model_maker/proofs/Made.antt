-- The steps of a model, one after the other.
use Rattle.std.proofs.Common.{◌≡◌, ℕ, ◌*◌, ◌≤◌, ◌==◌, Bool, true, false, length, None, Some, Result, Ok, refl, ap, sym, ◌∙◌, subst, arith}
use Rattle.std.specs.Prelude.{is_ok}
use Rattle.std.proofs.lemmas.Bool.Decides.{nat_tests}
use Rattle.outcomes.specs.Calls.{refuse_if, refused_or}
use Rattle.model_tree.specs.Sound.{is_empty}
use Rattle.model_tree.specs.Values.{GoalValue, ModelTree}
use Rattle.model_tree.specs.declared.errors.BuildError.{BuildError}
use Rattle.model_tree.specs.declared.errors.BuildError.TheVariants.{Missing}
use Rattle.model_builder.specs.Building.{BuildingValue, finish_outcome, built_model}
use Rattle.model_maker.specs.Draws.{after, seeded}
use Rattle.model_maker.specs.Generated.{drawn_from, generated, goal_of, vars_of}
use Rattle.model_maker.specs.Steps.{CanAim, IsChosen, IsDeclared, with_choices, with_some_first, with_vars}
use Rattle.model_maker.proofs.Chosen.{all_chosen}
use Rattle.model_maker.proofs.Names.{var_names_are}
use Rattle.model_maker.proofs.Pairs.{vars_long}

abbrev pub aimed : BuildingValue → GoalValue → BuildingValue
aimed b g = record b { goal = Some g }

pub can_aim : (s n : ℕ) (b : BuildingValue) → b ≡ with_vars s n → CanAim n b
can_aim s n b e = subst (CanAim n) (sym e) (record { vars = vars_long s n; goal = refl; opened = refl; root = refl })

pub is_declared : (s n : ℕ) (g : GoalValue) (b c : BuildingValue) → b ≡ with_vars s n → c ≡ aimed b g → IsDeclared n c
is_declared s n g b c e f =
    subst (IsDeclared n) (sym (f ∙ ap (λ (x : BuildingValue). aimed x g) e))
    (record { vars = var_names_are s n; declared = vars_long s n; booleans = refl; inner = refl; opened = refl; root = refl })

pub is_chosen : (s n : ℕ) (c d : BuildingValue) → IsDeclared n c → d ≡ with_choices c s n n → IsChosen n d
is_chosen s n c d declared e = subst (IsChosen n) (sym e) (all_chosen s n c declared)

-- the last of the buildings
abbrev last : (s t u n : ℕ) → BuildingValue
last s t u n = with_some_first n (with_choices (aimed (with_vars s n) (goal_of t n)) u n n)

last_is : (s t u n : ℕ) (b c d e : BuildingValue) → b ≡ with_vars s n → c ≡ aimed b (goal_of t n) → d ≡ with_choices c u n n → e ≡ with_some_first n d → e ≡ last s t u n
last_is s t u n b c d e p q r w =
    w ∙ ap (with_some_first n) (r ∙ ap (λ (x : BuildingValue). with_choices x u n n) (q ∙ ap (λ (x : BuildingValue). aimed x (goal_of t n)) p))

some_vars : (s n : ℕ) → 1 ≤ n → is_empty (vars_of s n) ≡ false
some_vars s n some = no (length (vars_of s n)) (omega (arith, vars_long s n, some))
  where
    no : (k : ℕ) → 1 ≤ k → (k == 0) ≡ false
    no k h = grind (arith, nat_tests)

finished : (s t u n : ℕ) → 1 ≤ n → finish_outcome (last s t u n) ≡ Ok (built_model (last s t u n))
finished s t u n some = ap (λ (x : Bool). refused_or (refuse_if x Missing None) (built_model (last s t u n))) (some_vars s n some)

pub finish_accepted : (s t u n : ℕ) (b c d e : BuildingValue) → 1 ≤ n → b ≡ with_vars s n → c ≡ aimed b (goal_of t n) → d ≡ with_choices c u n n → e ≡ with_some_first n d → is_ok (finish_outcome e) ≡ true
finish_accepted s t u n b c d e some p q r w =
    ap (λ (x : BuildingValue). is_ok (finish_outcome x)) (last_is s t u n b c d e p q r w) ∙ ap (λ (x : Result ModelTree BuildError). is_ok x) (finished s t u n some)

pub made_is : (seed s t u n : ℕ) (b c d e : BuildingValue) (m : ModelTree) → 1 ≤ n → b ≡ with_vars s n → c ≡ aimed b (goal_of t n) → d ≡ with_choices c u n n → e ≡ with_some_first n d
    → s ≡ seeded seed → t ≡ after s (2 * n) → u ≡ after t (2 * n) → finish_outcome e ≡ Ok m → m ≡ generated seed n
made_is seed s t u n b c d e m some p q r w is_s is_t is_u out =
    let same : Ok m ≡ Ok (built_model (last s t u n)) = sym out ∙ ap finish_outcome (last_is s t u n b c d e p q r w) ∙ finished s t u n some in
    let built : m ≡ built_model (last s t u n) = cc same in
    let second : u ≡ after (after s (2 * n)) (2 * n) = is_u ∙ ap (λ (x : ℕ). after x (2 * n)) is_t in
    built ∙ ap (λ (x : ℕ). built_model (last s x u n)) is_t ∙ ap (λ (x : ℕ). built_model (last s (after s (2 * n)) x n)) second ∙ ap (λ (x : ℕ). drawn_from x n) is_s
