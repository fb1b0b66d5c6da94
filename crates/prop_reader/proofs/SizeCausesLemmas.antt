-- The cause against a proposition is that against its size, as far as the reader's numbers go.
use Rattle.std.proofs.Common.{◌≡◌, ℕ, ◌<◌, ◌-◌, ◌^◌, min, Bool, not, ◌||◌, List, Option, Some, None, if◌then◌else◌, nat_le, ◌≤◌, true, false, refl, ap, ◌∙◌, arith}
use Rattle.std.proofs.lemmas.Bool.Decides.{nat_tests}
use Rattle.model_tree.specs.Variables.{BooleanValue}
use Rattle.gdp_grammar.specs.declared.cause.ReadCause.{ReadCause}
use Rattle.gdp_grammar.specs.declared.cause.ReadCause.TheVariants.{NameUnknown, Number, Nesting, Limit}
use Rattle.gdp_grammar.specs.PropNames.{are_known}
use Rattle.gdp_grammar.specs.PropTexts.{Operator, NamedProp}
use Rattle.gdp_grammar.specs.PropSizes.{number_in, named_greatest, named_depth, named_nodes, named_most}
use Rattle.prop_reader.specs.SizeCauses.{refusal_by, refusal_of_size, refusal_of_named}
use Rattle.prop_reader.specs.declared.size.Size.{Size}
use Rattle.prop_reader.specs.steps.Sizes.{size_of, whole_size}

below_end : (n k l : ℕ) → k < l → nat_le (min n l) k ≡ nat_le n k
below_end n k l far = grind (arith, nat_tests)

-- the cause, by the answers of its tests
abbrev by_tests : Bool → Bool → Bool → Bool → Bool → Option ReadCause
by_tests known number depth nodes most =
    if not known then Some NameUnknown
    else (if not number then Some Number
    else (if not depth then Some Nesting
    else (if not nodes || not most then Some Limit
    else None)))

same_tests : (k a b c d e f g h : Bool) → a ≡ e → b ≡ f → c ≡ g → d ≡ h → by_tests k a b c d ≡ by_tests k e f g h
same_tests k a b c d e f g h ea eb ec ed = cc

pub sized_refusal : (booleans : List BooleanValue) (p : NamedProp) → refusal_of_size (size_of booleans p) ≡ refusal_of_named booleans p
sized_refusal booleans p =
    same_tests (are_known booleans p) _ _ _ _ _ _ _ _
    (below_end (named_greatest p) 1000 (2 ^ 32 - 1) (omega arith))
    (below_end (named_depth p) 16 (2 ^ 64 - 1) (omega arith))
    (below_end (named_nodes p) 5000 (2 ^ 64 - 1) (omega arith))
    (below_end (named_most p) 200 (2 ^ 64 - 1) (omega arith))

-- a size within all limits
pub record IsWithin (k : Bool) (g d n m : ℕ) : Type 0 where
  pub known : k ≡ true
  pub greatest : g ≤ 1000
  pub depth : d ≤ 16
  pub nodes : n ≤ 5000
  pub most : m ≤ 200

tests_hold : (k a b c d : Bool) → by_tests k a b c d ≡ None → (k ≡ true) × (a ≡ true) × (b ≡ true) × (c ≡ true) × (d ≡ true)
tests_hold false a b c d e = absurd (cc e)
tests_hold true false b c d e = absurd (cc e)
tests_hold true true false c d e = absurd (cc e)
tests_hold true true true false d e = absurd (cc e)
tests_hold true true true true false e = absurd (cc e)
tests_hold true true true true true e = (refl, refl, refl, refl, refl)

at_most : (n k : ℕ) → nat_le n k ≡ true → n ≤ k
at_most n k e = grind (arith, nat_tests)

test_of : (n k : ℕ) → n ≤ k → nat_le n k ≡ true
test_of n k e = grind (arith, nat_tests)

-- what isn't refused is within them
pub within_limits : (known : Bool) (greatest depth nodes most : ℕ) → refusal_by known greatest depth nodes most ≡ None → IsWithin known greatest depth nodes most
within_limits known greatest depth nodes most none =
    let holds = tests_hold known (nat_le greatest 1000) (nat_le depth 16) (nat_le nodes 5000) (nat_le most 200) none in
    record {
      known = holds.0;
      greatest = at_most greatest 1000 holds.1;
      depth = at_most depth 16 holds.2;
      nodes = at_most nodes 5000 holds.3;
      most = at_most most 200 holds.4;
    }

-- what is within them isn't refused
pub none_refused : (known : Bool) (greatest depth nodes most : ℕ) → IsWithin known greatest depth nodes most → refusal_by known greatest depth nodes most ≡ None
none_refused known greatest depth nodes most w =
    by_holding known _ _ _ _ w.known (test_of greatest 1000 w.greatest) (test_of depth 16 w.depth) (test_of nodes 5000 w.nodes) (test_of most 200 w.most)
  where
    by_holding : (k a b c d : Bool) → k ≡ true → a ≡ true → b ≡ true → c ≡ true → d ≡ true → by_tests k a b c d ≡ None
    by_holding k a b c d ek ea eb ec ed = ap (λ (x : Bool). by_tests x a b c d) ek ∙ ap (λ (x : Bool). by_tests true x b c d) ea ∙ ap (λ (x : Bool). by_tests true true x c d) eb ∙ ap (λ (x : Bool). by_tests true true true x d) ec ∙ ap (λ (x : Bool). by_tests true true true true x) ed

-- an operator whose size isn't refused has a small number
pub small_number : (o : Operator) (count : ℕ) (inner : Size) → refusal_of_size (whole_size o count inner) ≡ None → number_in o ≤ 1000
small_number o count inner none =
    let s : Size = whole_size o count inner in
    let w = within_limits s.known s.greatest s.depth s.nodes s.most none in
    omega (arith, w.greatest)
