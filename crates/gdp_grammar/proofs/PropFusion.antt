-- What is made in one way is made in another, where the parts of both agree.
use Rattle.std.proofs.Common.{◌≡◌, ℕ, Bool, true, false, if◌then◌else◌, List, [], ◌∷◌, map, Option, None, Some, refl, ap, sym, ◌∙◌}
use Rattle.std.specs.Option.{option_map}
use Rattle.gdp_grammar.specs.declared.symbol.Symbol.TheVariants.{Open, Close, Comma}
use Rattle.text_grammar.specs.Outcomes.{result_map}
use Rattle.gdp_grammar.specs.Keywords.{is_reserved}
use Rattle.gdp_grammar.specs.Numerals.{Whole}
use Rattle.gdp_grammar.specs.PropTexts.{Operator}
use Rattle.gdp_grammar.specs.PropReading.{Making, OperatorWord, plain, counting, operator_of, Place, wants, opens, counts, parts, has, after_word, on, closing, step_of, ended_of, going_on, made_of}
use Rattle.gdp_grammar.specs.Tokens.{Piece, Word, Number, Mark}

-- f and g take what `a` makes to what `b` makes
pub record IsHomomorphism {P O Q R : Type 0} (a : Making P O) (b : Making Q R) (f : P → Q) (g : O → R) : Type 0 where
  pub of_name : (name : List ℕ) → f (a.of_name name) ≡ b.of_name name
  pub opened : (operator : Operator) → g (a.opened operator) ≡ b.opened operator
  pub with_argument : (o : O) (p : P) → g (a.with_argument o p) ≡ b.with_argument (g o) (f p)
  pub closed : (o : O) → option_map f (a.closed o) ≡ b.closed (g o)

-- the same place, with what f gives
abbrev pub mapped : {P Q : Type 0} → (P → Q) → Place P → Place Q
mapped f wants = wants
mapped f (opens operator) = opens operator
mapped f (counts c) = counts c
mapped f (parts operator) = parts operator
mapped f (has p) = has (f p)

-- the same stack and place, with what f and g give
abbrev pub mapped_at : {P O Q R : Type 0} → (P → Q) → (O → R) → List O × Place P → List R × Place Q
mapped_at f g at = (map g at.0, mapped f at.1)

pub closed_fused : {P O Q R : Type 0} (f : P → Q) (g : O → R) (stack : List O) (closed : Option P) → closing (map g stack) (option_map f closed) ≡ option_map (mapped_at f g) (closing stack closed)
closed_fused f g stack None = refl
closed_fused f g stack (Some p) = refl

pub named_fused : {P O Q R : Type 0} (a : Making P O) (b : Making Q R) (f : P → Q) (g : O → R) → IsHomomorphism a b f g → (stack : List O) (word : List ℕ) (o : Option OperatorWord)
    → on (map g stack) (after_word b word o) ≡ option_map (mapped_at f g) (on stack (after_word a word o))
named_fused a b f g h stack word (Some operator) = refl
named_fused {P} {O} {Q} {R} a b f g h stack word None = go (is_reserved word)
  where
    go : (r : Bool) → on (map g stack) (if r then None else Some (has (b.of_name word))) ≡ option_map (mapped_at f g) (on stack (if r then None else Some (has (a.of_name word))))
    go true = refl
    go false = ap (λ (q : Q). Some (map g stack, has q)) (sym (h.of_name word))

pub opened_fused : {P O Q R : Type 0} (a : Making P O) (b : Making Q R) (f : P → Q) (g : O → R) → IsHomomorphism a b f g → (stack : List O) (operator : Operator)
    → Some (b.opened operator ∷ map g stack, wants) ≡ option_map (mapped_at f g) (Some (a.opened operator ∷ stack, wants))
opened_fused {P} {O} {Q} {R} a b f g h stack operator = ap (λ (r : R). Some (r ∷ map g stack, wants)) (sym (h.opened operator))

pub step_fused : {P O Q R : Type 0} (a : Making P O) (b : Making Q R) (f : P → Q) (g : O → R) → IsHomomorphism a b f g → (stack : List O) (place : Place P) (t : Piece)
    → step_of b (map g stack) (mapped f place) t ≡ option_map (mapped_at f g) (step_of a stack place t)
step_fused a b f g h stack wants (Word word) = named_fused a b f g h stack word (operator_of word)
step_fused a b f g h stack (opens (plain operator)) (Mark Open) = opened_fused a b f g h stack operator
step_fused a b f g h stack (opens (counting c)) (Mark Open) = refl
step_fused a b f g h stack (counts c) (Number (Whole digits)) = refl
step_fused a b f g h stack (parts operator) (Mark Comma) = opened_fused a b f g h stack operator
step_fused {P} {O} {Q} {R} a b f g h (o ∷ os) (has p) (Mark Comma) = ap (λ (r : R). Some (r ∷ map g os, wants)) (sym (h.with_argument o p))
step_fused {P} {O} {Q} {R} a b f g h (o ∷ os) (has p) (Mark Close) =
    ap (λ (r : R). closing (map g os) (b.closed r)) (sym (h.with_argument o p))
    ∙ ap (λ (q : Option Q). closing (map g os) q) (sym (h.closed (a.with_argument o p)))
    ∙ closed_fused f g os (a.closed (a.with_argument o p))
step_fused a b f g h stack place t = refl

pub ended_fused : {P O Q R : Type 0} (f : P → Q) (g : O → R) (stack : List O) (place : Place P) → ended_of (map g stack) (mapped f place) ≡ result_map f (ended_of stack place)
ended_fused f g [] (has p) = refl
ended_fused f g stack place = refl

pub made_fused : {P O Q R : Type 0} (a : Making P O) (b : Making Q R) (f : P → Q) (g : O → R) → IsHomomorphism a b f g → (stack : List O) (place : Place P) (ts : List Piece)
    → made_of b (map g stack) (mapped f place) ts ≡ result_map f (made_of a stack place ts)
made_fused a b f g h stack place [] = ended_fused f g stack place
made_fused {P} {O} {Q} {R} a b f g h stack place (t ∷ ts) =
    ap (λ (at : Option (List R × Place Q)). going_on at (λ os next. made_of b os next ts)) (step_fused a b f g h stack place t)
    ∙ go (step_of a stack place t) (λ os next. made_fused a b f g h os next ts)
  where
    go : (o : Option (List O × Place P)) → ((os : List O) (next : Place P) → made_of b (map g os) (mapped f next) ts ≡ result_map f (made_of a os next ts))
        → going_on (option_map (mapped_at f g) o) (λ os next. made_of b os next ts) ≡ result_map f (going_on o (λ os next. made_of a os next ts))
    go None below = refl
    go (Some at) below = below at.0 at.1
