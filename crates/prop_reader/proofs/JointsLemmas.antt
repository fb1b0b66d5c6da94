-- What is made behind an argument, and the open operators as they are stored.
use Rattle.std.proofs.Common.{reverse, ◌≡◌, ℕ, ◌<◌, ◌≤◌, List, [], ◌∷◌, ◌++◌, length, map, Option, Some, None, Result, Ok, Err, refl, ap, sym, ◌∙◌, arith}
use Rattle.std.proofs.lemmas.List.{reverse-append}
use Rattle.gdp_grammar.specs.declared.cause.ReadCause.{ReadCause}
use Rattle.gdp_grammar.specs.declared.cause.ReadCause.TheVariants as cause
use Rattle.gdp_grammar.specs.declared.symbol.Symbol.TheVariants.{Plus, Minus, Open, Close, Comma, Equal, AtMost, AtLeast}
use Rattle.text_grammar.specs.Outcomes.{◌>>=◌}
use Rattle.gdp_grammar.specs.Keywords.{is_reserved}
use Rattle.gdp_grammar.specs.Numerals.{Whole, Fraction, Decimal}
use Rattle.gdp_grammar.specs.PropReading.{Making, OperatorWord, plain, counting, operator_of, Place, wants, has, closing, going_on, made_of}
use Rattle.gdp_grammar.specs.PropTexts.{Operator, counted}
use Rattle.gdp_grammar.specs.Tokens.{Piece, Word, Number, Mark, Stray}
use Rattle.gdp_grammar.proofs.Sums.{bind_ok, guard_ok}
use Rattle.prop_reader.specs.declared.head.Joint.{Joint}
use Rattle.prop_reader.specs.declared.head.Joint.TheVariants.{End, Further, Closes}
use Rattle.prop_reader.specs.steps.Heads.{Beginning, of_name, of_operator, past_open, past_comma, digits_of, opened_of, opening_of, head_in, head_of, joint_of}
use Rattle.prop_reader.proofs.HeadsLemmas.{after_head, headed}

-- what is made behind the end of the arguments
abbrev pub after_close : {P O : Type 0} → Making P O → List O → Option P → List Piece → Result P ReadCause
after_close make stack None ps = Err cause.Form
after_close make stack (Some p) ps = made_of make stack (has p) ps

-- what is made behind an argument
abbrev pub after_joint : {P O : Type 0} → Making P O → List O → P → Joint × List Piece → Result P ReadCause
after_joint make [] p (End, ps) = Ok p
after_joint make [] p (Further, ps) = Err cause.Form
after_joint make [] p (Closes, ps) = Err cause.Form
after_joint make (o ∷ os) p (End, ps) = Err cause.Form
after_joint make (o ∷ os) p (Further, ps) = made_of make (make.with_argument o p ∷ os) wants ps
after_joint make (o ∷ os) p (Closes, ps) = after_close make os (make.closed (make.with_argument o p)) ps

pub jointed : {P O : Type 0} (make : Making P O) (stack : List O) (p : P) (ps : List Piece)
    → made_of make stack (has p) ps ≡ (joint_of ps >>= λ j. after_joint make stack p j)
jointed make [] p [] = refl
jointed make [] p (Word word ∷ ps) = refl
jointed make [] p (Number number ∷ ps) = refl
jointed make [] p (Mark Plus ∷ ps) = refl
jointed make [] p (Mark Minus ∷ ps) = refl
jointed make [] p (Mark Open ∷ ps) = refl
jointed make [] p (Mark Close ∷ ps) = refl
jointed make [] p (Mark Comma ∷ ps) = refl
jointed make [] p (Mark Equal ∷ ps) = refl
jointed make [] p (Mark AtMost ∷ ps) = refl
jointed make [] p (Mark AtLeast ∷ ps) = refl
jointed make [] p (Stray ∷ ps) = refl
jointed make (o ∷ os) p [] = refl
jointed make (o ∷ os) p (Word word ∷ ps) = refl
jointed make (o ∷ os) p (Number number ∷ ps) = refl
jointed make (o ∷ os) p (Mark Plus ∷ ps) = refl
jointed make (o ∷ os) p (Mark Minus ∷ ps) = refl
jointed make (o ∷ os) p (Mark Open ∷ ps) = refl
jointed {P} make (o ∷ os) p (Mark Close ∷ ps) = by (make.closed (make.with_argument o p))
  where
    by : (q : Option P) → going_on (closing os q) (λ os next. made_of make os next ps) ≡ after_close make os q ps
    by None = refl
    by (Some q) = refl
jointed make (o ∷ os) p (Mark Comma ∷ ps) = refl
jointed make (o ∷ os) p (Mark Equal ∷ ps) = refl
jointed make (o ∷ os) p (Mark AtMost ∷ ps) = refl
jointed make (o ∷ os) p (Mark AtLeast ∷ ps) = refl
jointed make (o ∷ os) p (Stray ∷ ps) = refl

-- what goes on from a cause has it
goes_wrong : {A B : Type 0} (r : Result A ReadCause) (f : A → Result B ReadCause) (whole : Result B ReadCause) (c : ReadCause) → (r >>= f) ≡ whole → r ≡ Err c → whole ≡ Err c
goes_wrong r f whole c goes fails = sym goes ∙ ap (λ s. s >>= f) fails

goes_well : {A B : Type 0} (r : Result A ReadCause) (f : A → Result B ReadCause) (whole : Result B ReadCause) (x : A) → (r >>= f) ≡ whole → r ≡ Ok x → f x ≡ whole
goes_well r f whole x goes is = sym (ap (λ s. s >>= f) is) ∙ goes

-- where a proposition is expected
pub wrong_head : {P O : Type 0} (make : Making P O) (stack : List O) (ps : List Piece) (whole : Result P ReadCause) (c : ReadCause)
    → made_of make stack wants ps ≡ whole → head_of ps ≡ Err c → whole ≡ Err c
wrong_head make stack ps whole c goes fails = goes_wrong (head_of ps) (λ h. after_head make stack h) whole c (sym (headed make stack ps) ∙ goes) fails

pub right_head : {P O : Type 0} (make : Making P O) (stack : List O) (ps : List Piece) (whole : Result P ReadCause) (h : Beginning × List Piece)
    → made_of make stack wants ps ≡ whole → head_of ps ≡ Ok h → after_head make stack h ≡ whole
right_head make stack ps whole h goes is = goes_well (head_of ps) (λ x. after_head make stack x) whole h (sym (headed make stack ps) ∙ goes) is

-- behind a proposition
pub wrong_joint : {P O : Type 0} (make : Making P O) (stack : List O) (p : P) (ps : List Piece) (whole : Result P ReadCause) (c : ReadCause)
    → made_of make stack (has p) ps ≡ whole → joint_of ps ≡ Err c → whole ≡ Err c
wrong_joint make stack p ps whole c goes fails = goes_wrong (joint_of ps) (λ j. after_joint make stack p j) whole c (sym (jointed make stack p ps) ∙ goes) fails

pub right_joint : {P O : Type 0} (make : Making P O) (stack : List O) (p : P) (ps : List Piece) (whole : Result P ReadCause) (j : Joint × List Piece)
    → made_of make stack (has p) ps ≡ whole → joint_of ps ≡ Ok j → after_joint make stack p j ≡ whole
right_joint make stack p ps whole j goes is = goes_well (joint_of ps) (λ x. after_joint make stack p x) whole j (sym (jointed make stack p ps) ∙ goes) is

-- a beginning takes a token at least
open_left : (ps rest : List Piece) → past_open ps ≡ Ok rest → length rest < length ps
open_left [] rest e = absurd (cc e)
open_left (Word word ∷ ps) rest e = absurd (cc e)
open_left (Number number ∷ ps) rest e = absurd (cc e)
open_left (Mark Plus ∷ ps) rest e = absurd (cc e)
open_left (Mark Minus ∷ ps) rest e = absurd (cc e)
open_left (Mark Open ∷ ps) rest e = let same : ps ≡ rest = cc e in omega (arith, ap length same)
open_left (Mark Close ∷ ps) rest e = absurd (cc e)
open_left (Mark Comma ∷ ps) rest e = absurd (cc e)
open_left (Mark Equal ∷ ps) rest e = absurd (cc e)
open_left (Mark AtMost ∷ ps) rest e = absurd (cc e)
open_left (Mark AtLeast ∷ ps) rest e = absurd (cc e)
open_left (Stray ∷ ps) rest e = absurd (cc e)

comma_left : (ps rest : List Piece) → past_comma ps ≡ Ok rest → length rest < length ps
comma_left [] rest e = absurd (cc e)
comma_left (Word word ∷ ps) rest e = absurd (cc e)
comma_left (Number number ∷ ps) rest e = absurd (cc e)
comma_left (Mark Plus ∷ ps) rest e = absurd (cc e)
comma_left (Mark Minus ∷ ps) rest e = absurd (cc e)
comma_left (Mark Open ∷ ps) rest e = absurd (cc e)
comma_left (Mark Close ∷ ps) rest e = absurd (cc e)
comma_left (Mark Comma ∷ ps) rest e = let same : ps ≡ rest = cc e in omega (arith, ap length same)
comma_left (Mark Equal ∷ ps) rest e = absurd (cc e)
comma_left (Mark AtMost ∷ ps) rest e = absurd (cc e)
comma_left (Mark AtLeast ∷ ps) rest e = absurd (cc e)
comma_left (Stray ∷ ps) rest e = absurd (cc e)

digits_left : (ps : List Piece) (x : List ℕ × List Piece) → digits_of ps ≡ Ok x → length x.1 < length ps
digits_left [] x e = absurd (cc e)
digits_left (Word word ∷ ps) x e = absurd (cc e)
digits_left (Number (Whole digits) ∷ ps) x e =
    let read : List ℕ × List Piece = (digits, ps) in
    let same : read ≡ x = cc e in
    omega (arith, ap (λ (y : List ℕ × List Piece). length y.1) same)
digits_left (Number (Fraction over under) ∷ ps) x e = absurd (cc e)
digits_left (Number (Decimal digits places) ∷ ps) x e = absurd (cc e)
digits_left (Mark symbol ∷ ps) x e = absurd (cc e)
digits_left (Stray ∷ ps) x e = absurd (cc e)

opened_left : (w : OperatorWord) (ps : List Piece) (x : Operator × List Piece) → opened_of w ps ≡ Ok x → length x.1 ≤ length ps
opened_left (plain o) ps x e =
    let read : Operator × List Piece = (o, ps) in
    let same : read ≡ x = cc e in
    omega (arith, ap (λ (y : Operator × List Piece). length y.1) same)
opened_left (counting c) ps x e =
    let d = bind_ok (digits_of ps) (λ digits. (past_comma digits.1 >>= λ rest. Ok (counted c digits.0, rest))) x e in
    let r = bind_ok (past_comma d.0.1) (λ rest. Ok (counted c d.0.0, rest)) x d.2 in
    let read : Operator × List Piece = (counted c d.0.0, r.0) in
    let same : read ≡ x = cc r.2 in
    omega (arith, ap (λ (y : Operator × List Piece). length y.1) same, digits_left ps d.0 d.1, comma_left d.0.1 r.0 r.1)

opening_left : (w : OperatorWord) (ps : List Piece) (x : Operator × List Piece) → opening_of w ps ≡ Ok x → length x.1 < length ps
opening_left w ps x e =
    let r = bind_ok (past_open ps) (λ rest. opened_of w rest) x e in
    omega (arith, open_left ps r.0 r.1, opened_left w r.0 x r.2)

in_left : (word : List ℕ) (first : Option OperatorWord) (ps : List Piece) (h : Beginning × List Piece) → head_in word first ps ≡ Ok h → length h.1 ≤ length ps
in_left word (Some w) ps h e =
    let o = bind_ok (opening_of w ps) (λ o. Ok (of_operator o.0, o.1)) h e in
    let read : Beginning × List Piece = (of_operator o.0.0, o.0.1) in
    let same : read ≡ h = cc o.2 in
    omega (arith, ap (λ (y : Beginning × List Piece). length y.1) same, opening_left w ps o.0 o.1)
in_left word None ps h e =
    let read : Beginning × List Piece = (of_name word, ps) in
    let same : read ≡ h = guard_ok (is_reserved word) cause.Form read h e in
    omega (arith, ap (λ (y : Beginning × List Piece). length y.1) same)

pub head_left : (ps : List Piece) (h : Beginning × List Piece) → head_of ps ≡ Ok h → length h.1 < length ps
head_left [] h e = absurd (cc e)
head_left (Word word ∷ ps) h e = omega (arith, in_left word (operator_of word) ps h e)
head_left (Number number ∷ ps) h e = absurd (cc e)
head_left (Mark symbol ∷ ps) h e = absurd (cc e)
head_left (Stray ∷ ps) h e = absurd (cc e)

-- a comma or a closing parenthesis is a token
joint_left : (ps : List Piece) (j : Joint × List Piece) → joint_of ps ≡ Ok j → (j.0 ≡ End → ⊥) → length j.1 < length ps
joint_left [] j e goes =
    let read : Joint × List Piece = (End, []) in
    let same : read ≡ j = cc e in
    absurd (goes (sym (ap (λ (y : Joint × List Piece). y.0) same)))
joint_left (Word word ∷ ps) j e goes = absurd (cc e)
joint_left (Number number ∷ ps) j e goes = absurd (cc e)
joint_left (Mark Plus ∷ ps) j e goes = absurd (cc e)
joint_left (Mark Minus ∷ ps) j e goes = absurd (cc e)
joint_left (Mark Open ∷ ps) j e goes = absurd (cc e)
joint_left (Mark Close ∷ ps) j e goes =
    let read : Joint × List Piece = (Closes, ps) in
    let same : read ≡ j = cc e in
    omega (arith, ap (λ (y : Joint × List Piece). length y.1) same)
joint_left (Mark Comma ∷ ps) j e goes =
    let read : Joint × List Piece = (Further, ps) in
    let same : read ≡ j = cc e in
    omega (arith, ap (λ (y : Joint × List Piece). length y.1) same)
joint_left (Mark Equal ∷ ps) j e goes = absurd (cc e)
joint_left (Mark AtMost ∷ ps) j e goes = absurd (cc e)
joint_left (Mark AtLeast ∷ ps) j e goes = absurd (cc e)
joint_left (Stray ∷ ps) j e goes = absurd (cc e)

pub further_left : (ps qs : List Piece) → joint_of ps ≡ Ok (Further, qs) → length qs < length ps
further_left ps qs e = joint_left ps (Further, qs) e (λ same. absurd (cc same))

pub closes_left : (ps qs : List Piece) → joint_of ps ≡ Ok (Closes, qs) → length qs < length ps
closes_left ps qs e = joint_left ps (Closes, qs) e (λ same. absurd (cc same))

-- a proposition is expected, or this one is read
abbrev pub place_of : {P : Type 0} → Option P → Place P
place_of None = wants
place_of (Some p) = has p

-- the open operators, the innermost first, where it is stored last
abbrev pub inward : {X Y : Type 0} → (X → Y) → List X → List Y
inward view frames = map view (reverse frames)

pub pushed_inward : {X Y : Type 0} (view : X → Y) (frames more : List X) (x : X) → more ≡ frames ++ x ∷ [] → inward view more ≡ view x ∷ inward view frames
pushed_inward view frames more x e = ap (inward view) e ∙ ap (map view) (reverse-append frames (x ∷ []))
