-- One turn after the other of reading a proposition.
use Rattle.std.proofs.Common.{◌≡◌, ℕ, Bool, true, false, List, [], ◌∷◌, Option, Some, None, Result, Ok, Err, if◌then◌else◌, refl, sym, ◌∙◌}
use Rattle.gdp_grammar.specs.declared.cause.ReadCause.{ReadCause}
use Rattle.gdp_grammar.specs.declared.cause.ReadCause.TheVariants as cause
use Rattle.gdp_grammar.specs.declared.symbol.Symbol.TheVariants.{Plus, Minus, Open, Close, Comma, Equal, AtMost, AtLeast}
use Rattle.text_grammar.specs.Outcomes.{◌>>=◌}
use Rattle.gdp_grammar.specs.Keywords.{is_reserved}
use Rattle.gdp_grammar.specs.Numerals.{Whole, Fraction, Decimal}
use Rattle.gdp_grammar.specs.PropReading.{Making, OperatorWord, plain, counting, operator_of, wants, opens, counts, parts, has, after_word, on, going_on, made_of}
use Rattle.gdp_grammar.specs.PropTexts.{Counting, counted}
use Rattle.gdp_grammar.specs.Tokens.{Piece, Word, Number, Mark, Stray}
use Rattle.prop_reader.specs.steps.Heads.{Beginning, of_name, of_operator, past_open, past_comma, opened_of, opening_of, head_in, head_of}

-- what is made after a beginning
abbrev pub after_head : {P O : Type 0} → Making P O → List O → Beginning × List Piece → Result P ReadCause
after_head make stack (of_name name, ps) = made_of make stack (has (make.of_name name)) ps
after_head make stack (of_operator o, ps) = made_of make (make.opened o ∷ stack) wants ps

-- behind the digits
after_digits : {P O : Type 0} (make : Making P O) (stack : List O) (c : Counting) (digits : List ℕ) (ps : List Piece)
    → made_of make stack (parts (counted c digits)) ps ≡ (past_comma ps >>= λ rest. made_of make (make.opened (counted c digits) ∷ stack) wants rest)
after_digits make [] c digits [] = refl
after_digits make (s ∷ ss) c digits [] = refl
after_digits make stack c digits (Word word ∷ ps) = refl
after_digits make stack c digits (Number number ∷ ps) = refl
after_digits make stack c digits (Mark Plus ∷ ps) = refl
after_digits make stack c digits (Mark Minus ∷ ps) = refl
after_digits make stack c digits (Mark Open ∷ ps) = refl
after_digits make stack c digits (Mark Close ∷ ps) = refl
after_digits make stack c digits (Mark Comma ∷ ps) = refl
after_digits make stack c digits (Mark Equal ∷ ps) = refl
after_digits make stack c digits (Mark AtMost ∷ ps) = refl
after_digits make stack c digits (Mark AtLeast ∷ ps) = refl
after_digits make stack c digits (Stray ∷ ps) = refl

-- one bind after another
binds : {A B C : Type 0} (r : Result A ReadCause) (f : A → Result B ReadCause) (g : B → Result C ReadCause) → ((r >>= f) >>= g) ≡ (r >>= λ x. (f x >>= g))
binds (Ok x) f g = refl
binds (Err c) f g = refl

-- behind the parenthesis of a counting operator
after_counting : {P O : Type 0} (make : Making P O) (stack : List O) (c : Counting) (ps : List Piece)
    → made_of make stack (counts c) ps ≡ (opened_of (counting c) ps >>= λ o. made_of make (make.opened o.0 ∷ stack) wants o.1)
after_counting make [] c [] = refl
after_counting make (s ∷ ss) c [] = refl
after_counting make stack c (Word word ∷ ps) = refl
after_counting make stack c (Number (Whole digits) ∷ ps) =
    after_digits make stack c digits ps
    ∙ sym (binds (past_comma ps) (λ rest. Ok (counted c digits, rest)) (λ o. made_of make (make.opened o.0 ∷ stack) wants o.1))
after_counting make stack c (Number (Fraction over under) ∷ ps) = refl
after_counting make stack c (Number (Decimal digits places) ∷ ps) = refl
after_counting make stack c (Mark symbol ∷ ps) = refl
after_counting make stack c (Stray ∷ ps) = refl

-- what is made behind the parenthesis of an operator
abbrev after_word_open : {P O : Type 0} → Making P O → List O → OperatorWord → List Piece → Result P ReadCause
after_word_open make stack (plain o) ps = made_of make (make.opened o ∷ stack) wants ps
after_word_open make stack (counting c) ps = made_of make stack (counts c) ps

word_open : {P O : Type 0} (make : Making P O) (stack : List O) (w : OperatorWord) (ps : List Piece)
    → after_word_open make stack w ps ≡ (opened_of w ps >>= λ o. made_of make (make.opened o.0 ∷ stack) wants o.1)
word_open make stack (plain o) ps = refl
word_open make stack (counting c) ps = after_counting make stack c ps

behind_word : {P O : Type 0} (make : Making P O) (stack : List O) (w : OperatorWord) (ps : List Piece)
    → made_of make stack (opens w) ps ≡ (past_open ps >>= λ rest. after_word_open make stack w rest)
behind_word make [] (plain o) [] = refl
behind_word make (s ∷ ss) (plain o) [] = refl
behind_word make stack (plain o) (Word word ∷ ps) = refl
behind_word make stack (plain o) (Number number ∷ ps) = refl
behind_word make stack (plain o) (Mark Plus ∷ ps) = refl
behind_word make stack (plain o) (Mark Minus ∷ ps) = refl
behind_word make stack (plain o) (Mark Open ∷ ps) = refl
behind_word make stack (plain o) (Mark Close ∷ ps) = refl
behind_word make stack (plain o) (Mark Comma ∷ ps) = refl
behind_word make stack (plain o) (Mark Equal ∷ ps) = refl
behind_word make stack (plain o) (Mark AtMost ∷ ps) = refl
behind_word make stack (plain o) (Mark AtLeast ∷ ps) = refl
behind_word make stack (plain o) (Stray ∷ ps) = refl
behind_word make [] (counting c) [] = refl
behind_word make (s ∷ ss) (counting c) [] = refl
behind_word make stack (counting c) (Word word ∷ ps) = refl
behind_word make stack (counting c) (Number number ∷ ps) = refl
behind_word make stack (counting c) (Mark Plus ∷ ps) = refl
behind_word make stack (counting c) (Mark Minus ∷ ps) = refl
behind_word make stack (counting c) (Mark Open ∷ ps) = refl
behind_word make stack (counting c) (Mark Close ∷ ps) = refl
behind_word make stack (counting c) (Mark Comma ∷ ps) = refl
behind_word make stack (counting c) (Mark Equal ∷ ps) = refl
behind_word make stack (counting c) (Mark AtMost ∷ ps) = refl
behind_word make stack (counting c) (Mark AtLeast ∷ ps) = refl
behind_word make stack (counting c) (Stray ∷ ps) = refl

after_opened : {P O : Type 0} (make : Making P O) (stack : List O) (w : OperatorWord) (ps : List Piece)
    → made_of make stack (opens w) ps ≡ (opening_of w ps >>= λ o. made_of make (make.opened o.0 ∷ stack) wants o.1)
after_opened {P} {O} make stack w ps =
    behind_word make stack w ps
    ∙ bind_each (past_open ps) (λ rest. after_word_open make stack w rest) (λ rest. (opened_of w rest >>= λ o. made_of make (make.opened o.0 ∷ stack) wants o.1)) (λ rest. word_open make stack w rest)
    ∙ sym (binds (past_open ps) (λ rest. opened_of w rest) (λ o. made_of make (make.opened o.0 ∷ stack) wants o.1))
  where
    bind_each : (r : Result (List Piece) ReadCause) (f g : List Piece → Result P ReadCause) → ((x : List Piece) → f x ≡ g x) → (r >>= f) ≡ (r >>= g)
    bind_each (Ok x) f g each = each x
    bind_each (Err c) f g each = refl

-- behind a word
behind_first : {P O : Type 0} (make : Making P O) (stack : List O) (word : List ℕ) (first : Option OperatorWord) (ps : List Piece)
    → going_on (on stack (after_word make word first)) (λ os next. made_of make os next ps) ≡ (head_in word first ps >>= λ h. after_head make stack h)
behind_first make stack word (Some w) ps =
    after_opened make stack w ps
    ∙ sym (binds (opening_of w ps) (λ o. Ok (of_operator o.0, o.1)) (λ h. after_head make stack h))
behind_first {P} {O} make stack word None ps = by (is_reserved word)
  where
    by : (b : Bool) → going_on (on stack (if b then None else Some (has (make.of_name word)))) (λ os next. made_of make os next ps) ≡ ((if b then Err cause.Form else Ok (of_name word, ps)) >>= λ h. after_head make stack h)
    by true = refl
    by false = refl

-- where a proposition is expected, its beginning comes
pub headed : {P O : Type 0} (make : Making P O) (stack : List O) (ps : List Piece)
    → made_of make stack wants ps ≡ (head_of ps >>= λ h. after_head make stack h)
headed make [] [] = refl
headed make (s ∷ ss) [] = refl
headed make stack (Word word ∷ ps) = behind_first make stack word (operator_of word) ps
headed make stack (Number number ∷ ps) = refl
headed make stack (Mark symbol ∷ ps) = refl
headed make stack (Stray ∷ ps) = refl
