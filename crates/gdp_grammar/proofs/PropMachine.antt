-- The machine reads exactly the tokens that a proposition is written with.
use Rattle.std.proofs.Common.{◌≡◌, ℕ, suc, Bool, true, false, ◌&&◌, ◌||◌, not, if◌then◌else◌, List, [], ◌∷◌, ◌++◌, length, codes, Option, None, Some, Result, Ok, Err, refl, ap, sym, subst, ◌∙◌}
use Rattle.std.specs.Prelude.{bytes_eq}
use Rattle.std.proofs.lemmas.List.{append_assoc, append-nil}
use Rattle.std.proofs.lemmas.Slice.Eq.{bytes_eq-Decides}
use Rattle.model_tree.specs.Names.{reserved_words}
use Rattle.propositions.specs.Tree.{implies, equivalent, xor}
use Rattle.gdp_grammar.specs.declared.cause.ReadCause.{ReadCause}
use Rattle.gdp_grammar.specs.declared.cause.ReadCause.TheVariants as cause
use Rattle.gdp_grammar.specs.declared.symbol.Symbol.TheVariants.{Open, Close, Comma}
use Rattle.gdp_grammar.specs.Keywords.{is_reserved}
use Rattle.gdp_grammar.specs.Numerals.{Whole}
use Rattle.gdp_grammar.specs.PropTexts.{exactly, at_least, at_most, Operator, negation, pair, all, some, counted, NamedProp, named, applied, NamedProps, no_arguments, argument, pair_word, counting_word, opening, pieces_of, pieces_of_arguments, pieces_of_further, argument_count, takes, is_formed, are_formed}
use Rattle.gdp_grammar.specs.PropReading.{Making, OperatorWord, plain, counting, operator_of, Place, wants, opens, counts, parts, has, after_word, on, closing, step_of, going_on, made_of, arguments, application, by_names, prop_of, PropositionsRead}
use Rattle.gdp_grammar.specs.Tokens.{Piece, Word, Number, Mark}
use Rattle.text_grammar.proofs.Bools.{both, and_true, not_true}

pub neither : (a b : Bool) → (a || b) ≡ false → (a ≡ false) × (b ≡ false)
neither true b e = absurd (cc e)
neither false b e = (refl, e)

-- a word that is not reserved begins no operator
pub begins_none : (word : List ℕ) → is_reserved word ≡ false → operator_of word ≡ None
unfolding reserved_words
begins_none word e =
    let a = neither (bytes_eq word (codes "not")) _ e in
    let b = neither (bytes_eq word (codes "and")) _ a.1 in
    let c = neither (bytes_eq word (codes "or")) _ b.1 in
    let d = neither (bytes_eq word (codes "implies")) _ c.1 in
    let f = neither (bytes_eq word (codes "equivalent")) _ d.1 in
    let g = neither (bytes_eq word (codes "xor")) _ f.1 in
    let h = neither (bytes_eq word (codes "exactly")) _ g.1 in
    let i = neither (bytes_eq word (codes "atleast")) _ h.1 in
    let j = neither (bytes_eq word (codes "atmost")) _ i.1 in
    rw (a.0, b.0, c.0, d.0, f.0, g.0, h.0, i.0, j.0) refl

-- a name is read
pub name_made : {P O : Type 0} (make : Making P O) (stack : List O) (name : List ℕ) (rest : List Piece) → is_reserved name ≡ false
    → made_of make stack wants (Word name ∷ rest) ≡ made_of make stack (has (make.of_name name)) rest
name_made make stack name rest e = rw (begins_none name e, e) refl

-- an operator is opened
pub operator_made : {P O : Type 0} (make : Making P O) (stack : List O) (o : Operator) (rest : List Piece)
    → made_of make stack wants (opening o ++ rest) ≡ made_of make (make.opened o ∷ stack) wants rest
operator_made make stack negation rest = refl
operator_made make stack (pair implies) rest = refl
operator_made make stack (pair equivalent) rest = refl
operator_made make stack (pair xor) rest = refl
operator_made make stack all rest = refl
operator_made make stack some rest = refl
operator_made make stack (counted exactly digits) rest = refl
operator_made make stack (counted at_least digits) rest = refl
operator_made make stack (counted at_most digits) rest = refl

-- the arguments as a list
abbrev pub argument_list : NamedProps → List NamedProp
argument_list no_arguments = []
argument_list (argument p ps) = p ∷ argument_list ps

pub arguments_again : (ps : NamedProps) → arguments (argument_list ps) ≡ ps
arguments_again no_arguments = refl
arguments_again (argument p ps) = ap (λ qs. argument p qs) (arguments_again ps)

pub list_length : (ps : NamedProps) → length (argument_list ps) ≡ argument_count ps
list_length no_arguments = refl
list_length (argument p ps) = ap (λ n. suc n) (list_length ps)

-- what is open
abbrev pub Frames : Type 0
Frames = List (Operator × List NamedProp)

-- reading goes on from an operator that was closed
abbrev pub closed_on : Frames → Option NamedProp → List Piece → Result NamedProp ReadCause
closed_on stack closed rest = going_on (closing stack closed) (λ os next. made_of by_names os next rest)

pub applied_again : (o : Operator) (ps : NamedProps) → takes o (argument_count ps) ≡ true → application (o, argument_list ps) ≡ Some (applied o ps)
applied_again o ps e =
    ap (λ (n : ℕ). if takes o n then Some (applied o (arguments (argument_list ps))) else None) (list_length ps)
    ∙ ap (λ (b : Bool). if b then Some (applied o (arguments (argument_list ps))) else None) e
    ∙ ap (λ (qs : NamedProps). Some (applied o qs)) (arguments_again ps)

pub none_taken : (o : Operator) → takes o 0 ≡ false
none_taken negation = refl
none_taken (pair c) = refl
none_taken all = refl
none_taken some = refl
none_taken (counted c digits) = refl

-- what the tokens of a formed proposition lead to
mutual
  pub prop_made : (p : NamedProp) (stack : Frames) (rest : List Piece) → is_formed p ≡ true → made_of by_names stack wants (pieces_of p ++ rest) ≡ made_of by_names stack (has p) rest
  prop_made (named name) stack rest e = name_made by_names stack name rest (not_true (is_reserved name) e)
  prop_made (applied o ps) stack rest e =
      let h = both (takes o (argument_count ps)) (are_formed ps) e in
      ap (λ ts. made_of by_names stack wants ts) (append_assoc (opening o) (pieces_of_arguments ps ++ Mark Close ∷ []) rest)
      ∙ operator_made by_names stack o ((pieces_of_arguments ps ++ Mark Close ∷ []) ++ rest)
      ∙ ap (λ ts. made_of by_names ((o, []) ∷ stack) wants ts) (append_assoc (pieces_of_arguments ps) (Mark Close ∷ []) rest)
      ∙ arguments_made ps o stack rest h.0 h.1

  pub arguments_made : (ps : NamedProps) (o : Operator) (stack : Frames) (rest : List Piece) → takes o (argument_count ps) ≡ true → are_formed ps ≡ true
      → made_of by_names ((o, []) ∷ stack) wants (pieces_of_arguments ps ++ Mark Close ∷ rest) ≡ made_of by_names stack (has (applied o ps)) rest
  arguments_made no_arguments o stack rest e f = absurd (cc (e, none_taken o))
  arguments_made (argument p ps) o stack rest e f =
      let h = both (is_formed p) (are_formed ps) f in
      ap (λ ts. made_of by_names ((o, []) ∷ stack) wants ts) (append_assoc (pieces_of p) (pieces_of_further ps) (Mark Close ∷ rest))
      ∙ prop_made p ((o, []) ∷ stack) (pieces_of_further ps ++ Mark Close ∷ rest) h.0
      ∙ further_made ps o [] p stack rest h.1
      ∙ ap (λ (closed : Option NamedProp). closed_on stack closed rest) (applied_again o (argument p ps) e)

  pub further_made : (ps : NamedProps) (o : Operator) (front : List NamedProp) (p : NamedProp) (stack : Frames) (rest : List Piece) → are_formed ps ≡ true
      → made_of by_names ((o, front) ∷ stack) (has p) (pieces_of_further ps ++ Mark Close ∷ rest) ≡ closed_on stack (application (o, front ++ p ∷ argument_list ps)) rest
  further_made no_arguments o front p stack rest f = refl
  further_made (argument q qs) o front p stack rest f =
      let h = both (is_formed q) (are_formed qs) f in
      let more : List NamedProp = front ++ p ∷ [] in
      ap (λ ts. made_of by_names ((o, more) ∷ stack) wants ts) (append_assoc (pieces_of q) (pieces_of_further qs) (Mark Close ∷ rest))
      ∙ prop_made q ((o, more) ∷ stack) (pieces_of_further qs ++ Mark Close ∷ rest) h.0
      ∙ further_made qs o more q stack rest h.1
      ∙ ap (λ (ps : List NamedProp). closed_on stack (application (o, ps)) rest) (append_assoc front (p ∷ []) (q ∷ argument_list qs))

-- the word that an operator begins with
abbrev pub first_word : Operator → List ℕ
first_word negation = codes "not"
first_word (pair c) = pair_word c
first_word all = codes "and"
first_word some = codes "or"
first_word (counted c digits) = counting_word c

-- an operator without a number
abbrev pub is_plain : Operator → Bool
is_plain (counted c digits) = false
is_plain o = true

pub plain_opening : (o : Operator) → is_plain o ≡ true → opening o ≡ Word (first_word o) ∷ Mark Open ∷ []
plain_opening negation e = refl
plain_opening (pair c) e = refl
plain_opening all e = refl
plain_opening some e = refl
plain_opening (counted c digits) e = absurd (cc e)

-- the word is that of the operator that it begins
abbrev pub Begins : List ℕ → Option OperatorWord → Type 0
Begins word None = Unit {0}
Begins word (Some (plain o)) = (is_plain o ≡ true) × (word ≡ first_word o)
Begins word (Some (counting c)) = word ≡ counting_word c

pub begins_either : (word other : List ℕ) (x y : Option OperatorWord) → (word ≡ other → Begins word x) → Begins word y → Begins word (if bytes_eq word other then x else y)
begins_either word other x y p q = go (bytes_eq word other) (λ e. p ((bytes_eq-Decides word other).0 e))
  where
    go : (b : Bool) → (b ≡ true → Begins word x) → Begins word (if b then x else y)
    go true f = f refl
    go false f = q

pub begins_as_told : (word : List ℕ) → Begins word (operator_of word)
begins_as_told word =
    begins_either word (codes "not") _ _ (λ e. (refl, e))
    (begins_either word (codes "and") _ _ (λ e. (refl, e))
    (begins_either word (codes "or") _ _ (λ e. (refl, e))
    (begins_either word (codes "implies") _ _ (λ e. (refl, e))
    (begins_either word (codes "equivalent") _ _ (λ e. (refl, e))
    (begins_either word (codes "xor") _ _ (λ e. (refl, e))
    (begins_either word (codes "exactly") _ _ (λ e. e)
    (begins_either word (codes "atleast") _ _ (λ e. e)
    (begins_either word (codes "atmost") _ _ (λ e. e) tt))))))))

-- arguments with a comma behind each
abbrev pub trailing : List NamedProp → List Piece
trailing [] = []
trailing (p ∷ ps) = pieces_of p ++ Mark Comma ∷ trailing ps

-- the tokens that led to what is open
abbrev pub frame_pieces : Frames → List Piece
frame_pieces [] = []
frame_pieces (o ∷ os) = frame_pieces os ++ (opening o.0 ++ trailing o.1)

-- and those that led on to the place
abbrev pub place_pieces : Place NamedProp → List Piece
place_pieces wants = []
place_pieces (opens (plain o)) = Word (first_word o) ∷ []
place_pieces (opens (counting c)) = Word (counting_word c) ∷ []
place_pieces (counts c) = Word (counting_word c) ∷ Mark Open ∷ []
place_pieces (parts (counted c digits)) = Word (counting_word c) ∷ Mark Open ∷ Number (Whole digits) ∷ []
place_pieces (parts o) = []
place_pieces (has p) = pieces_of p

abbrev pub spelled : Frames → Place NamedProp → List Piece
spelled stack place = frame_pieces stack ++ place_pieces place

-- a place that reading leads to
abbrev pub is_place : Place NamedProp → Bool
is_place (opens (plain o)) = is_plain o
is_place (parts o) = not (is_plain o)
is_place (has p) = is_formed p
is_place place = true

abbrev pub are_frames : Frames → Bool
are_frames [] = true
are_frames (o ∷ os) = are_formed (arguments o.1) && are_frames os

-- reading led here by these tokens
pub record Came (stack : Frames) (place : Place NamedProp) (ts : List Piece) : Type 0 where
  pub frames : are_frames stack ≡ true
  pub fair : is_place place ≡ true
  pub spells : spelled stack place ≡ ts

pub trailing_more : (ps : List NamedProp) (p : NamedProp) → trailing (ps ++ p ∷ []) ≡ trailing ps ++ (pieces_of p ++ Mark Comma ∷ [])
trailing_more [] p = refl
trailing_more (q ∷ qs) p =
    ap (λ ts. pieces_of q ++ Mark Comma ∷ ts) (trailing_more qs p) ∙ sym (append_assoc (pieces_of q) (Mark Comma ∷ trailing qs) (pieces_of p ++ Mark Comma ∷ []))

pub further_comma : (qs : List NamedProp) (p : NamedProp) → pieces_of_further (arguments (qs ++ p ∷ [])) ≡ Mark Comma ∷ pieces_of_arguments (arguments (qs ++ p ∷ []))
further_comma [] p = refl
further_comma (q ∷ qs) p = refl

pub parted : (ps : List NamedProp) (p : NamedProp) → pieces_of_arguments (arguments (ps ++ p ∷ [])) ≡ trailing ps ++ pieces_of p
parted [] p = append-nil (pieces_of p)
parted (q ∷ qs) p =
    ap (λ ts. pieces_of q ++ ts) (further_comma qs p ∙ ap (λ ts. Mark Comma ∷ ts) (parted qs p))
    ∙ sym (append_assoc (pieces_of q) (Mark Comma ∷ trailing qs) (pieces_of p))

pub formed_more : (ps : List NamedProp) (p : NamedProp) → are_formed (arguments ps) ≡ true → is_formed p ≡ true → are_formed (arguments (ps ++ p ∷ [])) ≡ true
formed_more [] p e f = and_true (is_formed p) true f refl
formed_more (q ∷ qs) p e f =
    let h = both (is_formed q) (are_formed (arguments qs)) e in and_true (is_formed q) (are_formed (arguments (qs ++ p ∷ []))) h.0 (formed_more qs p h.1 f)

pub count_of : (ps : List NamedProp) → argument_count (arguments ps) ≡ length ps
count_of [] = refl
count_of (p ∷ ps) = ap (λ n. suc n) (count_of ps)

-- where one token led
abbrev pub CameOn : List Piece → Frames × Place NamedProp → Type 0
CameOn ts at = Came at.0 at.1 ts

pub came_on : (ts : List Piece) (stack : Frames) (place : Place NamedProp) (at : Frames × Place NamedProp) → Some (stack, place) ≡ Some at → Came stack place ts → CameOn ts at
came_on ts stack place at e came = let same : (stack, place) ≡ at = cc e in subst (λ (x : Frames × Place NamedProp). CameOn ts x) same came

pub word_came : (word : List ℕ) (stack : Frames) (before : List Piece) (o : Option OperatorWord) (at : Frames × Place NamedProp) → Begins word o → on stack (after_word by_names word o) ≡ Some at
    → are_frames stack ≡ true → frame_pieces stack ≡ before → CameOn (before ++ Word word ∷ []) at
word_came word stack before (Some (plain o)) at b e f s =
    came_on (before ++ Word word ∷ []) stack (opens (plain o)) at e
    (record { frames = f; fair = b.0; spells = ap (λ ts. ts ++ Word (first_word o) ∷ []) s ∙ ap (λ w. before ++ Word w ∷ []) (sym b.1) })
word_came word stack before (Some (counting c)) at b e f s =
    came_on (before ++ Word word ∷ []) stack (opens (counting c)) at e
    (record { frames = f; fair = refl; spells = ap (λ ts. ts ++ Word (counting_word c) ∷ []) s ∙ ap (λ w. before ++ Word w ∷ []) (sym b) })
word_came word stack before None at b e f s = go (is_reserved word) refl e
  where
    go : (r : Bool) → is_reserved word ≡ r → on stack (if r then None else Some (has (named word))) ≡ Some at → CameOn (before ++ Word word ∷ []) at
    go true q e = absurd (cc e)
    go false q e =
        came_on (before ++ Word word ∷ []) stack (has (named word)) at e
        (record { frames = f; fair = ap not q; spells = ap (λ ts. ts ++ Word word ∷ []) s })

pub step_came : (stack : Frames) (place : Place NamedProp) (t : Piece) (at : Frames × Place NamedProp) → step_of by_names stack place t ≡ Some at → are_frames stack ≡ true → is_place place ≡ true
    → CameOn (spelled stack place ++ t ∷ []) at
step_came stack wants (Word word) at e f g = word_came word stack (spelled stack wants) (operator_of word) at (begins_as_told word) e f (sym (append-nil (frame_pieces stack)))
step_came stack (opens (plain o)) (Mark Open) at e f g =
    came_on (spelled stack (opens (plain o)) ++ Mark Open ∷ []) ((o, []) ∷ stack) wants at e
    (record {
      frames = f;
      fair = refl;
      spells =
          append-nil (frame_pieces stack ++ (opening o ++ []))
          ∙ ap (λ ts. frame_pieces stack ++ ts) (append-nil (opening o) ∙ plain_opening o g)
          ∙ sym (append_assoc (frame_pieces stack) (Word (first_word o) ∷ []) (Mark Open ∷ []));
    })
step_came stack (opens (counting c)) (Mark Open) at e f g =
    came_on (spelled stack (opens (counting c)) ++ Mark Open ∷ []) stack (counts c) at e
    (record { frames = f; fair = refl; spells = sym (append_assoc (frame_pieces stack) (Word (counting_word c) ∷ []) (Mark Open ∷ [])) })
step_came stack (counts c) (Number (Whole digits)) at e f g =
    came_on (spelled stack (counts c) ++ Number (Whole digits) ∷ []) stack (parts (counted c digits)) at e
    (record { frames = f; fair = refl; spells = sym (append_assoc (frame_pieces stack) (Word (counting_word c) ∷ Mark Open ∷ []) (Number (Whole digits) ∷ [])) })
step_came stack (parts (counted c digits)) (Mark Comma) at e f g =
    came_on (spelled stack (parts (counted c digits)) ++ Mark Comma ∷ []) ((counted c digits, []) ∷ stack) wants at e
    (record {
      frames = f;
      fair = refl;
      spells =
          append-nil (frame_pieces stack ++ (opening (counted c digits) ++ []))
          ∙ sym (append_assoc (frame_pieces stack) (Word (counting_word c) ∷ Mark Open ∷ Number (Whole digits) ∷ []) (Mark Comma ∷ []));
    })
step_came (o ∷ os) (has p) (Mark Comma) at e f g =
    let h = both (are_formed (arguments o.1)) (are_frames os) f in
    came_on (spelled (o ∷ os) (has p) ++ Mark Comma ∷ []) ((o.0, o.1 ++ p ∷ []) ∷ os) wants at e
    (record {
      frames = and_true (are_formed (arguments (o.1 ++ p ∷ []))) (are_frames os) (formed_more o.1 p h.0 g) h.1;
      fair = refl;
      spells =
          append-nil (frame_pieces os ++ (opening o.0 ++ trailing (o.1 ++ p ∷ [])))
          ∙ ap (λ ts. frame_pieces os ++ (opening o.0 ++ ts)) (trailing_more o.1 p)
          ∙ comma_moved (frame_pieces os) (opening o.0) (trailing o.1) (pieces_of p) (Mark Comma ∷ []);
    })
  where
    comma_moved : (a b c d e : List Piece) → a ++ (b ++ (c ++ (d ++ e))) ≡ ((a ++ (b ++ c)) ++ d) ++ e
    comma_moved a b c d e = simp append_assoc
step_came (o ∷ os) (has p) (Mark Close) at e f g = go (takes o.0 (length (o.1 ++ p ∷ []))) refl e
  where
    close_moved : (a b c d e : List Piece) → a ++ (b ++ ((c ++ d) ++ e)) ≡ ((a ++ (b ++ c)) ++ d) ++ e
    close_moved a b c d e = simp append_assoc

    go : (b : Bool) → takes o.0 (length (o.1 ++ p ∷ [])) ≡ b → closing os (if b then Some (applied o.0 (arguments (o.1 ++ p ∷ []))) else None) ≡ Some at → CameOn (spelled (o ∷ os) (has p) ++ Mark Close ∷ []) at
    go false q e = absurd (cc e)
    go true q e =
        let h = both (are_formed (arguments o.1)) (are_frames os) f in
        came_on (spelled (o ∷ os) (has p) ++ Mark Close ∷ []) os (has (applied o.0 (arguments (o.1 ++ p ∷ [])))) at e
        (record {
          frames = h.1;
          fair = and_true (takes o.0 (argument_count (arguments (o.1 ++ p ∷ [])))) (are_formed (arguments (o.1 ++ p ∷ []))) (ap (takes o.0) (count_of (o.1 ++ p ∷ [])) ∙ q) (formed_more o.1 p h.0 g);
          spells =
              ap (λ ts. frame_pieces os ++ (opening o.0 ++ (ts ++ Mark Close ∷ []))) (parted o.1 p)
              ∙ close_moved (frame_pieces os) (opening o.0) (trailing o.1) (pieces_of p) (Mark Close ∷ []);
        })
step_came stack place t at e f g = absurd (cc)

-- what was read is the tokens of the proposition
pub made_back : (ts : List Piece) (stack : Frames) (place : Place NamedProp) (p : NamedProp) → made_of by_names stack place ts ≡ Ok p → are_frames stack ≡ true → is_place place ≡ true
    → (spelled stack place ++ ts ≡ pieces_of p) × (is_formed p ≡ true)
made_back [] [] (has q) p e f g = let same : q ≡ p = cc e in (append-nil (pieces_of q) ∙ ap pieces_of same, ap is_formed (sym same) ∙ g)
made_back [] stack place p e f g = absurd (cc e)
made_back (t ∷ ts) stack place p e f g = go (step_of by_names stack place t) refl e (λ os next. made_back ts os next p)
  where
    go : (o : Option (Frames × Place NamedProp)) → step_of by_names stack place t ≡ o → going_on o (λ os next. made_of by_names os next ts) ≡ Ok p
        → ((os : Frames) (next : Place NamedProp) → made_of by_names os next ts ≡ Ok p → are_frames os ≡ true → is_place next ≡ true → (spelled os next ++ ts ≡ pieces_of p) × (is_formed p ≡ true))
        → (spelled stack place ++ t ∷ ts ≡ pieces_of p) × (is_formed p ≡ true)
    go None q e below = absurd (cc e)
    go (Some at) q e below =
        let came : Came at.0 at.1 (spelled stack place ++ t ∷ []) = step_came stack place t at q f g in
        let h = below at.0 at.1 e came.frames came.fair in
        (sym (append_assoc (spelled stack place) (t ∷ []) ts) ∙ ap (λ us. us ++ ts) (sym came.spells) ∙ h.0, h.1)

-- every failure has the cause Form
pub made_refused : {P O : Type 0} (make : Making P O) (ts : List Piece) (stack : List O) (place : Place P) (c : ReadCause) → made_of make stack place ts ≡ Err c → c ≡ cause.Form
made_refused make [] [] (has p) c e = absurd (cc e)
made_refused make [] stack place c e = cc e
made_refused {P} {O} make (t ∷ ts) stack place c e = go (step_of make stack place t) e (λ os next. made_refused make ts os next c)
  where
    go : (o : Option (List O × Place P)) → going_on o (λ os next. made_of make os next ts) ≡ Err c → ((os : List O) (next : Place P) → made_of make os next ts ≡ Err c → c ≡ cause.Form) → c ≡ cause.Form
    go None e below = cc e
    go (Some at) e below = below at.0 at.1 e

-- the tokens of a formed proposition are read as it
pub prop_again : (p : NamedProp) → is_formed p ≡ true → prop_of (pieces_of p) ≡ Ok p
unfolding prop_of
prop_again p e = ap (λ ts. made_of by_names [] wants ts) (sym (append-nil (pieces_of p))) ∙ prop_made p [] [] e

pub prop_back : (ts : List Piece) (p : NamedProp) → prop_of ts ≡ Ok p → (ts ≡ pieces_of p) × (is_formed p ≡ true)
unfolding prop_of
prop_back ts p e = made_back ts [] wants p e refl refl

pub propositions_read : PropositionsRead
unfolding prop_of
propositions_read = record {
  read = λ ts p. (prop_back ts p, λ h. ap prop_of h.0 ∙ prop_again p h.1);
  refused = λ ts c e. made_refused by_names ts [] wants c e;
}
