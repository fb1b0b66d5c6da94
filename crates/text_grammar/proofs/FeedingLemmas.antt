-- The lines of a text that comes in pieces.
use Rattle.std.proofs.Common.{◌≡◌, ℕ, Bool, true, false, eqb, ◌&&◌, ◌||◌, List, [], ◌∷◌, ◌++◌, refl, ap, sym, ◌∙◌, inl, inr, arith}
use Rattle.std.specs.Prelude.{flat_map}
use Rattle.std.proofs.lemmas.Bool.{cond-true, cond-false}
use Rattle.std.proofs.lemmas.List.{append_assoc, append-nil}
use Rattle.text_grammar.specs.Feeding.{has_newline, ended_part, left_over, whole_lines, lines_in_pieces, WholeAndLeft, PieceAddsLines, PieceLeavesOver, AnyPieces}
use Rattle.text_grammar.specs.Lines.{lines_of, onto_first}
use Rattle.text_grammar.specs.Bytes.{is_inline, front, rest}
use Rattle.text_grammar.specs.Lines.{without_return}
use Rattle.text_grammar.proofs.Bools.{told}
use Rattle.text_grammar.proofs.BytesLemmas.{front_again, rest_again, front_all, rest_begins}
use Rattle.text_grammar.proofs.LinesLemmas.{some_line, lines_newline, lines_return, lines_other, rest_newline, rest_other, front_newline, front_other, first_line}

-- with a newline, and without one
left_some : (b : ℕ) (bs : List ℕ) → has_newline (b ∷ bs) ≡ true → left_over (b ∷ bs) ≡ left_over bs
left_some b bs e = cond-true (has_newline (b ∷ bs)) _ _ e

left_none : (b : ℕ) (bs : List ℕ) → has_newline (b ∷ bs) ≡ false → left_over (b ∷ bs) ≡ b ∷ bs
left_none b bs e = cond-false (has_newline (b ∷ bs)) _ _ e

ended_some : (b : ℕ) (bs : List ℕ) → has_newline (b ∷ bs) ≡ true → ended_part (b ∷ bs) ≡ b ∷ ended_part bs
ended_some b bs e = cond-true (has_newline (b ∷ bs)) _ _ e

ended_none : (b : ℕ) (bs : List ℕ) → has_newline (b ∷ bs) ≡ false → ended_part (b ∷ bs) ≡ []
ended_none b bs e = cond-false (has_newline (b ∷ bs)) _ _ e

-- a text is what stands up to its last newline, and what follows
parted : (text : List ℕ) → text ≡ ended_part text ++ left_over text
parted [] = refl
parted (b ∷ bs) = elim (told (has_newline (b ∷ bs))) [
  | inl e ↦ ap (λ l. b ∷ l) (parted bs) ∙ ap (λ l. l ++ left_over bs) (sym (ended_some b bs e)) ∙ ap (λ l. ended_part (b ∷ bs) ++ l) (sym (left_some b bs e))
  | inr e ↦ sym (left_none b bs e) ∙ ap (λ l. l ++ left_over (b ∷ bs)) (sym (ended_none b bs e))
]

-- a text of which nothing is left over has a newline, if it is not empty
some_newline : (b : ℕ) (bs : List ℕ) → left_over (b ∷ bs) ≡ [] → has_newline (b ∷ bs) ≡ true
some_newline b bs none = elim (told (has_newline (b ∷ bs))) [
  | inl e ↦ e
  | inr e ↦ absurd (cc (none, left_none b bs e))
]

or_true : (a b : Bool) → a ≡ true → (a || b) ≡ true
or_true a b e = ap (λ x. x || b) e

true_or : (a b : Bool) → b ≡ true → (a || b) ≡ true
true_or true b e = refl
true_or false b e = e

or_other : (a b : Bool) → a ≡ false → (a || b) ≡ true → b ≡ true
or_other true b e t = absurd (cc e)
or_other false b e t = t

-- a newline stays where more follows, and comes where it follows
newline_more : (a b : List ℕ) → has_newline a ≡ true → has_newline (a ++ b) ≡ true
newline_more [] b e = absurd (cc e)
newline_more (x ∷ xs) b e = elim (told (eqb x 10)) [
  | inl n ↦ or_true (eqb x 10) (has_newline (xs ++ b)) n
  | inr n ↦ true_or (eqb x 10) (has_newline (xs ++ b)) (newline_more xs b (or_other (eqb x 10) (has_newline xs) n e))
]

-- nothing is left over of what stands up to the last newline
none_left : (text : List ℕ) → left_over (ended_part text) ≡ []
none_left [] = refl
none_left (b ∷ bs) = elim (told (has_newline (b ∷ bs))) [
  | inl e ↦ ap left_over (ended_some b bs e) ∙ still b bs e (none_left bs)
  | inr e ↦ ap left_over (ended_none b bs e)
]
  where
    kept : (text : List ℕ) → has_newline text ≡ true → has_newline (ended_part text) ≡ true
    kept [] e = absurd (cc e)
    kept (b ∷ bs) e = elim (told (eqb b 10)) [
      | inl n ↦ ap has_newline (ended_some b bs e) ∙ or_true (eqb b 10) (has_newline (ended_part bs)) n
      | inr n ↦ ap has_newline (ended_some b bs e) ∙ true_or (eqb b 10) (has_newline (ended_part bs)) (kept bs (or_other (eqb b 10) (has_newline bs) n e))
    ]

    still : (b : ℕ) (bs : List ℕ) → has_newline (b ∷ bs) ≡ true → left_over (ended_part bs) ≡ [] → left_over (b ∷ ended_part bs) ≡ []
    still b bs e none = elim (told (eqb b 10)) [
      | inl n ↦ left_some b (ended_part bs) (or_true (eqb b 10) (has_newline (ended_part bs)) n) ∙ none
      | inr n ↦ left_some b (ended_part bs) (true_or (eqb b 10) (has_newline (ended_part bs)) (kept bs (or_other (eqb b 10) (has_newline bs) n e))) ∙ none
    ]

-- after a text of which nothing is left over, what is left over is left over of what follows
left_after : (a b : List ℕ) → left_over a ≡ [] → left_over (a ++ b) ≡ left_over b
left_after [] b none = refl
left_after (x ∷ xs) b none =
    let some = some_newline x xs none in
    left_some x (xs ++ b) (newline_more (x ∷ xs) b some) ∙ left_after xs b (sym (left_some x xs some) ∙ none)

ended_after : (a b : List ℕ) → left_over a ≡ [] → ended_part (a ++ b) ≡ a ++ ended_part b
ended_after [] b none = refl
ended_after (x ∷ xs) b none =
    let some = some_newline x xs none in
    ended_some x (xs ++ b) (newline_more (x ∷ xs) b some) ∙ ap (λ l. x ∷ l) (ended_after xs b (sym (left_some x xs some) ∙ none))

-- the lines of two texts, where the first ends with a newline
onto_more : (b : ℕ) (ls line_first : List (List ℕ)) (l : List ℕ) (more : List (List ℕ)) → ls ≡ l ∷ more → onto_first b (ls ++ line_first) ≡ onto_first b ls ++ line_first
onto_more b ls others l more e =
    ap (λ (xs : List (List ℕ)). onto_first b (xs ++ others)) e ∙ ap (λ (xs : List (List ℕ)). onto_first b xs ++ others) (sym e)

joined_at : (x y : ℕ) (ys b : List ℕ) → lines_of (y ∷ ys ++ b) ≡ lines_of (y ∷ ys) ++ lines_of b → lines_of (x ∷ y ∷ (ys ++ b)) ≡ lines_of (x ∷ y ∷ ys) ++ lines_of b
joined_at x y ys b below = elim (told (eqb x 10)) [
  | inl n ↦ lines_newline x (y ∷ (ys ++ b)) n ∙ ap (λ (ls : List (List ℕ)). [] ∷ ls) below ∙ ap (λ (ls : List (List ℕ)). ls ++ lines_of b) (sym (lines_newline x (y ∷ ys) n))
  | inr n ↦ elim (told (eqb y 10 && eqb x 13)) [
    | inl r ↦ lines_return x (y ∷ (ys ++ b)) n r ∙ below ∙ ap (λ (ls : List (List ℕ)). ls ++ lines_of b) (sym (lines_return x (y ∷ ys) n r))
    | inr r ↦
        let first = some_line (y ∷ ys) (omega arith) in
        lines_other x (y ∷ (ys ++ b)) n r ∙ ap (onto_first x) below ∙ onto_more x (lines_of (y ∷ ys)) (lines_of b) first.0 first.1 first.2
        ∙ ap (λ (ls : List (List ℕ)). ls ++ lines_of b) (sym (lines_other x (y ∷ ys) n r))
  ]
]

joined_lines : (a b : List ℕ) → left_over a ≡ [] → lines_of (a ++ b) ≡ lines_of a ++ lines_of b
joined_lines [] b none = refl
joined_lines (x ∷ []) b none = elim (told (eqb x 10)) [
  | inl n ↦ lines_newline x b n ∙ ap (λ (ls : List (List ℕ)). ls ++ lines_of b) (sym (lines_newline x [] n))
  | inr n ↦ absurd (cc (none, left_none x [] (ap (λ t. t || false) n)))
]
joined_lines (x ∷ y ∷ ys) b none = joined_at x y ys b (joined_lines (y ∷ ys) b (sym (left_some x (y ∷ ys) (some_newline x (y ∷ ys) none)) ∙ none))

pub whole_and_left : WholeAndLeft
whole_and_left text = ap lines_of (parted text) ∙ joined_lines (ended_part text) (left_over text) (none_left text)

pub piece_adds_lines : PieceAddsLines
piece_adds_lines text piece =
    ap (λ (l : List ℕ). whole_lines (l ++ piece)) (parted text)
    ∙ ap (λ (l : List ℕ). whole_lines l) (append_assoc (ended_part text) (left_over text) piece)
    ∙ ap lines_of (ended_after (ended_part text) (left_over text ++ piece) (none_left text))
    ∙ joined_lines (ended_part text) (ended_part (left_over text ++ piece)) (none_left text)

pub piece_leaves_over : PieceLeavesOver
piece_leaves_over text piece =
    ap (λ (l : List ℕ). left_over (l ++ piece)) (parted text)
    ∙ ap left_over (append_assoc (ended_part text) (left_over text) piece)
    ∙ left_after (ended_part text) (left_over text ++ piece) (none_left text)

-- pieces after what was left over
after_left : (left : List ℕ) (pieces : List (List ℕ)) → lines_in_pieces left pieces ≡ lines_of (left ++ flat_map (λ piece. piece) pieces)
after_left left [] = ap lines_of (sym (append-nil left))
after_left left (piece ∷ pieces) =
    let text : List ℕ = left ++ piece in
    let others : List ℕ = flat_map (λ piece. piece) pieces in
    ap (λ (ls : List (List ℕ)). whole_lines text ++ ls) (after_left (left_over text) pieces)
    ∙ sym (joined_lines (ended_part text) (left_over text ++ others) (none_left text))
    ∙ ap lines_of (sym (append_assoc (ended_part text) (left_over text) others))
    ∙ ap (λ (l : List ℕ). lines_of (l ++ others)) (sym (parted text))
    ∙ ap lines_of (append_assoc left piece others)

pub any_pieces : AnyPieces
any_pieces pieces = after_left [] pieces

-- a text of which something follows its first line has a newline
newline_in : (text : List ℕ) (newline : ℕ) (after : List ℕ) → rest is_inline text ≡ newline ∷ after → has_newline text ≡ true
newline_in [] newline after is = absurd (cc is)
newline_in (b ∷ bs) newline after is = elim (told (eqb b 10)) [
  | inl n ↦ or_true (eqb b 10) (has_newline bs) n
  | inr n ↦ true_or (eqb b 10) (has_newline bs) (newline_in bs newline after (sym (rest_other b bs n) ∙ is))
]

-- what stands up to the last newline, and what follows it, from the first newline on
first_ended : (text : List ℕ) (newline : ℕ) (after : List ℕ) → rest is_inline text ≡ newline ∷ after → (ended_part text ≡ front is_inline text ++ newline ∷ ended_part after) × (left_over text ≡ left_over after)
first_ended [] newline after is = absurd (cc is)
first_ended (b ∷ bs) newline after is =
    let some : has_newline (b ∷ bs) ≡ true = newline_in (b ∷ bs) newline after is in
    elim (told (eqb b 10)) [
      | inl n ↦
          let same : b ∷ bs ≡ newline ∷ after = sym (rest_newline b bs n) ∙ is in
          let byte : b ≡ newline = cc same in
          let tail : bs ≡ after = cc same in (
            ended_some b bs some ∙ ap (λ x. x ∷ ended_part bs) byte ∙ ap (λ (l : List ℕ). newline ∷ ended_part l) tail
                ∙ ap (λ (l : List ℕ). l ++ newline ∷ ended_part after) (sym (front_newline b bs n)),
            left_some b bs some ∙ ap left_over tail,
          )
      | inr n ↦
          let below = first_ended bs newline after (sym (rest_other b bs n) ∙ is) in (
            ended_some b bs some ∙ ap (λ (l : List ℕ). b ∷ l) below.0
                ∙ ap (λ (l : List ℕ). l ++ newline ∷ ended_part after) (sym (front_other b bs n)),
            left_some b bs some ∙ below.1,
          )
    ]

-- a text's first whole line stands before its first newline
pub first_whole : (text : List ℕ) (newline : ℕ) (after : List ℕ) → rest is_inline text ≡ newline ∷ after → (whole_lines text ≡ without_return (front is_inline text) ∷ whole_lines after) × (left_over text ≡ left_over after)
first_whole text newline after is =
    let parts = first_ended text newline after is in
    let line : List ℕ = front is_inline text in
    let all = front_all is_inline text in
    let stops = rest_begins is_inline text newline after is in
    let rest_is : rest is_inline (line ++ newline ∷ ended_part after) ≡ newline ∷ ended_part after = rest_again is_inline line (newline ∷ ended_part after) all stops in
    let front_is : front is_inline (line ++ newline ∷ ended_part after) ≡ line = front_again is_inline line (newline ∷ ended_part after) all stops in (
      ap lines_of parts.0 ∙ first_line (line ++ newline ∷ ended_part after) newline (ended_part after) rest_is
          ∙ ap (λ (l : List ℕ). without_return l ∷ lines_of (ended_part after)) front_is,
      parts.1,
    )

-- a text without a newline has no whole line, and all of it is left over
pub none_whole : (text : List ℕ) → rest is_inline text ≡ [] → (whole_lines text ≡ []) × (left_over text ≡ text)
none_whole [] none = (refl, refl)
none_whole (b ∷ bs) none =
    let without = no_newline (b ∷ bs) none in
    (ap lines_of (ended_none b bs without), left_none b bs without)
  where
    no_newline : (text : List ℕ) → rest is_inline text ≡ [] → has_newline text ≡ false
    no_newline [] none = refl
    no_newline (b ∷ bs) none = elim (told (eqb b 10)) [
      | inl n ↦ absurd (cc (none, rest_newline b bs n))
      | inr n ↦ ap (λ x. x || has_newline bs) n ∙ no_newline bs (sym (rest_other b bs n) ∙ none)
    ]
