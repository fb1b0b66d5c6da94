-- One multiplier more.
use Rattle.std.proofs.Common.{◌≡◌, ◌≢◌, ℕ, zero, suc, ℤ, pos, negsuc, Bool, true, false, not, ◌&&◌, if◌then◌else◌, List, [], ◌∷◌, ◌++◌, Option, None, Some, refl, ap, sym, ◌∙◌, append-nil, append_assoc, arith}
use Rattle.std.specs.Prelude.{nat_le, nat_eq, unsigned_abs}
use Rattle.std.proofs.lemmas.Bool.{cond-true, cond-false}
use Rattle.std.proofs.lemmas.Bool.Decides.{nat_tests}
use Rattle.fractions.specs.Width.{fits}
use Rattle.text_grammar.specs.Digits.{value_of}
use Rattle.text_grammar.proofs.Bools.{and_true, and_false}
use Rattle.cert_grammar.specs.Nodes.{◌>?>◌, pair_of, is_next, if_next, pairs_from, is_short, pair_fits, are_short}
use Rattle.cert_grammar.specs.Wholes.{is_exact, natural_of, whole_of}
use Rattle.cert_lines.specs.declared.number.Natural.TheVariants as natural
use Rattle.cert_lines.specs.declared.number.Whole.TheVariants as whole
use Rattle.cert_lines.specs.declared.pairs.Next.{Next}
use Rattle.cert_lines.specs.declared.pairs.Next.TheVariants as next
use Rattle.cert_lines.specs.declared.pairs.Pairs.TheVariants as pairs
use Rattle.cert_lines.specs.Pairs.{pair_with, is_row, least_of, pairs_read, read_behind, pairs_after, IsSpelled, IsNext, is_none, kept_mults, kept_fits}
use Rattle.cert_lines.specs.Reads.{natural_read, whole_read}

-- what a number as read says of the word
pub whole_none : (o : Option ℤ) → whole.Malformed ≡ whole_read o → o ≡ None
whole_none None e = refl
whole_none (Some z) e = go (fits z) e
  where
    go : (b : Bool) → whole.Malformed ≡ (if b then whole.Is z else whole.Wide) → Some z ≡ None
    go true e = absurd (cc e)
    go false e = absurd (cc e)

pub whole_wide : (o : Option ℤ) → whole.Wide ≡ whole_read o → (z : ℤ) × (o ≡ Some z) × (fits z ≡ false)
whole_wide None e = absurd (cc e)
whole_wide (Some z) e = (z, refl, go (fits z) e)
  where
    go : (b : Bool) → whole.Wide ≡ (if b then whole.Is z else whole.Wide) → b ≡ false
    go true e = absurd (cc e)
    go false e = refl

pub whole_is : (o : Option ℤ) (m : ℤ) → whole.Is m ≡ whole_read o → (o ≡ Some m) × (fits m ≡ true)
whole_is None m e = absurd (cc e)
whole_is (Some z) m e = go (fits z) refl e
  where
    go : (b : Bool) → fits z ≡ b → whole.Is m ≡ (if b then whole.Is z else whole.Wide) → (Some z ≡ Some m) × (fits m ≡ true)
    go true f e = let same : m ≡ z = cc e in (ap (λ (x : ℤ). Some x) (sym same), ap fits same ∙ f)
    go false f e = absurd (cc e)

pub natural_none : (o : Option ℕ) → natural.Malformed ≡ natural_read o → o ≡ None
natural_none None e = refl
natural_none (Some n) e = go (is_short n) e
  where
    go : (b : Bool) → natural.Malformed ≡ (if b then natural.Is n else natural.Wide) → Some n ≡ None
    go true e = absurd (cc e)
    go false e = absurd (cc e)

pub natural_wide : (o : Option ℕ) → natural.Wide ≡ natural_read o → (n : ℕ) × (o ≡ Some n) × (is_short n ≡ false)
natural_wide None e = absurd (cc e)
natural_wide (Some n) e = (n, refl, go (is_short n) e)
  where
    go : (b : Bool) → natural.Wide ≡ (if b then natural.Is n else natural.Wide) → b ≡ false
    go true e = absurd (cc e)
    go false e = refl

pub natural_is : (o : Option ℕ) (k : ℕ) → natural.Is k ≡ natural_read o → (o ≡ Some k) × (is_short k ≡ true)
natural_is None k e = absurd (cc e)
natural_is (Some n) k e = go (is_short n) refl e
  where
    go : (b : Bool) → is_short n ≡ b → natural.Is k ≡ (if b then natural.Is n else natural.Wide) → (Some n ≡ Some k) × (is_short k ≡ true)
    go true f e = let same : k ≡ n = cc e in (ap (λ (x : ℕ). Some x) (sym same), ap is_short same ∙ f)
    go false f e = absurd (cc e)

exact_value : (row : List ℕ) (n : ℕ) → is_exact row ≡ true → natural_of row ≡ Some n → value_of row ≡ n
exact_value row n exact e = cc (sym (cond-true (is_exact row) _ _ exact) ∙ e)

pub none_cut : (word : List ℕ) (least : ℕ) → pair_of word ≡ None → (pair_of word >?> if_next least) ≡ None
none_cut word least e = ap (λ (o : Option (ℕ × ℤ)). o >?> if_next least) e

joined : (word mult : List ℕ) (least row : ℕ) (o : Option ℤ) → pair_of word ≡ pair_with row mult → whole_of mult ≡ o → (pair_of word >?> if_next least) ≡ ((o >?> (λ m. Some (row, m))) >?> if_next least)
joined word mult least row o e w = ap (λ (x : Option (ℕ × ℤ)). x >?> if_next least) (e ∙ ap (λ (x : Option ℤ). x >?> (λ m. Some (row, m))) w)

pub none_behind : (word mult : List ℕ) (least row : ℕ) → pair_of word ≡ pair_with row mult → nat_le least row ≡ false → (pair_of word >?> if_next least) ≡ None
none_behind word mult least row e f = joined word mult least row (whole_of mult) e refl ∙ go (whole_of mult)
  where
    go : (o : Option ℤ) → ((o >?> (λ m. Some (row, m))) >?> if_next least) ≡ None
    go None = refl
    go (Some m) = cond-false (is_next least (row, m)) _ _ (ap (λ (b : Bool). b && not (nat_eq (unsigned_abs m) 0)) f)

pub none_spelled : (word mult : List ℕ) (least row : ℕ) → pair_of word ≡ pair_with row mult → whole.Malformed ≡ whole_read (whole_of mult) → (pair_of word >?> if_next least) ≡ None
none_spelled word mult least row e r = joined word mult least row None e (whole_none (whole_of mult) r)

pub none_zero : (word mult : List ℕ) (least row : ℕ) (m : ℤ) → pair_of word ≡ pair_with row mult → whole.Is m ≡ whole_read (whole_of mult) → m ≡ pos 0 → (pair_of word >?> if_next least) ≡ None
none_zero word mult least row m e r is =
    joined word mult least row (Some m) e (whole_is (whole_of mult) m r).0
    ∙ ap (λ (z : ℤ). if_next least (row, z)) is ∙ cond-false (is_next least (row, pos 0)) _ _ (and_false (nat_le least row))

some_pair : (word mult : List ℕ) (least row : ℕ) (m : ℤ) → pair_of word ≡ pair_with row mult → whole_of mult ≡ Some m → nat_le least row ≡ true → nat_eq (unsigned_abs m) 0 ≡ false → (pair_of word >?> if_next least) ≡ Some (row, m)
some_pair word mult least row m e w le other =
    joined word mult least row (Some m) e w ∙ cond-true (is_next least (row, m)) _ _ (and_true (nat_le least row) (not (nat_eq (unsigned_abs m) 0)) le (ap not other))

wide_other : (z : ℤ) → fits z ≡ false → nat_eq (unsigned_abs z) 0 ≡ false
wide_other (pos zero) e = absurd (grind (arith, nat_tests, e))
wide_other (pos (suc n)) e = grind (arith, nat_tests)
wide_other (negsuc n) e = grind (arith, nat_tests)

other_than : (z : ℤ) → z ≢ pos 0 → nat_eq (unsigned_abs z) 0 ≡ false
other_than (pos zero) e = absurd (e refl)
other_than (pos (suc n)) e = grind (arith, nat_tests)
other_than (negsuc n) e = grind (arith, nat_tests)

pub wide_multiplier : (word row mult : List ℕ) (least : ℕ) → is_exact row ≡ true → pair_of word ≡ pair_with (value_of row) mult → true ≡ nat_le least (value_of row) → whole.Wide ≡ whole_read (whole_of mult) → IsNext least word row next.Wide
wide_multiplier word row mult least exact e le r =
    let w = whole_wide (whole_of mult) r in
    ((value_of row, w.0), record { spelled = some_pair word mult least (value_of row) w.0 e w.1 (sym le) (wide_other w.0 w.2); exact = exact; row_is = refl }, ap (λ (b : Bool). is_short (value_of row) && b) w.2 ∙ and_false (is_short (value_of row)))

pub wide_row : (word row mult : List ℕ) (least : ℕ) (m : ℤ) → is_exact row ≡ true → pair_of word ≡ pair_with (value_of row) mult → true ≡ nat_le least (value_of row) → whole.Is m ≡ whole_read (whole_of mult) → m ≢ pos 0 → natural.Wide ≡ natural_read (natural_of row)
    → IsNext least word row next.Wide
wide_row word row mult least m exact e le r other n =
    let w = whole_is (whole_of mult) m r in
    let k = natural_wide (natural_of row) n in
    let same : value_of row ≡ k.0 = exact_value row k.0 exact k.1 in
    ((value_of row, m), record { spelled = some_pair word mult least (value_of row) m e w.0 (sym le) (other_than m other); exact = exact; row_is = refl }, ap (λ (b : Bool). b && fits m) (ap is_short same ∙ k.2))

pub both_fit : (word row mult : List ℕ) (least : ℕ) (m : ℤ) (n : ℕ) → is_exact row ≡ true → pair_of word ≡ pair_with (value_of row) mult → true ≡ nat_le least (value_of row) → whole.Is m ≡ whole_read (whole_of mult) → m ≢ pos 0 → natural.Is n ≡ natural_read (natural_of row)
    → IsNext least word row (next.Is n m)
both_fit word row mult least m n exact e le r other i =
    let w = whole_is (whole_of mult) m r in
    let k = natural_is (natural_of row) n i in
    let same : value_of row ≡ n = exact_value row n exact k.0 in
    (record { spelled = some_pair word mult least (value_of row) m e w.0 (sym le) (other_than m other) ∙ ap (λ (x : ℕ). Some (x, m)) same; exact = exact; row_is = same }, and_true (is_short n) (fits m) k.1 w.1)

pub never_malformed : (word row : List ℕ) (least : ℕ) → is_exact row ≡ true → natural.Malformed ≡ natural_read (natural_of row) → (pair_of word >?> if_next least) ≡ None
never_malformed word row least exact r = absurd (cc (sym (cond-true (is_exact row) _ _ exact) ∙ natural_none (natural_of row) r))

-- reading on
pub read_start : (o : Option (List (ℕ × ℤ))) → read_behind true [] o ≡ pairs_read o
read_start None = refl
read_start (Some ps) = refl

pub read_end_fits : (before : List (ℕ × ℤ)) (last : List ℕ) → pairs_after true before last [] ≡ pairs.Are before
read_end_fits before last = ap (λ (l : List (ℕ × ℤ)). pairs.Are l) (append-nil before)

pub read_end_wide : (before : List (ℕ × ℤ)) (last : List ℕ) → pairs_after false before last [] ≡ pairs.Wide
read_end_wide before last = refl

pub read_none : (fits : Bool) (before : List (ℕ × ℤ)) (last word row : List ℕ) (words : List (List ℕ)) (n : Next) → IsNext (least_of last) word row n → is_none n ≡ true → pairs_after fits before last (word ∷ words) ≡ pairs.Malformed
read_none fits before last word row words next.Malformed is e = ap (λ (o : Option (ℕ × ℤ)). read_behind fits before (o >?> (λ p. pairs_from (suc p.0) words >?> (λ ps. Some (p ∷ ps))))) is
read_none fits before last word row words next.Wide is e = absurd (cc e)
read_none fits before last word row words (next.Is n m) is e = absurd (cc e)

least_row : (row : List ℕ) (n : ℕ) → is_exact row ≡ true → value_of row ≡ n → least_of row ≡ suc n
least_row [] n exact e = absurd (cc exact)
least_row (d ∷ ds) n exact e = ap suc e

unfolded : (fits : Bool) (before : List (ℕ × ℤ)) (last word row : List ℕ) (words : List (List ℕ)) (p : ℕ × ℤ) → IsSpelled (least_of last) word row p → pairs_after fits before last (word ∷ words) ≡ read_behind fits before (pairs_from (least_of row) words >?> (λ ps. Some (p ∷ ps)))
unfolded fits before last word row words p is =
    ap (λ (o : Option (ℕ × ℤ)). read_behind fits before (o >?> (λ p. pairs_from (suc p.0) words >?> (λ ps. Some (p ∷ ps))))) is.spelled
    ∙ ap (λ (k : ℕ). read_behind fits before (pairs_from k words >?> (λ ps. Some (p ∷ ps)))) (sym (least_row row p.0 is.exact is.row_is))

one_wide : (fits : Bool) (before : List (ℕ × ℤ)) (p : ℕ × ℤ) (o : Option (List (ℕ × ℤ))) → pair_fits p ≡ false → read_behind fits before (o >?> (λ ps. Some (p ∷ ps))) ≡ read_behind false before o
one_wide true before p None f = refl
one_wide false before p None f = refl
one_wide true before p (Some ps) f = cond-false (pair_fits p && are_short ps) _ _ (ap (λ (b : Bool). b && are_short ps) f)
one_wide false before p (Some ps) f = refl

one_more : (fits : Bool) (before : List (ℕ × ℤ)) (p : ℕ × ℤ) (o : Option (List (ℕ × ℤ))) → pair_fits p ≡ true → read_behind fits before (o >?> (λ ps. Some (p ∷ ps))) ≡ read_behind fits (before ++ p ∷ []) o
one_more true before p None f = refl
one_more false before p None f = refl
one_more true before p (Some ps) f =
    ap (λ (b : Bool). if b && are_short ps then pairs.Are (before ++ p ∷ ps) else pairs.Wide) f
    ∙ ap (λ (l : List (ℕ × ℤ)). if are_short ps then pairs.Are l else pairs.Wide) (sym (append_assoc before (p ∷ []) ps))
one_more false before p (Some ps) f = refl

pub read_more : (fits : Bool) (before : List (ℕ × ℤ)) (last word row : List ℕ) (words : List (List ℕ)) (n : Next) → IsNext (least_of last) word row n → is_none n ≡ false
    → (pairs_after fits before last (word ∷ words) ≡ pairs_after (kept_fits fits n) (kept_mults before n) row words) × (is_row row ≡ true)
read_more fits before last word row words next.Malformed is e = absurd (cc e)
read_more fits before last word row words next.Wide is e =
    (unfolded fits before last word row words is.0 is.1 ∙ one_wide fits before is.0 (pairs_from (least_of row) words) is.2, exact_row row is.1.exact)
  where
    exact_row : (row : List ℕ) → is_exact row ≡ true → is_row row ≡ true
    exact_row [] e = refl
    exact_row (d ∷ ds) e = e
read_more fits before last word row words (next.Is k m) is e =
    (unfolded fits before last word row words (k, m) is.0 ∙ one_more fits before (k, m) (pairs_from (least_of row) words) is.1, exact_row row is.0.exact)
  where
    exact_row : (row : List ℕ) → is_exact row ≡ true → is_row row ≡ true
    exact_row [] e = refl
    exact_row (d ∷ ds) e = e
