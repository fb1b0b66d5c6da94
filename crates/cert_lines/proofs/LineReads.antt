-- The lines of an answer before its nodes, as they are read.
use Rattle.std.proofs.Common.{◌≡◌, ℕ, zero, suc, ◌+◌, ◌%◌, ◌<◌, ◌≤◌, ℤ, pos, int_lt, Bool, true, false, not, ◌&&◌, if◌then◌else◌, List, [], ◌∷◌, length, drop, codes, Option, None, Some, Ok, Err, refl, ap, sym, ◌∙◌, drop-cons, add-one, arith}
use Rattle.std.specs.Prelude.{nat_le, bytes_eq, slice_index_or}
use Rattle.std.proofs.lemmas.Bool.{cond-false}
use Rattle.std.proofs.lemmas.Bool.Decides.{nat_tests}
use Rattle.fractions.specs.Width.{fits}
use Rattle.text_grammar.specs.Outcomes.{◌>>=◌, refused_where, or_cause}
use Rattle.cert_grammar.specs.declared.cause.CertCause.TheVariants as cause
use Rattle.cert_grammar.specs.Answers.{is_filled, on_name, named_number, place_from}
use Rattle.cert_grammar.specs.Wholes.{whole_of}
use Rattle.cert_lines.specs.declared.number.Whole.TheVariants as whole
use Rattle.cert_lines.specs.LineReads.{over_result, over_of}
use Rattle.cert_lines.specs.Reads.{whole_read}
use Rattle.cert_lines.proofs.Nexts.{whole_none, whole_wide, whole_is}

pub named_first : (first name a b c : List ℕ) → bytes_eq a first ≡ false → named_number first name (a ∷ b ∷ c ∷ []) ≡ Err cause.Form
named_first first name a b c f = rw f refl

pub named_empty : (first name a b c : List ℕ) → bytes_eq a first ≡ true → is_filled b ≡ false → named_number first name (a ∷ b ∷ c ∷ []) ≡ Err cause.Form
named_empty first name a b c t n = rw (t, n) refl

pub named_spelled : (first name a b c : List ℕ) → bytes_eq a first ≡ true → is_filled b ≡ true → whole.Malformed ≡ whole_read (whole_of c) → named_number first name (a ∷ b ∷ c ∷ []) ≡ Err cause.Form
named_spelled first name a b c t s r = let w = whole_none (whole_of c) r in rw (t, s, w) refl

pub named_wide : (first name a b c : List ℕ) → bytes_eq a first ≡ true → is_filled b ≡ true → whole.Wide ≡ whole_read (whole_of c) → bytes_eq b name ≡ true → named_number first name (a ∷ b ∷ c ∷ []) ≡ Err cause.Number
named_wide first name a b c t s r e = let w = whole_wide (whole_of c) r in rw (t, s, w.1, e, w.2) refl

pub named_wide_other : (first name a b c : List ℕ) → bytes_eq a first ≡ true → is_filled b ≡ true → whole.Wide ≡ whole_read (whole_of c) → bytes_eq b name ≡ false → named_number first name (a ∷ b ∷ c ∷ []) ≡ Err cause.Name
named_wide_other first name a b c t s r e = let w = whole_wide (whole_of c) r in rw (t, s, w.1, e) refl

pub named_other : (first name a b c : List ℕ) (z : ℤ) → bytes_eq a first ≡ true → is_filled b ≡ true → whole.Is z ≡ whole_read (whole_of c) → bytes_eq b name ≡ false → named_number first name (a ∷ b ∷ c ∷ []) ≡ Err cause.Name
named_other first name a b c z t s r e = let w = whole_is (whole_of c) z r in rw (t, s, w.0, e) refl

pub named_fits : (first name a b c : List ℕ) (z : ℤ) → bytes_eq a first ≡ true → is_filled b ≡ true → whole.Is z ≡ whole_read (whole_of c) → bytes_eq b name ≡ true → named_number first name (a ∷ b ∷ c ∷ []) ≡ Ok z
named_fits first name a b c z t s r e = let w = whole_is (whole_of c) z r in rw (t, s, w.0, e, w.1) refl

-- the name of a Boolean that is true
pub on_is : (a b : List ℕ) → bytes_eq a (codes "on") ≡ true → is_filled b ≡ true → on_name (a ∷ b ∷ []) ≡ Some b
on_is a b t s = rw (t, s) refl

pub on_other : (a b : List ℕ) → bytes_eq a (codes "on") ≡ false → on_name (a ∷ b ∷ []) ≡ None
on_other a b f = rw f refl

pub on_empty : (a b : List ℕ) → bytes_eq a (codes "on") ≡ true → is_filled b ≡ false → on_name (a ∷ b ∷ []) ≡ None
on_empty a b t f = rw (t, f) refl

pub over_is : (word : List ℕ) → over_result (whole_read (whole_of word)) ≡ over_of word
over_is word = go (whole_of word)
  where
    some : (z : ℤ) (p f : Bool) → int_lt (pos 0) z ≡ p → over_result (if f then whole.Is z else whole.Wide) ≡ (refused_where (not (p && f)) cause.Number >>= (λ _. Ok z))
    some z true true e = rw e refl
    some z true false e = refl
    some z false true e = rw e refl
    some z false false e = refl

    go : (o : Option ℤ) → over_result (whole_read o) ≡ (or_cause cause.Form o >>= (λ z. refused_where (not (int_lt (pos 0) z && fits z)) cause.Number >>= (λ _. Ok z)))
    go None = refl
    go (Some z) = some z (int_lt (pos 0) z) (fits z) refl

-- places
at_least : (a b : ℕ) → a ≤ b → nat_le a b ≡ true
at_least a b h = grind (arith, nat_tests)

below : (a b : ℕ) → b < a → nat_le a b ≡ false
below a b h = grind (arith, nat_tests)

skipped : (least k n : ℕ) (name : List ℕ) (names : List (List ℕ)) → k + n ≡ least → n ≤ length names → place_from least k name names ≡ place_from least least name (drop n names)
skipped least k zero name names e le = ap (λ (j : ℕ). place_from least j name names) (omega (arith, e))
skipped least k (suc n) name [] e le = absurd (omega (arith, le))
skipped least k (suc n) name (x ∷ xs) e le =
    cond-false (nat_le least k && bytes_eq name x) _ _ (ap (λ (b : Bool). b && bytes_eq name x) (below least k (omega (arith, e)))) ∙ skipped least (suc k) n name xs (omega (arith, e)) (omega (arith, le))

pub place_start : (least : ℕ) (name : List ℕ) (names : List (List ℕ)) → least ≤ length names → place_from least least name (drop least names) ≡ place_from least 0 name names
place_start least name names le = sym (skipped least 0 least name names (omega arith) le)

pub place_found : (least k : ℕ) (name d : List ℕ) (names : List (List ℕ)) → least ≤ k → k < length names → bytes_eq name (slice_index_or names k d) ≡ true → place_from least k name (drop k names) ≡ Some k
place_found least k name d names le lt e =
    ap (place_from least k name) (drop-cons names k d lt) ∙ rw (at_least least k le, e) refl

pub place_past : (least k : ℕ) (name d : List ℕ) (names : List (List ℕ)) → least ≤ k → k < length names → bytes_eq name (slice_index_or names k d) ≡ false → place_from least k name (drop k names) ≡ place_from least (k + 1) name (drop (k + 1) names)
place_past least k name d names le lt e =
    ap (place_from least k name) (drop-cons names k d lt) ∙ rw (at_least least k le, e, add-one) refl

pub place_none : (least k : ℕ) (name : List ℕ) (names : List (List ℕ)) → length names ≤ k → None ≡ place_from least k name (drop k names)
place_none least k name names le = go k names le
  where
    go : (n : ℕ) (ns : List (List ℕ)) → length ns ≤ n → None ≡ place_from least k name (drop n ns)
    go zero [] le = refl
    go zero (x ∷ xs) le = absurd (omega (arith, le))
    go (suc n) [] le = refl
    go (suc n) (x ∷ xs) le = go n xs (omega (arith, le))

pub place_beyond : (least : ℕ) (name : List ℕ) (names : List (List ℕ)) → length names < least → None ≡ place_from least 0 name names
place_beyond least name names lt = go 0 names (omega (arith, lt))
  where
    go : (k : ℕ) (ns : List (List ℕ)) → k + length ns < least → None ≡ place_from least k name ns
    go k [] lt = refl
    go k (x ∷ xs) lt =
        go (suc k) xs (omega (arith, lt))
        ∙ sym (cond-false (nat_le least k && bytes_eq name x) _ _ (ap (λ (b : Bool). b && bytes_eq name x) (below least k (omega (arith, lt)))))
