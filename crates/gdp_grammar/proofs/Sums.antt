-- The terms of a sum, one after the other.
use Rattle.std.proofs.Common.{◌≡◌, ℕ, zero, suc, ◌<◌, ◌≤◌, Bool, true, false, if◌then◌else◌, List, [], ◌∷◌, ◌++◌, length, drop, Some, None, Result, Ok, Err, refl, ap, sym, ◌∙◌, arith}
use Rattle.std.proofs.lemmas.List.{append_assoc, length-drop}
use Rattle.gdp_grammar.specs.declared.cause.ReadCause.{ReadCause}
use Rattle.gdp_grammar.specs.declared.cause.ReadCause.TheVariants as cause
use Rattle.text_grammar.specs.Outcomes.{◌>>=◌}
use Rattle.gdp_grammar.specs.Forms.{Summand, name_of, summand_of, joint_of, joined, summands_within}
use Rattle.gdp_grammar.specs.Keywords.{is_reserved}
use Rattle.gdp_grammar.specs.Tokens.{Piece, Word, Number, Mark, Stray}

-- what goes on is Ok only where what came before is
pub bind_ok : {A B : Type 0} (r : Result A ReadCause) (f : A → Result B ReadCause) (y : B) → (r >>= f) ≡ Ok y → (x : A) × (r ≡ Ok x) × (f x ≡ Ok y)
bind_ok (Ok x) f y e = (x, refl, e)
bind_ok (Err c) f y e = absurd (cc e)

-- terms before those that are read
abbrev pub with_front : List Summand → Result (List Summand × List Piece) ReadCause → Result (List Summand × List Piece) ReadCause
with_front front read = read >>= λ x. Ok (front ++ x.0, x.1)

pub with_no_front : (read : Result (List Summand × List Piece) ReadCause) → with_front [] read ≡ read
with_no_front (Ok x) = refl
with_no_front (Err c) = refl

-- what is read where the test is false
pub guard_ok : {X : Type 0} (b : Bool) (cause : ReadCause) (x y : X) → (if b then Err cause else Ok x) ≡ Ok y → x ≡ y
guard_ok true c x y e = absurd (cc e)
guard_ok false c x y e = cc e

-- a name takes a token
pub name_left : (ps : List Piece) (x : List ℕ × List Piece) → name_of ps ≡ Ok x → length x.1 < length ps
name_left [] x e = absurd (cc e)
name_left (Word word ∷ ps) x e =
    let read : List ℕ × List Piece = (word, ps) in
    let same : read ≡ x = guard_ok (is_reserved word) cause.Form read x e in
    omega (arith, ap (λ (p : List ℕ × List Piece). length p.1) same)
name_left (Number n ∷ ps) x e = absurd (cc e)
name_left (Mark m ∷ ps) x e = absurd (cc e)
name_left (Stray ∷ ps) x e = absurd (cc e)

-- what is read after a name has the rest that the name left
after_name : (r : Result (List ℕ × List Piece) ReadCause) (f : List ℕ → Summand) (x : Summand × List Piece)
    → (r >>= λ (n : List ℕ × List Piece). Ok (f n.0, n.1)) ≡ Ok x → (n : List ℕ × List Piece) × (r ≡ Ok n) × (n.1 ≡ x.1)
after_name (Ok n) f x e =
    let read : Summand × List Piece = (f n.0, n.1) in
    let same : read ≡ x = cc e in
    (n, refl, ap (λ (p : Summand × List Piece). p.1) same)
after_name (Err c) f x e = absurd (cc e)

-- a term takes a token at least
pub summand_left : (is_negative : Bool) (ps : List Piece) (x : Summand × List Piece) → summand_of is_negative ps ≡ Ok x → length x.1 < length ps
unfolding summand_of
summand_left is_negative [] x e = absurd (cc e)
summand_left is_negative (Number number ∷ ps) x e =
    let n = after_name (name_of ps) (λ name. record { is_negative = is_negative; size = Some number; name = name }) x e in
    omega (arith, name_left ps n.0 n.1, ap length n.2)
summand_left is_negative (Word word ∷ ps) x e =
    let n = after_name (name_of (Word word ∷ ps)) (λ name. record { is_negative = is_negative; size = None; name = name }) x e in
    omega (arith, name_left (Word word ∷ ps) n.0 n.1, ap length n.2)
summand_left is_negative (Mark m ∷ ps) x e = absurd (cc e)
summand_left is_negative (Stray ∷ ps) x e = absurd (cc e)

-- Reading on from here, with these terms before, gives the whole. There is room for each token.
abbrev pub GoesOn : List Summand → Bool → List Piece → Result (List Summand × List Piece) ReadCause → Type 0
GoesOn front is_negative ps whole = (n : ℕ) × (length ps ≤ n) × (with_front front (summands_within n is_negative ps) ≡ whole)

pub starts : (is_negative : Bool) (ps : List Piece) → GoesOn [] is_negative ps (summands_within (length ps) is_negative ps)
starts is_negative ps = (length ps, omega arith, with_no_front (summands_within (length ps) is_negative ps))

-- what follows a first term
abbrev rest_within : ℕ → Summand × List Piece → Result (List Summand × List Piece) ReadCause
rest_within m first = joined first.0 (joint_of first.1) first.1 (λ sign rest. summands_within m sign rest)

-- without a term the whole has its cause
pub no_term : (front : List Summand) (is_negative : Bool) (ps : List Piece) (whole : Result (List Summand × List Piece) ReadCause) (cause : ReadCause)
    → GoesOn front is_negative ps whole → summand_of is_negative ps ≡ Err cause → whole ≡ Err cause
unfolding summand_of
no_term front is_negative ps whole c goes fails = go goes.0 ps goes.1 goes.2 fails
  where
    go : (n : ℕ) (qs : List Piece) → length qs ≤ n → with_front front (summands_within n is_negative qs) ≡ whole → summand_of is_negative qs ≡ Err c → whole ≡ Err c
    go zero [] room goes fails = cc (goes, fails)
    go zero (q ∷ qs) room goes fails = absurd (omega (arith, room))
    go (suc m) qs room goes fails = sym goes ∙ ap (λ r. with_front front (r >>= rest_within m)) fails

-- a term that no sign follows is the last
pub is_last : (front : List Summand) (is_negative : Bool) (ps : List Piece) (whole : Result (List Summand × List Piece) ReadCause) (x : Summand × List Piece)
    → GoesOn front is_negative ps whole → summand_of is_negative ps ≡ Ok x → joint_of x.1 ≡ None → whole ≡ Ok (front ++ x.0 ∷ [], x.1)
is_last front is_negative ps whole x goes first none = go goes.0 goes.1 goes.2
  where
    go : (n : ℕ) → length ps ≤ n → with_front front (summands_within n is_negative ps) ≡ whole → whole ≡ Ok (front ++ x.0 ∷ [], x.1)
    go zero room goes = absurd (omega (arith, room, summand_left is_negative ps x first))
    go (suc m) room goes =
        sym goes ∙ ap (λ r. with_front front (r >>= rest_within m)) first
        ∙ ap (λ o. with_front front (joined x.0 o x.1 (λ sign rest. summands_within m sign rest))) none

-- a term joins the terms before it
front_more : (front : List Summand) (t : Summand) (r : Result (List Summand × List Piece) ReadCause) → with_front (front ++ t ∷ []) r ≡ with_front front (r >>= λ (more : List Summand × List Piece). Ok (t ∷ more.0, more.1))
front_more front t (Ok more) = ap (λ (xs : List Summand). ok_of xs more.1) (append_assoc front (t ∷ []) more.0)
  where
    ok_of : List Summand → List Piece → Result (List Summand × List Piece) ReadCause
    ok_of xs ps = Ok (xs, ps)
front_more front t (Err c) = refl

-- after a term and a sign it goes on
pub goes_on : (front : List Summand) (is_negative sign : Bool) (ps : List Piece) (whole : Result (List Summand × List Piece) ReadCause) (x : Summand × List Piece)
    → GoesOn front is_negative ps whole → summand_of is_negative ps ≡ Ok x → joint_of x.1 ≡ Some sign → GoesOn (front ++ x.0 ∷ []) sign (drop 1 x.1) whole
goes_on front is_negative sign ps whole x goes first some = go goes.0 goes.1 goes.2
  where
    go : (n : ℕ) → length ps ≤ n → with_front front (summands_within n is_negative ps) ≡ whole → GoesOn (front ++ x.0 ∷ []) sign (drop 1 x.1) whole
    go zero room goes = absurd (omega (arith, room, summand_left is_negative ps x first))
    go (suc m) room goes = (
      m,
      omega (arith, room, summand_left is_negative ps x first, length-drop 1 x.1),
      front_more front x.0 (summands_within m sign (drop 1 x.1))
          ∙ ap (λ o. with_front front (joined x.0 o x.1 (λ sign rest. summands_within m sign rest))) (sym some)
          ∙ ap (λ r. with_front front (r >>= rest_within m)) (sym first)
          ∙ goes,
    )
