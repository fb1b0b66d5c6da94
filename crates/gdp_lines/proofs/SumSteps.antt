-- The loop over a sum's terms.
use Rattle.std.proofs.Common.{◌≡◌, ◌<◌, Bool, List, [], ◌∷◌, ◌++◌, length, drop, map, Some, None, Result, Ok, Err, ap, sym, subst, ◌∙◌, arith}
use Rattle.std.proofs.lemmas.List.{map-append, length-drop}
use Rattle.gdp_grammar.specs.declared.cause.ReadCause.{ReadCause}
use Rattle.gdp_grammar.specs.Forms.{Summand, summand_of, joint_of}
use Rattle.gdp_grammar.specs.Tokens.{Piece}
use Rattle.gdp_grammar.proofs.Sums.{GoesOn, is_last, goes_on, summand_left}
use Rattle.gdp_lines.specs.declared.fault.LineError.{LineError}
use Rattle.gdp_lines.specs.declared.form.Summand.{Summand as Term}
use Rattle.std.specs.Prelude.{IsErrAnd}
use Rattle.gdp_lines.specs.Gives.{Fails, Gives}
use Rattle.gdp_lines.specs.Lines.{summand}

pub ends_here : (sum pushed : List Term) (is_negative : Bool) (ps qs : List Piece) (whole : Result (List Summand × List Piece) ReadCause) (t : Term)
    → GoesOn (map summand sum) is_negative ps whole → summand_of is_negative ps ≡ Ok (summand t, qs) → pushed ≡ sum ++ t ∷ [] → joint_of qs ≡ None → whole ≡ Ok (map summand pushed, qs)
ends_here sum pushed is_negative ps qs whole t goes first push none =
    is_last (map summand sum) is_negative ps whole (summand t, qs) goes first none
    ∙ ap (λ (xs : List Summand). ok_of xs) (sym (map-append summand sum (t ∷ [])) ∙ ap (map summand) (sym push))
  where
    ok_of : List Summand → Result (List Summand × List Piece) ReadCause
    ok_of xs = Ok (xs, qs)

pub goes_on_here : (sum pushed : List Term) (is_negative sign : Bool) (ps qs rest : List Piece) (whole : Result (List Summand × List Piece) ReadCause) (t : Term)
    → GoesOn (map summand sum) is_negative ps whole → summand_of is_negative ps ≡ Ok (summand t, qs) → pushed ≡ sum ++ t ∷ [] → joint_of qs ≡ Some sign → rest ≡ drop 1 qs → GoesOn (map summand pushed) sign rest whole
goes_on_here sum pushed is_negative sign ps qs rest whole t goes first push some left =
    let next = goes_on (map summand sum) is_negative sign ps whole (summand t, qs) goes first some in
    let front : map summand sum ++ summand t ∷ [] ≡ map summand pushed = sym (map-append summand sum (t ∷ [])) ∙ ap (map summand) (sym push) in
    rw (left, ← front) next

pub shorter_here : (is_negative : Bool) (ps qs rest : List Piece) (t : Summand) → summand_of is_negative ps ≡ Ok (t, qs) → rest ≡ drop 1 qs → length rest < length ps
shorter_here is_negative ps qs rest t first left =
    omega (arith, summand_left is_negative ps (t, qs) first, ap length left, length-drop 1 qs)

-- an error that is handed on
pub gives_error : {X Y : Type 0} (view : X → Y) (r : Result X LineError) (e : LineError) (read : Result Y ReadCause) → IsErrAnd r (λ x. x ≡ e) → Fails e read → Gives view r read
gives_error view (Ok x) e read is fails = absurd is
gives_error view (Err x) e read is fails = subst (λ (y : LineError). Fails y read) (sym is) fails
