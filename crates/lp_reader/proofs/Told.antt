-- What is read is what the text spells, or its first bad line.
use Rattle.std.proofs.Common.{◌≡◌, ◌∙◌, ap, sym, ℕ, ◌+◌, Bool, true, false, not, ◌||◌, List, length, Result, Ok, Err, Some, None, if◌then◌else◌, ◌⊎◌, refl, subst, inl, inr, IfOk, IfErr}
use Rattle.std.proofs.lemmas.Bool.{cond-true, cond-false}
use Rattle.text_grammar.proofs.Bools.{told}
use Rattle.outcomes.specs.Calls.{OrMemory}
use Rattle.text_grammar.specs.Grammars.{IsExact, at_line, then_on, follow_by, given_by}
use Rattle.text_grammar.specs.Lines.{lines_of}
use Rattle.text_grammar.specs.Outcomes.{◌>>=◌, refused_where}
use Rattle.text_grammar.proofs.GrammarsLemmas.{is_exact, spelled_by, first_bad_by}
use Rattle.lp_grammar.specs.declared.cause.LpCause.{LpCause}
use Rattle.lp_grammar.specs.declared.cause.LpCause.TheVariants as cause
use Rattle.lp_grammar.specs.Canonical.{lp_text_of}
use Rattle.lp_grammar.specs.Laws.{written_program}
use Rattle.lp_grammar.specs.Programs.{IsMilp}
use Rattle.milps.specs.Milps.{MilpValue}
use Rattle.lp_grammar.proofs.Written.{written_spells}
use Rattle.lp_grammar.specs.Items.{Line, lp_lines}
use Rattle.lp_grammar.specs.Reading.{LpValue, may_end, is_empty, is_within, milp_of, lp_of, program_after, lp_grammar}
use Rattle.lp_grammar.specs.Spelling.{LpSpells, IsFirstBadOfLp}
use Rattle.lp_grammar.specs.Taking.{Taken, nothing_taken}
use Rattle.lp_reader.specs.declared.read.LpError.{LpError}
use Rattle.lp_reader.specs.declared.read.LpError.TheVariants.{At, Memory}
use Rattle.lp_reader.specs.Read.{Follows, LinesTell, IsBad}

-- the laws of the grammar
exact : IsExact lp_grammar
exact = is_exact lp_grammar

-- the lines of a text
abbrev lines : List ℕ → List Line
lines text = lp_lines (lines_of text)

-- what is given where the lines lead on
given_from : (text : List ℕ) (t : Taken) (r : Result Taken (ℕ × LpCause)) → t ≡ nothing_taken → follow_by lp_grammar 1 t (lines text) ≡ r
    → given_by lp_grammar (lines text) ≡ then_on r (λ taken. at_line (length (lines text) + 1) (program_after taken))
given_from text t r start e =
    ap (λ (s : Result Taken (ℕ × LpCause)). then_on s (λ taken. at_line (length (lines text) + 1) (program_after taken)))
    (ap (λ (u : Taken). follow_by lp_grammar 1 u (lines text)) (sym start) ∙ e)

pub lines_refused : (text : List ℕ) (t : Taken) (error : LpError) → t ≡ nothing_taken → LinesTell text t error → IsBad text error
lines_refused text t (At line cause) start tells = first_bad_by lp_grammar (lines text) (line, cause) (given_from text t (Err (line, cause)) start tells)
lines_refused text t Memory start tells = tt

abbrev bad_at : LpCause → ℕ → Result LpValue (ℕ × LpCause)
bad_at cause line = Err (line, cause)

pub end_refused : (text : List ℕ) (t after : Taken) (line : ℕ) (cause : LpCause) → t ≡ nothing_taken → Follows text t after line → program_after after ≡ Err cause → IsFirstBadOfLp text line cause
end_refused text t after line cause start follows fails =
    first_bad_by lp_grammar (lines text) (line, cause)
    (given_from text t (Ok after) start follows.lead ∙ ap (at_line (length (lines text) + 1)) fails ∙ ap (bad_at cause) (sym follows.number))

pub end_spelled : (text : List ℕ) (t after : Taken) (line : ℕ) (p : LpValue) → t ≡ nothing_taken → Follows text t after line → program_after after ≡ Ok p → LpSpells text p
end_spelled text t after line p start follows gives =
    spelled_by lp_grammar (lines text) p (given_from text t (Ok after) start follows.lead ∙ ap (at_line (length (lines text) + 1)) gives)

-- what the end gives, by its two tests
ended : Bool → Bool → LpValue → Result LpValue LpCause
ended missing past p = refused_where missing cause.Form >>= (λ _. refused_where past cause.Limit >>= (λ _. Ok p))

pub unfinished : (t : Taken) → (not (may_end t.stage) || is_empty t.names) ≡ true → program_after t ≡ Err cause.Form
unfolding program_after ended
unfinished t e = ap (λ (b : Bool). ended b (not (is_within (milp_of t))) (lp_of t)) e

past_limits : (t : Taken) → (not (may_end t.stage) || is_empty t.names) ≡ false → is_within (milp_of t) ≡ false → program_after t ≡ Err cause.Limit
unfolding program_after ended
past_limits t e w =
    ap (λ (b : Bool). ended b (not (is_within (milp_of t))) (lp_of t)) e
    ∙ ap (λ (b : Bool). ended false (not b) (lp_of t)) w

finished : (t : Taken) → (not (may_end t.stage) || is_empty t.names) ≡ false → is_within (milp_of t) ≡ true → program_after t ≡ Ok (lp_of t)
unfolding program_after ended
finished t e w =
    ap (λ (b : Bool). ended b (not (is_within (milp_of t))) (lp_of t)) e
    ∙ ap (λ (b : Bool). ended false (not b) (lp_of t)) w

-- what is built at the end
pub none_given : (t : Taken) → (not (may_end t.stage) || is_empty t.names) ≡ false → None ≡ (if is_within (milp_of t) then Some (lp_of t) else None) → program_after t ≡ Err cause.Limit
none_given t e n = go (told (is_within (milp_of t)))
  where
    go : (is_within (milp_of t) ≡ true) ⊎ (is_within (milp_of t) ≡ false) → program_after t ≡ Err cause.Limit
    go (inl w) = absurd (cc (n ∙ cond-true (is_within (milp_of t)) (Some (lp_of t)) None w))
    go (inr w) = past_limits t e w

pub some_given : (t : Taken) (p : LpValue) → (not (may_end t.stage) || is_empty t.names) ≡ false → Some p ≡ (if is_within (milp_of t) then Some (lp_of t) else None) → program_after t ≡ Ok p
some_given t p e n = go (told (is_within (milp_of t)))
  where
    go : (is_within (milp_of t) ≡ true) ⊎ (is_within (milp_of t) ≡ false) → program_after t ≡ Ok p
    go (inl w) = let same : p ≡ lp_of t = cc (n ∙ cond-true (is_within (milp_of t)) (Some (lp_of t)) None w) in finished t e w ∙ ap (λ (q : LpValue). Ok q) (sym same)
    go (inr w) = absurd (cc (n ∙ cond-false (is_within (milp_of t)) (Some (lp_of t)) None w))

-- the text of a program gives that program, or memory ran out
pub written_read : (m : MilpValue) (text : List ℕ) (r : Result LpValue LpError) → IsMilp m → text ≡ lp_text_of m → IfOk r (LpSpells text) → IfErr r (IsBad text) → OrMemory Memory r (Ok (written_program m))
written_read m text (Ok p) is e spelled bad = inl (ap (λ (q : LpValue). Ok q) (exact.one_value (lines text) p (written_program m) spelled (subst (λ (t : List ℕ). LpSpells t (written_program m)) (sym e) (written_spells m is))))
written_read m text (Err (At line cause)) is e spelled bad =
    absurd (exact.never_both (lines text) (written_program m) line cause (subst (λ (t : List ℕ). LpSpells t (written_program m)) (sym e) (written_spells m is)) bad)
written_read m text (Err Memory) is e spelled bad = inr refl
