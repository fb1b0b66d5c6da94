-- What a command answered is what was delivered, where the write did not fail.
use Rattle.std.proofs.Common.{◌≡◌, ℕ, List, Option, Some, None, ◌⊎◌, inl, inr, sym, subst}
use Rattle.std.specs.Prelude.{IfNone}
use Rattle.gdp_commands.specs.declared.status.Status.{Status}
use Rattle.gdp_commands.specs.declared.status.Status.TheVariants.{Done, No, Text, GaveUp, Rewrite, Read, Write, Words, Memory}
use Rattle.gdp_commands.specs.declared.words.Command.{Command}
use Rattle.gdp_commands.specs.Statuses.{IsOut, IsRefused, IsWorked}
use Rattle.gdp_commands.specs.Words.{Form}

neither : ⊥ ⊎ ⊥ → ⊥
neither (inl e) = e
neither (inr e) = e

-- where a text goes to `out` or is a refusal, the command came to its answer
worked : (s : Status) → IsOut s ⊎ IsRefused s → IsWorked s
worked Done e = tt
worked No e = tt
worked GaveUp e = tt
worked Text e = tt
worked Rewrite e = tt
worked Read e = neither e
worked Write e = neither e
worked Words e = neither e
worked Memory e = neither e

pub out_worked : (s : Status) → IsOut s → IsWorked s
out_worked s o = worked s (inl o)

pub refused_worked : (s : Status) → IsRefused s → IsWorked s
refused_worked s r = worked s (inr r)

pub refused_not_out : (s : Status) → IsRefused s → ¬ IsOut s
refused_not_out Text r o = o
refused_not_out Rewrite r o = o
refused_not_out Done r o = r
refused_not_out No r o = r
refused_not_out GaveUp r o = r
refused_not_out Read r o = r
refused_not_out Write r o = r
refused_not_out Words r o = r
refused_not_out Memory r o = r

-- whatever is said of a form and a status is said of the same ones
pub said : (Says : Form → Status → List ℕ → Type 0) (form known : Form) (result status : Status) (text : List ℕ) → form ≡ known → result ≡ status → Says known status text → Says form result text
said Says form known result status text is same says =
    subst (λ (f : Form). Says f result text) (sym is) (subst (λ (s : Status). Says known s text) (sym same) says)

-- whatever is said of words where there is no command is said of the same ones
pub of_words : (Is : List (List ℕ) → Type 0) (found : Option Command) (words same : List (List ℕ)) → words ≡ same → IfNone found (Is same) → IfNone found (Is words)
of_words Is (Some command) words same is none = tt
of_words Is None words same is none = subst Is (sym is) none
