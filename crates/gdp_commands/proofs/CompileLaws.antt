-- What `compile` writes: LP text of an exact rewrite, or the first refusal.
use Rattle.std.proofs.Common.{◌≡◌, ◌≢◌, ℕ, Bool, List, length, Option, Some, None, refl, sym, subst, inl, inr}
use Rattle.block_tree.specs.Tree.{Disjuncts}
use Rattle.emission.specs.declared.halts.Halt.{Halt}
use Rattle.emission.specs.declared.halts.Halt.TheVariants.{NoBound, TooWide, TooBig, Unfit, Memory}
use Rattle.gdp_grammar.specs.Spelling.{Spells}
use Rattle.hull_rewrite.specs.declared.choices.Choice.{Choice}
use Rattle.hull_rewrite.specs.Choices.{flags_in}
use Rattle.hybrid_rewrite.specs.Chosen.{flagging}
use Rattle.hybrid_rewrite.specs.Compiled.{CompiledValue, compiled, compiled_by}
use Rattle.hybrid_rewrite.specs.Laws.{rewritten}
use Rattle.hybrid_rewrite.specs.Rewritten.{listed_milp}
use Rattle.hybrid_rewrite.proofs.FitHulls.{rewrites_are_fit}
use Rattle.hybrid_rewrite.proofs.Lacking.{runs_never_lack_memory}
use Rattle.hybrid_rewrite.proofs.Worth.{rewrites_are_exact, runs_are_listed}
use Rattle.model_tree.specs.Sound.{IsSound}
use Rattle.model_tree.specs.Values.{ModelTree}
use Rattle.gdp_commands.specs.declared.status.Status.{Status}
use Rattle.gdp_commands.specs.declared.status.Status.TheVariants.{Done, Text, Rewrite}
use Rattle.gdp_commands.specs.Compile.{CompiledSays, CompileSays, compiled_text}
use Rattle.gdp_commands.specs.Texts.{ModelSays}
use Rattle.lp_grammar.specs.Laws.{written_program}
use Rattle.lp_grammar.specs.Spelling.{LpSpells}
use Rattle.milps.specs.Milps.{MilpValue}
use Rattle.gdp_commands.specs.CompileLaws.{IsRewrittenAs, HaltSays, IsRefusedAs, CompilesExactly, RefusesExactly}
use Rattle.gdp_commands.proofs.Programs.{listed_is_milp, compiled_spells}
use Rattle.gdp_commands.proofs.Spelled.{spelled_is_sound}

-- a program is answered where nothing halts the rewrite
rewritten_by : (stop : Option Halt) (m : ModelTree) (value : CompiledValue) (written : List ℕ) → CompiledSays m (compiled_by stop value) Done written →
    (stop ≡ None) × (written ≡ compiled_text m value.milp)
rewritten_by None m value written says = (refl, says.1)
rewritten_by (Some (NoBound mark var)) m value written says = absurd (cc says.0)
rewritten_by (Some (TooWide mark)) m value written says = absurd (cc says.0)
rewritten_by (Some TooBig) m value written says = absurd (cc says.0)
rewritten_by (Some Unfit) m value written says = absurd (cc says.0)
rewritten_by (Some Memory) m value written says = absurd says

-- and the line of its halt elsewhere
refused_by : (stop : Option Halt) (m : ModelTree) (value : CompiledValue) (written : List ℕ) → stop ≢ Some Unfit → stop ≢ Some Memory →
    CompiledSays m (compiled_by stop value) Rewrite written → (h : Halt) × (stop ≡ Some h) × HaltSays m h written
refused_by None m value written fit lacking says = absurd (cc says.0)
refused_by (Some (NoBound mark var)) m value written fit lacking says = (NoBound mark var, refl, says.1)
refused_by (Some (TooWide mark)) m value written fit lacking says = (TooWide mark, refl, says.1)
refused_by (Some TooBig) m value written fit lacking says = (TooBig, refl, says.1)
refused_by (Some Unfit) m value written fit lacking says = absurd (fit refl)
refused_by (Some Memory) m value written fit lacking says = absurd (lacking refl)

-- what is answered of a model, where it is not that its text is refused
of_model : (choice : Choice) (model text : List ℕ) (status : Status) (written : List ℕ) → status ≢ Text →
    ModelSays model text (λ m. CompiledSays m (compiled m (flagging choice m))) status written →
    (m : ModelTree) × Spells text m × CompiledSays m (compiled m (flagging choice m)) status written
of_model choice model text status written other (inl bad) = absurd (other bad.3.0)
of_model choice model text status written other (inr found) = found

of_text : (choice : Choice) (model text : List ℕ) (status : Status) (written : List ℕ) → status ≢ Text → CompileSays choice model text status written →
    (m : ModelTree) × Spells text m × CompiledSays m (compiled m (flagging choice m)) status written
of_text choice model text status written other (inl long) = absurd (other long.1.0)
of_text choice model text status written other (inr short) = of_model choice model text status written other short.1

-- what is compiled, where nothing is refused
abbrev listed_value : ModelTree → (Disjuncts → Bool) → CompiledValue
listed_value m hulled = record { milp = listed_milp m hulled; hulled = flags_in hulled m.root; vars = length m.vars; booleans = length m.booleans }

rewritten_as : (choice : Choice) (m : ModelTree) (written : List ℕ) → IsSound m → CompiledSays m (compiled m (flagging choice m)) Done written → IsRewrittenAs m written
rewritten_as choice m written sound says =
    let hulled = flagging choice m in
    let milp : MilpValue = listed_milp m hulled in
    let by = rewritten_by (rewritten m hulled).halt m (listed_value m hulled) written says in
    let text : written ≡ compiled_text m milp = by.1 in
    record {
      milp = milp;
      text = text;
      spells = subst (λ (t : List ℕ). LpSpells t (written_program milp)) (sym text) (compiled_spells m milp sound (listed_is_milp m hulled sound by.0));
      exact = rewrites_are_exact m hulled sound (runs_are_listed.accepted m hulled by.0);
    }

refused_as : (choice : Choice) (m : ModelTree) (written : List ℕ) → IsSound m → CompiledSays m (compiled m (flagging choice m)) Rewrite written → IsRefusedAs choice m written
refused_as choice m written sound says =
    let hulled = flagging choice m in
    let by = refused_by (rewritten m hulled).halt m (listed_value m hulled) written (rewrites_are_fit m hulled sound) (runs_never_lack_memory m hulled) says in
    record { halt = by.0; first = by.1; says = by.2 }

pub compiles_exactly : CompilesExactly
compiles_exactly choice model contents written says =
    let found = of_text choice model says.0 Done written (λ e. cc e) says.2 in
    record {
      text = says.0;
      behind = says.1;
      model = found.0;
      spelled = found.1;
      is = rewritten_as choice found.0 written (spelled_is_sound says.0 found.0 found.1) found.2;
    }

pub refuses_exactly : RefusesExactly
refuses_exactly choice model contents written says =
    let found = of_text choice model says.0 Rewrite written (λ e. cc e) says.2 in
    record {
      text = says.0;
      behind = says.1;
      model = found.0;
      spelled = found.1;
      is = refused_as choice found.0 written (spelled_is_sound says.0 found.0 found.1) found.2;
    }
