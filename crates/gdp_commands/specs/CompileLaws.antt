-- What `compile` promises of what it writes.
use Rattle.std.specs.Prelude.{◌≡◌, ℕ, List, Some}
use Rattle.emission.specs.declared.halts.Halt.{Halt}
use Rattle.emission.specs.declared.halts.Halt.TheVariants.{NoBound, TooWide, TooBig, Unfit, Memory}
use Rattle.gdp_grammar.specs.Canonical.{name_in, var_names}
use Rattle.gdp_grammar.specs.Spelling.{Spells}
use Rattle.gdp_io.specs.Shelf.{Contents, IsBehind}
use Rattle.hull_rewrite.specs.declared.choices.Choice.{Choice}
use Rattle.hybrid_rewrite.specs.Chosen.{flagging}
use Rattle.hybrid_rewrite.specs.Laws.{rewritten}
use Rattle.hybrid_rewrite.specs.Rewritten.{IsExactRewrite}
use Rattle.lp_grammar.specs.Laws.{written_program}
use Rattle.lp_grammar.specs.Spelling.{LpSpells}
use Rattle.milps.specs.Milps.{MilpValue}
use Rattle.model_tree.specs.Sound.{IsSound}
use Rattle.model_tree.specs.Values.{ModelTree}
use Rattle.gdp_commands.specs.declared.status.Status.TheVariants.{Done, Rewrite}
use Rattle.gdp_commands.specs.Answers.{Says}
use Rattle.gdp_commands.specs.Compile.{compiled_text}
use Rattle.gdp_commands.specs.Messages.{no_bound_at, too_wide_at, too_big}
use Rattle.gdp_commands.specs.Words.Form.{Compile}

-- a model that a text spells keeps what every model keeps
abbrev pub SpelledIsSound : Type 0
SpelledIsSound = (text : List ℕ) (m : ModelTree) → Spells text m → IsSound m

-- The text is a line for the name of each variable and Boolean of the model, and then LP text. It spells a program that is
-- an exact rewrite of the model.
pub record IsRewrittenAs (m : ModelTree) (written : List ℕ) : Type 0 where
  pub milp : MilpValue
  pub text : written ≡ compiled_text m milp
  pub spells : LpSpells written (written_program milp)
  pub exact : IsExactRewrite m milp

-- the line of a halt; that a row is unfit, or that memory ran out, never halts a rewrite
abbrev pub HaltSays : ModelTree → Halt → List ℕ → Type 0
HaltSays m (NoBound mark var) written = written ≡ no_bound_at mark (name_in (var_names m) var)
HaltSays m (TooWide mark) written = written ≡ too_wide_at mark
HaltSays m TooBig written = written ≡ too_big
HaltSays m Unfit written = ⊥
HaltSays m Memory written = ⊥

-- the text is the line of the first refusal of the rewrite by this choice, in the order of emission
pub record IsRefusedAs (choice : Choice) (m : ModelTree) (written : List ℕ) : Type 0 where
  pub halt : Halt
  pub first : (rewritten m (flagging choice m)).halt ≡ Some halt
  pub says : HaltSays m halt written

-- some text behind the name spells a model for which this is so
pub record SpellsBehind (contents : Contents) (name : List ℕ) (Is : ModelTree → Type 0) : Type 0 where
  pub text : List ℕ
  pub behind : IsBehind contents name text
  pub model : ModelTree
  pub spelled : Spells text model
  pub is : Is model

-- What `compile` answers with status 0 is LP text of an exact rewrite of the model that the text behind the name spells:
-- cut to the model's variables and Booleans, the points of its program are exactly the model's, with the same values.
abbrev pub CompilesExactly : Type 0
CompilesExactly =
    (choice : Choice) (model : List ℕ) (contents : Contents) (written : List ℕ) →
    Says (Compile choice model) contents Done written → SpellsBehind contents model (λ m. IsRewrittenAs m written)

-- What it answers with status 4 is the first refusal of the rewrite of that model.
abbrev pub RefusesExactly : Type 0
RefusesExactly =
    (choice : Choice) (model : List ℕ) (contents : Contents) (written : List ℕ) →
    Says (Compile choice model) contents Rewrite written → SpellsBehind contents model (λ m. IsRefusedAs choice m written)
