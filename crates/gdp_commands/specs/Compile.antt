-- What `compile CHOICE MODEL` answers for a text.
use Rattle.std.specs.Prelude.{ℕ, suc, List, [], ◌∷◌, ◌++◌, Result, Ok, Err, codes}
use Rattle.gdp_grammar.specs.Canonical.{name_in, var_names}
use Rattle.hull_rewrite.specs.declared.choices.Choice.{Choice}
use Rattle.hybrid_rewrite.specs.declared.errors.CompileError.{CompileError}
use Rattle.hybrid_rewrite.specs.declared.errors.CompileError.TheVariants.{NoBound, MTooWide, TooBig, Memory}
use Rattle.hybrid_rewrite.specs.Chosen.{flagging}
use Rattle.hybrid_rewrite.specs.Compiled.{CompiledValue, compiled}
use Rattle.lp_grammar.specs.Canonical.{col_name, lp_text_of}
use Rattle.milps.specs.Milps.{MilpValue}
use Rattle.model_tree.specs.Values.{ModelTree}
use Rattle.model_tree.specs.Variables.{names_of}
use Rattle.text_grammar.specs.Printing.{line_of, text_of}
use Rattle.gdp_commands.specs.declared.status.Status.TheVariants.{Done, Text, Rewrite}
use Rattle.gdp_commands.specs.Messages.{too_long, no_bound_at, too_wide_at, too_big}
use Rattle.gdp_commands.specs.Table.{Answer, FirstIf, Is}
use Rattle.gdp_commands.specs.Texts.{IsLong, ModelSays}

-- \ xJ NAME: a comment that says which name a column has
abbrev pub name_line : ℕ → List ℕ → List ℕ
name_line j name = line_of (codes "\\") (col_name j ∷ name ∷ [])

-- a line for each name, the first of which is that of this column
abbrev pub name_lines : ℕ → List (List ℕ) → List (List ℕ)
name_lines j [] = []
name_lines j (name ∷ names) = name_line j name ∷ name_lines (suc j) names

-- the names of a model's variables and Booleans, and the text of its program
abbrev pub compiled_text : ModelTree → MilpValue → List ℕ
compiled_text m milp = text_of (name_lines 0 (names_of m.vars m.booleans)) ++ lp_text_of milp

-- what a refusal answers; running out of memory is none
abbrev pub RefusedSays : ModelTree → CompileError → Answer
RefusedSays m (NoBound mark var) = Is Rewrite (no_bound_at mark (name_in (var_names m) var))
RefusedSays m (MTooWide mark) = Is Rewrite (too_wide_at mark)
RefusedSays m TooBig = Is Rewrite too_big
RefusedSays m Memory = λ s t. ⊥

-- what compiling the model answers
abbrev pub CompiledSays : ModelTree → Result CompiledValue CompileError → Answer
CompiledSays m (Ok c) = Is Done (compiled_text m c.milp)
CompiledSays m (Err error) = RefusedSays m error

-- the text of the listed program of the model that the text spells, or the first refusal in the order of emission
abbrev pub CompileSays : Choice → (model model_text : List ℕ) → Answer
CompileSays choice model model_text =
    FirstIf (IsLong model_text) Text (too_long model) (
    ModelSays model model_text (λ m.
    CompiledSays m (compiled m (flagging choice m))))
