-- The law of what LP texts spell. It is the contract of a function of `laws`.
use Rattle.std.specs.Prelude.{◌≡◌, ℕ, List, length}
use Rattle.lp_grammar.specs.Programs.{IsMilp}
use Rattle.lp_grammar.specs.Reading.{LpValue}
use Rattle.lp_grammar.specs.Spelling.{LpSpells}

-- what a text spells is a program that an LP text can spell, with a name for each column
abbrev pub SpelledIsMilp : Type 0
SpelledIsMilp = (text : List ℕ) (p : LpValue) → LpSpells text p → IsMilp p.milp × (length p.names ≡ length p.milp.cols)
