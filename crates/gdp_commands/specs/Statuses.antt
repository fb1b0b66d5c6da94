-- The statuses: their numbers, and where the text of each goes.
use Rattle.std.specs.Prelude.{ℕ, ⊤}
use Rattle.gdp_commands.specs.declared.status.Status.{Status}
use Rattle.gdp_commands.specs.declared.status.Status.TheVariants.{Done, No, Text, GaveUp, Rewrite, Read, Write, Words, Memory}

-- the number that the program ends with
abbrev pub number_of : Status → ℕ
number_of Done = 0
number_of No = 1
number_of Text = 2
number_of GaveUp = 3
number_of Rewrite = 4
number_of Read = 5
number_of Write = 6
number_of Words = 7
number_of Memory = 8

-- the text goes to `out`
abbrev pub IsOut : Status → Type 0
IsOut Done = ⊤
IsOut No = ⊤
IsOut GaveUp = ⊤
IsOut Text = ⊥
IsOut Rewrite = ⊥
IsOut Read = ⊥
IsOut Write = ⊥
IsOut Words = ⊥
IsOut Memory = ⊥

-- a text or a model is refused, and `err` gets the reason
abbrev pub IsRefused : Status → Type 0
IsRefused Text = ⊤
IsRefused Rewrite = ⊤
IsRefused Done = ⊥
IsRefused No = ⊥
IsRefused GaveUp = ⊥
IsRefused Read = ⊥
IsRefused Write = ⊥
IsRefused Words = ⊥
IsRefused Memory = ⊥

-- a command came to its answer
abbrev pub IsWorked : Status → Type 0
IsWorked Done = ⊤
IsWorked No = ⊤
IsWorked Text = ⊤
IsWorked GaveUp = ⊤
IsWorked Rewrite = ⊤
IsWorked Read = ⊥
IsWorked Write = ⊥
IsWorked Words = ⊥
IsWorked Memory = ⊥
