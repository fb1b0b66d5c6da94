-- The forms of the command line.
use Rattle.std.specs.Prelude.{◌≡◌, ◌≤◌, ◌⊎◌, ℕ, List, [], ◌∷◌, Some, map, codes, String, string_bytes}
use Rattle.std.specs.declared.alloc.Global.{Global}
use Rattle.answers.specs.declared.answer.Route.{Route}
use Rattle.cert_grammar.specs.Claims.{route_word}
use Rattle.hull_rewrite.specs.declared.choices.Choice.{Choice}
use Rattle.hull_rewrite.specs.declared.choices.Choice.TheVariants.{BigM, Hull, Hybrid}
use Rattle.text_reader.specs.Naturals.{natural_of}

-- a form, with what its words stand for
pub data Form : Type 0 where
  Test : (model point : List ℕ) → Form
  Format : (model : List ℕ) → Form
  Compile : (choice : Choice) → (model : List ℕ) → Form
  Solve : (route : Route) (steps : ℕ) → (model : List ℕ) → Form
  Check : (model answer : List ℕ) → Form
  Make : (seed size : ℕ) → Form
  Bench : (route : Route) (steps seed size : ℕ) → Form
  Lp : (steps : ℕ) → (file : List ℕ) → Form

-- the word of a choice
abbrev pub choice_word : Choice → List ℕ
choice_word BigM = codes "bigm"
choice_word Hull = codes "hull"
choice_word Hybrid = codes "hybrid"

-- a number of steps, from 1 to 1,000,000, in digits alone
pub record IsSteps (word : List ℕ) (steps : ℕ) : Type 0 where
  pub spelled : natural_of 1000000 word ≡ Some steps
  pub some : 1 ≤ steps

-- a seed: a number below 2^64, in digits alone
abbrev pub IsSeed : (word : List ℕ) (seed : ℕ) → Type 0
IsSeed word seed = natural_of 18446744073709551615 word ≡ Some seed

-- a size, from 1 to 20, in digits alone
pub record IsSize (word : List ℕ) (size : ℕ) : Type 0 where
  pub spelled : natural_of 20 word ≡ Some size
  pub some : 1 ≤ size

-- the words are of this form
abbrev pub IsForm : List (List ℕ) → Form → Type 0
IsForm words (Test model point) = words ≡ codes "test" ∷ model ∷ point ∷ []
IsForm words (Format model) = words ≡ codes "format" ∷ model ∷ []
IsForm words (Compile choice model) = words ≡ codes "compile" ∷ choice_word choice ∷ model ∷ []
IsForm words (Solve route steps model) = (word : List ℕ) × (words ≡ codes "solve" ∷ route_word route ∷ word ∷ model ∷ []) × IsSteps word steps
IsForm words (Check model answer) = words ≡ codes "check" ∷ model ∷ answer ∷ []
IsForm words (Make seed size) = (first : List ℕ) × (second : List ℕ) × (words ≡ codes "make" ∷ first ∷ second ∷ []) × (IsSeed first seed × IsSize second size)
IsForm words (Bench route steps seed size) = (first : List ℕ) × (second : List ℕ) × (third : List ℕ)
    × (words ≡ codes "bench" ∷ route_word route ∷ first ∷ second ∷ third ∷ []) × (IsSteps first steps × (IsSeed second seed × IsSize third size))
IsForm words (Lp steps file) = (word : List ℕ) × (words ≡ codes "lp" ∷ word ∷ file ∷ []) × IsSteps word steps

-- the command reads what is behind this name
abbrev pub IsRead : Form → List ℕ → Type 0
IsRead (Test model point) name = (name ≡ model) ⊎ (name ≡ point)
IsRead (Format model) name = name ≡ model
IsRead (Compile choice model) name = name ≡ model
IsRead (Solve route steps model) name = name ≡ model
IsRead (Check model answer) name = (name ≡ model) ⊎ (name ≡ answer)
IsRead (Make seed size) name = ⊥
IsRead (Bench route steps seed size) name = ⊥
IsRead (Lp steps file) name = name ≡ file

-- the names that the command reads, in order
abbrev pub names_of : Form → List (List ℕ)
names_of (Test model point) = model ∷ point ∷ []
names_of (Format model) = model ∷ []
names_of (Compile choice model) = model ∷ []
names_of (Solve route steps model) = model ∷ []
names_of (Check model answer) = model ∷ answer ∷ []
names_of (Make seed size) = []
names_of (Bench route steps seed size) = []
names_of (Lp steps file) = file ∷ []

-- the words, as bytes
abbrev pub words_of : List (String Global) → List (List ℕ)
words_of words = map string_bytes words

-- the words are of no form
abbrev pub NoForm : List (List ℕ) → Type 0
NoForm words = (form : Form) → ¬ IsForm words form
