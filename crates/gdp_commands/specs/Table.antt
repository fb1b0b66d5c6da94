-- A table of answers: the first condition that holds decides the status and the text.
use Rattle.std.specs.Prelude.{◌≡◌, ◌⊎◌, ℕ, List}
use Rattle.gdp_commands.specs.declared.status.Status.{Status}

-- which status and which text are right
abbrev pub Answer : Type 1
Answer = Status → List ℕ → Type 0

-- this status and this text
abbrev pub Is : Status → List ℕ → Answer
Is status text = λ s t. (s ≡ status) × (t ≡ text)

-- where the condition holds, this status and this text; else as below
abbrev pub FirstIf : Type 0 → Status → List ℕ → Answer → Answer
FirstIf condition status text below = λ s t. (condition × Is status text s t) ⊎ ((¬ condition) × below s t)

-- as below for something that is so
abbrev pub For : {A : Type 0} → (A → Type 0) → (A → Answer) → Answer
For {A} is below = λ s t. (x : A) × is x × below x s t

-- where what was read is bad at a line for a cause, this status and the text of that; else as below for what it is
abbrev pub Parsed : {A C : Type 0} → (ℕ → C → Type 0) → Status → (ℕ → C → List ℕ) → (A → Type 0) → (A → Answer) → Answer
Parsed {A} {C} is_bad status message is below = λ s t.
    ((line : ℕ) × (cause : C) × is_bad line cause × Is status (message line cause) s t) ⊎ For is below s t

-- at most one status and text
abbrev pub IsOne : Answer → Type 0
IsOne answer = (s s' : Status) (t t' : List ℕ) → answer s t → answer s' t' → (s ≡ s') × (t ≡ t')
