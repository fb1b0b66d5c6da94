-- What goes to a stream whose faults change nothing.
use Rattle.std.specs.Prelude.{◌≡◌, ◌⊎◌, ℕ, List, Option}
use Rattle.gdp_io.specs.Causes.{Rose}
use Rattle.gdp_io.specs.Sink.{grown, WrotePrefix}

-- the text was written, or a part of it, from its front, and the count of faults rose
abbrev pub Sent : Option (List ℕ) → Option (List ℕ) → ℕ → ℕ → List ℕ → Type 0
Sent old new before now text = (new ≡ grown old text) ⊎ (Rose before now × WrotePrefix old new text)
