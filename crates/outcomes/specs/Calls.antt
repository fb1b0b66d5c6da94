-- Words of contracts: ordered refusals, calls that change a value, and running out of memory, the one answer left open.
use Rattle.std.specs.Prelude.{◌≡◌, Option, Some, None, Result, Ok, Err, ◌⊎◌, Bool, if◌then◌else◌}

-- the call answers this, or runs out of memory
abbrev pub OrMemory : {A E : Type 0} → E → Result A E → Result A E → Type 0
OrMemory memory result answer = (result ≡ answer) ⊎ (result ≡ Err memory)

-- the refusal, or else the value
abbrev pub refused_or : {A E : Type 0} → Option E → A → Result A E
refused_or (Some refusal) value = Err refusal
refused_or None value = Ok value

-- this refusal where the test is true, else what stands below
abbrev pub refuse_if : {E : Type 0} → Bool → E → Option E → Option E
refuse_if test refusal below = if test then Some refusal else below

-- the refusal, which leaves the value as it was, or else the answer and the next value
abbrev pub unless : {S A E : Type 0} → Option E → S → A → S → Result A E × S
unless (Some refusal) old answer next = (Err refusal, old)
unless None old answer next = (Ok answer, next)

-- A call that changes a value answers and leaves what the outcome says, or runs out of memory and changes nothing.
abbrev pub Acts : {S A E : Type 0} → E → S → Result A E × S → Result A E → S → Type 0
Acts memory old outcome result new = ((result ≡ outcome.0) × (new ≡ outcome.1)) ⊎ ((result ≡ Err memory) × (new ≡ old))
