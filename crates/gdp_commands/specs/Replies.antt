-- What a command answers, as a status and a text.
use Rattle.std.specs.Prelude.{◌≡◌, ℕ, List}
use Rattle.gdp_io.specs.declared.shelves.ReadAllError.{ReadAllError}
use Rattle.gdp_io.specs.declared.shelves.ReadAllError.TheVariants as Error
use Rattle.gdp_commands.specs.declared.replies.Reply.{Reply}
use Rattle.gdp_commands.specs.declared.status.Status.{Status}
use Rattle.gdp_commands.specs.Messages.{read_fault, too_long}

-- the text that goes with the status
abbrev pub text_of : Reply → List ℕ
text_of reply = reply.text

-- the status and the text where the text behind the name was not read for this cause; running out of memory is no answer
abbrev pub ReadFailed : ReadAllError → List ℕ → Status → List ℕ → Type 0
ReadFailed Error.Read name status text = (status ≡ Status.Read) × (text ≡ read_fault name)
ReadFailed Error.TooLong name status text = (status ≡ Status.Text) × (text ≡ too_long name)
ReadFailed Error.Memory name status text = ⊥
