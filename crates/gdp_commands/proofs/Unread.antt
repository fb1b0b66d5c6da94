-- What a command answers where a text was not read.
use Rattle.std.proofs.Common.{◌≡◌, ℕ, ◌≤◌, arith, List, Some, Result, Ok, Err, refl, sym, ◌∙◌, subst, inl, inr}
use Rattle.std.specs.Result.{IfOk}
use Rattle.outcomes.specs.declared.memory.Memory.{Memory}
use Rattle.gdp_io.specs.Causes.{Rose}
use Rattle.gdp_io.specs.Shelf.{Contents, SameContents, IsBehind}
use Rattle.gdp_io.specs.declared.shelves.ReadAllError.{ReadAllError}
use Rattle.gdp_io.specs.declared.shelves.ReadAllError.TheVariants as Error
use Rattle.gdp_commands.specs.Answers.{Says, SaysFault, FitsBefore, IsReplyTo}
use Rattle.gdp_commands.specs.Messages.{read_fault, too_long}
use Rattle.gdp_commands.specs.Replies.{ReadFailed, text_of}
use Rattle.gdp_commands.specs.Statuses.{IsWorked}
use Rattle.gdp_commands.specs.Texts.{IsLong, IsLonger, IsLongerBehind}
use Rattle.gdp_commands.specs.Words.{Form, IsRead}
use Rattle.gdp_commands.specs.Words.Form.{Test, Format, Compile, Solve, Check, Lp}
use Rattle.gdp_commands.specs.declared.replies.Reply.{Reply}
use Rattle.answers.specs.declared.answer.Route.{Route}
use Rattle.hull_rewrite.specs.declared.choices.Choice.{Choice}
use Rattle.gdp_commands.specs.declared.status.Status.{Status}
use Rattle.gdp_commands.specs.declared.status.Status.TheVariants as status
use Rattle.gdp_commands.proofs.Behind.{some_text, long_text}

-- the answer by the cause
if_failed : (form : Form) (contents : Contents) (before now : List ℕ → ℕ) (error : ReadAllError) (name : List ℕ) (answer : Status) (text : List ℕ) →
    (error ≡ Error.TooLong → Says form contents status.Text (too_long name)) →
    (error ≡ Error.Read → SaysFault form contents before now (read_fault name)) →
    ReadFailed error name answer text → IsReplyTo form contents before now answer text
if_failed form contents before now Error.Read name answer text if_long if_fault failed = record {
  one = inr failed.0;
  says = λ worked. absurd (subst IsWorked failed.0 worked);
  fault = λ is. subst (SaysFault form contents before now) (sym failed.1) (if_fault refl);
}
if_failed form contents before now Error.TooLong name answer text if_long if_fault failed = record {
  one = inl (subst IsWorked (sym failed.0) tt);
  says = λ worked. subst (λ (s : Status). Says form contents s text) (sym failed.0) (subst (Says form contents status.Text) (sym failed.1) (if_long refl));
  fault = λ is. absurd (cc (is, failed.0));
}
if_failed form contents before now Error.Memory name answer text if_long if_fault failed = absurd failed

-- the reply, which may run out of memory
if_replied : (form : Form) (contents : Contents) (before now : List ℕ → ℕ) (error : ReadAllError) (name : List ℕ) (result : Result Reply Memory) →
    (error ≡ Error.TooLong → Says form contents status.Text (too_long name)) →
    (error ≡ Error.Read → SaysFault form contents before now (read_fault name)) →
    IfOk result (λ reply. ReadFailed error name reply.status (text_of reply)) →
    IfOk result (λ reply. IsReplyTo form contents before now reply.status (text_of reply))
if_replied form contents before now error name (Err memory) if_long if_fault failed = tt
if_replied form contents before now error name (Ok reply) if_long if_fault failed =
    if_failed form contents before now error name reply.status (text_of reply) if_long if_fault failed

-- what a command that reads one text answers where it was not read
one_unread : (form : Form) (contents : Contents) (before now : List ℕ → ℕ) (model : List ℕ) (error : ReadAllError) (result : Result Reply Memory) →
    ((text : List ℕ) → IsBehind contents model text → IsLong text → Says form contents status.Text (too_long model)) →
    IsRead form model → FitsBefore form contents model →
    (error ≡ Error.TooLong → IsLongerBehind 8388608 contents model) → (error ≡ Error.Read → Rose (before model) (now model)) →
    IfOk result (λ reply. ReadFailed error model reply.status (text_of reply)) →
    IfOk result (λ reply. IsReplyTo form contents before now reply.status (text_of reply))
one_unread form contents before now model error result says reads fits if_long if_rose =
    if_replied form contents before now error model result
    (λ is. let long = long_text 8388608 contents model (if_long is) in says long.0 long.1 long.2)
    (λ is. (model, reads, fits, if_rose is, refl))

-- what `format` answers where its text was not read
pub format_unread : (contents : Contents) (before now : List ℕ → ℕ) (model : List ℕ) (error : ReadAllError) (result : Result Reply Memory) →
    (error ≡ Error.TooLong → IsLongerBehind 8388608 contents model) → (error ≡ Error.Read → Rose (before model) (now model)) →
    IfOk result (λ reply. ReadFailed error model reply.status (text_of reply)) →
    IfOk result (λ reply. IsReplyTo (Format model) contents before now reply.status (text_of reply))
format_unread contents before now model error result =
    one_unread (Format model) contents before now model error result (λ text behind long. (text, behind, inl (long, (refl, refl)))) refl tt

-- and `compile`
pub compile_unread : (choice : Choice) (contents : Contents) (before now : List ℕ → ℕ) (model : List ℕ) (error : ReadAllError) (result : Result Reply Memory) →
    (error ≡ Error.TooLong → IsLongerBehind 8388608 contents model) → (error ≡ Error.Read → Rose (before model) (now model)) →
    IfOk result (λ reply. ReadFailed error model reply.status (text_of reply)) →
    IfOk result (λ reply. IsReplyTo (Compile choice model) contents before now reply.status (text_of reply))
compile_unread choice contents before now model error result =
    one_unread (Compile choice model) contents before now model error result (λ text behind long. (text, behind, inl (long, (refl, refl)))) refl tt

-- and `solve`
pub solve_unread : (route : Route) (steps : ℕ) (contents : Contents) (before now : List ℕ → ℕ) (model : List ℕ) (error : ReadAllError) (result : Result Reply Memory) →
    (error ≡ Error.TooLong → IsLongerBehind 8388608 contents model) → (error ≡ Error.Read → Rose (before model) (now model)) →
    IfOk result (λ reply. ReadFailed error model reply.status (text_of reply)) →
    IfOk result (λ reply. IsReplyTo (Solve route steps model) contents before now reply.status (text_of reply))
solve_unread route steps contents before now model error result =
    one_unread (Solve route steps model) contents before now model error result (λ text behind long. (text, behind, inl (long, (refl, refl)))) refl tt

-- and `lp`
pub lp_unread : (steps : ℕ) (contents : Contents) (before now : List ℕ → ℕ) (file : List ℕ) (error : ReadAllError) (result : Result Reply Memory) →
    (error ≡ Error.TooLong → IsLongerBehind 8388608 contents file) → (error ≡ Error.Read → Rose (before file) (now file)) →
    IfOk result (λ reply. ReadFailed error file reply.status (text_of reply)) →
    IfOk result (λ reply. IsReplyTo (Lp steps file) contents before now reply.status (text_of reply))
lp_unread steps contents before now file error result =
    one_unread (Lp steps file) contents before now file error result (λ text behind long. (text, behind, inl (long, (refl, refl)))) refl tt

-- what a command that reads two texts answers where the first was not read
first_unread : (form : Form) (contents : Contents) (before now : List ℕ → ℕ) (model other : List ℕ) (error : ReadAllError) (result : Result Reply Memory) →
    ((one two : List ℕ) → IsBehind contents model one → IsBehind contents other two → IsLong one → Says form contents status.Text (too_long model)) →
    IsRead form model → FitsBefore form contents model →
    (error ≡ Error.TooLong → IsLongerBehind 8388608 contents model) → (error ≡ Error.Read → Rose (before model) (now model)) →
    IfOk result (λ reply. ReadFailed error model reply.status (text_of reply)) →
    IfOk result (λ reply. IsReplyTo form contents before now reply.status (text_of reply))
first_unread form contents before now model other error result says reads fits if_long if_rose =
    if_replied form contents before now error model result
    (λ is. let long = long_text 8388608 contents model (if_long is) in let two = some_text contents other in says long.0 two.0 long.1 two.1 long.2)
    (λ is. (model, reads, fits, if_rose is, refl))

-- and where the first was read, and the second was not
second_unread : (limit : ℕ) (form : Form) (contents between : Contents) (before now : List ℕ → ℕ) (model other model_text : List ℕ) (error : ReadAllError) (result : Result Reply Memory) →
    ((two : List ℕ) → IsBehind contents other two → IsLonger limit two → Says form contents status.Text (too_long other)) →
    IsRead form other → (((all : List ℕ) → contents model ≡ Some all → ¬ IsLong all) → FitsBefore form contents other) →
    SameContents contents between → IsBehind contents model model_text → ¬ IsLong model_text →
    (error ≡ Error.TooLong → IsLongerBehind limit between other) → (error ≡ Error.Read → Rose (before other) (now other)) →
    IfOk result (λ reply. ReadFailed error other reply.status (text_of reply)) →
    IfOk result (λ reply. IsReplyTo form contents before now reply.status (text_of reply))
second_unread limit form contents between before now model other model_text error result says reads fits same is_model short if_long if_rose =
    if_replied form contents before now error other result
    (λ is. let long = long_text limit contents other (λ all revealed. if_long is all (same other ∙ revealed)) in says long.0 long.1 long.2)
    (λ is. (other, reads, fits (λ all revealed long. short (subst IsLong (sym (is_model all revealed)) long)), if_rose is, refl))

-- so `test` answers
pub model_unread : (contents : Contents) (before now : List ℕ → ℕ) (model point : List ℕ) (error : ReadAllError) (result : Result Reply Memory) →
    (error ≡ Error.TooLong → IsLongerBehind 8388608 contents model) → (error ≡ Error.Read → Rose (before model) (now model)) →
    IfOk result (λ reply. ReadFailed error model reply.status (text_of reply)) →
    IfOk result (λ reply. IsReplyTo (Test model point) contents before now reply.status (text_of reply))
model_unread contents before now model point error result =
    first_unread (Test model point) contents before now model point error result (λ one two a b long. (one, a, (two, b, inl (long, (refl, refl))))) (inl refl) (inl refl)

pub point_unread : (contents between : Contents) (before now : List ℕ → ℕ) (model point model_text : List ℕ) (error : ReadAllError) (result : Result Reply Memory) →
    SameContents contents between → IsBehind contents model model_text → ¬ IsLong model_text →
    (error ≡ Error.TooLong → IsLongerBehind 8388608 between point) → (error ≡ Error.Read → Rose (before point) (now point)) →
    IfOk result (λ reply. ReadFailed error point reply.status (text_of reply)) →
    IfOk result (λ reply. IsReplyTo (Test model point) contents before now reply.status (text_of reply))
point_unread contents between before now model point model_text error result same is_model short =
    second_unread 8388608 (Test model point) contents between before now model point model_text error result
    (λ two b long. (model_text, is_model, (two, b, inr (short, inl (long, (refl, refl)))))) (inr refl) (λ fits. inr fits) same is_model short

-- and so `check`
pub checked_unread : (contents : Contents) (before now : List ℕ → ℕ) (model answer : List ℕ) (error : ReadAllError) (result : Result Reply Memory) →
    (error ≡ Error.TooLong → IsLongerBehind 8388608 contents model) → (error ≡ Error.Read → Rose (before model) (now model)) →
    IfOk result (λ reply. ReadFailed error model reply.status (text_of reply)) →
    IfOk result (λ reply. IsReplyTo (Check model answer) contents before now reply.status (text_of reply))
checked_unread contents before now model answer error result =
    first_unread (Check model answer) contents before now model answer error result (λ one two a b long. (one, a, (two, b, inl (long, (refl, refl))))) (inl refl) (inl refl)

pub answer_unread : (contents between : Contents) (before now : List ℕ → ℕ) (model answer model_text : List ℕ) (error : ReadAllError) (result : Result Reply Memory) →
    SameContents contents between → IsBehind contents model model_text → ¬ IsLong model_text →
    (error ≡ Error.TooLong → IsLongerBehind 1099511627776 between answer) → (error ≡ Error.Read → Rose (before answer) (now answer)) →
    IfOk result (λ reply. ReadFailed error answer reply.status (text_of reply)) →
    IfOk result (λ reply. IsReplyTo (Check model answer) contents before now reply.status (text_of reply))
answer_unread contents between before now model answer model_text error result same is_model short =
    second_unread 1099511627776 (Check model answer) contents between before now model answer model_text error result
    (λ two b long. (model_text, is_model, (two, b, inr (short, inl (long, (refl, refl)))))) (inr refl) (λ fits. inr fits) same is_model short

-- a count that rose after another call rose
pub risen : (before between now : ℕ) → before ≤ between → Rose between now → Rose before now
risen before between now later rose = omega arith
