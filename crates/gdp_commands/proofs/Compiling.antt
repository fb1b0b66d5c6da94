-- What `compile` answers by what compiling the model does, and its text part by part.
use Rattle.std.proofs.Common.{◌≡◌, ℕ, suc, ◌+◌, ◌<◌, List, [], ◌∷◌, ◌++◌, length, map, drop, drop-cons, slice_index_or, append_assoc, add-one, Result, Ok, Err, ap, sym, ◌∙◌, subst, inl, inr, arith}
use Rattle.std.specs.Result.{IfOk}
use Rattle.std.proofs.lemmas.List.{length-map}
use Rattle.outcomes.specs.Calls.{OrMemory}
use Rattle.outcomes.specs.declared.memory.Memory.{Memory}
use Rattle.hybrid_rewrite.specs.Compiled.{CompiledValue}
use Rattle.hybrid_rewrite.specs.declared.errors.CompileError.{CompileError}
use Rattle.hybrid_rewrite.specs.declared.errors.CompileError.TheVariants as error
use Rattle.lp_grammar.specs.Canonical.{lp_text_of}
use Rattle.milps.specs.Milps.{MilpValue}
use Rattle.model_tree.specs.Values.{ModelTree}
use Rattle.text_grammar.specs.Printing.{text_of}
use Rattle.text_grammar.proofs.PrintingLemmas.{text_appended}
use Rattle.gdp_commands.specs.declared.replies.Reply.{Reply}
use Rattle.gdp_commands.specs.declared.status.Status.TheVariants.{Done}
use Rattle.gdp_commands.specs.Compile.{name_line, name_lines, compiled_text, RefusedSays, CompiledSays}
use Rattle.gdp_commands.specs.Replies.{text_of as reply_text}
use Rattle.gdp_commands.specs.Table.{Is}

-- the answer of a program, and that of a refusal
pub if_compiled : (m : ModelTree) (answer result : Result CompiledValue CompileError) (value : CompiledValue) (reply : Result Reply Memory) →
    OrMemory error.Memory result answer → result ≡ Ok value → IfOk reply (λ r. Is Done (compiled_text m value.milp) r.status (reply_text r)) →
    IfOk reply (λ r. CompiledSays m answer r.status (reply_text r))
if_compiled m answer result value (Err memory) by is says = tt
if_compiled m answer result value (Ok r) (inl same) is says =
    subst (λ (a : Result CompiledValue CompileError). CompiledSays m a r.status (reply_text r)) (sym is ∙ same) says
if_compiled m answer result value (Ok r) (inr memory) is says = absurd (cc (is, memory))

pub if_refused : (m : ModelTree) (answer result : Result CompiledValue CompileError) (refusal : CompileError) (reply : Result Reply Memory) →
    OrMemory error.Memory result answer → result ≡ Err refusal → IfOk reply (λ r. RefusedSays m refusal r.status (reply_text r)) →
    IfOk reply (λ r. CompiledSays m answer r.status (reply_text r))
if_refused m answer result refusal (Err memory) by is says = tt
if_refused m answer result refusal (Ok r) (inl same) is says =
    subst (λ (a : Result CompiledValue CompileError). CompiledSays m a r.status (reply_text r)) (sym is ∙ same) says
if_refused m answer result refusal (Ok r) (inr memory) is says =
    absurd (subst (λ (a : Result CompiledValue CompileError). CompiledSays m a r.status (reply_text r)) (sym is ∙ memory) says)

-- one more name
pub one_name_more : {A : Type 0} (name_of : A → List ℕ) (n next i : ℕ) (xs : List A) (x d : A) (a b whole : List ℕ) → next ≡ suc n → i < length xs → x ≡ slice_index_or xs i d →
    b ≡ a ++ name_line n (name_of x) ++ 10 ∷ [] → a ++ text_of (name_lines n (map name_of (drop i xs))) ≡ whole →
    b ++ text_of (name_lines next (map name_of (drop (i + 1) xs))) ≡ whole
one_name_more {A} name_of n next i xs x d a b whole is_next lt is put before =
    let line : List ℕ = name_line n (name_of x) in
    let left : List ℕ = text_of (name_lines (suc n) (map name_of (drop (suc i) xs))) in
    let cut : text_of (name_lines n (map name_of (drop i xs))) ≡ line ++ 10 ∷ left =
    ap (λ (l : List A). text_of (name_lines n (map name_of l))) (drop-cons xs i d lt)
    ∙ ap (λ (y : A). text_of (name_lines n (name_of y ∷ map name_of (drop (suc i) xs)))) (sym is) in
    let step : b ++ left ≡ whole =
    ap (λ (t : List ℕ). t ++ left) put ∙ append_assoc (a ++ line) (10 ∷ []) left ∙ append_assoc a line (10 ∷ left) ∙ ap (λ (t : List ℕ). a ++ t) (sym cut) ∙ before in
    rw (is_next, add-one) step

-- the lines of names, one after the other
names_apart : (n : ℕ) (xs ys : List (List ℕ)) → name_lines n (xs ++ ys) ≡ name_lines n xs ++ name_lines (n + length xs) ys
names_apart n [] ys = ap (λ (k : ℕ). name_lines k ys) (omega arith)
names_apart n (x ∷ xs) ys =
    ap (λ (l : List (List ℕ)). name_line n x ∷ l) (names_apart (suc n) xs ys ∙ ap (λ (k : ℕ). name_lines (suc n) xs ++ name_lines k ys) (omega arith))

-- the names of variables, then those of Booleans, then the text of the program
pub compiled_put : (m : ModelTree) (milp : MilpValue) (start a b c : List ℕ) (n : ℕ) → start ≡ [] → n ≡ length m.vars → a ≡ start ++ text_of (name_lines 0 (map (λ v. v.0) m.vars)) →
    b ≡ a ++ text_of (name_lines n (map (λ x. x.0) m.booleans)) → c ≡ b ++ lp_text_of milp → c ≡ compiled_text m milp
compiled_put m milp start a b c n none is_n p q r =
    let vars : List (List ℕ) = map (λ v. v.0) m.vars in
    let booleans : List (List ℕ) = map (λ x. x.0) m.booleans in
    let count : length vars ≡ length m.vars = length-map m.vars (λ v. v.0) in
    let index : 0 + length vars ≡ n = omega (arith, count, is_n) in
    let names : text_of (name_lines 0 (vars ++ booleans)) ≡ text_of (name_lines 0 vars) ++ text_of (name_lines n booleans) =
    ap text_of (names_apart 0 vars booleans) ∙ text_appended (name_lines 0 vars) (name_lines (0 + length vars) booleans)
    ∙ ap (λ (k : ℕ). text_of (name_lines 0 vars) ++ text_of (name_lines k booleans)) index in
    let first : a ≡ text_of (name_lines 0 vars) = p ∙ ap (λ (t : List ℕ). t ++ text_of (name_lines 0 vars)) none in
    r ∙ ap (λ (t : List ℕ). t ++ lp_text_of milp) (q ∙ ap (λ (t : List ℕ). t ++ text_of (name_lines n booleans)) first ∙ sym names)
