-- A line's proposition is what the builder takes, or it is refused as the builder would refuse it.
use Rattle.std.proofs.Common.{◌≡◌, ℕ, ◌+◌, ◌≤◌, ◌<◌, Bool, true, false, not, ◌&&◌, ◌||◌, List, length, Option, Some, None, is_some, Result, Ok, Err, inl, inr, nat_le, if◌then◌else◌, refl, ap, sym, subst, ◌∙◌, arith}
use Rattle.std.proofs.lemmas.Bool.Decides.{nat_tests}
use Rattle.propositions.specs.Sizes.{depth_of, node_count_of, most_arguments_of, greatest_number_of, has_empty_list_of}
use Rattle.propositions.specs.Tree.{PropTree}
use Rattle.propositions.specs.Truth.{are_ids_below}
use Rattle.outcomes.specs.Calls.{Acts}
use Rattle.model_tree.specs.declared.errors.BuildError.{BuildError}
use Rattle.model_tree.specs.declared.errors.BuildError.TheVariants as refusal
use Rattle.model_builder.specs.Building.{BuildingValue}
use Rattle.model_builder.specs.Props.{nodes_so_far, refusal_of_prop, prop_outcome}
use Rattle.model_tree.specs.Variables.{BooleanValue}
use Rattle.gdp_grammar.specs.declared.cause.ReadCause.{ReadCause}
use Rattle.gdp_grammar.specs.declared.cause.ReadCause.TheVariants as cause
use Rattle.text_grammar.specs.Outcomes.{◌>>=◌, refused_where}
use Rattle.gdp_grammar.specs.PropNames.{are_known, tree_in}
use Rattle.gdp_grammar.specs.PropReading.{prop_of}
use Rattle.gdp_grammar.specs.PropSizes.{named_greatest, named_depth, named_nodes, named_most}
use Rattle.gdp_grammar.specs.PropTexts.{NamedProp, is_formed}
use Rattle.gdp_grammar.specs.Reading.{cause_of, after_call, with_logic}
use Rattle.gdp_grammar.specs.Tokens.{Piece}
use Rattle.gdp_grammar.proofs.PropMachine.{prop_back}
use Rattle.gdp_grammar.proofs.PropSizes.{depth_same, nodes_same, most_same, greatest_same, none_empty, ids_known}
use Rattle.gdp_lines.specs.declared.fault.LineError.{LineError}
use Rattle.gdp_lines.specs.declared.fault.LineError.TheVariants.{Refused, Memory}
use Rattle.gdp_lines.specs.Refusals.{line_error}
use Rattle.gdp_lines.specs.Gives.{Fails}
use Rattle.prop_reader.specs.LogicLines.{kept, kept_tree, line_tree}
use Rattle.prop_reader.specs.SizeCauses.{refusal_of_named}

-- what follows a proposition that is read
abbrev pub added : BuildingValue → ℕ → NamedProp → Result BuildingValue ReadCause
added b line p =
    refused_where (not (are_known b.booleans p)) cause.NameUnknown >>= (λ known. after_call (prop_outcome (tree_in b.booleans p) line b))

pub in_a_block : (b : BuildingValue) (line : ℕ) (ts : List Piece) → is_some b.opened ≡ false → with_logic b line ts ≡ (prop_of ts >>= λ p. added b line p)
unfolding with_logic
in_a_block b line ts closed = ap (λ t. refused_where t cause.Form >>= (λ place. prop_of ts >>= λ p. added b line p)) closed

pub in_a_disjunction : (b : BuildingValue) (line : ℕ) (ts : List Piece) → is_some b.opened ≡ true → with_logic b line ts ≡ Err cause.Form
unfolding with_logic
in_a_disjunction b line ts open_one = ap (λ t. refused_where t cause.Form >>= (λ place. prop_of ts >>= λ p. added b line p)) open_one

-- the tests of the builder, by the sizes of the text
record SameTests (b : BuildingValue) (p : NamedProp) : Type 0 where
  ids : are_ids_below (length b.booleans) (tree_in b.booleans p) ≡ true
  greatest : greatest_number_of (tree_in b.booleans p) ≡ named_greatest p
  depth : depth_of (tree_in b.booleans p) ≡ named_depth p
  most : most_arguments_of (tree_in b.booleans p) ≡ named_most p
  nodes : node_count_of (tree_in b.booleans p) ≡ named_nodes p
  filled : has_empty_list_of (tree_in b.booleans p) ≡ false

same_tests : (b : BuildingValue) (p : NamedProp) → is_formed p ≡ true → are_known b.booleans p ≡ true → SameTests b p
same_tests b p formed known = record {
  ids = ids_known b.booleans p formed known;
  greatest = greatest_same b.booleans p formed;
  depth = depth_same b.booleans p formed;
  most = most_same b.booleans p formed;
  nodes = nodes_same b.booleans p formed;
  filled = none_empty b.booleans p formed;
}

too_many : (n k : ℕ) → nat_le k 5000 ≡ false → nat_le (n + k) 5000 ≡ false
too_many n k e = grind (arith, nat_tests)

-- The causes of the builder, in their order: those of its tests, by the answers of these.
abbrev by_answers : (number depth most room : Bool) → Option BuildError
by_answers number depth most room =
    if not number then Some refusal.Number
    else (if not depth then Some refusal.Nesting
    else (if not most || not room then Some refusal.Limit else None))

answers : (b : BuildingValue) (p : NamedProp) → is_some b.opened ≡ false → SameTests b p
    → refusal_of_prop (tree_in b.booleans p) b ≡ by_answers (nat_le (named_greatest p) 1000) (nat_le (named_depth p) 16) (nat_le (named_most p) 200) (nat_le (nodes_so_far b + named_nodes p) 5000)
answers b p closed same =
    let t : PropTree = tree_in b.booleans p in
    go (is_some b.opened) (are_ids_below (length b.booleans) t) (nat_le (most_arguments_of t) 200) (has_empty_list_of t) (greatest_number_of t) (depth_of t) (node_count_of t) closed same.ids
    (ap (λ n. nat_le n 200) same.most) same.filled same.greatest same.depth same.nodes
  where
    go : (opened ids most empty : Bool) (greatest depth nodes : ℕ) → opened ≡ false → ids ≡ true → most ≡ nat_le (named_most p) 200 → empty ≡ false
        → greatest ≡ named_greatest p → depth ≡ named_depth p → nodes ≡ named_nodes p
        → (if opened then Some refusal.Place
        else (if not ids then Some refusal.NameUnknown
        else (if not (nat_le greatest 1000) then Some refusal.Number
        else (if not (nat_le depth 16) then Some refusal.Nesting
        else (if not (most && not empty) || not (nat_le (nodes_so_far b + nodes) 5000) then Some refusal.Limit else None)))))
        ≡ by_answers (nat_le (named_greatest p) 1000) (nat_le (named_depth p) 16) (nat_le (named_most p) 200) (nat_le (nodes_so_far b + named_nodes p) 5000)
    go opened ids most empty greatest depth nodes e i m f g d n = rw (e, i, f, g, d, n, m, and_true (nat_le (named_most p) 200)) refl
      where
        and_true : (x : Bool) → (x && true) ≡ x
        and_true true = refl
        and_true false = refl

-- a refusal for the size is the builder's
refused_alike : (b : BuildingValue) (line : ℕ) (p : NamedProp) (c : ReadCause) → is_some b.opened ≡ false → is_formed p ≡ true → refusal_of_named b.booleans p ≡ Some c → added b line p ≡ Err c
refused_alike b line p c closed formed e = known (are_known b.booleans p) refl e
  where
    called : (r : Option BuildError) → refusal_of_prop (tree_in b.booleans p) b ≡ r → (d : BuildError) → r ≡ Some d → cause_of d ≡ c → after_call (prop_outcome (tree_in b.booleans p) line b) ≡ Err c
    called r is d some same = rw (is, some, same) refl

    after_known : (number depth nodes most : Bool) → nat_le (named_greatest p) 1000 ≡ number → nat_le (named_depth p) 16 ≡ depth → nat_le (named_nodes p) 5000 ≡ nodes → nat_le (named_most p) 200 ≡ most
        → SameTests b p
        → (if not number then Some cause.Number else (if not depth then Some cause.Nesting else (if not nodes || not most then Some cause.Limit else None))) ≡ Some c
        → after_call (prop_outcome (tree_in b.booleans p) line b) ≡ Err c
    after_known false depth nodes most n d o m same e =
        called (refusal_of_prop (tree_in b.booleans p) b) refl refusal.Number (answers b p closed same ∙ rw n refl) (cc e)
    after_known true false nodes most n d o m same e =
        called (refusal_of_prop (tree_in b.booleans p) b) refl refusal.Nesting (answers b p closed same ∙ rw (n, d) refl) (cc e)
    after_known true true false most n d o m same e =
        called (refusal_of_prop (tree_in b.booleans p) b) refl refusal.Limit (answers b p closed same ∙ rw (n, d, too_many (nodes_so_far b) (named_nodes p) o) (limit (nat_le (named_most p) 200))) (cc e)
      where
        limit : (x : Bool) → (if not x || true then Some refusal.Limit else None) ≡ Some refusal.Limit
        limit true = refl
        limit false = refl
    after_known true true true false n d o m same e =
        called (refusal_of_prop (tree_in b.booleans p) b) refl refusal.Limit (answers b p closed same ∙ rw (n, d, m) refl) (cc e)
    after_known true true true true n d o m same e = absurd (cc e)

    known : (k : Bool) → are_known b.booleans p ≡ k → refusal_of_named b.booleans p ≡ Some c → added b line p ≡ Err c
    known false k e = rw k at_once
      where
        at_once : refused_where (not false) cause.NameUnknown >>= (λ known. after_call (prop_outcome (tree_in b.booleans p) line b)) ≡ Err c
        at_once = cc (sym (ap (λ x. if not x then Some cause.NameUnknown else (if not (nat_le (named_greatest p) 1000) then Some cause.Number
            else (if not (nat_le (named_depth p) 16) then Some cause.Nesting
            else (if not (nat_le (named_nodes p) 5000) || not (nat_le (named_most p) 200) then Some cause.Limit else None)))) k) ∙ e)
    known true k e =
        ap (λ x. refused_where (not x) cause.NameUnknown >>= (λ known. after_call (prop_outcome (tree_in b.booleans p) line b))) k
        ∙ after_known (nat_le (named_greatest p) 1000) (nat_le (named_depth p) 16) (nat_le (named_nodes p) 5000) (nat_le (named_most p) 200) refl refl refl refl (same_tests b p formed k)
        (sym (ap (λ x. if not x then Some cause.NameUnknown else (if not (nat_le (named_greatest p) 1000) then Some cause.Number
        else (if not (nat_le (named_depth p) 16) then Some cause.Nesting
        else (if not (nat_le (named_nodes p) 5000) || not (nat_le (named_most p) 200) then Some cause.Limit else None)))) k) ∙ e)

-- a line whose proposition is refused
pub line_refused : (b : BuildingValue) (line : ℕ) (ts : List Piece) (c : ReadCause) → is_some b.opened ≡ false → line_tree b.booleans ts ≡ Err c → with_logic b line ts ≡ Err c
line_refused b line ts c closed e = in_a_block b line ts closed ∙ go (prop_of ts) refl e
  where
    of_kept : (p : NamedProp) → is_formed p ≡ true → (r : Option ReadCause) → refusal_of_named b.booleans p ≡ r → kept r (tree_in b.booleans p) ≡ Err c → added b line p ≡ Err c
    of_kept p formed None is e = absurd (cc e)
    of_kept p formed (Some d) is e = refused_alike b line p c closed formed (is ∙ cc e)

    go : (r : Result NamedProp ReadCause) → prop_of ts ≡ r → (r >>= λ p. kept_tree b.booleans p) ≡ Err c → (r >>= λ p. added b line p) ≡ Err c
    go (Err d) is e = cc e
    go (Ok p) is e = of_kept p (prop_back ts p is).1 (refusal_of_named b.booleans p) refl e

-- a line whose proposition is read
pub line_read : (b : BuildingValue) (line : ℕ) (ts : List Piece) (t : PropTree) → is_some b.opened ≡ false → line_tree b.booleans ts ≡ Ok t → with_logic b line ts ≡ after_call (prop_outcome t line b)
line_read b line ts t closed e = in_a_block b line ts closed ∙ go (prop_of ts) e
  where
    known : (p : NamedProp) (k : Bool) → are_known b.booleans p ≡ k → kept (refusal_of_named b.booleans p) (tree_in b.booleans p) ≡ Ok t → added b line p ≡ after_call (prop_outcome t line b)
    known p false k e = absurd (cc (sym (ap (λ x. kept (if not x then Some cause.NameUnknown else (if not (nat_le (named_greatest p) 1000) then Some cause.Number
        else (if not (nat_le (named_depth p) 16) then Some cause.Nesting
        else (if not (nat_le (named_nodes p) 5000) || not (nat_le (named_most p) 200) then Some cause.Limit else None)))) (tree_in b.booleans p)) k) ∙ e))
    known p true k e =
        ap (λ x. refused_where (not x) cause.NameUnknown >>= (λ known. after_call (prop_outcome (tree_in b.booleans p) line b))) k
        ∙ ap (λ x. after_call (prop_outcome x line b)) (tree_is (refusal_of_named b.booleans p) e)
      where
        tree_is : (r : Option ReadCause) → kept r (tree_in b.booleans p) ≡ Ok t → tree_in b.booleans p ≡ t
        tree_is None e = cc e
        tree_is (Some d) e = absurd (cc e)

    go : (r : Result NamedProp ReadCause) → (r >>= λ p. kept_tree b.booleans p) ≡ Ok t → (r >>= λ p. added b line p) ≡ after_call (prop_outcome t line b)
    go (Err d) e = absurd (cc e)
    go (Ok p) e = known p (are_known b.booleans p) refl e

-- the error of a line whose proposition is not read
pub line_fails : (b : BuildingValue) (line : ℕ) (ts : List Piece) (error : LineError) → is_some b.opened ≡ false → Fails error (line_tree b.booleans ts) → Fails error (with_logic b line ts)
line_fails b line ts Memory closed fails = tt
line_fails b line ts (Refused c) closed fails = line_refused b line ts c closed fails

-- what a call leaves that is not refused, and the error of one that is
pub call_leaves : (o : Result (Unit {0}) BuildError × BuildingValue) (b next : BuildingValue) (r : Result (Unit {0}) BuildError) (x : Unit {0}) → Acts refusal.Memory b o r next → r ≡ Ok x → after_call o ≡ Ok next
call_leaves (Ok a, after) b next r x acts is = elim acts [ inl h ↦ cc (h.1) | inr h ↦ absurd (cc (h.0, is)) ]
call_leaves (Err e, old) b next r x acts is = elim acts [ inl h ↦ absurd (cc (h.0, is)) | inr h ↦ absurd (cc (h.0, is)) ]

-- a refused call
abbrev r_of : BuildError → Result (Unit {0}) BuildError
r_of e = Err e

its_error : (e : BuildError) → Fails {Y = BuildingValue} (line_error e) (Err (cause_of e))
its_error refusal.Place = refl
its_error refusal.NameTwice = refl
its_error refusal.NameUnknown = refl
its_error refusal.Number = refl
its_error refusal.Nesting = refl
its_error refusal.Unclosed = refl
its_error refusal.Limit = refl
its_error refusal.Missing = refl
its_error refusal.Memory = tt

pub call_fails : (o : Result (Unit {0}) BuildError × BuildingValue) (b next : BuildingValue) (r : Result (Unit {0}) BuildError) (e : BuildError) → Acts refusal.Memory b o r next → r ≡ Err e → Fails (line_error e) (after_call o)
call_fails o b next r e acts is = elim acts [ inl h ↦ by_outcome o (sym h.0 ∙ is) | inr h ↦ subst (λ (f : BuildError). Fails (line_error f) (after_call o)) (memory_is (sym h.0 ∙ is)) tt ]
  where
    memory_is : Err refusal.Memory ≡ r_of e → refusal.Memory ≡ e
    memory_is same = cc same

    by_outcome : (p : Result (Unit {0}) BuildError × BuildingValue) → p.0 ≡ Err e → Fails (line_error e) (after_call p)
    by_outcome (Ok a, after) same = absurd (cc same)
    by_outcome (Err f, old) same = subst (λ (g : BuildError). Fails {Y = BuildingValue} (line_error e) (Err (cause_of g))) (own same) (its_error e)
      where
        own : Err f ≡ r_of e → e ≡ f
        own same = cc same

-- the error of a line whose proposition the builder refuses
pub added_fails : (b next : BuildingValue) (line : ℕ) (ts : List Piece) (t : PropTree) (r : Result (Unit {0}) BuildError) (e : BuildError) → is_some b.opened ≡ false → line_tree b.booleans ts ≡ Ok t
    → Acts refusal.Memory b (prop_outcome t line b) r next → r ≡ Err e → Fails (line_error e) (with_logic b line ts)
added_fails b next line ts t r e closed read acts is =
    subst (λ (x : Result BuildingValue ReadCause). Fails (line_error e) x) (sym (line_read b line ts t closed read)) (call_fails (prop_outcome t line b) b next r e acts is)

-- the building that a line leaves
pub added_leaves : (b next : BuildingValue) (line : ℕ) (ts : List Piece) (t : PropTree) (r : Result (Unit {0}) BuildError) (x : Unit {0}) → is_some b.opened ≡ false → line_tree b.booleans ts ≡ Ok t
    → Acts refusal.Memory b (prop_outcome t line b) r next → r ≡ Ok x → with_logic b line ts ≡ Ok next
added_leaves b next line ts t r x closed read acts is = line_read b line ts t closed read ∙ call_leaves (prop_outcome t line b) b next r x acts is
