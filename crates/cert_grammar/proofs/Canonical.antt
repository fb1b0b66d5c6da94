-- A text that spells an answer is the text of that answer.
use Rattle.std.proofs.Common.{◌≡◌, ℕ, zero, suc, ◌+◌, ◌≤◌, ℤ, pos, int_lt, Bool, true, false, not, ◌&&◌, if◌then◌else◌, List, [], ◌∷◌, ◌++◌, length, map, codes, Option, None, Some, Result, Ok, refl, ap, sym, subst, ◌∙◌, append-nil, append_assoc, arith}
use Rattle.std.specs.Prelude.{nat_lt, nat_le, bytes_eq, replicate, set, slice_index_or}
use Rattle.std.proofs.lemmas.Bool.Decides.{nat_tests}
use Rattle.std.proofs.lemmas.List.{length-set, length-replicate}
use Rattle.std.proofs.lemmas.Slice.Eq.{bytes_eq-Decides}
use Rattle.fractions.specs.Width.{fits}
use Rattle.text_grammar.specs.Grammars.{LeadsBy}
use Rattle.text_grammar.specs.Outcomes.{◌>>=◌, refused_where, or_cause}
use Rattle.text_grammar.specs.Printing.{whole_word, text_of}
use Rattle.text_grammar.proofs.Bools.{both}
use Rattle.cert_grammar.specs.declared.cause.CertCause.{CertCause}
use Rattle.cert_grammar.specs.declared.cause.CertCause.TheVariants as cause
use Rattle.answers.specs.declared.answer.Route.{Route}
use Rattle.cert_grammar.specs.Answers.{AnswerTaken, nothing_taken, are_two, is_one, second_of, is_filled, on_name, named_number, behind_vals, behind_steps, at_due, claim_line, over_line, val_line, step_line, place_from, tree_line, behind_ons, on_line, behind_nodes, due_line, with_line, claim_of, is_nothing, answer_after, answer_grammar, exact_text_line, answer_text_of}
use Rattle.cert_grammar.specs.declared.due.Due.{Due}
use Rattle.cert_grammar.specs.declared.due.Due.TheVariants.{Header, RouteLine, ClaimLine, Over, Vals, Ons, Steps, LastLine, TreeLine, Nodes, Nothing}
use Rattle.cert_grammar.specs.declared.due.ClaimKind.{ClaimKind}
use Rattle.cert_grammar.specs.declared.due.ClaimKind.TheVariants.{IsBest, IsEmpty, IsEndless}
use Rattle.cert_grammar.specs.Claims.{route_word, route_of, value_word, spelled_value, named_lines, on_lines, answer_lines}
use Rattle.answers.specs.declared.answer.Answer.{Answer}
use Rattle.cert_grammar.specs.ExactLines.{ExactLine, exact_lines}
use Rattle.cert_grammar.specs.Laws.{AnswerIsWritten}
use Rattle.cert_grammar.specs.Nodes.{node_words}
use Rattle.proof_tree.specs.declared.proof.Node.{Node}
use Rattle.cert_grammar.specs.Trees.{TreeTaken, tree_open, with_words, tree_lines}
use Rattle.cert_grammar.specs.Wholes.{whole_of}
use Rattle.cert_grammar.proofs.Leading.{at_nodes, at_end, Step, ends, goes, step_of}
use Rattle.cert_grammar.proofs.TextAgain.{AreWords, text_again}
use Rattle.cert_grammar.proofs.WordsOnly.{read_of, some_of, passed, taken_if, two_only, one_only, second_only, on_only, named_only, route_only, value_only, over_only}

-- the lines of numbers and of Booleans, one more
no_numbers : (first : List ℕ) (names : List (List ℕ)) → named_lines first names [] ≡ []
no_numbers first [] = refl
no_numbers first (n ∷ ns) = refl

named_more : (first : List ℕ) (names : List (List ℕ)) (zs : List ℤ) (z : ℤ) → is_filled (slice_index_or names (length zs) []) ≡ true
    → named_lines first names (zs ++ z ∷ []) ≡ named_lines first names zs ++ (first ∷ slice_index_or names (length zs) [] ∷ whole_word z ∷ []) ∷ []
named_more first [] [] z e = absurd (cc e)
named_more first [] (y ∷ ys) z e = absurd (cc e)
named_more first (n ∷ ns) [] z e = ap (λ (l : List (List (List ℕ))). (first ∷ n ∷ whole_word z ∷ []) ∷ l) (no_numbers first ns)
named_more first (n ∷ ns) (y ∷ ys) z e = ap (λ (l : List (List (List ℕ))). (first ∷ n ∷ whole_word y ∷ []) ∷ l) (named_more first ns ys z e)

-- no truth stands from a place on
abbrev AreOff : ℕ → List Bool → Type 0
AreOff n [] = Unit {0}
AreOff zero (b ∷ bs) = (b ≡ false) × AreOff zero bs
AreOff (suc n) (b ∷ bs) = AreOff n bs

off_start : (n : ℕ) → AreOff 0 (replicate n false)
off_start zero = tt
off_start (suc n) = (refl, off_start n)

off_lines : (names : List (List ℕ)) (bs : List Bool) → AreOff 0 bs → on_lines names bs ≡ []
off_lines [] bs off = refl
off_lines (n ∷ ns) [] off = refl
off_lines (n ∷ ns) (true ∷ bs) off = absurd (cc off.0)
off_lines (n ∷ ns) (false ∷ bs) off = off_lines ns bs off.1

off_after : (least id : ℕ) (bs : List Bool) → least ≤ id → AreOff least bs → AreOff (suc id) (set bs id true)
off_after least id [] le off = tt
off_after zero zero (b ∷ bs) le off = off.1
off_after (suc least) zero (b ∷ bs) le off = absurd (omega (arith, le))
off_after zero (suc id) (b ∷ bs) le off = off_after zero id bs (omega arith) off.1
off_after (suc least) (suc id) (b ∷ bs) le off = off_after least id bs (omega (arith, le)) off

-- the name at a place
abbrev IsAt : List (List ℕ) → ℕ → List ℕ → Type 0
IsAt [] k name = ⊥
IsAt (n ∷ ns) zero name = n ≡ name
IsAt (n ∷ ns) (suc k) name = IsAt ns k name

record IsFound (least k id : ℕ) (name : List ℕ) (names : List (List ℕ)) : Type 0 where
  place : ℕ
  place_is : id ≡ k + place
  behind : least ≤ id
  there : IsAt names place name

found_at : (least k id : ℕ) (name : List ℕ) (names : List (List ℕ)) → place_from least k name names ≡ Some id → IsFound least k id name names
found_at least k id name [] e = absurd (cc e)
found_at least k id name (n ∷ ns) e = go (nat_le least k && bytes_eq name n) refl (found_at least (suc k) id name ns) e
  where
    at_most : (a b : ℕ) → nat_le a b ≡ true → a ≤ b
    at_most a b h = grind (arith, nat_tests)

    go : (b : Bool) → (nat_le least k && bytes_eq name n) ≡ b → (place_from least (suc k) name ns ≡ Some id → IsFound least (suc k) id name ns) → (if b then Some k else place_from least (suc k) name ns) ≡ Some id → IsFound least k id name (n ∷ ns)
    go true t below e =
        let same : k ≡ id = cc e in
        let h = both (nat_le least k) (bytes_eq name n) t in
        record { place = 0; place_is = omega (arith, same); behind = omega (arith, same, at_most least k h.0); there = sym ((bytes_eq-Decides name n).0 h.1) }
    go false t below e =
        let b = below e in
        record { place = suc b.place; place_is = omega (arith, b.place_is); behind = b.behind; there = b.there }

on_more : (names : List (List ℕ)) (bs : List Bool) (least id : ℕ) (name : List ℕ) → IsAt names id name → length bs ≡ length names → least ≤ id → AreOff least bs → on_lines names (set bs id true) ≡ on_lines names bs ++ (codes "on" ∷ name ∷ []) ∷ []
on_more [] bs least id name at n le off = absurd at
on_more (x ∷ xs) [] least id name at n le off = absurd (omega (arith, n))
on_more (x ∷ xs) (b ∷ bs) (suc least) zero name at n le off = absurd (omega (arith, le))
on_more (x ∷ xs) (true ∷ bs) zero zero name at n le off = absurd (cc off.0)
on_more (x ∷ xs) (false ∷ bs) zero zero name at n le off =
    let none = off_lines xs bs off.1 in
    ap (λ (l : List (List (List ℕ))). (codes "on" ∷ x ∷ []) ∷ l) none ∙ ap (λ (w : List ℕ). (codes "on" ∷ w ∷ []) ∷ []) at ∙ sym (ap (λ (l : List (List (List ℕ))). l ++ (codes "on" ∷ name ∷ []) ∷ []) none)
on_more (x ∷ xs) (true ∷ bs) zero (suc id) name at n le off = absurd (cc off.0)
on_more (x ∷ xs) (false ∷ bs) zero (suc id) name at n le off = on_more xs bs zero id name at (omega (arith, n)) (omega arith) off.1
on_more (x ∷ xs) (true ∷ bs) (suc least) (suc id) name at n le off = ap (λ (l : List (List (List ℕ))). (codes "on" ∷ x ∷ []) ∷ l) (on_more xs bs least id name at (omega (arith, n)) (omega (arith, le)) off)
on_more (x ∷ xs) (false ∷ bs) (suc least) (suc id) name at n le off = on_more xs bs least id name at (omega (arith, n)) (omega (arith, le)) off

-- the lines so far
abbrev header : List (List ℕ)
header = codes "gdp-answer" ∷ codes "1" ∷ []

abbrev route_words : Route → List (List ℕ)
route_words r = codes "route" ∷ route_word r ∷ []

abbrev kind_words : ClaimKind → List (List ℕ)
kind_words (IsBest value) = codes "best" ∷ value_word value ∷ []
kind_words IsEmpty = codes "empty" ∷ []
kind_words IsEndless = codes "endless" ∷ []

abbrev front_lines : AnswerTaken → List (List (List ℕ))
front_lines t = header ∷ route_words t.route ∷ kind_words t.kind ∷ []

abbrev point_so_far : List (List ℕ) → List (List ℕ) → AnswerTaken → List (List (List ℕ))
point_so_far names booleans t = (codes "over" ∷ whole_word t.over ∷ []) ∷ (named_lines (codes "val") names t.nums ++ on_lines booleans t.truths)

abbrev steps_so_far : List (List ℕ) → AnswerTaken → List (List (List ℕ))
steps_so_far names t = named_lines (codes "step") names t.ray

abbrev node_lines : List Node → List (List (List ℕ))
node_lines [] = []
node_lines (n ∷ ns) = node_words n ∷ node_lines ns

-- the point before a proof, if there is one
abbrev point_of : List (List ℕ) → List (List ℕ) → AnswerTaken → ClaimKind → List (List (List ℕ))
point_of names booleans t (IsBest value) = point_so_far names booleans t
point_of names booleans t IsEmpty = []
point_of names booleans t IsEndless = point_so_far names booleans t

abbrev all_lines : List (List ℕ) → List (List ℕ) → AnswerTaken → ClaimKind → List (List (List ℕ))
all_lines names booleans t (IsBest value) = front_lines t ++ (point_so_far names booleans t ++ (codes "tree" ∷ []) ∷ tree_lines t.tree.nodes)
all_lines names booleans t IsEmpty = front_lines t ++ (codes "tree" ∷ []) ∷ tree_lines t.tree.nodes
all_lines names booleans t IsEndless = front_lines t ++ (point_so_far names booleans t ++ (steps_so_far names t ++ (codes "end" ∷ []) ∷ []))

abbrev so_far : List (List ℕ) → List (List ℕ) → AnswerTaken → Due → List (List (List ℕ))
so_far names booleans t Header = []
so_far names booleans t RouteLine = header ∷ []
so_far names booleans t ClaimLine = header ∷ route_words t.route ∷ []
so_far names booleans t Over = front_lines t
so_far names booleans t TreeLine = front_lines t
so_far names booleans t Vals = front_lines t ++ point_so_far names booleans t
so_far names booleans t (Ons least) = front_lines t ++ point_so_far names booleans t
so_far names booleans t Steps = front_lines t ++ (point_so_far names booleans t ++ steps_so_far names t)
so_far names booleans t LastLine = front_lines t ++ (point_so_far names booleans t ++ steps_so_far names t)
so_far names booleans t Nodes = front_lines t ++ (point_of names booleans t t.kind ++ (codes "tree" ∷ []) ∷ node_lines t.tree.nodes)
so_far names booleans t Nothing = all_lines names booleans t t.kind

abbrev has_point : ClaimKind → Bool
has_point IsEmpty = false
has_point _ = true

abbrev is_endless : ClaimKind → Bool
is_endless IsEndless = true
is_endless _ = false

-- nothing of a point and of a proof is taken
record IsFresh (booleans : List (List ℕ)) (t : AnswerTaken) : Type 0 where
  nums_none : t.nums ≡ []
  all_false : t.truths ≡ replicate (length booleans) false
  ray_none : t.ray ≡ []
  nodes_none : t.tree ≡ tree_open

-- a point is claimed, and no Boolean from a place on is true
record IsPointed (booleans : List (List ℕ)) (least : ℕ) (t : AnswerTaken) : Type 0 where
  off : AreOff least t.truths
  long : length t.truths ≡ length booleans
  ray_none : t.ray ≡ []
  nodes_none : t.tree ≡ tree_open
  pointed : has_point t.kind ≡ true

-- what holds where a line is due
abbrev Holds : List (List ℕ) → AnswerTaken → Due → Type 0
Holds booleans t Header = IsFresh booleans t × (t.kind ≡ IsEmpty)
Holds booleans t RouteLine = IsFresh booleans t × (t.kind ≡ IsEmpty)
Holds booleans t ClaimLine = IsFresh booleans t × (t.kind ≡ IsEmpty)
Holds booleans t Over = IsFresh booleans t × (has_point t.kind ≡ true)
Holds booleans t TreeLine = IsFresh booleans t × (t.kind ≡ IsEmpty)
Holds booleans t Vals = IsPointed booleans 0 t
Holds booleans t (Ons least) = IsPointed booleans least t
Holds booleans t Steps = t.kind ≡ IsEndless
Holds booleans t LastLine = t.kind ≡ IsEndless
Holds booleans t Nodes = (is_endless t.kind ≡ false) × (t.tree.ended ≡ false)
Holds booleans t Nothing = Unit {0}

-- the line is what comes next, and what holds goes on
abbrev Next : List (List ℕ) → List (List ℕ) → AnswerTaken → Due → List (List ℕ) → AnswerTaken → Type 0
Next names booleans t due words next = (so_far names booleans next next.due ≡ so_far names booleans t due ++ words ∷ []) × Holds booleans next next.due

is_next : (names booleans : List (List ℕ)) (t : AnswerTaken) (due : Due) (words : List (List ℕ)) (x next : AnswerTaken) → x ≡ next → Next names booleans t due words x → Next names booleans t due words next
is_next names booleans t due words x next e n = subst (λ (y : AnswerTaken). Next names booleans t due words y) e n

ok_taken : AnswerTaken → Result AnswerTaken CertCause
ok_taken t = Ok t

header_next : (names booleans : List (List ℕ)) (t next : AnswerTaken) (words : List (List ℕ)) → Holds booleans t Header → due_line names booleans t Header words ≡ Ok next → Next names booleans t Header words next
header_next names booleans t next words h e =
    let i = taken_if (are_two (codes "gdp-answer") (codes "1") words) (at_due RouteLine t) cause.Form next e in
    is_next names booleans t Header words (at_due RouteLine t) next i.1
    (ap (λ (w : List (List ℕ)). w ∷ []) (sym (two_only (codes "gdp-answer") (codes "1") words i.0)), (record { nums_none = h.0.nums_none; all_false = h.0.all_false; ray_none = h.0.ray_none; nodes_none = h.0.nodes_none }, h.1))

route_next : (names booleans : List (List ℕ)) (t next : AnswerTaken) (words : List (List ℕ)) → Holds booleans t RouteLine → due_line names booleans t RouteLine words ≡ Ok next → Next names booleans t RouteLine words next
route_next names booleans t next words h e =
    let a = some_of (second_of (codes "route") words) cause.Form (λ word. or_cause cause.Form (route_of word) >>= (λ route. Ok (at_due ClaimLine (record t { route = route })))) next e in
    let b = some_of (route_of a.0) cause.Form (λ route. Ok (at_due ClaimLine (record t { route = route }))) next a.2 in
    let same : at_due ClaimLine (record t { route = b.0 }) ≡ next = cc b.2 in
    is_next names booleans t RouteLine words (at_due ClaimLine (record t { route = b.0 })) next same
    (ap (λ (w : List (List ℕ)). header ∷ w ∷ []) (sym (second_only (codes "route") words a.0 a.1 ∙ ap (λ (w : List ℕ). codes "route" ∷ w ∷ []) (route_only a.0 b.0 b.1))), (record { nums_none = h.0.nums_none; all_false = h.0.all_false; ray_none = h.0.ray_none; nodes_none = h.0.nodes_none }, h.1))

claim_next : (names booleans : List (List ℕ)) (t next : AnswerTaken) (words : List (List ℕ)) → Holds booleans t ClaimLine → claim_line t words ≡ Ok next → Next names booleans t ClaimLine words next
claim_next names booleans t next words h e = go (is_one (codes "empty") words) (is_one (codes "endless") words) refl refl e
  where
    fresh : (k : ClaimKind) → IsFresh booleans (at_due Over (record t { kind = k }))
    fresh k = record { nums_none = h.0.nums_none; all_false = h.0.all_false; ray_none = h.0.ray_none; nodes_none = h.0.nodes_none }

    go : (p q : Bool) → is_one (codes "empty") words ≡ p → is_one (codes "endless") words ≡ q
        → (if p then Ok (at_due TreeLine t) else (if q then Ok (at_due Over (record t { kind = IsEndless })) else (or_cause cause.Form (second_of (codes "best") words) >>= (λ word. spelled_value word >>= (λ value. Ok (at_due Over (record t { kind = IsBest value }))))))) ≡ Ok next
        → Next names booleans t ClaimLine words next
    go true q a b e =
        let same : at_due TreeLine t ≡ next = cc e in
        is_next names booleans t ClaimLine words (at_due TreeLine t) next same
        (ap (λ (w : List (List ℕ)). header ∷ route_words t.route ∷ w ∷ []) (ap kind_words h.1 ∙ sym (one_only (codes "empty") words a)), (record { nums_none = h.0.nums_none; all_false = h.0.all_false; ray_none = h.0.ray_none; nodes_none = h.0.nodes_none }, h.1))
    go false true a b e =
        let same : at_due Over (record t { kind = IsEndless }) ≡ next = cc e in
        is_next names booleans t ClaimLine words (at_due Over (record t { kind = IsEndless })) next same
        (ap (λ (w : List (List ℕ)). header ∷ route_words t.route ∷ w ∷ []) (sym (one_only (codes "endless") words b)), (fresh IsEndless, refl))
    go false false a b e =
        let s = some_of (second_of (codes "best") words) cause.Form (λ word. spelled_value word >>= (λ value. Ok (at_due Over (record t { kind = IsBest value })))) next e in
        let v = read_of (spelled_value s.0) (λ value. Ok (at_due Over (record t { kind = IsBest value }))) next s.2 in
        let same : at_due Over (record t { kind = IsBest v.0 }) ≡ next = cc v.2 in
        is_next names booleans t ClaimLine words (at_due Over (record t { kind = IsBest v.0 })) next same
        (ap (λ (w : List (List ℕ)). header ∷ route_words t.route ∷ w ∷ []) (sym (second_only (codes "best") words s.0 s.1 ∙ ap (λ (w : List ℕ). codes "best" ∷ w ∷ []) (value_only s.0 v.0 v.1))), (fresh (IsBest v.0), refl))

-- the point
point_next : (names booleans : List (List ℕ)) (n : ℕ) (zs : List ℤ) (t : AnswerTaken) → so_far names booleans t (behind_vals n zs) ≡ front_lines t ++ point_so_far names booleans t
point_next names booleans n zs t = go (nat_lt (length zs) n)
  where
    go : (b : Bool) → so_far names booleans t (if b then Vals else Ons 0) ≡ front_lines t ++ point_so_far names booleans t
    go true = refl
    go false = refl

point_holds : (booleans : List (List ℕ)) (n : ℕ) (zs : List ℤ) (t : AnswerTaken) → IsPointed booleans 0 t → Holds booleans t (behind_vals n zs)
point_holds booleans n zs t h = go (nat_lt (length zs) n)
  where
    go : (b : Bool) → Holds booleans t (if b then Vals else Ons 0)
    go true = h
    go false = h

over_next : (names booleans : List (List ℕ)) (t next : AnswerTaken) (words : List (List ℕ)) → Holds booleans t Over → over_line (length names) t words ≡ Ok next → Next names booleans t Over words next
over_next names booleans t next words h e =
    let taken : ℤ → AnswerTaken = λ z. at_due (behind_vals (length names) []) (record t { over = z }) in
    let s = some_of (second_of (codes "over") words) cause.Form (λ word. or_cause cause.Form (whole_of word) >>= (λ z. refused_where (not (int_lt (pos 0) z && fits z)) cause.Number >>= (λ _. Ok (taken z)))) next e in
    let z = some_of (whole_of s.0) cause.Form (λ z. refused_where (not (int_lt (pos 0) z && fits z)) cause.Number >>= (λ _. Ok (taken z))) next s.2 in
    let p = passed (not (int_lt (pos 0) z.0 && fits z.0)) cause.Number (Ok (taken z.0)) next z.2 in
    let same : taken z.0 ≡ next = cc p.1 in
    let fit = both (int_lt (pos 0) z.0) (fits z.0) (not_false (int_lt (pos 0) z.0 && fits z.0) p.0) in
    let line : words ≡ codes "over" ∷ whole_word z.0 ∷ [] = second_only (codes "over") words s.0 s.1 ∙ ap (λ (w : List ℕ). codes "over" ∷ w ∷ []) (over_only s.0 z.0 z.1 fit.1) in
    let vals : named_lines (codes "val") names t.nums ≡ [] = ap (λ (l : List ℤ). named_lines (codes "val") names l) h.0.nums_none ∙ no_numbers (codes "val") names in
    let ons : on_lines booleans t.truths ≡ [] = ap (λ (l : List Bool). on_lines booleans l) h.0.all_false ∙ off_lines booleans (replicate (length booleans) false) (off_start (length booleans)) in
    is_next names booleans t Over words (taken z.0) next same (
      point_next names booleans (length names) [] (taken z.0)
          ∙ ap (λ (l : List (List (List ℕ))). front_lines t ++ ((codes "over" ∷ whole_word z.0 ∷ []) ∷ (l ++ on_lines booleans t.truths))) vals
          ∙ ap (λ (l : List (List (List ℕ))). front_lines t ++ ((codes "over" ∷ whole_word z.0 ∷ []) ∷ l)) ons
          ∙ ap (λ (w : List (List ℕ)). front_lines t ++ w ∷ []) (sym line),
      point_holds booleans (length names) [] (taken z.0) (record {
        off = subst (λ (l : List Bool). AreOff 0 l) (sym h.0.all_false) (off_start (length booleans));
        long = ap (λ (l : List Bool). length l) h.0.all_false ∙ length-replicate (length booleans) false;
        ray_none = h.0.ray_none;
        nodes_none = h.0.nodes_none;
        pointed = h.1;
      }),
    )
  where
    not_false : (b : Bool) → not b ≡ false → b ≡ true
    not_false true e = refl
    not_false false e = absurd (cc e)

val_next : (names booleans : List (List ℕ)) (t next : AnswerTaken) (words : List (List ℕ)) → Holds booleans t Vals → val_line names t words ≡ Ok next → Next names booleans t Vals words next
val_next names booleans t next words h e =
    let name : List ℕ = slice_index_or names (length t.nums) [] in
    let taken : ℤ → AnswerTaken = λ z. at_due (behind_vals (length names) (t.nums ++ z ∷ [])) (record t { nums = t.nums ++ z ∷ [] }) in
    let z = read_of (named_number (codes "val") name words) (λ z. Ok (taken z)) next e in
    let same : taken z.0 ≡ next = cc z.2 in
    let line = named_only (codes "val") name words z.0 z.1 in
    let ons : on_lines booleans t.truths ≡ [] = off_lines booleans t.truths h.off in
    let before : List (List (List ℕ)) = named_lines (codes "val") names t.nums in
    let over : List (List ℕ) = codes "over" ∷ whole_word t.over ∷ [] in
    is_next names booleans t Vals words (taken z.0) next same (
      point_next names booleans (length names) (t.nums ++ z.0 ∷ []) (taken z.0)
          ∙ ap (λ (l : List (List (List ℕ))). front_lines t ++ (over ∷ (l ++ on_lines booleans t.truths))) (named_more (codes "val") names t.nums z.0 line.1)
          ∙ ap (λ (l : List (List (List ℕ))). front_lines t ++ (over ∷ ((before ++ (codes "val" ∷ name ∷ whole_word z.0 ∷ []) ∷ []) ++ l))) ons
          ∙ ap (λ (l : List (List (List ℕ))). front_lines t ++ (over ∷ l)) (append-nil (before ++ (codes "val" ∷ name ∷ whole_word z.0 ∷ []) ∷ []))
          ∙ ap (λ (w : List (List ℕ)). front_lines t ++ (over ∷ (before ++ w ∷ []))) (sym line.0)
          ∙ sym (ap (λ (l : List (List (List ℕ))). front_lines t ++ (over ∷ (l ++ words ∷ []))) (ap (λ (l : List (List (List ℕ))). before ++ l) ons ∙ append-nil before)),
      point_holds booleans (length names) (t.nums ++ z.0 ∷ []) (taken z.0) (record { off = h.off; long = h.long; ray_none = h.ray_none; nodes_none = h.nodes_none; pointed = h.pointed }),
    )

-- the steps
steps_next : (names booleans : List (List ℕ)) (n : ℕ) (zs : List ℤ) (t : AnswerTaken) → so_far names booleans t (behind_steps n zs) ≡ front_lines t ++ (point_so_far names booleans t ++ steps_so_far names t)
steps_next names booleans n zs t = go (nat_lt (length zs) n)
  where
    go : (b : Bool) → so_far names booleans t (if b then Steps else LastLine) ≡ front_lines t ++ (point_so_far names booleans t ++ steps_so_far names t)
    go true = refl
    go false = refl

steps_hold : (booleans : List (List ℕ)) (n : ℕ) (zs : List ℤ) (t : AnswerTaken) → t.kind ≡ IsEndless → Holds booleans t (behind_steps n zs)
steps_hold booleans n zs t h = go (nat_lt (length zs) n)
  where
    go : (b : Bool) → Holds booleans t (if b then Steps else LastLine)
    go true = h
    go false = h

step_next : (names booleans : List (List ℕ)) (t next : AnswerTaken) (words : List (List ℕ)) → t.kind ≡ IsEndless → step_line names t words ≡ Ok next → Next names booleans t Steps words next
step_next names booleans t next words h e =
    let name : List ℕ = slice_index_or names (length t.ray) [] in
    let taken : ℤ → AnswerTaken = λ z. at_due (behind_steps (length names) (t.ray ++ z ∷ [])) (record t { ray = t.ray ++ z ∷ [] }) in
    let z = read_of (named_number (codes "step") name words) (λ z. Ok (taken z)) next e in
    let same : taken z.0 ≡ next = cc z.2 in
    let line = named_only (codes "step") name words z.0 z.1 in
    let point : List (List (List ℕ)) = point_so_far names booleans t in
    is_next names booleans t Steps words (taken z.0) next same (
      steps_next names booleans (length names) (t.ray ++ z.0 ∷ []) (taken z.0)
          ∙ ap (λ (l : List (List (List ℕ))). front_lines t ++ (point ++ l)) (named_more (codes "step") names t.ray z.0 line.1)
          ∙ ap (λ (w : List (List ℕ)). front_lines t ++ (point ++ (steps_so_far names t ++ w ∷ []))) (sym line.0)
          ∙ sym (ap (λ (l : List (List (List ℕ))). front_lines t ++ l) (append_assoc point (steps_so_far names t) (words ∷ []))),
      steps_hold booleans (length names) (t.ray ++ z.0 ∷ []) (taken z.0) h,
    )

-- before the first step
no_steps : (names booleans : List (List ℕ)) (least : ℕ) (t : AnswerTaken) → t.ray ≡ [] → so_far names booleans t Steps ≡ so_far names booleans t (Ons least)
no_steps names booleans least t none =
    ap (λ (l : List (List (List ℕ))). front_lines t ++ (point_so_far names booleans t ++ l)) (ap (λ (l : List ℤ). named_lines (codes "step") names l) none ∙ no_numbers (codes "step") names)
    ∙ ap (λ (l : List (List (List ℕ))). front_lines t ++ l) (append-nil (point_so_far names booleans t))

-- the line before the nodes
point_is : (names booleans : List (List ℕ)) (t : AnswerTaken) (k : ClaimKind) → has_point k ≡ true → point_of names booleans t k ≡ point_so_far names booleans t
point_is names booleans t (IsBest value) e = refl
point_is names booleans t IsEmpty e = absurd (cc e)
point_is names booleans t IsEndless e = refl

last_next : (names booleans : List (List ℕ)) (t next : AnswerTaken) (words : List (List ℕ)) → t.kind ≡ IsEndless → due_line names booleans t LastLine words ≡ Ok next → Next names booleans t LastLine words next
last_next names booleans t next words h e =
    let i = taken_if (is_one (codes "end") words) (at_due Nothing t) cause.Form next e in
    let point : List (List (List ℕ)) = point_so_far names booleans t in
    is_next names booleans t LastLine words (at_due Nothing t) next i.1 (
      ap (λ (k : ClaimKind). all_lines names booleans t k) h
          ∙ ap (λ (w : List (List ℕ)). front_lines t ++ (point ++ (steps_so_far names t ++ w ∷ []))) (sym (one_only (codes "end") words i.0))
          ∙ sym (ap (λ (l : List (List (List ℕ))). front_lines t ++ l) (append_assoc point (steps_so_far names t) (words ∷ []))),
      tt,
    )

-- the tree's line behind a point
tree_next : (names booleans : List (List ℕ)) (least : ℕ) (t next : AnswerTaken) (words : List (List ℕ)) → IsPointed booleans least t → is_endless t.kind ≡ false → tree_line t words ≡ Ok next → Next names booleans t (Ons least) words next
tree_next names booleans least t next words h k e =
    let i = taken_if (is_one (codes "tree") words) (at_due Nodes t) cause.Form next e in
    let point : List (List (List ℕ)) = point_so_far names booleans t in
    is_next names booleans t (Ons least) words (at_due Nodes t) next i.1 (
      ap (λ (l : List (List (List ℕ))). front_lines t ++ (l ++ (codes "tree" ∷ []) ∷ node_lines t.tree.nodes)) (point_is names booleans t t.kind h.pointed)
          ∙ ap (λ (s : TreeTaken). front_lines t ++ (point ++ (codes "tree" ∷ []) ∷ node_lines s.nodes)) h.nodes_none
          ∙ ap (λ (w : List (List ℕ)). front_lines t ++ (point ++ w ∷ [])) (sym (one_only (codes "tree") words i.0)),
      (k, ap (λ (s : TreeTaken). s.ended) h.nodes_none),
    )

-- the tree's line where there is no point
bare_next : (names booleans : List (List ℕ)) (t next : AnswerTaken) (words : List (List ℕ)) → Holds booleans t TreeLine → tree_line t words ≡ Ok next → Next names booleans t TreeLine words next
bare_next names booleans t next words h e =
    let i = taken_if (is_one (codes "tree") words) (at_due Nodes t) cause.Form next e in
    is_next names booleans t TreeLine words (at_due Nodes t) next i.1 (
      ap (λ (k : ClaimKind). front_lines t ++ (point_of names booleans t k ++ (codes "tree" ∷ []) ∷ node_lines t.tree.nodes)) h.1
          ∙ ap (λ (s : TreeTaken). front_lines t ++ (codes "tree" ∷ []) ∷ node_lines s.nodes) h.0.nodes_none
          ∙ ap (λ (w : List (List ℕ)). front_lines t ++ w ∷ []) (sym (one_only (codes "tree") words i.0)),
      (ap is_endless h.1, ap (λ (s : TreeTaken). s.ended) h.0.nodes_none),
    )

-- a Boolean's line, or what comes behind them
on_next : (names booleans : List (List ℕ)) (least : ℕ) (t next : AnswerTaken) (words : List (List ℕ)) → IsPointed booleans least t → on_line names booleans t least words (on_name words) ≡ Ok next → Next names booleans t (Ons least) words next
on_next names booleans least t next words h e = go (on_name words) refl e
  where
    behind : (k : ClaimKind) → t.kind ≡ k → behind_ons names t k words ≡ Ok next → Next names booleans t (Ons least) words next
    behind (IsBest value) k e = tree_next names booleans least t next words h (ap is_endless k) e
    behind IsEmpty k e = tree_next names booleans least t next words h (ap is_endless k) e
    behind IsEndless k e =
        let n = step_next names booleans t next words k e in
        (n.0 ∙ ap (λ (l : List (List (List ℕ))). l ++ words ∷ []) (no_steps names booleans least t h.ray_none), n.1)

    go : (o : Option (List ℕ)) → on_name words ≡ o → on_line names booleans t least words o ≡ Ok next → Next names booleans t (Ons least) words next
    go None is e = behind t.kind refl e
    go (Some name) is e =
        let taken : ℕ → AnswerTaken = λ id. at_due (Ons (suc id)) (record t { truths = set t.truths id true }) in
        let p = some_of (place_from least 0 name booleans) cause.Name (λ id. Ok (taken id)) next e in
        let same : taken p.0 ≡ next = cc p.2 in
        let f = found_at least 0 p.0 name booleans p.1 in
        let place : f.place ≡ p.0 = omega (arith, f.place_is) in
        let at : IsAt booleans p.0 name = subst (λ (k : ℕ). IsAt booleans k name) place f.there in
        let vals : List (List (List ℕ)) = named_lines (codes "val") names t.nums in
        let over : List (List ℕ) = codes "over" ∷ whole_word t.over ∷ [] in
        is_next names booleans t (Ons least) words (taken p.0) next same (
          ap (λ (l : List (List (List ℕ))). front_lines t ++ (over ∷ (vals ++ l))) (on_more booleans t.truths least p.0 name at h.long f.behind h.off)
              ∙ ap (λ (w : List (List ℕ)). front_lines t ++ (over ∷ (vals ++ (on_lines booleans t.truths ++ w ∷ [])))) (sym (on_only words name is))
              ∙ sym (ap (λ (l : List (List (List ℕ))). front_lines t ++ (over ∷ l)) (append_assoc vals (on_lines booleans t.truths) (words ∷ []))),
          record { off = off_after least p.0 t.truths f.behind h.off; long = length-set t.truths p.0 true ∙ h.long; ray_none = h.ray_none; nodes_none = h.nodes_none; pointed = h.pointed },
        )

-- the nodes
nodes_end : (ns : List Node) → tree_lines ns ≡ node_lines ns ++ (codes "end" ∷ []) ∷ []
nodes_end [] = refl
nodes_end (n ∷ ns) = ap (λ (l : List (List (List ℕ))). node_words n ∷ l) (nodes_end ns)

nodes_more : (ns : List Node) (n : Node) → node_lines (ns ++ n ∷ []) ≡ node_lines ns ++ node_words n ∷ []
nodes_more [] n = refl
nodes_more (x ∷ xs) n = ap (λ (l : List (List (List ℕ))). node_words x ∷ l) (nodes_more xs n)

all_nodes : (names booleans : List (List ℕ)) (t : AnswerTaken) (k : ClaimKind) → is_endless k ≡ false → all_lines names booleans t k ≡ front_lines t ++ (point_of names booleans t k ++ (codes "tree" ∷ []) ∷ tree_lines t.tree.nodes)
all_nodes names booleans t (IsBest value) e = refl
all_nodes names booleans t IsEmpty e = refl
all_nodes names booleans t IsEndless e = absurd (cc e)

node_next : (names booleans : List (List ℕ)) (t next : AnswerTaken) (words : List (List ℕ)) → Holds booleans t Nodes → due_line names booleans t Nodes words ≡ Ok next → Next names booleans t Nodes words next
node_next names booleans t next words h e =
    let taken : TreeTaken → AnswerTaken = λ s. at_due (behind_nodes s) (record t { tree = s }) in
    let s = read_of (with_words t.tree words) (λ s. Ok (taken s)) next e in
    let same : taken s.0 ≡ next = cc s.2 in
    let open_tree : t.tree ≡ at_nodes t.tree.halves t.tree.nodes = ap (λ (b : Bool). let x : TreeTaken = record { halves = t.tree.halves; nodes = t.tree.nodes; ended = b } in x) h.1 in
    let read : with_words (at_nodes t.tree.halves t.tree.nodes) words ≡ Ok s.0 = ap (λ (x : TreeTaken). with_words x words) (sym open_tree) ∙ s.1 in
    is_next names booleans t Nodes words (taken s.0) next same (go s.0 (step_of t.tree.halves t.tree.nodes words s.0 read))
  where
    point : List (List (List ℕ))
    point = point_of names booleans t t.kind

    done : AnswerTaken
    done = at_due Nothing (record t { tree = at_end t.tree.nodes })

    joined : (lines : List (List (List ℕ))) → (lines ≡ node_lines t.tree.nodes ++ words ∷ []) → front_lines t ++ (point ++ (codes "tree" ∷ []) ∷ lines) ≡ (front_lines t ++ (point ++ (codes "tree" ∷ []) ∷ node_lines t.tree.nodes)) ++ words ∷ []
    joined lines is =
        ap (λ (l : List (List (List ℕ))). front_lines t ++ (point ++ (codes "tree" ∷ []) ∷ l)) is
        ∙ sym (ap (λ (l : List (List (List ℕ))). front_lines t ++ l) (append_assoc point ((codes "tree" ∷ []) ∷ node_lines t.tree.nodes) (words ∷ [])))

    go : (s : TreeTaken) → Step t.tree.halves t.tree.nodes words s → Next names booleans t Nodes words (at_due (behind_nodes s) (record t { tree = s }))
    go s (ends none w is) =
        subst (λ (x : TreeTaken). Next names booleans t Nodes words (at_due (behind_nodes x) (record t { tree = x }))) (sym is) (
          all_nodes names booleans done t.kind h.0 ∙ joined (tree_lines t.tree.nodes) (nodes_end t.tree.nodes ∙ ap (λ (v : List (List ℕ)). node_lines t.tree.nodes ++ v ∷ []) (sym w)),
          tt,
        )
    go s (goes n below some r is) =
        subst (λ (x : TreeTaken). Next names booleans t Nodes words (at_due (behind_nodes x) (record t { tree = x }))) (sym is) (
          joined (node_lines (t.tree.nodes ++ n ∷ [])) (nodes_more t.tree.nodes n ∙ ap (λ (v : List (List ℕ)). node_lines t.tree.nodes ++ v ∷ []) (sym r.words_are)),
          (h.0, refl),
        )

-- any line
due_next : (names booleans : List (List ℕ)) (t next : AnswerTaken) (due : Due) (words : List (List ℕ)) → Holds booleans t due → due_line names booleans t due words ≡ Ok next → Next names booleans t due words next
due_next names booleans t next Header words h e = header_next names booleans t next words h e
due_next names booleans t next RouteLine words h e = route_next names booleans t next words h e
due_next names booleans t next ClaimLine words h e = claim_next names booleans t next words h e
due_next names booleans t next Over words h e = over_next names booleans t next words h e
due_next names booleans t next Vals words h e = val_next names booleans t next words h e
due_next names booleans t next (Ons least) words h e = on_next names booleans least t next words h e
due_next names booleans t next Steps words h e = step_next names booleans t next words h e
due_next names booleans t next LastLine words h e = last_next names booleans t next words h e
due_next names booleans t next TreeLine words h e = bare_next names booleans t next words h e
due_next names booleans t next Nodes words h e = node_next names booleans t next words h e
due_next names booleans t next Nothing words h e = absurd (cc e)

line_next : (names booleans : List (List ℕ)) (t next : AnswerTaken) (l : ExactLine) → Holds booleans t t.due → with_line names booleans t l ≡ Ok next → (l.is_ended ≡ true) × Next names booleans t t.due l.words next
unfolding with_line
line_next names booleans t next l h e =
    let p = passed (not l.is_ended) cause.Form (due_line names booleans t t.due l.words) next e in
    (not_false l.is_ended p.0, due_next names booleans t next t.due l.words h p.1)
  where
    not_false : (b : Bool) → not b ≡ false → b ≡ true
    not_false true e = refl
    not_false false e = absurd (cc e)

-- all lines
record AreNext (names booleans : List (List ℕ)) (t : AnswerTaken) (lines : List ExactLine) (after : AnswerTaken) : Type 0 where
  words : List (List (List ℕ))
  are : AreWords lines words
  all : so_far names booleans after after.due ≡ so_far names booleans t t.due ++ words

lines_next : (names booleans : List (List ℕ)) (k : ℕ) (t after : AnswerTaken) (lines : List ExactLine) → Holds booleans t t.due → LeadsBy (answer_grammar names booleans) k t lines after → AreNext names booleans t lines after
lines_next names booleans k t after [] h e = record { words = []; are = tt; all = ap (λ (x : AnswerTaken). so_far names booleans x x.due) (sym e) ∙ sym (append-nil (so_far names booleans t t.due)) }
lines_next names booleans k t after (l ∷ ls) h e =
    let n = line_next names booleans t e.0 l h e.1 in
    let below = lines_next names booleans (k + 1) e.0 after ls n.1.1 e.2 in
    record {
      words = l.words ∷ below.words;
      are = (n.0, refl, below.are);
      all = below.all ∙ ap (λ (x : List (List (List ℕ))). x ++ below.words) n.1.0 ∙ append_assoc (so_far names booleans t t.due) (l.words ∷ []) below.words;
    }

-- the end
pub nothing_is : (due : Due) → is_nothing due ≡ true → due ≡ Nothing
nothing_is Nothing e = refl
nothing_is Header e = absurd (cc e)
nothing_is RouteLine e = absurd (cc e)
nothing_is ClaimLine e = absurd (cc e)
nothing_is Over e = absurd (cc e)
nothing_is Vals e = absurd (cc e)
nothing_is (Ons least) e = absurd (cc e)
nothing_is Steps e = absurd (cc e)
nothing_is LastLine e = absurd (cc e)
nothing_is TreeLine e = absurd (cc e)
nothing_is Nodes e = absurd (cc e)

all_given : (names booleans : List (List ℕ)) (t : AnswerTaken) (k : ClaimKind) → t.kind ≡ k → all_lines names booleans t k ≡ answer_lines names booleans (record { route = t.route; claim = claim_of t k })
all_given names booleans t (IsBest value) e = ap (λ (x : ClaimKind). header ∷ route_words t.route ∷ kind_words x ∷ (point_so_far names booleans t ++ (codes "tree" ∷ []) ∷ tree_lines t.tree.nodes)) e
all_given names booleans t IsEmpty e = ap (λ (x : ClaimKind). header ∷ route_words t.route ∷ kind_words x ∷ (codes "tree" ∷ []) ∷ tree_lines t.tree.nodes) e
all_given names booleans t IsEndless e = ap (λ (x : ClaimKind). header ∷ route_words t.route ∷ kind_words x ∷ (point_so_far names booleans t ++ (steps_so_far names t ++ (codes "end" ∷ []) ∷ []))) e

given_lines : (names booleans : List (List ℕ)) (t : AnswerTaken) (a : Answer) → answer_after t ≡ Ok a → so_far names booleans t t.due ≡ answer_lines names booleans a
unfolding answer_after
given_lines names booleans t a e =
    let p = passed (not (is_nothing t.due)) cause.Form (Ok (record { route = t.route; claim = claim_of t t.kind })) a e in
    let given : Answer = record { route = t.route; claim = claim_of t t.kind } in
    let same : given ≡ a = cc p.1 in
    ap (λ (d : Due). so_far names booleans t d) (nothing_is t.due (not_false (is_nothing t.due) p.0)) ∙ all_given names booleans t t.kind refl ∙ ap (λ (x : Answer). answer_lines names booleans x) same
  where
    not_false : (b : Bool) → not b ≡ false → b ≡ true
    not_false true e = refl
    not_false false e = absurd (cc e)

pub answer_is_written : AnswerIsWritten
unfolding answer_text_of
answer_is_written names booleans text a s =
    let start : AnswerTaken = nothing_taken (length booleans) in
    let n = lines_next names booleans 1 start s.taken (exact_lines text) (record { nums_none = refl; all_false = refl; ray_none = refl; nodes_none = refl }, refl) s.leads in
    text_again text n.words n.are ∙ ap (λ (ws : List (List (List ℕ))). text_of (map exact_text_line ws)) (sym n.all ∙ given_lines names booleans s.taken a s.gives)
