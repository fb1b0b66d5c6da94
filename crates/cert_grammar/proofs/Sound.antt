-- A text spells only answers that have all that an answer has.
use Rattle.std.proofs.Common.{◌≡◌, ℕ, zero, suc, ◌+◌, ◌<◌, ◌≤◌, ℤ, pos, int_lt, Bool, true, false, not, ◌&&◌, if◌then◌else◌, List, [], ◌∷◌, ◌++◌, length, codes, Option, None, Some, Ok, refl, ap, sym, subst, ◌∙◌, append-nil, append_assoc, length-append, arith}
use Rattle.std.specs.Prelude.{nat_lt, set, slice_index_or}
use Rattle.std.specs.List.{list_all}
use Rattle.std.proofs.lemmas.Bool.Decides.{nat_tests}
use Rattle.std.proofs.lemmas.List.{length-set, length-replicate}
use Rattle.fractions.specs.Width.{fits}
use Rattle.text_grammar.specs.Grammars.{LeadsBy}
use Rattle.text_grammar.specs.Outcomes.{◌>>=◌, refused_where, or_cause}
use Rattle.text_grammar.proofs.Bools.{both, and_true}
use Rattle.cert_grammar.specs.declared.cause.CertCause.TheVariants as cause
use Rattle.cert_grammar.specs.Answers.{AnswerTaken, nothing_taken, are_two, is_one, second_of, is_filled, on_name, named_number, behind_vals, behind_steps, at_due, claim_line, over_line, val_line, step_line, place_from, tree_line, behind_ons, on_line, behind_nodes, due_line, with_line, claim_of, is_nothing, answer_after, answer_grammar}
use Rattle.cert_grammar.specs.declared.due.Due.{Due}
use Rattle.cert_grammar.specs.declared.due.Due.TheVariants.{Header, RouteLine, ClaimLine, Over, Vals, Ons, Steps, LastLine, TreeLine, Nodes, Nothing}
use Rattle.cert_grammar.specs.declared.due.ClaimKind.{ClaimKind}
use Rattle.cert_grammar.specs.declared.due.ClaimKind.TheVariants.{IsBest, IsEmpty, IsEndless}
use Rattle.cert_grammar.specs.Claims.{route_of, spelled_value}
use Rattle.answers.specs.declared.answer.Answer.{Answer}
use Rattle.cert_grammar.specs.ExactLines.{ExactLine, exact_lines}
use Rattle.cert_grammar.specs.Laws.{is_value, IsPointOf, IsRayOf, IsFittingProof, IsClaim, AnswerIsSound}
use Rattle.cert_grammar.specs.Nodes.{node_fits}
use Rattle.proof_tree.specs.declared.proof.Node.{Node}
use Rattle.proof_tree.specs.Tree.{closes, is_listed, opens}
use Rattle.cert_grammar.specs.Trees.{TreeTaken, tree_open, with_words}
use Rattle.cert_grammar.specs.Wholes.{whole_of}
use Rattle.cert_grammar.proofs.Canonical.{nothing_is}
use Rattle.cert_grammar.proofs.Forms.{are_nodes, fitting_proof}
use Rattle.cert_grammar.proofs.Leading.{at_nodes, at_end, Step, ends, goes, step_of}
use Rattle.cert_grammar.proofs.WordsOnly.{read_of, some_of, passed, taken_if, named_only, value_sound}

-- a name stands only where there is one
filled_within : (names : List (List ℕ)) (k : ℕ) → is_filled (slice_index_or names k []) ≡ true → k < length names
filled_within [] zero e = absurd (cc e)
filled_within [] (suc k) e = absurd (cc e)
filled_within (n ∷ ns) zero e = omega arith
filled_within (n ∷ ns) (suc k) e = omega (arith, filled_within ns k e)

all_one : (zs : List ℤ) (z : ℤ) → list_all fits zs ≡ true → fits z ≡ true → list_all fits (zs ++ z ∷ []) ≡ true
all_one [] z p f = and_true (fits z) true f refl
all_one (y ∷ ys) z p f = let b = both (fits y) (list_all fits ys) p in and_true (fits y) (list_all fits (ys ++ z ∷ [])) b.0 (all_one ys z b.1 f)

abbrev KindSound : ClaimKind → Type 0
KindSound (IsBest value) = is_value value ≡ true
KindSound IsEmpty = Unit {0}
KindSound IsEndless = Unit {0}

abbrev IsBegun : List (List ℕ) → AnswerTaken → Type 0
IsBegun booleans t = (t.nums ≡ []) × (t.ray ≡ []) × (length t.truths ≡ length booleans) × (t.tree ≡ tree_open)

-- the numbers so far
abbrev AreNums : List (List ℕ) → ℤ → List ℤ → List Bool → Type 0
AreNums booleans over nums truths = (int_lt (pos 0) over ≡ true) × (fits over ≡ true) × (list_all fits nums ≡ true) × (length truths ≡ length booleans)

abbrev HasPoint : List (List ℕ) → List (List ℕ) → AnswerTaken → Type 0
HasPoint names booleans t = IsPointOf names booleans (record { over = t.over; nums = t.nums }) t.truths

-- neither steps nor nodes are taken, and the value is one
abbrev IsBare : AnswerTaken → Type 0
IsBare t = (t.ray ≡ []) × (t.tree ≡ tree_open) × KindSound t.kind

-- a proof is claimed, of a point or of none
abbrev IsProved : List (List ℕ) → List (List ℕ) → AnswerTaken → ClaimKind → Type 0
IsProved names booleans t (IsBest value) = (is_value value ≡ true) × HasPoint names booleans t
IsProved names booleans t IsEmpty = Unit {0}
IsProved names booleans t IsEndless = ⊥

-- the nodes so far
abbrev IsGrown : TreeTaken → Type 0
IsGrown s = (s.ended ≡ false) × (are_nodes s.nodes ≡ true) × ((more : List Node) → closes 1 (s.nodes ++ more) ≡ closes s.halves more)

abbrev Sound : List (List ℕ) → List (List ℕ) → AnswerTaken → Due → Type 0
Sound names booleans t Header = IsBegun booleans t × (t.kind ≡ IsEmpty)
Sound names booleans t RouteLine = IsBegun booleans t × (t.kind ≡ IsEmpty)
Sound names booleans t ClaimLine = IsBegun booleans t × (t.kind ≡ IsEmpty)
Sound names booleans t Over = IsBegun booleans t × KindSound t.kind
Sound names booleans t TreeLine = (t.kind ≡ IsEmpty) × (t.tree ≡ tree_open)
Sound names booleans t Vals = AreNums booleans t.over t.nums t.truths × (length t.nums < length names) × IsBare t
Sound names booleans t (Ons least) = HasPoint names booleans t × IsBare t
Sound names booleans t Steps = HasPoint names booleans t × (list_all fits t.ray ≡ true) × (length t.ray < length names) × (t.kind ≡ IsEndless)
Sound names booleans t LastLine = HasPoint names booleans t × IsRayOf names t.ray × (t.kind ≡ IsEndless)
Sound names booleans t Nodes = IsProved names booleans t t.kind × IsGrown t.tree
Sound names booleans t Nothing = IsClaim names booleans (claim_of t t.kind)

-- what was taken is sound
abbrev After : List (List ℕ) → List (List ℕ) → AnswerTaken → Type 0
After names booleans t = Sound names booleans t t.due

along : (names booleans : List (List ℕ)) (x next : AnswerTaken) → x ≡ next → After names booleans x → After names booleans next
along names booleans x next e s = subst (λ (y : AnswerTaken). After names booleans y) e s

less_is : (a b : ℕ) → nat_lt a b ≡ true → a < b
less_is a b e = grind (arith, nat_tests)

least_is : (a b : ℕ) → nat_lt a b ≡ false → b ≤ a
least_is a b e = grind (arith, nat_tests)

-- behind the numbers
vals_sound : (names booleans : List (List ℕ)) (zs : List ℤ) (t : AnswerTaken) → t.nums ≡ zs → length zs ≤ length names → AreNums booleans t.over t.nums t.truths → IsBare t → Sound names booleans t (behind_vals (length names) zs)
vals_sound names booleans zs t is le nums bare = go (nat_lt (length zs) (length names)) refl
  where
    go : (b : Bool) → nat_lt (length zs) (length names) ≡ b → Sound names booleans t (if b then Vals else Ons 0)
    go true e = (nums, omega (arith, less_is (length zs) (length names) e, ap (λ (l : List ℤ). length l) is), bare)
    go false e = (record { positive = nums.0; over_fits = nums.1; nums_fit = nums.2; nums_long = omega (arith, le, least_is (length zs) (length names) e, ap (λ (l : List ℤ). length l) is); truths_long = nums.3 }, bare)

steps_sound : (names booleans : List (List ℕ)) (zs : List ℤ) (t : AnswerTaken) → t.ray ≡ zs → length zs ≤ length names → list_all fits t.ray ≡ true → HasPoint names booleans t → t.kind ≡ IsEndless → Sound names booleans t (behind_steps (length names) zs)
steps_sound names booleans zs t is le fit point kind = go (nat_lt (length zs) (length names)) refl
  where
    go : (b : Bool) → nat_lt (length zs) (length names) ≡ b → Sound names booleans t (if b then Steps else LastLine)
    go true e = (point, fit, omega (arith, less_is (length zs) (length names) e, ap (λ (l : List ℤ). length l) is), kind)
    go false e = (point, record { fit = fit; long = omega (arith, le, least_is (length zs) (length names) e, ap (λ (l : List ℤ). length l) is) }, kind)

not_false : (b : Bool) → not b ≡ false → b ≡ true
not_false true e = refl
not_false false e = absurd (cc e)

header_sound : (names booleans : List (List ℕ)) (t next : AnswerTaken) (words : List (List ℕ)) → Sound names booleans t Header → due_line names booleans t Header words ≡ Ok next → After names booleans next
header_sound names booleans t next words h e =
    let i = taken_if (are_two (codes "gdp-answer") (codes "1") words) (at_due RouteLine t) cause.Form next e in
    along names booleans (at_due RouteLine t) next i.1 h

route_sound : (names booleans : List (List ℕ)) (t next : AnswerTaken) (words : List (List ℕ)) → Sound names booleans t RouteLine → due_line names booleans t RouteLine words ≡ Ok next → After names booleans next
route_sound names booleans t next words h e =
    let a = some_of (second_of (codes "route") words) cause.Form (λ word. or_cause cause.Form (route_of word) >>= (λ route. Ok (at_due ClaimLine (record t { route = route })))) next e in
    let b = some_of (route_of a.0) cause.Form (λ route. Ok (at_due ClaimLine (record t { route = route }))) next a.2 in
    let same : at_due ClaimLine (record t { route = b.0 }) ≡ next = cc b.2 in
    along names booleans (at_due ClaimLine (record t { route = b.0 })) next same h

claim_sound : (names booleans : List (List ℕ)) (t next : AnswerTaken) (words : List (List ℕ)) → Sound names booleans t ClaimLine → claim_line t words ≡ Ok next → After names booleans next
claim_sound names booleans t next words h e = go (is_one (codes "empty") words) (is_one (codes "endless") words) e
  where
    go : (p q : Bool)
        → (if p then Ok (at_due TreeLine t) else (if q then Ok (at_due Over (record t { kind = IsEndless })) else (or_cause cause.Form (second_of (codes "best") words) >>= (λ word. spelled_value word >>= (λ value. Ok (at_due Over (record t { kind = IsBest value }))))))) ≡ Ok next
        → After names booleans next
    go true q e =
        let same : at_due TreeLine t ≡ next = cc e in
        along names booleans (at_due TreeLine t) next same (h.1, h.0.3)
    go false true e =
        let same : at_due Over (record t { kind = IsEndless }) ≡ next = cc e in
        along names booleans (at_due Over (record t { kind = IsEndless })) next same (h.0, tt)
    go false false e =
        let s = some_of (second_of (codes "best") words) cause.Form (λ word. spelled_value word >>= (λ value. Ok (at_due Over (record t { kind = IsBest value })))) next e in
        let v = read_of (spelled_value s.0) (λ value. Ok (at_due Over (record t { kind = IsBest value }))) next s.2 in
        let same : at_due Over (record t { kind = IsBest v.0 }) ≡ next = cc v.2 in
        along names booleans (at_due Over (record t { kind = IsBest v.0 })) next same (h.0, value_sound s.0 v.0 v.1)

over_sound : (names booleans : List (List ℕ)) (t next : AnswerTaken) (words : List (List ℕ)) → Sound names booleans t Over → over_line (length names) t words ≡ Ok next → After names booleans next
over_sound names booleans t next words h e =
    let taken : ℤ → AnswerTaken = λ z. at_due (behind_vals (length names) []) (record t { over = z }) in
    let s = some_of (second_of (codes "over") words) cause.Form (λ word. or_cause cause.Form (whole_of word) >>= (λ z. refused_where (not (int_lt (pos 0) z && fits z)) cause.Number >>= (λ _. Ok (taken z)))) next e in
    let z = some_of (whole_of s.0) cause.Form (λ z. refused_where (not (int_lt (pos 0) z && fits z)) cause.Number >>= (λ _. Ok (taken z))) next s.2 in
    let p = passed (not (int_lt (pos 0) z.0 && fits z.0)) cause.Number (Ok (taken z.0)) next z.2 in
    let same : taken z.0 ≡ next = cc p.1 in
    let fit = both (int_lt (pos 0) z.0) (fits z.0) (not_false (int_lt (pos 0) z.0 && fits z.0) p.0) in
    along names booleans (taken z.0) next same
    (vals_sound names booleans [] (taken z.0) h.0.0 (omega arith) (fit.0, fit.1, ap (λ (l : List ℤ). list_all fits l) h.0.0, h.0.2) (h.0.1, h.0.3, h.1))

val_sound : (names booleans : List (List ℕ)) (t next : AnswerTaken) (words : List (List ℕ)) → Sound names booleans t Vals → val_line names t words ≡ Ok next → After names booleans next
val_sound names booleans t next words h e =
    let name : List ℕ = slice_index_or names (length t.nums) [] in
    let taken : ℤ → AnswerTaken = λ z. at_due (behind_vals (length names) (t.nums ++ z ∷ [])) (record t { nums = t.nums ++ z ∷ [] }) in
    let z = read_of (named_number (codes "val") name words) (λ z. Ok (taken z)) next e in
    let same : taken z.0 ≡ next = cc z.2 in
    let line = named_only (codes "val") name words z.0 z.1 in
    along names booleans (taken z.0) next same
    (vals_sound names booleans (t.nums ++ z.0 ∷ []) (taken z.0) refl (omega (arith, filled_within names (length t.nums) line.1, length-append t.nums (z.0 ∷ [])))
    (h.0.0, h.0.1, all_one t.nums z.0 h.0.2 line.2, h.0.3) h.2)

step_sound : (names booleans : List (List ℕ)) (t next : AnswerTaken) (words : List (List ℕ)) → HasPoint names booleans t → list_all fits t.ray ≡ true → t.kind ≡ IsEndless → step_line names t words ≡ Ok next → After names booleans next
step_sound names booleans t next words point fit kind e =
    let name : List ℕ = slice_index_or names (length t.ray) [] in
    let taken : ℤ → AnswerTaken = λ z. at_due (behind_steps (length names) (t.ray ++ z ∷ [])) (record t { ray = t.ray ++ z ∷ [] }) in
    let z = read_of (named_number (codes "step") name words) (λ z. Ok (taken z)) next e in
    let same : taken z.0 ≡ next = cc z.2 in
    let line = named_only (codes "step") name words z.0 z.1 in
    along names booleans (taken z.0) next same
    (steps_sound names booleans (t.ray ++ z.0 ∷ []) (taken z.0) refl (omega (arith, filled_within names (length t.ray) line.1, length-append t.ray (z.0 ∷ [])))
    (all_one t.ray z.0 fit line.2) point kind)

grown_open : (s : TreeTaken) → s ≡ tree_open → IsGrown s
grown_open s e = subst (λ (x : TreeTaken). IsGrown x) (sym e) (refl, refl, λ more. refl)

tree_sound : (names booleans : List (List ℕ)) (t next : AnswerTaken) (words : List (List ℕ)) → IsProved names booleans t t.kind → t.tree ≡ tree_open → tree_line t words ≡ Ok next → After names booleans next
tree_sound names booleans t next words proved open_tree e =
    let i = taken_if (is_one (codes "tree") words) (at_due Nodes t) cause.Form next e in
    along names booleans (at_due Nodes t) next i.1 (proved, grown_open t.tree open_tree)

on_sound : (names booleans : List (List ℕ)) (least : ℕ) (t next : AnswerTaken) (words : List (List ℕ)) → Sound names booleans t (Ons least) → on_line names booleans t least words (on_name words) ≡ Ok next → After names booleans next
on_sound names booleans least t next words h e = go (on_name words) e
  where
    behind : (k : ClaimKind) → t.kind ≡ k → behind_ons names t k words ≡ Ok next → After names booleans next
    behind (IsBest value) k e = tree_sound names booleans t next words (subst (λ (x : ClaimKind). IsProved names booleans t x) (sym k) (subst (λ (x : ClaimKind). KindSound x) k h.1.2, h.0)) h.1.1 e
    behind IsEmpty k e = tree_sound names booleans t next words (subst (λ (x : ClaimKind). IsProved names booleans t x) (sym k) tt) h.1.1 e
    behind IsEndless k e = step_sound names booleans t next words h.0 (ap (λ (l : List ℤ). list_all fits l) h.1.0) k e

    go : (o : Option (List ℕ)) → on_line names booleans t least words o ≡ Ok next → After names booleans next
    go None e = behind t.kind refl e
    go (Some name) e =
        let taken : ℕ → AnswerTaken = λ id. at_due (Ons (suc id)) (record t { truths = set t.truths id true }) in
        let p = some_of (place_from least 0 name booleans) cause.Name (λ id. Ok (taken id)) next e in
        let same : taken p.0 ≡ next = cc p.2 in
        along names booleans (taken p.0) next same
        (record { positive = h.0.positive; over_fits = h.0.over_fits; nums_fit = h.0.nums_fit; nums_long = h.0.nums_long; truths_long = length-set t.truths p.0 true ∙ h.0.truths_long }, h.1)

last_sound : (names booleans : List (List ℕ)) (t next : AnswerTaken) (words : List (List ℕ)) → Sound names booleans t LastLine → due_line names booleans t LastLine words ≡ Ok next → After names booleans next
last_sound names booleans t next words h e =
    let i = taken_if (is_one (codes "end") words) (at_due Nothing t) cause.Form next e in
    along names booleans (at_due Nothing t) next i.1 (subst (λ (k : ClaimKind). IsClaim names booleans (claim_of t k)) (sym h.2) (h.0, h.1))

-- the nodes
nodes_one : (ns : List Node) (n : Node) → are_nodes ns ≡ true → (node_fits n && is_listed n) ≡ true → are_nodes (ns ++ n ∷ []) ≡ true
nodes_one [] n a f = and_true (node_fits n && is_listed n) true f refl
nodes_one (x ∷ xs) n a f = let b = both (node_fits x && is_listed x) (are_nodes xs) a in and_true (node_fits x && is_listed x) (are_nodes (xs ++ n ∷ [])) b.0 (nodes_one xs n b.1 f)

proof_claim : (names booleans : List (List ℕ)) (t : AnswerTaken) (k : ClaimKind) → IsProved names booleans t k → IsFittingProof t.tree.nodes → IsClaim names booleans (claim_of t k)
proof_claim names booleans t (IsBest value) p l = (p.0, (p.1, l))
proof_claim names booleans t IsEmpty p l = l
proof_claim names booleans t IsEndless p l = absurd p

node_taken : (names booleans : List (List ℕ)) (t next : AnswerTaken) (words : List (List ℕ)) → Sound names booleans t Nodes → due_line names booleans t Nodes words ≡ Ok next → After names booleans next
node_taken names booleans t next words h e =
    let taken : TreeTaken → AnswerTaken = λ s. at_due (behind_nodes s) (record t { tree = s }) in
    let s = read_of (with_words t.tree words) (λ s. Ok (taken s)) next e in
    let same : taken s.0 ≡ next = cc s.2 in
    let open_tree : t.tree ≡ at_nodes t.tree.halves t.tree.nodes = ap (λ (b : Bool). let x : TreeTaken = record { halves = t.tree.halves; nodes = t.tree.nodes; ended = b } in x) h.1.0 in
    let read : with_words (at_nodes t.tree.halves t.tree.nodes) words ≡ Ok s.0 = ap (λ (x : TreeTaken). with_words x words) (sym open_tree) ∙ s.1 in
    along names booleans (taken s.0) next same (go s.0 (step_of t.tree.halves t.tree.nodes words s.0 read))
  where
    go : (s : TreeTaken) → Step t.tree.halves t.tree.nodes words s → After names booleans (at_due (behind_nodes s) (record t { tree = s }))
    go s (ends none w is) =
        let whole : closes 1 t.tree.nodes ≡ true = ap (closes 1) (sym (append-nil t.tree.nodes)) ∙ h.1.2 [] ∙ ap (λ (k : ℕ). closes k []) none in
        subst (λ (x : TreeTaken). After names booleans (at_due (behind_nodes x) (record t { tree = x }))) (sym is)
        (proof_claim names booleans (record t { tree = at_end t.tree.nodes }) t.kind (proved t.kind h.0) (fitting_proof t.tree.nodes h.1.1 whole))
      where
        proved : (k : ClaimKind) → IsProved names booleans t k → IsProved names booleans (record t { tree = at_end t.tree.nodes }) k
        proved (IsBest value) p = p
        proved IsEmpty p = p
        proved IsEndless p = p
    go s (goes n below some r is) =
        subst (λ (x : TreeTaken). After names booleans (at_due (behind_nodes x) (record t { tree = x }))) (sym is) (
          proved t.kind h.0,
          (refl, nodes_one t.tree.nodes n h.1.1 (and_true (node_fits n) (is_listed n) r.fits_it r.sound), λ more. ap (closes 1) (append_assoc t.tree.nodes (n ∷ []) more) ∙ h.1.2 (n ∷ more) ∙ ap (λ (k : ℕ). closes k (n ∷ more)) some),
        )
      where
        proved : (k : ClaimKind) → IsProved names booleans t k → IsProved names booleans (record t { due = Nodes; tree = at_nodes (opens n below) (t.tree.nodes ++ n ∷ []) }) k
        proved (IsBest value) p = p
        proved IsEmpty p = p
        proved IsEndless p = p

-- any line
due_sound : (names booleans : List (List ℕ)) (t next : AnswerTaken) (due : Due) (words : List (List ℕ)) → Sound names booleans t due → due_line names booleans t due words ≡ Ok next → After names booleans next
due_sound names booleans t next Header words h e = header_sound names booleans t next words h e
due_sound names booleans t next RouteLine words h e = route_sound names booleans t next words h e
due_sound names booleans t next ClaimLine words h e = claim_sound names booleans t next words h e
due_sound names booleans t next Over words h e = over_sound names booleans t next words h e
due_sound names booleans t next Vals words h e = val_sound names booleans t next words h e
due_sound names booleans t next (Ons least) words h e = on_sound names booleans least t next words h e
due_sound names booleans t next Steps words h e = step_sound names booleans t next words h.0 h.1 h.3 e
due_sound names booleans t next LastLine words h e = last_sound names booleans t next words h e
due_sound names booleans t next TreeLine words h e = tree_sound names booleans t next words (subst (λ (k : ClaimKind). IsProved names booleans t k) (sym h.0) tt) h.1 e
due_sound names booleans t next Nodes words h e = node_taken names booleans t next words h e
due_sound names booleans t next Nothing words h e = absurd (cc e)

line_sound : (names booleans : List (List ℕ)) (t next : AnswerTaken) (l : ExactLine) → After names booleans t → with_line names booleans t l ≡ Ok next → After names booleans next
unfolding with_line
line_sound names booleans t next l h e = due_sound names booleans t next t.due l.words h (passed (not l.is_ended) cause.Form (due_line names booleans t t.due l.words) next e).1

lines_sound : (names booleans : List (List ℕ)) (k : ℕ) (t after : AnswerTaken) (lines : List ExactLine) → After names booleans t → LeadsBy (answer_grammar names booleans) k t lines after → After names booleans after
lines_sound names booleans k t after [] h e = along names booleans t after e h
lines_sound names booleans k t after (l ∷ ls) h e = lines_sound names booleans (k + 1) e.0 after ls (line_sound names booleans t e.0 l h e.1) e.2

given_sound : (names booleans : List (List ℕ)) (t : AnswerTaken) (a : Answer) → After names booleans t → answer_after t ≡ Ok a → IsClaim names booleans a.claim
unfolding answer_after
given_sound names booleans t a h e =
    let p = passed (not (is_nothing t.due)) cause.Form (Ok (record { route = t.route; claim = claim_of t t.kind })) a e in
    let given : Answer = record { route = t.route; claim = claim_of t t.kind } in
    let same : given ≡ a = cc p.1 in
    let last : t.due ≡ Nothing = nothing_is t.due (not_false (is_nothing t.due) p.0) in
    subst (λ (x : Answer). IsClaim names booleans x.claim) same (subst (λ (d : Due). Sound names booleans t d) last h)

pub answer_is_sound : AnswerIsSound
answer_is_sound names booleans text a s =
    given_sound names booleans s.taken a (lines_sound names booleans 1 (nothing_taken (length booleans)) s.taken (exact_lines text) ((refl, refl, length-replicate (length booleans) false, refl), refl) s.leads) s.gives
