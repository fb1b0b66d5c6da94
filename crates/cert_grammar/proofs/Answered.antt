-- The text of an answer spells that answer.
use Rattle.std.proofs.Common.{◌≡◌, ℕ, suc, ◌+◌, ◌<◌, ◌≤◌, ℤ, Bool, true, false, if◌then◌else◌, ◌&&◌, ◌||◌, List, [], ◌∷◌, ◌++◌, length, map, codes, Some, Result, Ok, refl, ap, sym, subst, ◌∙◌, append-nil, append_assoc, length-append, arith}
use Rattle.std.specs.Prelude.{nat_lt, nat_le, bytes_eq, replicate, set, slice_index_or}
use Rattle.std.specs.List.{list_all, list_any}
use Rattle.std.proofs.Math.Seq.{set-append_seam}
use Rattle.std.proofs.lemmas.Bool.{cond-true, cond-false}
use Rattle.std.proofs.lemmas.Bool.Decides.{nat_tests}
use Rattle.std.proofs.lemmas.Slice.Eq.{bytes_eq-Decides}
use Rattle.fractions.specs.Width.{fits}
use Rattle.text_grammar.specs.Grammars.{LeadsBy}
use Rattle.text_grammar.specs.Printing.{whole_word}
use Rattle.text_grammar.proofs.Bools.{both, and_true}
use Rattle.cert_grammar.specs.declared.cause.CertCause.{CertCause}
use Rattle.cert_grammar.specs.Answers.{AnswerTaken, is_filled, named_number, behind_vals, behind_steps, place_from, behind_nodes, with_line, answer_grammar}
use Rattle.cert_grammar.specs.declared.due.Due.TheVariants.{Ons, LastLine, Nodes, Nothing}
use Rattle.cert_grammar.specs.Claims.{named_lines, on_lines}
use Rattle.cert_grammar.specs.ExactLines.{ExactLine}
use Rattle.cert_grammar.specs.Trees.{TreeTaken, with_words, tree_grammar}
use Rattle.cert_grammar.proofs.Exact.{whole_again}
use Rattle.cert_grammar.proofs.Forms.{short_whole}

-- a line with these words
abbrev pub written : List (List ℕ) → ExactLine
written words = record { is_ended = true; words = words }

-- these lines lead from one state to another, wherever they stand
abbrev pub Lead : List (List ℕ) → List (List ℕ) → AnswerTaken → List (List (List ℕ)) → AnswerTaken → Type 0
Lead names booleans before lines after = (k : ℕ) → LeadsBy (answer_grammar names booleans) k before (map written lines) after

pub lead_both : (names booleans : List (List ℕ)) (a b c : AnswerTaken) (xs ys : List (List (List ℕ))) → Lead names booleans a xs b → Lead names booleans b ys c → Lead names booleans a (xs ++ ys) c
lead_both names booleans a b c [] ys p q k = subst (λ (t : AnswerTaken). LeadsBy (answer_grammar names booleans) k t (map written ys) c) (sym (p k)) (q k)
lead_both names booleans a b c (x ∷ xs) ys p q k =
    let h = p k in
    (h.0, h.1, go (k + 1) h.0 xs h.2)
  where
    go : (k : ℕ) (t : AnswerTaken) (xs : List (List (List ℕ))) → LeadsBy (answer_grammar names booleans) k t (map written xs) b → LeadsBy (answer_grammar names booleans) k t (map written (xs ++ ys)) c
    go k t [] e = subst (λ (s : AnswerTaken). LeadsBy (answer_grammar names booleans) k s (map written ys) c) (sym e) (q k)
    go k t (x ∷ xs) e = (e.0, e.1, go (k + 1) e.0 xs e.2)

pub same_bytes : (w : List ℕ) → bytes_eq w w ≡ true
same_bytes w = (bytes_eq-Decides w w).1 refl

-- the number of a line on the name that is due
pub number_again : (first name : List ℕ) (z : ℤ) → is_filled name ≡ true → fits z ≡ true → named_number first name (first ∷ name ∷ whole_word z ∷ []) ≡ Ok z
number_again first name z some f = rw (same_bytes first, some, whole_again z (short_whole z f), same_bytes name, f) refl

name_at : (before : List (List ℕ)) (name : List ℕ) (after : List (List ℕ)) → slice_index_or (before ++ name ∷ after) (length before) [] ≡ name
name_at [] name after = refl
name_at (b ∷ before) name after = name_at before name after

less : (a b : ℕ) → a < b → nat_lt a b ≡ true
less a b h = grind (arith, nat_tests)

never_less : (a b : ℕ) → b ≤ a → nat_lt a b ≡ false
never_less a b h = grind (arith, nat_tests)

-- the numbers of the names that are left
pub vals_lead : (names booleans before left : List (List ℕ)) (t : AnswerTaken) (done zs : List ℤ) → list_all is_filled left ≡ true → names ≡ before ++ left → length before ≡ length done → length zs ≡ length left → list_all fits zs ≡ true
    → Lead names booleans (record t { due = behind_vals (length names) done; nums = done }) (named_lines (codes "val") left zs) (record t { due = Ons 0; nums = done ++ zs })
unfolding with_line
vals_lead names booleans before [] t done [] some is n m f k =
    let past : nat_lt (length done) (length names) ≡ false = never_less (length done) (length names) (omega (arith, n, ap length is, length-append before [])) in
    rw (past, append-nil done) refl
vals_lead names booleans before [] t done (z ∷ zs) some is n m f k = absurd (omega (arith, m))
vals_lead names booleans before (x ∷ xs) t done [] some is n m f k = absurd (omega (arith, m))
vals_lead names booleans before (x ∷ xs) t done (z ∷ zs) some is n m f k =
    let w = both (is_filled x) (list_all is_filled xs) some in
    let h = both (fits z) (list_all fits zs) f in
    let here : nat_lt (length done) (length names) ≡ true = less (length done) (length names) (omega (arith, n, ap length is, length-append before (x ∷ xs))) in
    let name : slice_index_or names (length done) [] ≡ x = ap (λ (l : List (List ℕ)). slice_index_or l (length done) []) is ∙ ap (λ (i : ℕ). slice_index_or (before ++ x ∷ xs) i []) (sym n) ∙ name_at before x xs in
    let next : AnswerTaken = record t { due = behind_vals (length names) (done ++ z ∷ []); nums = done ++ z ∷ [] } in
    let steps : with_line names booleans (record t { due = behind_vals (length names) done; nums = done }) (written (codes "val" ∷ x ∷ whole_word z ∷ [])) ≡ Ok next =
    rw (here, name, number_again (codes "val") x z w.0 h.0) refl in
    let below = vals_lead names booleans (before ++ x ∷ []) xs t (done ++ z ∷ []) zs w.1 (is ∙ sym (append_assoc before (x ∷ []) xs)) (omega (arith, n, length-append before (x ∷ []), length-append done (z ∷ []))) (omega (arith, m)) h.1 (k + 1) in
    (next, steps, subst (λ (l : List ℤ). LeadsBy (answer_grammar names booleans) (k + 1) next (map written (named_lines (codes "val") xs zs)) (record t { due = Ons 0; nums = l })) (append_assoc done (z ∷ []) zs) below)

-- the steps of the names that are left
pub steps_lead : (names booleans before left : List (List ℕ)) (t : AnswerTaken) (done zs : List ℤ) → list_all is_filled left ≡ true → names ≡ before ++ left → length before ≡ length done → length zs ≡ length left → list_all fits zs ≡ true
    → Lead names booleans (record t { due = behind_steps (length names) done; ray = done }) (named_lines (codes "step") left zs) (record t { due = LastLine; ray = done ++ zs })
unfolding with_line
steps_lead names booleans before [] t done [] some is n m f k =
    let past : nat_lt (length done) (length names) ≡ false = never_less (length done) (length names) (omega (arith, n, ap length is, length-append before [])) in
    rw (past, append-nil done) refl
steps_lead names booleans before [] t done (z ∷ zs) some is n m f k = absurd (omega (arith, m))
steps_lead names booleans before (x ∷ xs) t done [] some is n m f k = absurd (omega (arith, m))
steps_lead names booleans before (x ∷ xs) t done (z ∷ zs) some is n m f k =
    let w = both (is_filled x) (list_all is_filled xs) some in
    let h = both (fits z) (list_all fits zs) f in
    let here : nat_lt (length done) (length names) ≡ true = less (length done) (length names) (omega (arith, n, ap length is, length-append before (x ∷ xs))) in
    let name : slice_index_or names (length done) [] ≡ x = ap (λ (l : List (List ℕ)). slice_index_or l (length done) []) is ∙ ap (λ (i : ℕ). slice_index_or (before ++ x ∷ xs) i []) (sym n) ∙ name_at before x xs in
    let next : AnswerTaken = record t { due = behind_steps (length names) (done ++ z ∷ []); ray = done ++ z ∷ [] } in
    let steps : with_line names booleans (record t { due = behind_steps (length names) done; ray = done }) (written (codes "step" ∷ x ∷ whole_word z ∷ [])) ≡ Ok next =
    rw (here, name, number_again (codes "step") x z w.0 h.0) refl in
    let below = steps_lead names booleans (before ++ x ∷ []) xs t (done ++ z ∷ []) zs w.1 (is ∙ sym (append_assoc before (x ∷ []) xs)) (omega (arith, n, length-append before (x ∷ []), length-append done (z ∷ []))) (omega (arith, m)) h.1 (k + 1) in
    (next, steps, subst (λ (l : List ℤ). LeadsBy (answer_grammar names booleans) (k + 1) next (map written (named_lines (codes "step") xs zs)) (record t { due = LastLine; ray = l })) (append_assoc done (z ∷ []) zs) below)

-- the place of a name that stands behind others
never_found : (least k : ℕ) (name : List ℕ) (before after : List (List ℕ)) → list_any (bytes_eq name) before ≡ false → place_from least k name (before ++ name ∷ after) ≡ place_from least (k + length before) name (name ∷ after)
never_found least k name [] after e = ap (λ (n : ℕ). place_from least n name (name ∷ after)) (omega arith)
never_found least k name (b ∷ before) after e =
    let h = neither (bytes_eq name b) (list_any (bytes_eq name) before) e in
    cond-false (nat_le least k && bytes_eq name b) _ _ (no_end (nat_le least k) (bytes_eq name b) h.0)
    ∙ never_found least (suc k) name before after h.1 ∙ ap (λ (n : ℕ). place_from least n name (name ∷ after)) (omega arith)
  where
    neither : (a b : Bool) → (a || b) ≡ false → (a ≡ false) × (b ≡ false)
    neither true b e = absurd (cc e)
    neither false b e = (refl, e)

    no_end : (a b : Bool) → b ≡ false → (a && b) ≡ false
    no_end true b e = e
    no_end false b e = refl

place_found : (least : ℕ) (name : List ℕ) (before after : List (List ℕ)) → list_any (bytes_eq name) before ≡ false → least ≤ length before → place_from least 0 name (before ++ name ∷ after) ≡ Some (length before)
place_found least name before after e le =
    never_found least 0 name before after e
    ∙ cond-true (nat_le least (0 + length before) && bytes_eq name name) _ _ (and_true (nat_le least (0 + length before)) (bytes_eq name name) (at_least least (0 + length before) (omega (arith, le))) (same_bytes name))
    ∙ ap (λ (n : ℕ). Some n) (omega arith)
  where
    at_least : (a b : ℕ) → a ≤ b → nat_le a b ≡ true
    at_least a b h = grind (arith, nat_tests)

-- no name that is left stands among those before
abbrev pub AreNew : List (List ℕ) → List (List ℕ) → Type 0
AreNew before [] = Unit {0}
AreNew before (x ∷ xs) = (list_any (bytes_eq x) before ≡ false) × AreNew (before ++ x ∷ []) xs

on_taken : (names booleans : List (List ℕ)) (t : AnswerTaken) (least id : ℕ) (name : List ℕ) (truths : List Bool) → is_filled name ≡ true → place_from least 0 name booleans ≡ Some id
    → with_line names booleans (record t { due = Ons least; truths = truths }) (written (codes "on" ∷ name ∷ [])) ≡ Ok (record t { due = Ons (suc id); truths = set truths id true })
unfolding with_line
on_taken names booleans t least id name truths some found = rw (some, found) refl

-- a line for each Boolean that is true
pub ons_lead : (names booleans before left : List (List ℕ)) (t : AnswerTaken) (least : ℕ) (done ts : List Bool) → list_all is_filled left ≡ true → booleans ≡ before ++ left → AreNew before left → length before ≡ length done → length ts ≡ length left → least ≤ length done
    → (last : ℕ) × Lead names booleans (record t { due = Ons least; truths = done ++ replicate (length left) false }) (on_lines left ts) (record t { due = Ons last; truths = done ++ ts })
ons_lead names booleans before [] t least done [] some is new n m le = (least, λ k. refl)
ons_lead names booleans before [] t least done (x ∷ ts) some is new n m le = absurd (omega (arith, m))
ons_lead names booleans before (x ∷ xs) t least done [] some is new n m le = absurd (omega (arith, m))
ons_lead names booleans before (x ∷ xs) t least done (false ∷ ts) some is new n m le =
    let w = both (is_filled x) (list_all is_filled xs) some in
    let r = ons_lead names booleans (before ++ x ∷ []) xs t least (done ++ false ∷ []) ts w.1 (is ∙ sym (append_assoc before (x ∷ []) xs)) new.1 (omega (arith, n, length-append before (x ∷ []), length-append done (false ∷ []))) (omega (arith, m)) (omega (arith, le, length-append done (false ∷ []))) in
    let from : List Bool → AnswerTaken = λ l. record t { due = Ons least; truths = l } in
    let into : List Bool → AnswerTaken = λ l. record t { due = Ons r.0; truths = l } in (
      r.0,
      λ k. subst (λ (l : List Bool). LeadsBy (answer_grammar names booleans) k (from (done ++ false ∷ replicate (length xs) false)) (map written (on_lines xs ts)) (into l)) (append_assoc done (false ∷ []) ts)
          (subst (λ (l : List Bool). LeadsBy (answer_grammar names booleans) k (from l) (map written (on_lines xs ts)) (into ((done ++ false ∷ []) ++ ts))) (append_assoc done (false ∷ []) (replicate (length xs) false)) (r.1 k)),
    )
ons_lead names booleans before (x ∷ xs) t least done (true ∷ ts) some is new n m le =
    let w = both (is_filled x) (list_all is_filled xs) some in
    let id : ℕ = length before in
    let r = ons_lead names booleans (before ++ x ∷ []) xs t (suc id) (done ++ true ∷ []) ts w.1 (is ∙ sym (append_assoc before (x ∷ []) xs)) new.1 (omega (arith, n, length-append before (x ∷ []), length-append done (true ∷ []))) (omega (arith, m)) (omega (arith, n, length-append done (true ∷ []))) in
    let found : place_from least 0 x booleans ≡ Some id = ap (λ (l : List (List ℕ)). place_from least 0 x l) is ∙ place_found least x before xs new.0 (omega (arith, n, le)) in
    let rest_false : List Bool = replicate (length xs) false in
    let changed : set (done ++ false ∷ rest_false) id true ≡ (done ++ true ∷ []) ++ rest_false =
    ap (λ (i : ℕ). set (done ++ false ∷ rest_false) i true) n ∙ set-append_seam done false rest_false true ∙ sym (append_assoc done (true ∷ []) rest_false) in
    let next : AnswerTaken = record t { due = Ons (suc id); truths = (done ++ true ∷ []) ++ rest_false } in
    let ok_with : List Bool → Result AnswerTaken CertCause = λ l. Ok (record t { due = Ons (suc id); truths = l }) in
    let step : with_line names booleans (record t { due = Ons least; truths = done ++ false ∷ rest_false }) (written (codes "on" ∷ x ∷ [])) ≡ Ok next =
    on_taken names booleans t least id x (done ++ false ∷ rest_false) w.0 found ∙ ap ok_with changed in
    (r.0, λ k. (next, step, subst (λ (l : List Bool). LeadsBy (answer_grammar names booleans) (k + 1) next (map written (on_lines xs ts)) (record t { due = Ons r.0; truths = l })) (append_assoc done (true ∷ []) ts) (r.1 (k + 1))))

-- the lines of a proof
node_line : (names booleans : List (List ℕ)) (t : AnswerTaken) (tree next : TreeTaken) (words : List (List ℕ)) → with_words tree words ≡ Ok next
    → with_line names booleans (record t { due = Nodes; tree = tree }) (written words) ≡ Ok (record t { due = behind_nodes next; tree = next })
unfolding with_line
node_line names booleans t tree next words e = rw e refl

not_ended : (tree next : TreeTaken) (words : List (List ℕ)) → with_words tree words ≡ Ok next → tree.ended ≡ false
unfolding with_words
not_ended tree next words e = go tree.ended refl
  where
    go : (b : Bool) → tree.ended ≡ b → tree.ended ≡ false
    go false is = is
    go true is = absurd (cc (e, is))

pub nodes_lead : (names booleans : List (List ℕ)) (t : AnswerTaken) (k j : ℕ) (tree after : TreeTaken) (lines : List (List (List ℕ))) → LeadsBy tree_grammar j tree lines after
    → LeadsBy (answer_grammar names booleans) k (record t { due = behind_nodes tree; tree = tree }) (map written lines) (record t { due = behind_nodes after; tree = after })
nodes_lead names booleans t k j tree after [] e = ap (λ (s : TreeTaken). record t { due = behind_nodes s; tree = s }) e
nodes_lead names booleans t k j tree after (l ∷ ls) e =
    let next : AnswerTaken = record t { due = behind_nodes e.0; tree = e.0 } in
    let start : Bool → AnswerTaken = λ b. record t { due = if b then Nothing else Nodes; tree = tree } in
    let step : with_line names booleans (record t { due = behind_nodes tree; tree = tree }) (written l) ≡ Ok next =
    ap (λ (b : Bool). with_line names booleans (start b) (written l)) (not_ended tree e.0 l e.1) ∙ node_line names booleans t tree e.0 l e.1 in
    (next, step, nodes_lead names booleans t (k + 1) (j + 1) e.0 after ls e.2)
