-- The text of an answer spells that answer.
use Rattle.std.proofs.Common.{◌≡◌, ℕ, ◌+◌, ◌^◌, ◌<◌, ℤ, pos, negsuc, int_lt, Bool, true, false, if◌then◌else◌, not, ◌==◌, ◌&&◌, ◌||◌, List, [], ◌∷◌, ◌++◌, length, map, codes, Result, Ok, refl, ap, sym, subst, ◌∙◌, append-nil, inl, inr, ◌⊎◌, arith}
use Rattle.std.specs.Prelude.{unsigned_abs, nat_lt, bytes_eq, replicate}
use Rattle.std.specs.List.{list_all, list_any}
use Rattle.std.specs.Fmt.{decimal}
use Rattle.std.proofs.lemmas.Bool.{cond-false}
use Rattle.std.proofs.lemmas.Bool.Decides.{nat_tests}
use Rattle.std.proofs.lemmas.Slice.Eq.{bytes_eq-Decides}
use Rattle.fractions.specs.Fraction.{Fraction}
use Rattle.fractions.specs.Width.{fits}
use Rattle.lp_rows.specs.Points.{PointValue}
use Rattle.text_grammar.specs.Bytes.{is_digit, front, rest}
use Rattle.text_grammar.specs.Grammars.{LeadsBy, SpellsBy}
use Rattle.text_grammar.specs.Lines.{onto_first}
use Rattle.text_grammar.specs.Printing.{spaced, line_of, text_of, whole_word}
use Rattle.text_grammar.proofs.Bools.{told, both, and_true, all_appended, all_weaker, not_true}
use Rattle.text_grammar.proofs.BytesLemmas.{Stops, front_again, rest_again}
use Rattle.text_grammar.proofs.DigitsLemmas.{decimal_digits}
use Rattle.cert_grammar.specs.declared.cause.CertCause.{CertCause}
use Rattle.answers.specs.declared.answer.Route.{Route}
use Rattle.answers.specs.declared.answer.Route.TheVariants as route
use Rattle.cert_grammar.specs.Answers.{is_filled, AnswerTaken, nothing_taken, behind_vals, behind_steps, with_line, answer_after, answer_grammar, exact_text_line, answer_text_of}
use Rattle.cert_grammar.specs.declared.due.Due.{Due}
use Rattle.cert_grammar.specs.declared.due.Due.TheVariants.{RouteLine, ClaimLine, Over, Ons, Steps, LastLine, TreeLine, Nodes, Nothing}
use Rattle.cert_grammar.specs.declared.due.ClaimKind.{ClaimKind}
use Rattle.cert_grammar.specs.declared.due.ClaimKind.TheVariants.{IsBest, IsEndless}
use Rattle.cert_grammar.specs.Claims.{route_word, value_word, spelled_value, is_lowest_spelling, named_lines, on_lines, point_lines, claim_lines, answer_lines}
use Rattle.answers.specs.declared.answer.Answer.{Answer}
use Rattle.answers.specs.declared.claim.Claim.{Claim}
use Rattle.answers.specs.declared.claim.Claim.TheVariants.{Best, Empty, Endless}
use Rattle.cert_grammar.specs.ExactLines.{ExactLine, parts_of, pieces_of, before_lines, exact_line, exact_lines}
use Rattle.cert_grammar.specs.Laws.{IsFittingProof, is_exact_word, are_exact_words, are_distinct, is_written_den, is_value, IsPointOf, IsRayOf, IsClaim, IsAnswer, WrittenAnswer}
use Rattle.cert_grammar.specs.Nodes.{pair_word, pair_words, node_words, node_fits, are_short, is_short}
use Rattle.proof_tree.specs.declared.path.Split.TheVariants as split
use Rattle.proof_tree.specs.declared.proof.Node.{Node}
use Rattle.proof_tree.specs.declared.proof.Node.TheVariants as node
use Rattle.proof_tree.specs.Tree.{is_listed}
use Rattle.cert_grammar.specs.Trees.{TreeTaken, tree_open, tree_lines}
use Rattle.cert_grammar.proofs.Answered.{written, Lead, lead_both, vals_lead, steps_lead, AreNew, ons_lead, nodes_lead, same_bytes}
use Rattle.cert_grammar.proofs.Exact.{natural_again, whole_again}
use Rattle.cert_grammar.proofs.Forms.{are_nodes, proof_nodes, proof_closes, short_natural, short_whole}
use Rattle.cert_grammar.proofs.Leading.{at_end, lead}

-- the bytes of a whole number
whole_all : (test : ℕ → Bool) (z : ℤ) → unsigned_abs z < 10 ^ 64 → ((d : ℕ) → is_digit d ≡ true → test d ≡ true) → test 45 ≡ true → list_all test (whole_word z) ≡ true
whole_all test z small digits minus = go (int_lt z (pos 0))
  where
    ds : list_all test (decimal (unsigned_abs z)) ≡ true
    ds = all_weaker is_digit test (decimal (unsigned_abs z)) digits (decimal_digits (unsigned_abs z) small).all

    go : (b : Bool) → list_all test ((if b then codes "-" else []) ++ decimal (unsigned_abs z)) ≡ true
    go true = and_true (test 45) (list_all test (decimal (unsigned_abs z))) minus ds
    go false = ds

digit_exact : (d : ℕ) → is_digit d ≡ true → (not (d == 10) && not (d == 32)) ≡ true
digit_exact d p = grind (arith, nat_tests)

digit_no_stroke : (d : ℕ) → is_digit d ≡ true → not (d == 47) ≡ true
digit_no_stroke d p = grind (arith, nat_tests)

whole_exact : (z : ℤ) → fits z ≡ true → is_exact_word (whole_word z) ≡ true
whole_exact z f = whole_all (λ b. not (b == 10) && not (b == 32)) z (short_whole z f) digit_exact refl

pub natural_exact : (n : ℕ) → n < 10 ^ 64 → is_exact_word (decimal n) ≡ true
natural_exact n small = all_weaker is_digit (λ b. not (b == 10) && not (b == 32)) (decimal n) digit_exact (decimal_digits n small).all

-- a value is read again
short_den : (q : ℕ) → fits (pos q) ≡ true → q < 10 ^ 64
short_den q f = short_whole (pos q) f

front_whole : (z : ℤ) (after : List ℕ) → fits z ≡ true → Stops (λ b. not (b == 47)) after → front (λ b. not (b == 47)) (whole_word z ++ after) ≡ whole_word z
front_whole z after f s = front_again (λ b. not (b == 47)) (whole_word z) after (whole_all (λ b. not (b == 47)) z (short_whole z f) digit_no_stroke refl) s

rest_whole : (z : ℤ) (after : List ℕ) → fits z ≡ true → Stops (λ b. not (b == 47)) after → rest (λ b. not (b == 47)) (whole_word z ++ after) ≡ after
rest_whole z after f s = rest_again (λ b. not (b == 47)) (whole_word z) after (whole_all (λ b. not (b == 47)) z (short_whole z f) digit_no_stroke refl) s

value_with : (p : ℤ) (q : ℕ) (b : Bool) → (q == 1) ≡ b → fits p ≡ true → fits (pos q) ≡ true → (b || is_lowest_spelling p q) ≡ true
    → spelled_value (if b then whole_word p else whole_word p ++ 47 ∷ decimal q) ≡ Ok (record { num = p; den = pos q })
value_with p q true is f g l =
    let one : q ≡ 1 = same q is in
    let before : front (λ b. not (b == 47)) (whole_word p) ≡ whole_word p = ap (front (λ b. not (b == 47))) (sym (append-nil (whole_word p))) ∙ front_whole p [] f tt in
    let behind : rest (λ b. not (b == 47)) (whole_word p) ≡ [] = ap (rest (λ b. not (b == 47))) (sym (append-nil (whole_word p))) ∙ rest_whole p [] f tt in
    rw (before, behind, whole_again p (short_whole p f), f, one) refl
  where
    same : (q : ℕ) → (q == 1) ≡ true → q ≡ 1
    same q e = grind (arith, nat_tests)
value_with p q false is f g l =
    rw (front_whole p (47 ∷ decimal q) f refl, rest_whole p (47 ∷ decimal q) f refl, whole_again p (short_whole p f), natural_again q (short_den q g), l, f, g) refl

value_again : (f : Fraction) → is_value f ≡ true → spelled_value (value_word f) ≡ Ok f
value_again f v =
    let a = both (fits f.num) (fits f.den && is_written_den f.num f.den) v in
    let b = both (fits f.den) (is_written_den f.num f.den) a.1 in
    go f.den refl b.0 b.1 a.0
  where
    go : (den : ℤ) → den ≡ f.den → fits den ≡ true → is_written_den f.num den ≡ true → fits f.num ≡ true → spelled_value (value_word f) ≡ Ok f
    go (pos q) is g l n =
        let with_den : ℤ → Fraction = λ d. record { num = f.num; den = d } in
        ap (λ (x : Fraction). spelled_value (value_word x)) (ap with_den (sym is)) ∙ value_with f.num q (q == 1) refl n g l ∙ ap (λ (d : ℤ). ok_of (with_den d)) is
      where
        ok_of : Fraction → Result Fraction CertCause
        ok_of x = Ok x
    go (negsuc q) is g l n = absurd (cc l)

-- the first lines
abbrev at : Due → AnswerTaken → AnswerTaken
at due t = record t { due = due }

head_lead : (names booleans : List (List ℕ)) (r : Route) → Lead names booleans (nothing_taken (length booleans)) ((codes "gdp-answer" ∷ codes "1" ∷ []) ∷ (codes "route" ∷ route_word r ∷ []) ∷ []) (record (nothing_taken (length booleans)) { due = ClaimLine; route = r })
unfolding with_line
head_lead names booleans route.BigM k = (at RouteLine (nothing_taken (length booleans)), refl, (record (nothing_taken (length booleans)) { due = ClaimLine; route = route.BigM }, refl, refl))
head_lead names booleans route.Hull k = (at RouteLine (nothing_taken (length booleans)), refl, (record (nothing_taken (length booleans)) { due = ClaimLine; route = route.Hull }, refl, refl))
head_lead names booleans route.Hybrid k = (at RouteLine (nothing_taken (length booleans)), refl, (record (nothing_taken (length booleans)) { due = ClaimLine; route = route.Hybrid }, refl, refl))
head_lead names booleans route.Logic k = (at RouteLine (nothing_taken (length booleans)), refl, (record (nothing_taken (length booleans)) { due = ClaimLine; route = route.Logic }, refl, refl))

best_line : (names booleans : List (List ℕ)) (t : AnswerTaken) (f : Fraction) → is_value f ≡ true → with_line names booleans (at ClaimLine t) (written (codes "best" ∷ value_word f ∷ [])) ≡ Ok (record t { due = Over; kind = IsBest f })
unfolding with_line
best_line names booleans t f v = rw (value_again f v) refl

over_line : (names booleans : List (List ℕ)) (t : AnswerTaken) (z : ℤ) → int_lt (pos 0) z ≡ true → fits z ≡ true → with_line names booleans (at Over t) (written (codes "over" ∷ whole_word z ∷ [])) ≡ Ok (record t { due = behind_vals (length names) []; over = z })
unfolding with_line
over_line names booleans t z p f = rw (whole_again z (short_whole z f), p, f) refl

none_more : (x n : List ℕ) (l : List (List ℕ)) → list_any (bytes_eq n) l ≡ false → bytes_eq n x ≡ false → list_any (bytes_eq n) (l ++ x ∷ []) ≡ false
none_more x n [] e f = ap (λ (b : Bool). b || false) f
none_more x n (y ∷ ys) e f =
    let h = neither (bytes_eq n y) (list_any (bytes_eq n) ys) e in
    ap (λ (b : Bool). b || list_any (bytes_eq n) (ys ++ x ∷ [])) h.0 ∙ none_more x n ys h.1 f
  where
    neither : (a b : Bool) → (a || b) ≡ false → (a ≡ false) × (b ≡ false)
    neither true b e = absurd (cc e)
    neither false b e = (refl, e)

-- distinct names are new one after the other
new_from : (before left : List (List ℕ)) → ((n : List ℕ) → list_any (bytes_eq n) left ≡ true → list_any (bytes_eq n) before ≡ false) → are_distinct left ≡ true → AreNew before left
new_from before [] none d = tt
new_from before (x ∷ xs) none d =
    let h = both (not (list_any (bytes_eq x) xs)) (are_distinct xs) d in
    (none x (ap (λ (b : Bool). b || list_any (bytes_eq x) xs) (same_bytes x)), new_from (before ++ x ∷ []) xs (λ n e. more n e (told (bytes_eq n x))) h.1)
  where
    or_true : (a b : Bool) → b ≡ true → (a || b) ≡ true
    or_true true b e = refl
    or_true false b e = e

    more : (n : List ℕ) → list_any (bytes_eq n) xs ≡ true → (bytes_eq n x ≡ true) ⊎ (bytes_eq n x ≡ false) → list_any (bytes_eq n) (before ++ x ∷ []) ≡ false
    more n e (inl t) =
        let same : n ≡ x = (bytes_eq-Decides n x).0 t in
        let there : list_any (bytes_eq x) xs ≡ true = ap (λ (m : List ℕ). list_any (bytes_eq m) xs) (sym same) ∙ e in
        absurd (cc (there, not_true (list_any (bytes_eq x) xs) (both (not (list_any (bytes_eq x) xs)) (are_distinct xs) d).0))
    more n e (inr f) = none_more x n before (none n (or_true (bytes_eq n x) (list_any (bytes_eq n) xs) e)) f

-- the lines of a point
abbrev point_taken : AnswerTaken → PointValue → List Bool → ℕ → AnswerTaken
point_taken t point truths last = record t { due = Ons last; over = point.over; nums = point.nums; truths = truths }

point_lead : (names booleans : List (List ℕ)) (t : AnswerTaken) (point : PointValue) (truths : List Bool) → list_all is_filled names ≡ true → list_all is_filled booleans ≡ true → are_distinct booleans ≡ true → IsPointOf names booleans point truths
    → (last : ℕ) × Lead names booleans (record t { due = Over; nums = []; truths = replicate (length booleans) false }) (point_lines names booleans point truths) (point_taken t point truths last)
point_lead names booleans t point truths v w d is =
    let over : AnswerTaken = record t { due = behind_vals (length names) []; over = point.over; nums = []; truths = replicate (length booleans) false } in
    let vals : AnswerTaken = record t { due = Ons 0; over = point.over; nums = point.nums; truths = replicate (length booleans) false } in
    let first : AnswerTaken = record t { due = Over; nums = []; truths = replicate (length booleans) false } in
    let ons = ons_lead names booleans [] booleans vals 0 [] truths w refl (new_from [] booleans (λ n e. refl) d) refl is.truths_long (omega arith) in (
      ons.0,
      lead_both names booleans first over (point_taken t point truths ons.0) ((codes "over" ∷ whole_word point.over ∷ []) ∷ []) (named_lines (codes "val") names point.nums ++ on_lines booleans truths)
          (λ k. (over, over_line names booleans first point.over is.positive is.over_fits, refl))
          (lead_both names booleans over vals (point_taken t point truths ons.0) (named_lines (codes "val") names point.nums) (on_lines booleans truths)
          (vals_lead names booleans [] names over [] point.nums v refl refl is.nums_long is.nums_fit) ons.1),
    )

-- all that was taken
abbrev st : Due → Route → ClaimKind → PointValue → List Bool → List ℤ → TreeTaken → AnswerTaken
st due r kind point truths ray tree = record { due = due; route = r; kind = kind; over = point.over; nums = point.nums; truths = truths; ray = ray; tree = tree }

-- the lines of a proof behind `tree`
proof_lead : (names booleans : List (List ℕ)) (t : AnswerTaken) (nodes : List Node) → IsFittingProof nodes → Lead names booleans (record t { due = Nodes; tree = tree_open }) (tree_lines nodes) (record t { due = Nothing; tree = at_end nodes })
proof_lead names booleans t nodes is k = nodes_lead names booleans t k 1 tree_open (at_end nodes) (tree_lines nodes) (lead 1 1 [] nodes (proof_nodes nodes is) (proof_closes nodes is))

tree_behind : (names booleans : List (List ℕ)) (last : ℕ) (r : Route) (f : Fraction) (point : PointValue) (truths : List Bool) (ray : List ℤ) (tree : TreeTaken)
    → with_line names booleans (st (Ons last) r (IsBest f) point truths ray tree) (written (codes "tree" ∷ [])) ≡ Ok (st Nodes r (IsBest f) point truths ray tree)
unfolding with_line
tree_behind names booleans last r f point truths ray tree = refl

empty_lines : (names booleans : List (List ℕ)) (r : Route) → Lead names booleans (record (nothing_taken (length booleans)) { due = ClaimLine; route = r }) ((codes "empty" ∷ []) ∷ (codes "tree" ∷ []) ∷ []) (record (nothing_taken (length booleans)) { due = Nodes; route = r })
unfolding with_line
empty_lines names booleans r k = (record (nothing_taken (length booleans)) { due = TreeLine; route = r }, refl, (record (nothing_taken (length booleans)) { due = Nodes; route = r }, refl, refl))

endless_line : (names booleans : List (List ℕ)) (t : AnswerTaken) → with_line names booleans (at ClaimLine t) (written (codes "endless" ∷ [])) ≡ Ok (record t { due = Over; kind = IsEndless })
unfolding with_line
endless_line names booleans t = refl

end_line : (names booleans : List (List ℕ)) (t : AnswerTaken) → with_line names booleans (at LastLine t) (written (codes "end" ∷ [])) ≡ Ok (at Nothing t)
unfolding with_line
end_line names booleans t = refl

-- the first step comes where a Boolean might
first_step : (names booleans : List (List ℕ)) (last : ℕ) (r : Route) (point : PointValue) (truths : List Bool) (ray : List ℤ) (tree : TreeTaken) (name number : List ℕ)
    → with_line names booleans (st (Ons last) r IsEndless point truths ray tree) (written (codes "step" ∷ name ∷ number ∷ [])) ≡ with_line names booleans (st Steps r IsEndless point truths ray tree) (written (codes "step" ∷ name ∷ number ∷ []))
unfolding with_line
first_step names booleans last r point truths ray tree name number = refl

steps_behind : (names booleans : List (List ℕ)) (last : ℕ) (r : Route) (point : PointValue) (truths : List Bool) (tree : TreeTaken) (ray : List ℤ) → list_all is_filled names ≡ true → 0 < length names → IsRayOf names ray
    → Lead names booleans (st (Ons last) r IsEndless point truths [] tree) (named_lines (codes "step") names ray) (st LastLine r IsEndless point truths ray tree)
steps_behind names booleans last r point truths tree ray v some is = go names ray refl refl
  where
    less : (n : ℕ) → 0 < n → nat_lt 0 n ≡ true
    less n h = grind (arith, nat_tests)

    all : Lead names booleans (st (behind_steps (length names) []) r IsEndless point truths [] tree) (named_lines (codes "step") names ray) (st LastLine r IsEndless point truths ray tree)
    all = steps_lead names booleans [] names (st Steps r IsEndless point truths [] tree) [] ray v refl refl is.long is.fit

    at_steps : Lead names booleans (st Steps r IsEndless point truths [] tree) (named_lines (codes "step") names ray) (st LastLine r IsEndless point truths ray tree)
    at_steps k = subst (λ (b : Bool). LeadsBy (answer_grammar names booleans) k (st (if b then Steps else LastLine) r IsEndless point truths [] tree) (map written (named_lines (codes "step") names ray)) (st LastLine r IsEndless point truths ray tree)) (less (length names) some) (all k)

    go : (ns : List (List ℕ)) (zs : List ℤ) → names ≡ ns → ray ≡ zs → Lead names booleans (st (Ons last) r IsEndless point truths [] tree) (named_lines (codes "step") names ray) (st LastLine r IsEndless point truths ray tree)
    go [] zs n z k = absurd (omega (arith, some, ap length n))
    go (x ∷ xs) [] n z k = absurd (omega (arith, some, is.long, ap length z, ap length n))
    go (x ∷ xs) (y ∷ ys) n z k =
        let lines : named_lines (codes "step") names ray ≡ named_lines (codes "step") (x ∷ xs) (y ∷ ys) = ap (λ (l : List (List ℕ)). named_lines (codes "step") l ray) n ∙ ap (λ (l : List ℤ). named_lines (codes "step") (x ∷ xs) l) z in
        let h = subst (λ (l : List (List (List ℕ))). LeadsBy (answer_grammar names booleans) k (st Steps r IsEndless point truths [] tree) (map written l) (st LastLine r IsEndless point truths ray tree)) lines (at_steps k) in
        subst (λ (l : List (List (List ℕ))). LeadsBy (answer_grammar names booleans) k (st (Ons last) r IsEndless point truths [] tree) (map written l) (st LastLine r IsEndless point truths ray tree)) (sym lines)
        (h.0, first_step names booleans last r point truths [] tree x (whole_word y) ∙ h.1, h.2)

-- what the lines of a claim give
record Leads_to (names booleans : List (List ℕ)) (r : Route) (c : Claim) : Type 0 where
  after : AnswerTaken
  leads : Lead names booleans (record (nothing_taken (length booleans)) { due = ClaimLine; route = r }) (claim_lines names booleans c) after
  gives : answer_after after ≡ Ok (record { route = r; claim = c })

claim_lead : (names booleans : List (List ℕ)) (r : Route) (c : Claim) → list_all is_filled names ≡ true → list_all is_filled booleans ≡ true → 0 < length names → are_distinct booleans ≡ true → IsClaim names booleans c → Leads_to names booleans r c
unfolding answer_after
claim_lead names booleans r (Empty nodes) v w some d is =
    let start : AnswerTaken = record (nothing_taken (length booleans)) { due = ClaimLine; route = r } in
    let nodes_due : AnswerTaken = record (nothing_taken (length booleans)) { due = Nodes; route = r } in
    let after : AnswerTaken = record (nothing_taken (length booleans)) { due = Nothing; route = r; tree = at_end nodes } in
    record {
      after = after;
      leads = lead_both names booleans start nodes_due after ((codes "empty" ∷ []) ∷ (codes "tree" ∷ []) ∷ []) (tree_lines nodes) (empty_lines names booleans r) (proof_lead names booleans nodes_due nodes is);
      gives = refl;
    }
claim_lead names booleans r (Best point truths value nodes) v w some d is =
    let start : AnswerTaken = record (nothing_taken (length booleans)) { due = ClaimLine; route = r } in
    let over_due : AnswerTaken = record (nothing_taken (length booleans)) { due = Over; route = r; kind = IsBest value } in
    let p = point_lead names booleans over_due point truths v w d is.1.0 in
    let ons : AnswerTaken = st (Ons p.0) r (IsBest value) point truths [] tree_open in
    let nodes_due : AnswerTaken = st Nodes r (IsBest value) point truths [] tree_open in
    let after : AnswerTaken = st Nothing r (IsBest value) point truths [] (at_end nodes) in
    record {
      after = after;
      leads = lead_both names booleans start over_due after ((codes "best" ∷ value_word value ∷ []) ∷ []) (point_lines names booleans point truths ++ (codes "tree" ∷ []) ∷ tree_lines nodes)
          (λ k. (over_due, best_line names booleans start value is.0, refl))
          (lead_both names booleans over_due ons after (point_lines names booleans point truths) ((codes "tree" ∷ []) ∷ tree_lines nodes) p.1
          (λ k. (nodes_due, tree_behind names booleans p.0 r value point truths [] tree_open, proof_lead names booleans nodes_due nodes is.1.1 (k + 1))));
      gives = refl;
    }
claim_lead names booleans r (Endless point truths ray) v w some d is =
    let start : AnswerTaken = record (nothing_taken (length booleans)) { due = ClaimLine; route = r } in
    let over_due : AnswerTaken = record (nothing_taken (length booleans)) { due = Over; route = r; kind = IsEndless } in
    let p = point_lead names booleans over_due point truths v w d is.0 in
    let ons : AnswerTaken = st (Ons p.0) r IsEndless point truths [] tree_open in
    let last : AnswerTaken = st LastLine r IsEndless point truths ray tree_open in
    let after : AnswerTaken = st Nothing r IsEndless point truths ray tree_open in
    record {
      after = after;
      leads = lead_both names booleans start over_due after ((codes "endless" ∷ []) ∷ []) (point_lines names booleans point truths ++ (named_lines (codes "step") names ray ++ (codes "end" ∷ []) ∷ []))
          (λ k. (over_due, endless_line names booleans start, refl))
          (lead_both names booleans over_due ons after (point_lines names booleans point truths) (named_lines (codes "step") names ray ++ (codes "end" ∷ []) ∷ []) p.1
          (lead_both names booleans ons last after (named_lines (codes "step") names ray) ((codes "end" ∷ []) ∷ []) (steps_behind names booleans p.0 r point truths tree_open ray v some is.1)
          (λ k. (after, end_line names booleans last, refl))));
      gives = refl;
    }

pub answer_lead : (names booleans : List (List ℕ)) (a : Answer) → IsAnswer names booleans a → SpellsBy (answer_grammar names booleans) (map written (answer_lines names booleans a)) a
answer_lead names booleans a is =
    let c = claim_lead names booleans a.route a.claim is.named.names_filled is.named.booleans_filled is.named.some is.named.distinct is.claim in
    let ready : AnswerTaken = record (nothing_taken (length booleans)) { due = ClaimLine; route = a.route } in
    record {
      taken = c.after;
      leads = lead_both names booleans (nothing_taken (length booleans)) ready c.after ((codes "gdp-answer" ∷ codes "1" ∷ []) ∷ (codes "route" ∷ route_word a.route ∷ []) ∷ []) (claim_lines names booleans a.claim) (head_lead names booleans a.route) c.leads 1;
      gives = c.gives;
    }

-- the lines of a text are cut again, and their words
pieces_again : (line after : List ℕ) → list_all (λ b. not (b == 10)) line ≡ true → pieces_of (line ++ 10 ∷ after) ≡ (line, true) ∷ pieces_of after
pieces_again [] after p = refl
pieces_again (b ∷ bs) after p =
    let h = both (not (b == 10)) (list_all (λ c. not (c == 10)) bs) p in
    cond-false (b == 10) _ _ (not_true (b == 10) h.0) ∙ ap (before_lines b) (pieces_again bs after h.1)

parts_again : (w : List ℕ) (ws : List (List ℕ)) → are_exact_words (w ∷ ws) ≡ true → parts_of (line_of w ws) ≡ w ∷ ws
parts_again [] [] p = refl
parts_again [] (v ∷ vs) p = ap (λ (l : List (List ℕ)). [] ∷ l) (parts_again v vs p)
parts_again (b ∷ bs) ws p =
    let h = both (is_exact_word (b ∷ bs)) (are_exact_words ws) p in
    let c = both (not (b == 10) && not (b == 32)) (is_exact_word bs) h.0 in
    let d = both (not (b == 10)) (not (b == 32)) c.0 in
    cond-false (b == 32) _ _ (not_true (b == 32) d.1) ∙ ap (onto_first b) (parts_again bs ws (and_true (is_exact_word bs) (are_exact_words ws) c.1 h.1))

spaced_inline : (ws : List (List ℕ)) → are_exact_words ws ≡ true → list_all (λ b. not (b == 10)) (spaced ws) ≡ true
spaced_inline [] p = refl
spaced_inline (w ∷ ws) p =
    let h = both (is_exact_word w) (are_exact_words ws) p in
    all_appended (λ b. not (b == 10)) w (spaced ws) (all_weaker (λ b. not (b == 10) && not (b == 32)) (λ b. not (b == 10)) w (λ b e. (both (not (b == 10)) (not (b == 32)) e).0) h.0) (spaced_inline ws h.1)

-- lines of words, one at least in each
abbrev pub are_lines : List (List (List ℕ)) → Bool
are_lines [] = true
are_lines ([] ∷ ls) = false
are_lines ((w ∷ ws) ∷ ls) = are_exact_words (w ∷ ws) && are_lines ls

pub lines_again : (ls : List (List (List ℕ))) → are_lines ls ≡ true → exact_lines (text_of (map exact_text_line ls)) ≡ map written ls
lines_again [] p = refl
lines_again ([] ∷ ls) p = absurd (cc p)
lines_again ((w ∷ ws) ∷ ls) p =
    let h = both (are_exact_words (w ∷ ws)) (are_lines ls) p in
    let line : List ℕ = line_of w ws in
    let after : List ℕ = text_of (map exact_text_line ls) in
    let whole_line : list_all (λ b. not (b == 10)) line ≡ true = spaced_inline (w ∷ ws) h.0 in
    let read : List (List ℕ) → ExactLine = λ x. record { is_ended = true; words = x } in
    ap (λ (l : List (List ℕ × Bool)). map exact_line l) (pieces_again line after whole_line)
    ∙ ap (λ (x : List (List ℕ)). read x ∷ exact_lines after) (parts_again w ws h.0)
    ∙ ap (λ (l : List ExactLine). written (w ∷ ws) ∷ l) (lines_again ls h.1)

pub lines_both : (xs ys : List (List (List ℕ))) → are_lines xs ≡ true → are_lines ys ≡ true → are_lines (xs ++ ys) ≡ true
lines_both [] ys p q = q
lines_both ([] ∷ xs) ys p q = absurd (cc p)
lines_both ((w ∷ ws) ∷ xs) ys p q = let h = both (are_exact_words (w ∷ ws)) (are_lines xs) p in and_true (are_exact_words (w ∷ ws)) (are_lines (xs ++ ys)) h.0 (lines_both xs ys h.1 q)

pub one_more : (w : List ℕ) (ws : List (List ℕ)) (ls : List (List (List ℕ))) → are_exact_words (w ∷ ws) ≡ true → are_lines ls ≡ true → are_lines ((w ∷ ws) ∷ ls) ≡ true
one_more w ws ls p q = and_true (are_exact_words (w ∷ ws)) (are_lines ls) p q

pub two_words : (a b : List ℕ) → is_exact_word a ≡ true → is_exact_word b ≡ true → are_exact_words (a ∷ b ∷ []) ≡ true
two_words a b p q = and_true (is_exact_word a) (is_exact_word b && true) p (and_true (is_exact_word b) true q refl)

named_lines_are : (first : List ℕ) (names : List (List ℕ)) (zs : List ℤ) → is_exact_word first ≡ true → are_exact_words names ≡ true → list_all fits zs ≡ true → are_lines (named_lines first names zs) ≡ true
named_lines_are first [] zs p q f = refl
named_lines_are first (x ∷ xs) [] p q f = refl
named_lines_are first (x ∷ xs) (z ∷ zs) p q f =
    let a = both (is_exact_word x) (are_exact_words xs) q in
    let b = both (fits z) (list_all fits zs) f in
    one_more first (x ∷ whole_word z ∷ []) (named_lines first xs zs) (and_true (is_exact_word first) (are_exact_words (x ∷ whole_word z ∷ [])) p (two_words x (whole_word z) a.0 (whole_exact z b.0))) (named_lines_are first xs zs p a.1 b.1)

on_lines_are : (names : List (List ℕ)) (ts : List Bool) → are_exact_words names ≡ true → are_lines (on_lines names ts) ≡ true
on_lines_are [] ts p = refl
on_lines_are (x ∷ xs) [] p = refl
on_lines_are (x ∷ xs) (true ∷ ts) p =
    let a = both (is_exact_word x) (are_exact_words xs) p in
    one_more (codes "on") (x ∷ []) (on_lines xs ts) (two_words (codes "on") x refl a.0) (on_lines_are xs ts a.1)
on_lines_are (x ∷ xs) (false ∷ ts) p = on_lines_are xs ts (both (is_exact_word x) (are_exact_words xs) p).1

pair_exact : (p : ℕ × ℤ) → is_short p.0 ≡ true → fits p.1 ≡ true → is_exact_word (pair_word p) ≡ true
pair_exact p s f = all_appended (λ b. not (b == 10) && not (b == 32)) (decimal p.0) (58 ∷ whole_word p.1) (natural_exact p.0 (short_natural p.0 s)) (whole_exact p.1 f)

pairs_exact : (ps : List (ℕ × ℤ)) → are_short ps ≡ true → are_exact_words (pair_words ps) ≡ true
pairs_exact [] s = refl
pairs_exact (p ∷ ps) s =
    let a = both (is_short p.0 && fits p.1) (are_short ps) s in
    let b = both (is_short p.0) (fits p.1) a.0 in
    and_true (is_exact_word (pair_word p)) (are_exact_words (pair_words ps)) (pair_exact p b.0 b.1) (pairs_exact ps a.1)

node_line_is : (n : Node) (ls : List (List (List ℕ))) → node_fits n ≡ true → are_lines ls ≡ true → are_lines (node_words n ∷ ls) ≡ true
node_line_is (node.Split (split.Int column at)) ls f p =
    let a = both (is_short column) (fits at) f in
    one_more (codes "int") (decimal column ∷ whole_word at ∷ []) ls (two_words (decimal column) (whole_word at) (natural_exact column (short_natural column a.0)) (whole_exact at a.1)) p
node_line_is (node.Split (split.Truth id)) ls f p = one_more (codes "truth") (decimal id ∷ []) ls (two_words (codes "truth") (decimal id) refl (natural_exact id (short_natural id f))) p
node_line_is (node.Refuted mults) ls f p = one_more (codes "refuted") (pair_words mults) ls (pairs_exact mults f) p
node_line_is (node.Bounded scale mults) ls f p =
    let a = both (fits scale) (are_short mults) f in
    one_more (codes "bounded") (whole_word scale ∷ pair_words mults) ls (and_true (is_exact_word (whole_word scale)) (are_exact_words (pair_words mults)) (whole_exact scale a.0) (pairs_exact mults a.1)) p
node_line_is (node.LogicFalse place) ls f p = one_more (codes "logic") (decimal place ∷ []) ls (two_words (codes "logic") (decimal place) refl (natural_exact place (short_natural place f))) p

tree_lines_are : (ns : List Node) → are_nodes ns ≡ true → are_lines (tree_lines ns) ≡ true
tree_lines_are [] f = refl
tree_lines_are (n ∷ ns) f =
    let a = both (node_fits n && is_listed n) (are_nodes ns) f in
    node_line_is n (tree_lines ns) (both (node_fits n) (is_listed n) a.0).0 (tree_lines_are ns a.1)

point_lines_are : (names booleans : List (List ℕ)) (point : PointValue) (truths : List Bool) → are_exact_words names ≡ true → are_exact_words booleans ≡ true → IsPointOf names booleans point truths → are_lines (point_lines names booleans point truths) ≡ true
point_lines_are names booleans point truths p q is =
    one_more (codes "over") (whole_word point.over ∷ []) (named_lines (codes "val") names point.nums ++ on_lines booleans truths) (two_words (codes "over") (whole_word point.over) refl (whole_exact point.over is.over_fits))
    (lines_both (named_lines (codes "val") names point.nums) (on_lines booleans truths) (named_lines_are (codes "val") names point.nums refl p is.nums_fit) (on_lines_are booleans truths q))

value_exact : (f : Fraction) → is_value f ≡ true → is_exact_word (value_word f) ≡ true
value_exact f v =
    let a = both (fits f.num) (fits f.den && is_written_den f.num f.den) v in
    let b = both (fits f.den) (is_written_den f.num f.den) a.1 in
    go (unsigned_abs f.den == 1) a.0 (short_whole f.den b.0)
  where
    go : (b : Bool) → fits f.num ≡ true → unsigned_abs f.den < 10 ^ 64 → is_exact_word (if b then whole_word f.num else whole_word f.num ++ 47 ∷ decimal (unsigned_abs f.den)) ≡ true
    go true n d = whole_exact f.num n
    go false n d = all_appended (λ b. not (b == 10) && not (b == 32)) (whole_word f.num) (47 ∷ decimal (unsigned_abs f.den)) (whole_exact f.num n) (natural_exact (unsigned_abs f.den) d)

claim_lines_are : (names booleans : List (List ℕ)) (c : Claim) → are_exact_words names ≡ true → are_exact_words booleans ≡ true → IsClaim names booleans c → are_lines (claim_lines names booleans c) ≡ true
claim_lines_are names booleans (Empty nodes) p q is = tree_lines_are nodes (proof_nodes nodes is)
claim_lines_are names booleans (Best point truths value nodes) p q is =
    one_more (codes "best") (value_word value ∷ []) (point_lines names booleans point truths ++ (codes "tree" ∷ []) ∷ tree_lines nodes) (two_words (codes "best") (value_word value) refl (value_exact value is.0))
    (lines_both (point_lines names booleans point truths) ((codes "tree" ∷ []) ∷ tree_lines nodes) (point_lines_are names booleans point truths p q is.1.0) (tree_lines_are nodes (proof_nodes nodes is.1.1)))
claim_lines_are names booleans (Endless point truths ray) p q is =
    lines_both (point_lines names booleans point truths) (named_lines (codes "step") names ray ++ (codes "end" ∷ []) ∷ []) (point_lines_are names booleans point truths p q is.0)
    (lines_both (named_lines (codes "step") names ray) ((codes "end" ∷ []) ∷ []) (named_lines_are (codes "step") names ray refl p is.1.fit) refl)

pub route_exact : (r : Route) → is_exact_word (route_word r) ≡ true
route_exact route.BigM = refl
route_exact route.Hull = refl
route_exact route.Hybrid = refl
route_exact route.Logic = refl

pub written_answer : WrittenAnswer
unfolding answer_text_of
written_answer names booleans a is =
    let lines : List (List (List ℕ)) = answer_lines names booleans a in
    let are : are_lines lines ≡ true = one_more (codes "route") (route_word a.route ∷ []) (claim_lines names booleans a.claim) (two_words (codes "route") (route_word a.route) refl (route_exact a.route)) (claim_lines_are names booleans a.claim is.named.names_plain is.named.booleans_plain is.claim) in
    subst (λ (l : List ExactLine). SpellsBy (answer_grammar names booleans) l a) (sym (lines_again lines are)) (answer_lead names booleans a is)
