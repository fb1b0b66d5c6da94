-- The text of an answer, part by part.
use Rattle.std.proofs.Common.{◌≡◌, ℕ, ℤ, Bool, List, [], ◌∷◌, ◌++◌, codes, refl, ap, sym, ◌∙◌, append-nil, append_assoc}
use Rattle.fractions.specs.Fraction.{Fraction}
use Rattle.lp_rows.specs.Points.{PointValue}
use Rattle.text_grammar.specs.Printing.{whole_word}
use Rattle.cert_grammar.specs.Answers.{exact_text_line, answer_text_of}
use Rattle.cert_grammar.specs.Claims.{value_word, named_lines, on_lines, point_lines, claim_lines, route_word}
use Rattle.answers.specs.declared.answer.Answer.{Answer}
use Rattle.answers.specs.declared.claim.Claim.TheVariants.{Best, Endless}
use Rattle.proof_tree.specs.declared.proof.Node.{Node}
use Rattle.cert_grammar.specs.Trees.{tree_lines}
use Rattle.cert_writer.specs.Parts.{words_text, tree_part}

pub words_both : (xs ys : List (List (List ℕ))) → words_text (xs ++ ys) ≡ words_text xs ++ words_text ys
words_both [] ys = refl
words_both (x ∷ xs) ys = ap (λ (t : List ℕ). exact_text_line x ++ 10 ∷ t) (words_both xs ys) ∙ sym (append_assoc (exact_text_line x) (10 ∷ words_text xs) (words_text ys))

pub point_parts : (names booleans : List (List ℕ)) (point : PointValue) (truths : List Bool) → words_text (point_lines names booleans point truths)
    ≡ codes "over " ++ (whole_word point.over ++ (10 ∷ (words_text (named_lines (codes "val") names point.nums) ++ words_text (on_lines booleans truths))))
point_parts names booleans point truths =
    let w : List ℕ = whole_word point.over in
    let rest : List (List (List ℕ)) = named_lines (codes "val") names point.nums ++ on_lines booleans truths in
    ap (λ (v : List ℕ). codes "over " ++ (v ++ 10 ∷ words_text rest)) (append-nil w)
    ∙ ap (λ (t : List ℕ). codes "over " ++ (w ++ 10 ∷ t)) (words_both (named_lines (codes "val") names point.nums) (on_lines booleans truths))

pub tree_parts : (nodes : List Node) → words_text (tree_part nodes) ≡ codes "tree\n" ++ words_text (tree_lines nodes)
tree_parts nodes = refl

pub best_parts : (names booleans : List (List ℕ)) (point : PointValue) (truths : List Bool) (value : Fraction) (nodes : List Node) → words_text (claim_lines names booleans (Best point truths value nodes))
    ≡ codes "best " ++ (value_word value ++ (10 ∷ (words_text (point_lines names booleans point truths) ++ words_text (tree_part nodes))))
best_parts names booleans point truths value nodes =
    let w : List ℕ = value_word value in
    let rest : List (List (List ℕ)) = point_lines names booleans point truths ++ tree_part nodes in
    ap (λ (v : List ℕ). codes "best " ++ (v ++ 10 ∷ words_text rest)) (append-nil w)
    ∙ ap (λ (t : List ℕ). codes "best " ++ (w ++ 10 ∷ t)) (words_both (point_lines names booleans point truths) (tree_part nodes))

pub endless_parts : (names booleans : List (List ℕ)) (point : PointValue) (truths : List Bool) (ray : List ℤ) → words_text (claim_lines names booleans (Endless point truths ray))
    ≡ codes "endless\n" ++ (words_text (point_lines names booleans point truths) ++ (words_text (named_lines (codes "step") names ray) ++ codes "end\n"))
endless_parts names booleans point truths ray =
    let steps : List (List (List ℕ)) = named_lines (codes "step") names ray in
    let last : List (List (List ℕ)) = (codes "end" ∷ []) ∷ [] in
    ap (λ (t : List ℕ). codes "endless\n" ++ t) (words_both (point_lines names booleans point truths) (steps ++ last))
    ∙ ap (λ (t : List ℕ). codes "endless\n" ++ (words_text (point_lines names booleans point truths) ++ t)) (words_both steps last)

pub answer_parts : (names booleans : List (List ℕ)) (a : Answer) → answer_text_of names booleans a
    ≡ codes "gdp-answer 1\nroute" ++ (32 ∷ (route_word a.route ++ (10 ∷ words_text (claim_lines names booleans a.claim))))
unfolding answer_text_of
answer_parts names booleans a =
    ap (λ (v : List ℕ). codes "gdp-answer 1\nroute" ++ (32 ∷ (v ++ 10 ∷ words_text (claim_lines names booleans a.claim)))) (append-nil (route_word a.route))

-- parts that are appended one after the other
pub two : (old a b p q : List ℕ) → a ≡ old ++ p → b ≡ a ++ q → b ≡ old ++ (p ++ q)
two old a b p q e f = f ∙ ap (λ (t : List ℕ). t ++ q) e ∙ append_assoc old p q

pub three : (old a b c p q r : List ℕ) → a ≡ old ++ p → b ≡ a ++ q → c ≡ b ++ r → c ≡ old ++ (p ++ (q ++ r))
three old a b c p q r e f g = two old a c p (q ++ r) e (two a b c q r f g)

pub four : (old a b c d p q r s : List ℕ) → a ≡ old ++ p → b ≡ a ++ q → c ≡ b ++ r → d ≡ c ++ s → d ≡ old ++ (p ++ (q ++ (r ++ s)))
four old a b c d p q r s e f g h = two old a d p (q ++ (r ++ s)) e (three a b c d q r s f g h)

pub five : (old a b c d x p q r s t : List ℕ) → a ≡ old ++ p → b ≡ a ++ q → c ≡ b ++ r → d ≡ c ++ s → x ≡ d ++ t → x ≡ old ++ (p ++ (q ++ (r ++ (s ++ t))))
five old a b c d x p q r s t e f g h i = two old a x p (q ++ (r ++ (s ++ t))) e (four a b c d x q r s t f g h i)
