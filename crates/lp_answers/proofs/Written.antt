-- Texts of answers, part by part.
use Rattle.std.proofs.Common.{◌≡◌, ℕ, ℤ, List, [], ◌∷◌, ◌++◌, codes, ap, sym, ◌∙◌, append_assoc, append-nil}
use Rattle.fractions.specs.Fraction.{Fraction}
use Rattle.int_linear.specs.Sums.{at}
use Rattle.lp_rows.specs.Points.{PointValue}
use Rattle.text_grammar.specs.Printing.{text_of}
use Rattle.text_grammar.proofs.PrintingLemmas.{text_appended}
use Rattle.cert_grammar.specs.Claims.{value_word}
use Rattle.lp_answers.specs.Texts.{number_lines, point_lines, best_text_of, endless_text_of}

best_parts : (names : List (List ℕ)) (x : PointValue) (value : Fraction) → best_text_of names x value ≡ codes "gdp-lp 1\nbest" ++ ((32 ∷ value_word value) ++ ((10 ∷ []) ++ (text_of (point_lines names x) ++ codes "end\n")))
best_parts names x value =
    ap (λ (t : List ℕ). codes "gdp-lp 1\nbest" ++ 32 ∷ t)
    (ap (λ (v : List ℕ). v ++ 10 ∷ text_of (point_lines names x ++ codes "end" ∷ [])) (append-nil (value_word value))
    ∙ ap (λ (t : List ℕ). value_word value ++ 10 ∷ t) (text_appended (point_lines names x) (codes "end" ∷ [])))

endless_parts : (names : List (List ℕ)) (x : PointValue) (ray : List ℤ) → endless_text_of names x ray ≡ codes "gdp-lp 1\nendless\n" ++ (text_of (point_lines names x) ++ (text_of (number_lines (codes "step") 0 names (at ray)) ++ codes "end\n"))
endless_parts names x ray =
    ap (λ (t : List ℕ). codes "gdp-lp 1\nendless\n" ++ t)
    (text_appended (point_lines names x) (number_lines (codes "step") 0 names (at ray) ++ codes "end" ∷ [])
    ∙ ap (λ (t : List ℕ). text_of (point_lines names x) ++ t) (text_appended (number_lines (codes "step") 0 names (at ray)) (codes "end" ∷ [])))

-- parts that are appended one after the other
appended : (a text next b c : List ℕ) → text ≡ a ++ b → next ≡ text ++ c → next ≡ a ++ (b ++ c)
appended a text next b c e f = f ∙ ap (λ (t : List ℕ). t ++ c) e ∙ append_assoc a b c

pub best_written : (names : List (List ℕ)) (x : PointValue) (value : Fraction) (t u v w z : List ℕ) → t ≡ codes "gdp-lp 1\nbest" → u ≡ t ++ 32 ∷ value_word value → v ≡ u ++ 10 ∷ [] → w ≡ v ++ text_of (point_lines names x)
    → z ≡ w ++ codes "end\n" → z ≡ best_text_of names x value
best_written names x value t u v w z p q r s e =
    let a : List ℕ = codes "gdp-lp 1\nbest" in
    let b : List ℕ = 32 ∷ value_word value in
    let d : List ℕ = text_of (point_lines names x) in
    let one : u ≡ a ++ b = q ∙ ap (λ (l : List ℕ). l ++ b) p in
    let two : v ≡ a ++ (b ++ 10 ∷ []) = appended a u v b (10 ∷ []) one r in
    let three : w ≡ a ++ ((b ++ 10 ∷ []) ++ d) = appended a v w (b ++ 10 ∷ []) d two s in
    appended a w z ((b ++ 10 ∷ []) ++ d) (codes "end\n") three e
    ∙ ap (λ (l : List ℕ). a ++ l) (append_assoc (b ++ 10 ∷ []) d (codes "end\n") ∙ append_assoc b (10 ∷ []) (d ++ codes "end\n"))
    ∙ sym (best_parts names x value)

pub endless_written : (names : List (List ℕ)) (x : PointValue) (ray : List ℤ) (t u v w : List ℕ) → t ≡ codes "gdp-lp 1\nendless\n" → u ≡ t ++ text_of (point_lines names x) → v ≡ u ++ text_of (number_lines (codes "step") 0 names (at ray))
    → w ≡ v ++ codes "end\n" → w ≡ endless_text_of names x ray
endless_written names x ray t u v w p q r e =
    let a : List ℕ = codes "gdp-lp 1\nendless\n" in
    let b : List ℕ = text_of (point_lines names x) in
    let d : List ℕ = text_of (number_lines (codes "step") 0 names (at ray)) in
    let one : u ≡ a ++ b = q ∙ ap (λ (l : List ℕ). l ++ b) p in
    let two : v ≡ a ++ (b ++ d) = appended a u v b d one r in
    appended a v w (b ++ d) (codes "end\n") two e ∙ ap (λ (l : List ℕ). a ++ l) (append_assoc b d (codes "end\n")) ∙ sym (endless_parts names x ray)
