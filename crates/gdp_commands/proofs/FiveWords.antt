-- Five words of the command line, as bytes.
use Rattle.std.proofs.Common.{◌≡◌, ◌≤◌, ◌<◌, ℕ, List, [], ◌∷◌, length, get_or, ap, ◌∙◌, arith}
use Rattle.std.specs.Prelude.{String, string_bytes}
use Rattle.std.specs.declared.alloc.Global.{Global}
use Rattle.gdp_commands.specs.Words.{words_of}

list_of : (ws : List (String Global)) (a b c d e : String Global) → 5 ≤ length ws → length ws < 6
    → a ≡ get_or ws 0 a → b ≡ get_or ws 1 b → c ≡ get_or ws 2 c → d ≡ get_or ws 3 d → e ≡ get_or ws 4 e → ws ≡ a ∷ b ∷ c ∷ d ∷ e ∷ []
list_of [] a b c d e l u p q r s t = absurd (omega arith)
list_of (i ∷ []) a b c d e l u p q r s t = absurd (omega arith)
list_of (i ∷ j ∷ []) a b c d e l u p q r s t = absurd (omega arith)
list_of (i ∷ j ∷ k ∷ []) a b c d e l u p q r s t = absurd (omega arith)
list_of (i ∷ j ∷ k ∷ n ∷ []) a b c d e l u p q r s t = absurd (omega arith)
list_of (i ∷ j ∷ k ∷ n ∷ o ∷ []) a b c d e l u p q r s t = cc (p, q, r, s, t)
list_of (i ∷ j ∷ k ∷ n ∷ o ∷ m ∷ ws) a b c d e l u p q r s t = absurd (omega arith)

pub five_words : (ws : List (String Global)) (a b c d e : String Global) (x y z w v : List ℕ) → 5 ≤ length ws → length ws < 6
    → a ≡ get_or ws 0 a → b ≡ get_or ws 1 b → c ≡ get_or ws 2 c → d ≡ get_or ws 3 d → e ≡ get_or ws 4 e
    → x ≡ string_bytes a → y ≡ string_bytes b → z ≡ string_bytes c → w ≡ string_bytes d → v ≡ string_bytes e → words_of ws ≡ x ∷ y ∷ z ∷ w ∷ v ∷ []
five_words ws a b c d e x y z w v l u p q r s t f g h i j = ap words_of (list_of ws a b c d e l u p q r s t) ∙ cc (f, g, h, i, j)
