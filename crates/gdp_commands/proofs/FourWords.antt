-- Four words of the command line, as bytes.
use Rattle.std.proofs.Common.{◌≡◌, ◌≤◌, ◌<◌, ℕ, List, [], ◌∷◌, length, get_or, ap, ◌∙◌, arith}
use Rattle.std.specs.Prelude.{String, string_bytes}
use Rattle.std.specs.declared.alloc.Global.{Global}
use Rattle.gdp_commands.specs.Words.{words_of}

list_of : (ws : List (String Global)) (a b c d : String Global) → 4 ≤ length ws → length ws < 5
    → a ≡ get_or ws 0 a → b ≡ get_or ws 1 b → c ≡ get_or ws 2 c → d ≡ get_or ws 3 d → ws ≡ a ∷ b ∷ c ∷ d ∷ []
list_of [] a b c d l u p q r s = absurd (omega arith)
list_of (i ∷ []) a b c d l u p q r s = absurd (omega arith)
list_of (i ∷ j ∷ []) a b c d l u p q r s = absurd (omega arith)
list_of (i ∷ j ∷ k ∷ []) a b c d l u p q r s = absurd (omega arith)
list_of (i ∷ j ∷ k ∷ n ∷ []) a b c d l u p q r s = cc (p, q, r, s)
list_of (i ∷ j ∷ k ∷ n ∷ o ∷ ws) a b c d l u p q r s = absurd (omega arith)

pub four_words : (ws : List (String Global)) (a b c d : String Global) (x y z w : List ℕ) → 4 ≤ length ws → length ws < 5
    → a ≡ get_or ws 0 a → b ≡ get_or ws 1 b → c ≡ get_or ws 2 c → d ≡ get_or ws 3 d
    → x ≡ string_bytes a → y ≡ string_bytes b → z ≡ string_bytes c → w ≡ string_bytes d → words_of ws ≡ x ∷ y ∷ z ∷ w ∷ []
four_words ws a b c d x y z w l u p q r s e f g h = ap words_of (list_of ws a b c d l u p q r s) ∙ cc (e, f, g, h)
