-- In a table without equal spellings a word spells one keyword at most.
use Rattle.std.proofs.Common.{◌≡◌, ℕ, Bool, true, false, not, ◌&&◌, ◌||◌, List, [], ◌∷◌, Option, refl, ap, ◌∙◌, cond, MatchOption}
use Rattle.std.specs.List.{filter, list_any}
use Rattle.std.specs.Str.{bytes_eq}
use Rattle.std.proofs.lemmas.Slice.Eq.{bytes_eq-Decides}
use Rattle.gdp_tables.specs.Keywords.{Keyword, compared, are_equal, spelled_by, is_keyword, are_distinct, first_code}

-- an element that fails adds nothing
pub kept_nothing : {X : Type 0} (b r : Bool) (x : X) (xs : List X) → (b || r) ≡ false → (r ≡ false → xs ≡ []) → cond b (x ∷ xs) xs ≡ []
kept_nothing true r x xs h f = cc
kept_nothing false r x xs h f = f h

-- where no element passes, none is kept
pub none_kept : {X : Type 0} (test : X → Bool) (xs : List X) → list_any test xs ≡ false → filter test xs ≡ []
none_kept test [] h = refl
none_kept test (x ∷ xs) h = kept_nothing (test x) (list_any test xs) x (filter test xs) h (none_kept test xs)

-- words that are equal spell the same keywords
pub spell_alike : (fold : Bool) (a b : List ℕ) (ks : List Keyword) → compared fold a ≡ compared fold b → spelled_by fold a ks ≡ spelled_by fold b ks
spell_alike fold a b ks e = ap (λ c. filter (λ k. bytes_eq c (compared fold k.spelling)) ks) e

-- the parts of a table without equal spellings
pub parts : (a b : Bool) → (not a && b) ≡ true → (a ≡ false) × (b ≡ true)
parts true b h = cc
parts false b h = (refl, h)

-- the list is empty, or one keyword with this code
abbrev pub IsOne : List Keyword → Option ℕ → Type 0
IsOne found answer = MatchOption answer (found ≡ []) (λ code. (k : Keyword) × (found ≡ k ∷ []) × (k.code ≡ code))

pub one_more : (b : Bool) (k : Keyword) (found : List Keyword) → (b ≡ true → found ≡ []) → IsOne found (first_code found)
    → IsOne (cond b (k ∷ found) found) (first_code (cond b (k ∷ found) found))
one_more true k found none rest = (k, ap (λ f. k ∷ f) (none refl), refl)
one_more false k found none rest = rest

-- the keywords that the word spells are none or one, as their first code says
pub one_at_most : (fold : Bool) (word : List ℕ) (ks : List Keyword) → are_distinct fold ks ≡ true
    → IsOne (spelled_by fold word ks) (first_code (spelled_by fold word ks))
one_at_most fold word [] d = refl
one_at_most fold word (k ∷ ks) d =
    let p = parts (is_keyword fold k.spelling ks) (are_distinct fold ks) d in
    one_more (are_equal fold word k.spelling) k (spelled_by fold word ks)
    (λ e. spell_alike fold word k.spelling ks ((bytes_eq-Decides (compared fold word) (compared fold k.spelling)).0 e)
    ∙ none_kept (λ m. are_equal fold k.spelling m.spelling) ks p.0)
    (one_at_most fold word ks p.1)
