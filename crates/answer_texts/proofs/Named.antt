-- Names of a model have bytes, none of them a blank or a newline, and no two are equal.
use Rattle.std.proofs.Common.{◌≡◌, ℕ, ◌<◌, true, false, not, ◌&&◌, ◌==◌, List, [], ◌∷◌, ◌++◌, length, map, refl, arith}
use Rattle.std.specs.Prelude.{bytes_eq, nat_le}
use Rattle.std.specs.List.{list_all, list_any}
use Rattle.std.proofs.lemmas.Bool.Decides.{nat_tests}
use Rattle.text_grammar.proofs.Bools.{both, and_true, all_weaker}
use Rattle.model_tree.specs.Sound.{is_empty}
use Rattle.model_tree.specs.Names.{begins_name, continues_name, has_name_shape, has_name, reserved_words, is_name}
use Rattle.model_tree.specs.Names.{are_names}
use Rattle.model_tree.specs.Variables.{VarValue, BooleanValue}
use Rattle.cert_grammar.specs.Answers.{is_filled}
use Rattle.cert_grammar.specs.Laws.{is_exact_word, are_exact_words, are_distinct}
use Rattle.answer_texts.specs.ModelNames.{ModelNames}

begins_plain : (b : ℕ) → begins_name b ≡ true → (not (b == 10) && not (b == 32)) ≡ true
begins_plain b e = grind (arith, nat_tests)

continues_plain : (b : ℕ) → continues_name b ≡ true → (not (b == 10) && not (b == 32)) ≡ true
continues_plain b e = grind (arith, nat_tests)

shape_plain : (n : List ℕ) → has_name_shape n ≡ true → (is_filled n ≡ true) × (is_exact_word n ≡ true)
shape_plain [] e = absurd (cc e)
shape_plain (b ∷ bs) e =
    let h = both (begins_name b) (list_all continues_name bs) e in
    (refl, and_true (not (b == 10) && not (b == 32)) (list_all (λ b. not (b == 10) && not (b == 32)) bs) (begins_plain b h.0) (all_weaker continues_name (λ b. not (b == 10) && not (b == 32)) bs continues_plain h.1))

name_plain : (n : List ℕ) → is_name n ≡ true → (is_filled n ≡ true) × (is_exact_word n ≡ true)
unfolding is_name
name_plain n e = shape_plain n (both (has_name_shape n) (nat_le (length n) 64) (both (has_name_shape n && nat_le (length n) 64) (not (has_name n reserved_words)) e).0).0

record ArePlain (names : List (List ℕ)) : Type 0 where
  filled : list_all is_filled names ≡ true
  plain : are_exact_words names ≡ true
  distinct : are_distinct names ≡ true

plain_of : (names : List (List ℕ)) → are_names names ≡ true → ArePlain names
plain_of [] e = record { filled = refl; plain = refl; distinct = refl }
plain_of (n ∷ ns) e =
    let a = both (is_name n && not (has_name n ns)) (are_names ns) e in
    let b = both (is_name n) (not (has_name n ns)) a.0 in
    let p = name_plain n b.0 in
    let below = plain_of ns a.1 in
    record {
      filled = and_true (is_filled n) (list_all is_filled ns) p.0 below.filled;
      plain = and_true (is_exact_word n) (are_exact_words ns) p.1 below.plain;
      distinct = and_true (not (list_any (bytes_eq n) ns)) (are_distinct ns) b.1 below.distinct;
    }

-- both parts of plain names are plain
behind : (xs ys : List (List ℕ)) → ArePlain (xs ++ ys) → (list_all is_filled xs ≡ true) × (are_exact_words xs ≡ true) × ArePlain ys
behind [] ys p = (refl, refl, p)
behind (x ∷ xs) ys p =
    let f = both (is_filled x) (list_all is_filled (xs ++ ys)) p.filled in
    let w = both (is_exact_word x) (are_exact_words (xs ++ ys)) p.plain in
    let d = both (not (list_any (bytes_eq x) (xs ++ ys))) (are_distinct (xs ++ ys)) p.distinct in
    let below = behind xs ys (record { filled = f.1; plain = w.1; distinct = d.1 }) in
    (and_true (is_filled x) (list_all is_filled xs) f.0 below.0, and_true (is_exact_word x) (are_exact_words xs) w.0 below.1, below.2)

some_names : (vars : List VarValue) → is_empty vars ≡ false → 0 < length (map (λ (v : VarValue). v.0) vars)
some_names [] e = absurd (cc e)
some_names (v ∷ vs) e = omega arith

pub model_names : ModelNames
model_names m is =
    let names : List (List ℕ) = map (λ (v : VarValue). v.0) m.vars in
    let booleans : List (List ℕ) = map (λ (b : BooleanValue). b.0) m.booleans in
    let h = behind names booleans (plain_of (names ++ booleans) is.names) in
    record {
      some = some_names m.vars is.some_variable;
      names_filled = h.0;
      booleans_filled = h.2.filled;
      names_plain = h.1;
      booleans_plain = h.2.plain;
      distinct = h.2.distinct;
    }
