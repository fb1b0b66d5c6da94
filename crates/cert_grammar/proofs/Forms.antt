-- The line of a node is read as that node, and no other line is.
use Rattle.std.proofs.Common.{◌≡◌, ℕ, suc, ◌^◌, ◌<◌, ℤ, pos, negsuc, Bool, true, false, if◌then◌else◌, not, ◌==◌, ◌&&◌, ◌||◌, List, [], ◌∷◌, ◌++◌, codes, Option, None, Some, Ok, refl, ap, sym, subst, ◌∙◌, inl, inr, ◌⊎◌, arith}
use Rattle.std.specs.Prelude.{nat_le, nat_eq, unsigned_abs, bytes_eq}
use Rattle.std.specs.List.{list_all}
use Rattle.std.specs.Fmt.{decimal}
use Rattle.std.proofs.lemmas.Bool.{cond-true, cond-false}
use Rattle.std.proofs.lemmas.Bool.Decides.{nat_tests}
use Rattle.std.proofs.lemmas.Slice.Eq.{bytes_eq-Decides}
use Rattle.fractions.specs.Width.{fits}
use Rattle.text_grammar.specs.Bytes.{is_digit, front, rest}
use Rattle.text_grammar.specs.Outcomes.{◌>>=◌, refused_where, or_cause}
use Rattle.text_grammar.specs.Printing.{whole_word}
use Rattle.text_grammar.proofs.Bools.{told, both, and_true, all_weaker}
use Rattle.text_grammar.proofs.BytesLemmas.{front_again, rest_again}
use Rattle.text_grammar.proofs.DigitsLemmas.{decimal_digits}
use Rattle.cert_grammar.specs.declared.cause.CertCause.TheVariants as cause
use Rattle.cert_grammar.specs.Nodes.{pair_word, pair_words, node_words, ◌>?>◌, behind_colon, pair_of, is_next, if_next, pairs_from, int_form, truth_form, logic_form, bounded_form, form_of, is_short, are_short, node_fits, node_of}
use Rattle.proof_tree.specs.declared.path.Split.TheVariants as split
use Rattle.proof_tree.specs.declared.proof.Node.{Node}
use Rattle.proof_tree.specs.declared.proof.Node.TheVariants as node
use Rattle.proof_tree.specs.Tree.{closes, is_listed}
use Rattle.lp_rows.specs.Rows.{ascends_from, has_zero}
use Rattle.cert_grammar.specs.Laws.{IsFittingProof}
use Rattle.cert_grammar.specs.Wholes.{natural_of, whole_of}
use Rattle.cert_grammar.proofs.Exact.{natural_again, natural_only, whole_again, whole_only}

-- rows ascend strictly from the least, and no multiplier is 0
abbrev are_pairs : ℕ → List (ℕ × ℤ) → Bool
are_pairs least [] = true
are_pairs least (p ∷ ps) = is_next least p && are_pairs (suc p.0) ps

pairs_listed : (least : ℕ) (ms : List (ℕ × ℤ)) → are_pairs least ms ≡ (ascends_from least ms && not (has_zero ms))
pairs_listed least [] = refl
pairs_listed least (m ∷ ms) = go (nat_le least m.0) (nat_eq (unsigned_abs m.1) 0) (ascends_from (suc m.0) ms) (has_zero ms) (are_pairs (suc m.0) ms) (pairs_listed (suc m.0) ms)
  where
    go : (l z a h p : Bool) → p ≡ (a && not h) → ((l && not z) && p) ≡ ((l && a) && not (z || h))
    go true true true h p e = refl
    go true true false h p e = refl
    go true false true h p e = e
    go true false false h p e = e
    go false z a h p e = refl

-- each node has numbers that fit and multipliers as it may
abbrev pub are_nodes : List Node → Bool
are_nodes [] = true
are_nodes (n ∷ ns) = (node_fits n && is_listed n) && are_nodes ns

-- nodes that fit and make a proof
pub nodes_of : (ns : List Node) → list_all node_fits ns ≡ true → list_all is_listed ns ≡ true → are_nodes ns ≡ true
nodes_of [] f l = refl
nodes_of (n ∷ ns) f l =
    let a = both (node_fits n) (list_all node_fits ns) f in
    let b = both (is_listed n) (list_all is_listed ns) l in
    and_true (node_fits n && is_listed n) (are_nodes ns) (and_true (node_fits n) (is_listed n) a.0 b.0) (nodes_of ns a.1 b.1)

pub nodes_fit : (ns : List Node) → are_nodes ns ≡ true → list_all node_fits ns ≡ true
nodes_fit [] a = refl
nodes_fit (n ∷ ns) a =
    let b = both (node_fits n && is_listed n) (are_nodes ns) a in
    and_true (node_fits n) (list_all node_fits ns) (both (node_fits n) (is_listed n) b.0).0 (nodes_fit ns b.1)

nodes_listed : (ns : List Node) → are_nodes ns ≡ true → list_all is_listed ns ≡ true
nodes_listed [] a = refl
nodes_listed (n ∷ ns) a =
    let b = both (node_fits n && is_listed n) (are_nodes ns) a in
    and_true (is_listed n) (list_all is_listed ns) (both (node_fits n) (is_listed n) b.0).1 (nodes_listed ns b.1)

pub proof_nodes : (ns : List Node) → IsFittingProof ns → are_nodes ns ≡ true
proof_nodes ns is = nodes_of ns is.fit (both (closes 1 ns) (list_all is_listed ns) is.proof).1

pub proof_closes : (ns : List Node) → IsFittingProof ns → closes 1 ns ≡ true
proof_closes ns is = (both (closes 1 ns) (list_all is_listed ns) is.proof).0

pub fitting_proof : (ns : List Node) → are_nodes ns ≡ true → closes 1 ns ≡ true → IsFittingProof ns
fitting_proof ns a c = record { proof = and_true (closes 1 ns) (list_all is_listed ns) c (nodes_listed ns a); fit = nodes_fit ns a }

pub short_natural : (n : ℕ) → is_short n ≡ true → n < 10 ^ 64
short_natural n p = grind (arith, nat_tests)

pub short_whole : (z : ℤ) → fits z ≡ true → unsigned_abs z < 10 ^ 64
short_whole (pos n) p = grind (arith, nat_tests)
short_whole (negsuc n) p = grind (arith, nat_tests)

-- a pair is read again
digit_no_colon : (d : ℕ) → is_digit d ≡ true → not (d == 58) ≡ true
digit_no_colon d p = grind (arith, nat_tests)

pair_again : (p : ℕ × ℤ) → is_short p.0 ≡ true → fits p.1 ≡ true → pair_of (pair_word p) ≡ Some p
pair_again p s f =
    let ds : List ℕ = decimal p.0 in
    let m : List ℕ = whole_word p.1 in
    let all : list_all (λ b. not (b == 58)) ds ≡ true = all_weaker is_digit (λ b. not (b == 58)) ds digit_no_colon (decimal_digits p.0 (short_natural p.0 s)).all in
    let before : front (λ b. not (b == 58)) (ds ++ 58 ∷ m) ≡ ds = front_again (λ b. not (b == 58)) ds (58 ∷ m) all refl in
    let behind : rest (λ b. not (b == 58)) (ds ++ 58 ∷ m) ≡ 58 ∷ m = rest_again (λ b. not (b == 58)) ds (58 ∷ m) all refl in
    rw (before, behind, natural_again p.0 (short_natural p.0 s), whole_again p.1 (short_whole p.1 f)) refl

pub pairs_again : (least : ℕ) (ps : List (ℕ × ℤ)) → are_pairs least ps ≡ true → are_short ps ≡ true → pairs_from least (pair_words ps) ≡ Some ps
pairs_again least [] a s = refl
pairs_again least (p ∷ ps) a s =
    let b = both (is_next least p) (are_pairs (suc p.0) ps) a in
    let t = both (is_short p.0 && fits p.1) (are_short ps) s in
    let u = both (is_short p.0) (fits p.1) t.0 in
    rw (pair_again p u.0 u.1, b.0, pairs_again (suc p.0) ps b.1 t.1) refl

-- a node's line is read again
form_again : (n : Node) → node_fits n ≡ true → is_listed n ≡ true → form_of (node_words n) ≡ Some n
form_again (node.Split (split.Int column at)) f s =
    let b = both (is_short column) (fits at) f in
    rw (natural_again column (short_natural column b.0), whole_again at (short_whole at b.1)) refl
form_again (node.Split (split.Truth id)) f s = rw (natural_again id (short_natural id f)) refl
form_again (node.Refuted mults) f s = rw (pairs_again 0 mults (pairs_listed 0 mults ∙ s) f) refl
form_again (node.Bounded scale mults) f s =
    let b = both (fits scale) (are_short mults) f in
    rw (whole_again scale (short_whole scale b.0), pairs_again 0 mults (pairs_listed 0 mults ∙ s) b.1) refl
form_again (node.LogicFalse place) f s = rw (natural_again place (short_natural place f)) refl

pub node_again : (n : Node) → node_fits n ≡ true → is_listed n ≡ true → node_of (node_words n) ≡ Ok n
unfolding node_of
node_again n f s = rw (form_again n f s, f) refl

-- what there is was made of what there was
pub made_of : {A B : Type 0} (o : Option A) (f : A → Option B) (y : B) → (o >?> f) ≡ Some y → (x : A) × (o ≡ Some x) × (f x ≡ Some y)
made_of None f y e = absurd (cc e)
made_of (Some x) f y e = (x, refl, e)

-- no other word is read as the pair
pub split_before : (stop : ℕ) (word : List ℕ) → front (λ b. not (b == stop)) word ++ rest (λ b. not (b == stop)) word ≡ word
split_before stop [] = refl
split_before stop (b ∷ bs) = elim (told (not (b == stop))) [
  | inl t ↦
      ap (λ (l : List ℕ). l ++ rest (λ b. not (b == stop)) (b ∷ bs)) (cond-true (not (b == stop)) (b ∷ front (λ b. not (b == stop)) bs) [] t)
      ∙ ap (λ (l : List ℕ). b ∷ (front (λ b. not (b == stop)) bs ++ l)) (cond-true (not (b == stop)) (rest (λ b. not (b == stop)) bs) (b ∷ bs) t)
      ∙ ap (λ (l : List ℕ). b ∷ l) (split_before stop bs)
  | inr f ↦
      ap (λ (l : List ℕ). l ++ rest (λ b. not (b == stop)) (b ∷ bs)) (cond-false (not (b == stop)) (b ∷ front (λ b. not (b == stop)) bs) [] f)
      ∙ cond-false (not (b == stop)) (rest (λ b. not (b == stop)) bs) (b ∷ bs) f
]

pub rest_from : (stop : ℕ) (word : List ℕ) (b : ℕ) (bs : List ℕ) → rest (λ b. not (b == stop)) word ≡ b ∷ bs → b ≡ stop
rest_from stop [] b bs e = absurd (cc e)
rest_from stop (c ∷ cs) b bs e = elim (told (not (c == stop))) [
  | inl t ↦ rest_from stop cs b bs (sym (cond-true (not (c == stop)) (rest (λ b. not (b == stop)) cs) (c ∷ cs) t) ∙ e)
  | inr f ↦
      let same : c ∷ cs ≡ b ∷ bs = sym (cond-false (not (c == stop)) (rest (λ b. not (b == stop)) cs) (c ∷ cs) f) ∙ e in
      let first : c ≡ b = cc same in
      sym first ∙ is_stop c f
]
  where
    is_stop : (c : ℕ) → not (c == stop) ≡ false → c ≡ stop
    is_stop c f = grind (arith, nat_tests)

pair_only : (word : List ℕ) (p : ℕ × ℤ) → pair_of word ≡ Some p → is_short p.0 ≡ true → fits p.1 ≡ true → word ≡ pair_word p
pair_only word p e s f =
    let r = made_of (natural_of (front (λ b. not (b == 58)) word)) (λ row. behind_colon row (rest (λ b. not (b == 58)) word)) p e in
    behind r.0 (rest (λ b. not (b == 58)) word) refl r.1 r.2
  where
    behind : (row : ℕ) (left : List ℕ) → rest (λ b. not (b == 58)) word ≡ left → natural_of (front (λ b. not (b == 58)) word) ≡ Some row → behind_colon row left ≡ Some p → word ≡ pair_word p
    behind row [] is n e = absurd (cc e)
    behind row (b ∷ bs) is n e =
        let m = made_of (whole_of bs) (λ z. Some (row, z)) p e in
        let pair : ℕ × ℤ = (row, m.0) in
        let have : Some pair ≡ Some p = m.2 in
        let same : pair ≡ p = cc have in
        let row_is : row ≡ p.0 = ap (λ (x : ℕ × ℤ). x.0) same in
        let z_is : m.0 ≡ p.1 = ap (λ (x : ℕ × ℤ). x.1) same in
        let left : front (λ b. not (b == 58)) word ≡ decimal p.0 = natural_only (front (λ b. not (b == 58)) word) p.0 (n ∙ ap (λ (x : ℕ). Some x) row_is) (short_natural p.0 s) in
        let right : bs ≡ whole_word p.1 = whole_only bs p.1 (m.1 ∙ ap (λ (x : ℤ). Some x) z_is) (short_whole p.1 f) in
        sym (split_before 58 word) ∙ ap (λ (l : List ℕ). l ++ rest (λ b. not (b == 58)) word) left ∙ ap (λ (l : List ℕ). decimal p.0 ++ l) is
        ∙ ap (λ (x : ℕ). decimal p.0 ++ x ∷ bs) (rest_from 58 word b bs is) ∙ ap (λ (l : List ℕ). decimal p.0 ++ 58 ∷ l) right

next_is : (least : ℕ) (q p : ℕ × ℤ) → if_next least q ≡ Some p → (q ≡ p) × (is_next least p ≡ true)
next_is least q p e = go (is_next least q) refl e
  where
    go : (b : Bool) → is_next least q ≡ b → (if b then Some q else None) ≡ Some p → (q ≡ p) × (is_next least p ≡ true)
    go true is e = let same : q ≡ p = cc e in (same, ap (is_next least) (sym same) ∙ is)
    go false is e = absurd (cc e)

pairs_only : (least : ℕ) (ws : List (List ℕ)) (ps : List (ℕ × ℤ)) → pairs_from least ws ≡ Some ps → are_short ps ≡ true → (are_pairs least ps ≡ true) × (ws ≡ pair_words ps)
pairs_only least [] ps e s = let is : [] ≡ ps = cc e in (subst (λ (l : List (ℕ × ℤ)). are_pairs least l ≡ true) is refl, ap pair_words is)
pairs_only least (w ∷ ws) ps e s =
    let a = made_of (pair_of w >?> if_next least) (λ p. pairs_from (suc p.0) ws >?> (λ qs. Some (p ∷ qs))) ps e in
    let b = made_of (pair_of w) (if_next least) a.0 a.1 in
    let c = made_of (pairs_from (suc a.0.0) ws) (λ qs. Some (a.0 ∷ qs)) ps a.2 in
    let all : Some (a.0 ∷ c.0) ≡ Some ps = c.2 in
    let is : a.0 ∷ c.0 ≡ ps = cc all in
    let n = next_is least b.0 a.0 b.2 in
    let t = both (is_short a.0.0 && fits a.0.1) (are_short c.0) (ap are_short is ∙ s) in
    let u = both (is_short a.0.0) (fits a.0.1) t.0 in
    let first : w ≡ pair_word a.0 = pair_only w a.0 (b.1 ∙ ap (λ (x : ℕ × ℤ). Some x) n.0) u.0 u.1 in
    let below = pairs_only (suc a.0.0) ws c.0 c.1 t.1 in (
      subst (λ (l : List (ℕ × ℤ)). are_pairs least l ≡ true) is (and_true (is_next least a.0) (are_pairs (suc a.0.0) c.0) n.1 below.0),
      ap (λ (x : List ℕ). x ∷ ws) first ∙ ap (λ (l : List (List ℕ)). pair_word a.0 ∷ l) below.1 ∙ ap pair_words is,
    )

-- no other words are read as the node
record IsNode (words : List (List ℕ)) (n : Node) : Type 0 where
  pub sound : is_listed n ≡ true
  pub words_are : words ≡ node_words n

at_node : (words : List (List ℕ)) (m n : Node) → m ≡ n → IsNode words m → IsNode words n
at_node words m n e is = subst (λ (x : Node). IsNode words x) e is

int_only : (ws : List (List ℕ)) (n : Node) → int_form ws ≡ Some n → node_fits n ≡ true → IsNode (codes "int" ∷ ws) n
int_only [] n e f = absurd (cc e)
int_only (x ∷ []) n e f = absurd (cc e)
int_only (x ∷ y ∷ z ∷ ws) n e f = absurd (cc e)
int_only (x ∷ y ∷ []) n e f =
    let a = made_of (natural_of x) (λ j. whole_of y >?> (λ k. Some (node.Split (split.Int j k)))) n e in
    let b = made_of (whole_of y) (λ k. Some (node.Split (split.Int a.0 k))) n a.2 in
    let have : Some (node.Split (split.Int a.0 b.0)) ≡ Some n = b.2 in
    let is : node.Split (split.Int a.0 b.0) ≡ n = cc have in
    let u = both (is_short a.0) (fits b.0) (ap node_fits is ∙ f) in
    at_node (codes "int" ∷ x ∷ y ∷ []) (node.Split (split.Int a.0 b.0)) n is
    (record { sound = refl; words_are = ap (λ (w : List ℕ). codes "int" ∷ w ∷ y ∷ []) (natural_only x a.0 a.1 (short_natural a.0 u.0)) ∙ ap (λ (w : List ℕ). codes "int" ∷ decimal a.0 ∷ w ∷ []) (whole_only y b.0 b.1 (short_whole b.0 u.1)) })

truth_only : (ws : List (List ℕ)) (n : Node) → truth_form ws ≡ Some n → node_fits n ≡ true → IsNode (codes "truth" ∷ ws) n
truth_only [] n e f = absurd (cc e)
truth_only (x ∷ y ∷ ws) n e f = absurd (cc e)
truth_only (x ∷ []) n e f =
    let a = made_of (natural_of x) (λ j. Some (node.Split (split.Truth j))) n e in
    let have : Some (node.Split (split.Truth a.0)) ≡ Some n = a.2 in
    let is : node.Split (split.Truth a.0) ≡ n = cc have in
    at_node (codes "truth" ∷ x ∷ []) (node.Split (split.Truth a.0)) n is
    (record { sound = refl; words_are = ap (λ (w : List ℕ). codes "truth" ∷ w ∷ []) (natural_only x a.0 a.1 (short_natural a.0 (ap node_fits is ∙ f))) })

logic_only : (ws : List (List ℕ)) (n : Node) → logic_form ws ≡ Some n → node_fits n ≡ true → IsNode (codes "logic" ∷ ws) n
logic_only [] n e f = absurd (cc e)
logic_only (x ∷ y ∷ ws) n e f = absurd (cc e)
logic_only (x ∷ []) n e f =
    let a = made_of (natural_of x) (λ j. Some (node.LogicFalse j)) n e in
    let have : Some (node.LogicFalse a.0) ≡ Some n = a.2 in
    let is : node.LogicFalse a.0 ≡ n = cc have in
    at_node (codes "logic" ∷ x ∷ []) (node.LogicFalse a.0) n is
    (record { sound = refl; words_are = ap (λ (w : List ℕ). codes "logic" ∷ w ∷ []) (natural_only x a.0 a.1 (short_natural a.0 (ap node_fits is ∙ f))) })

refuted_only : (ws : List (List ℕ)) (n : Node) → (pairs_from 0 ws >?> (λ ps. Some (node.Refuted ps))) ≡ Some n → node_fits n ≡ true → IsNode (codes "refuted" ∷ ws) n
refuted_only ws n e f =
    let a = made_of (pairs_from 0 ws) (λ ps. Some (node.Refuted ps)) n e in
    let have : Some (node.Refuted a.0) ≡ Some n = a.2 in
    let is : node.Refuted a.0 ≡ n = cc have in
    let p = pairs_only 0 ws a.0 a.1 (ap node_fits is ∙ f) in
    at_node (codes "refuted" ∷ ws) (node.Refuted a.0) n is (record { sound = sym (pairs_listed 0 a.0) ∙ p.0; words_are = ap (λ (l : List (List ℕ)). codes "refuted" ∷ l) p.1 })

bounded_only : (ws : List (List ℕ)) (n : Node) → bounded_form ws ≡ Some n → node_fits n ≡ true → IsNode (codes "bounded" ∷ ws) n
bounded_only [] n e f = absurd (cc e)
bounded_only (x ∷ ws) n e f =
    let a = made_of (whole_of x) (λ s. pairs_from 0 ws >?> (λ ps. Some (node.Bounded s ps))) n e in
    let b = made_of (pairs_from 0 ws) (λ ps. Some (node.Bounded a.0 ps)) n a.2 in
    let have : Some (node.Bounded a.0 b.0) ≡ Some n = b.2 in
    let is : node.Bounded a.0 b.0 ≡ n = cc have in
    let u = both (fits a.0) (are_short b.0) (ap node_fits is ∙ f) in
    let p = pairs_only 0 ws b.0 b.1 u.1 in
    at_node (codes "bounded" ∷ x ∷ ws) (node.Bounded a.0 b.0) n is
    (record { sound = sym (pairs_listed 0 b.0) ∙ p.0; words_are = ap (λ (w : List ℕ). codes "bounded" ∷ w ∷ ws) (whole_only x a.0 a.1 (short_whole a.0 u.0)) ∙ ap (λ (l : List (List ℕ)). codes "bounded" ∷ whole_word a.0 ∷ l) p.1 })

-- a test by a word, and what it leads to
chosen : {A : Type 0} (w v : List ℕ) (x y z : A) → (if bytes_eq w v then x else y) ≡ z → ((w ≡ v) × (x ≡ z)) ⊎ (y ≡ z)
chosen w v x y z e = elim (told (bytes_eq w v)) [
  | inl t ↦ inl ((bytes_eq-Decides w v).0 t, sym (cond-true (bytes_eq w v) x y t) ∙ e)
  | inr f ↦ inr (sym (cond-false (bytes_eq w v) x y f) ∙ e)
]

first_is : (w v : List ℕ) (ws : List (List ℕ)) (n : Node) → w ≡ v → IsNode (v ∷ ws) n → IsNode (w ∷ ws) n
first_is w v ws n e is = subst (λ (x : List ℕ). IsNode (x ∷ ws) n) (sym e) is

form_only : (words : List (List ℕ)) (n : Node) → form_of words ≡ Some n → node_fits n ≡ true → IsNode words n
form_only [] n e f = absurd (cc e)
form_only (w ∷ ws) n e f = elim (chosen w (codes "int") (int_form ws) _ (Some n) e) [
  | inl a ↦ first_is w (codes "int") ws n a.0 (int_only ws n a.1 f)
  | inr e ↦ elim (chosen w (codes "truth") (truth_form ws) _ (Some n) e) [
    | inl a ↦ first_is w (codes "truth") ws n a.0 (truth_only ws n a.1 f)
    | inr e ↦ elim (chosen w (codes "refuted") (pairs_from 0 ws >?> (λ ps. Some (node.Refuted ps))) _ (Some n) e) [
      | inl a ↦ first_is w (codes "refuted") ws n a.0 (refuted_only ws n a.1 f)
      | inr e ↦ elim (chosen w (codes "bounded") (bounded_form ws) _ (Some n) e) [
        | inl a ↦ first_is w (codes "bounded") ws n a.0 (bounded_only ws n a.1 f)
        | inr e ↦ elim (chosen w (codes "logic") (logic_form ws) None (Some n) e) [
          | inl a ↦ first_is w (codes "logic") ws n a.0 (logic_only ws n a.1 f)
          | inr e ↦ absurd (cc e)
        ]
      ]
    ]
  ]
]

pub record IsRead (words : List (List ℕ)) (n : Node) : Type 0 where
  pub fits_it : node_fits n ≡ true
  pub sound : is_listed n ≡ true
  pub words_are : words ≡ node_words n

pub node_only : (words : List (List ℕ)) (n : Node) → node_of words ≡ Ok n → IsRead words n
unfolding node_of
node_only words n e = go (form_of words) refl e
  where
    fit : (m : Node) (b : Bool) → node_fits m ≡ b → form_of words ≡ Some m → (refused_where (not b) cause.Number >>= (λ _. Ok m)) ≡ Ok n → IsRead words n
    fit m true f is e =
        let same : m ≡ n = cc e in
        let have : form_of words ≡ Some n = is ∙ ap (λ (x : Node). Some x) same in
        let good : node_fits n ≡ true = ap node_fits (sym same) ∙ f in
        let r = form_only words n have good in
        record { fits_it = good; sound = r.sound; words_are = r.words_are }
    fit m false f is e = absurd (cc e)

    go : (o : Option Node) → form_of words ≡ o → (or_cause cause.Form o >>= (λ m. refused_where (not (node_fits m)) cause.Number >>= (λ _. Ok m))) ≡ Ok n → IsRead words n
    go None is e = absurd (cc e)
    go (Some m) is e = fit m (node_fits m) refl is e
