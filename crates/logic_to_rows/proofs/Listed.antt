-- Propositions emitted one after the other, and connectives after their arguments.
use Rattle.std.proofs.Common.{◌≡◌, ◌⊎◌, inl, inr, ⊎_elim, ℕ, List, [], ◌∷◌, ◌++◌, length, Option, Some, None, suc, refl, ap, sym, subst, ◌∙◌, ◌+◌, append_assoc}
use Rattle.emission.specs.declared.halts.Halt.{Halt}
use Rattle.emission.specs.declared.halts.Halt.TheVariants.{Memory}
use Rattle.emission.specs.declared.literals.Literal.{Literal}
use Rattle.emission.proofs.Running.{run-append, run_halted, runs_as, runs_length, runs_then, went_on}
use Rattle.emission.specs.Items.{Item, after, followed}
use Rattle.emission.specs.Literals.{flip, plain}
use Rattle.emission.specs.Run.{Keeps, Runs, State, run}
use Rattle.logic_to_rows.specs.Emitted.{all_emitted, all_rows, bit, emitted, exactly_items, list_items, list_literal, literal, literals, pair_items, pair_literal}
use Rattle.propositions.specs.Tree.{ListConnective, PairConnective, PropTree, PropTrees, at_least, exactly, listed, no_props, paired, prop}

-- ---- a new bit and its rows
pub bit_rows : (p : PropTree) (rows : ℕ → List Item) (a b c : State) (z : ℕ) → Runs (bit (length a.milp.cols) p) a b → (b.halt ≡ None → z ≡ length a.milp.cols) → Runs (rows z) b c →
    Runs (bit (length a.milp.cols) p ++ rows (length a.milp.cols)) a c
bit_rows p rows a b c z x g y = runs_then (bit (length a.milp.cols) p) (rows (length a.milp.cols)) a b c x (runs_as (rows z) (rows (length a.milp.cols)) b c (λ h. ap rows (g h)) y)

pub bit_literal : (rows : ℕ → List Item) (b c : State) (z n : ℕ) → Runs (rows z) b c → (b.halt ≡ None → z ≡ n) → c.halt ≡ None → z ≡ n
bit_literal rows b c z n y g e = g (went_on (rows z) b c y e)

-- ---- at least k, not at least one more, and both
pub exactly_runs : (k : ℕ) (ps : PropTrees) (ls : List Literal) (a b c d : State) (x y : Literal) → Runs (list_items (at_least k) (length a.milp.cols) ps ls) a b → (b.halt ≡ None → x ≡ plain (length a.milp.cols)) →
    Runs (list_items (at_least (k + 1)) (length b.milp.cols) ps ls) b c → (c.halt ≡ None → y ≡ plain (length b.milp.cols)) →
    Runs (bit (length c.milp.cols) (listed (exactly k) ps) ++ all_rows (length c.milp.cols) (x ∷ flip y ∷ [])) c d → Runs (exactly_items k (length a.milp.cols) ps ls) a d
exactly_runs k ps ls a b c d x y p e q g r =
    let n = length a.milp.cols in
    let one = list_items (at_least k) n ps ls in
    let two = λ (z : ℕ). list_items (at_least (k + 1)) z ps ls in
    let three = λ (z : ℕ) (u v : Literal). bit z (listed (exactly k) ps) ++ all_rows z (u ∷ flip v ∷ []) in
    let nb : b.halt ≡ None → length b.milp.cols ≡ suc n = λ h. runs_length one a b p h in
    let nc : c.halt ≡ None → length c.milp.cols ≡ suc (suc n) = λ h. runs_length (two (length b.milp.cols)) b c q h ∙ ap suc (nb (went_on (two (length b.milp.cols)) b c q h)) in
    runs_then one (two (suc n) ++ three (suc (suc n)) (plain n) (plain (suc n))) a b d p
    (runs_then (two (suc n)) (three (suc (suc n)) (plain n) (plain (suc n))) b c d
    (runs_as (two (length b.milp.cols)) (two (suc n)) b c (λ h. ap two (nb h)) q)
    (runs_as (three (length c.milp.cols) x y) (three (suc (suc n)) (plain n) (plain (suc n))) c d
    (λ h. let hb = went_on (two (length b.milp.cols)) b c q h in
    ap (λ z. three z x y) (nc h) ∙ ap (λ u. three (suc (suc n)) u y) (e hb) ∙ ap (λ v. three (suc (suc n)) (plain n) v) (g h ∙ ap plain (nb hb))) r))

pub exactly_literal : (k : ℕ) (ps : PropTrees) (ls ms : List Literal) (a b c d : State) (l : Literal) → Runs (list_items (at_least k) (length a.milp.cols) ps ls) a b →
    Runs (list_items (at_least (k + 1)) (length b.milp.cols) ps ls) b c → Runs (bit (length c.milp.cols) (listed (exactly k) ps) ++ all_rows (length c.milp.cols) ms) c d →
    (d.halt ≡ None → l ≡ plain (length c.milp.cols)) → d.halt ≡ None → l ≡ plain (suc (suc (length a.milp.cols)))
exactly_literal k ps ls ms a b c d l p q r g e =
    let ec = went_on (bit (length c.milp.cols) (listed (exactly k) ps) ++ all_rows (length c.milp.cols) ms) c d r e in
    let eb = went_on (list_items (at_least (k + 1)) (length b.milp.cols) ps ls) b c q ec in
    g e ∙ ap plain (runs_length (list_items (at_least (k + 1)) (length b.milp.cols) ps ls) b c q ec ∙ ap suc (runs_length (list_items (at_least k) (length a.milp.cols) ps ls) a b p eb))

-- ---- a connective of a list after its arguments
pub listed_runs : (f : ℕ) (c : ListConnective) (ps : PropTrees) (a b d : State) (ls : List Literal) → Runs (all_emitted f (length a.milp.cols) ps) a b → (b.halt ≡ None → ls ≡ literals f (length a.milp.cols) ps) →
    Runs (list_items c (length b.milp.cols) ps ls) b d → Runs (emitted f (length a.milp.cols) (listed c ps)) a d
listed_runs f c ps a b d ls p e q =
    let xs = all_emitted f (length a.milp.cols) ps in
    let n = after (length a.milp.cols) xs in
    runs_then xs (list_items c n ps (literals f (length a.milp.cols) ps)) a b d p
    (runs_as (list_items c (length b.milp.cols) ps ls) (list_items c n ps (literals f (length a.milp.cols) ps)) b d
    (λ h. ap (λ i. list_items c i ps ls) (runs_length xs a b p h) ∙ ap (list_items c n ps) (e h)) q)

pub listed_literal : (f : ℕ) (c : ListConnective) (ps : PropTrees) (a b d : State) (ls : List Literal) (l : Literal) → Runs (all_emitted f (length a.milp.cols) ps) a b →
    Runs (list_items c (length b.milp.cols) ps ls) b d → (d.halt ≡ None → l ≡ list_literal c (length b.milp.cols)) → d.halt ≡ None → l ≡ literal f (length a.milp.cols) (listed c ps)
listed_literal f c ps a b d ls l p q g e =
    let eb = went_on (list_items c (length b.milp.cols) ps ls) b d q e in
    g e ∙ ap (list_literal c) (runs_length (all_emitted f (length a.milp.cols) ps) a b p eb)

-- ---- a connective of two after its arguments
two_runs : (f : ℕ) (p q : PropTree) (a b c : State) → Runs (emitted f (length a.milp.cols) p) a b → Runs (emitted f (length b.milp.cols) q) b c →
    Runs (followed (length a.milp.cols) (emitted f (length a.milp.cols) p) (λ m. emitted f m q)) a c
two_runs f p q a b c x y =
    let xs = emitted f (length a.milp.cols) p in
    runs_then xs (emitted f (after (length a.milp.cols) xs) q) a b c x
    (runs_as (emitted f (length b.milp.cols) q) (emitted f (after (length a.milp.cols) xs) q) b c (λ h. ap (λ i. emitted f i q) (runs_length xs a b x h)) y)

pub paired_runs : (f : ℕ) (k : PairConnective) (p q : PropTree) (a b c d : State) (l m : Literal) → Runs (emitted f (length a.milp.cols) p) a b → (b.halt ≡ None → l ≡ literal f (length a.milp.cols) p) →
    Runs (emitted f (length b.milp.cols) q) b c → (c.halt ≡ None → m ≡ literal f (length b.milp.cols) q) → Runs (pair_items k (length c.milp.cols) p q l m) c d →
    Runs (emitted f (length a.milp.cols) (paired k p q)) a d
paired_runs f k p q a b c d l m x e y g z =
    let xs = emitted f (length a.milp.cols) p in
    let o = after (length a.milp.cols) xs in
    let both = followed (length a.milp.cols) xs (λ i. emitted f i q) in
    let n = after (length a.milp.cols) both in
    let t = two_runs f p q a b c x y in
    runs_then both (pair_items k n p q (literal f (length a.milp.cols) p) (literal f o q)) a c d t
    (runs_as (pair_items k (length c.milp.cols) p q l m) (pair_items k n p q (literal f (length a.milp.cols) p) (literal f o q)) c d
    (λ h. let hb = went_on (emitted f (length b.milp.cols) q) b c y h in
    ap (λ i. pair_items k i p q l m) (runs_length both a c t h)
    ∙ ap (λ i. pair_items k n p q i m) (e hb)
    ∙ ap (pair_items k n p q (literal f (length a.milp.cols) p)) (g h ∙ ap (λ i. literal f i q) (runs_length xs a b x hb))) z)

pub paired_literal : (f : ℕ) (k : PairConnective) (p q : PropTree) (a b c d : State) (l m r : Literal) → Runs (emitted f (length a.milp.cols) p) a b → Runs (emitted f (length b.milp.cols) q) b c →
    Runs (pair_items k (length c.milp.cols) p q l m) c d → (d.halt ≡ None → r ≡ pair_literal k (length c.milp.cols)) → d.halt ≡ None → r ≡ literal f (length a.milp.cols) (paired k p q)
paired_literal f k p q a b c d l m r x y z g e =
    let ec = went_on (pair_items k (length c.milp.cols) p q l m) c d z e in
    g e ∙ ap (pair_literal k) (runs_length (followed (length a.milp.cols) (emitted f (length a.milp.cols) p) (λ i. emitted f i q)) a c (two_runs f p q a b c x y) ec)

-- ---- one more proposition of a list, where the others are still to come
pub record Emitting (f : ℕ) (whole : PropTrees) (a : State) (others : PropTrees) (ls : List Literal) (b : State) : Type 0 where
  pub runs : (run (all_emitted f (length b.milp.cols) others) b ≡ run (all_emitted f (length a.milp.cols) whole) a) ⊎ (b.halt ≡ Some Memory)
  pub literals_are : b.halt ≡ None → ls ++ literals f (length b.milp.cols) others ≡ literals f (length a.milp.cols) whole

pub emitting_none : (f : ℕ) (ps : PropTrees) (a : State) → Emitting f ps a ps [] a
emitting_none f ps a = record { runs = inl refl; literals_are = λ e. refl }

others_run : (h : Option Halt) (f : ℕ) (p : PropTree) (ps : PropTrees) (b c : State) → c.halt ≡ h → c ≡ run (emitted f (length b.milp.cols) p) b → Runs (emitted f (length b.milp.cols) p) b c →
    run (all_emitted f (length c.milp.cols) ps) c ≡ run (all_emitted f (length b.milp.cols) (prop p ps)) b
others_run (Some h) f p ps b c e q r =
    let ys = all_emitted f (after (length b.milp.cols) (emitted f (length b.milp.cols) p)) ps in
    run_halted h (all_emitted f (length c.milp.cols) ps) c e ∙ sym (run-append (emitted f (length b.milp.cols) p) ys b ∙ ap (run ys) (sym q) ∙ run_halted h ys c e)
others_run None f p ps b c e q r =
    ap (λ n. run (all_emitted f n ps) c) (runs_length (emitted f (length b.milp.cols) p) b c r e) ∙ ap (run (all_emitted f (after (length b.milp.cols) (emitted f (length b.milp.cols) p)) ps)) q ∙ sym (run-append (emitted f (length b.milp.cols) p) (all_emitted f (after (length b.milp.cols) (emitted f (length b.milp.cols) p)) ps) b)

emitting_more : (f : ℕ) (ps : PropTrees) (a : State) (p : PropTree) (others : PropTrees) (ls : List Literal) (b c : State) (l : Literal) → Emitting f ps a (prop p others) ls b →
    Runs (emitted f (length b.milp.cols) p) b c → (c.halt ≡ None → l ≡ literal f (length b.milp.cols) p) → Emitting f ps a others (ls ++ l ∷ []) c
emitting_more f ps a p others ls b c l w r g = record {
  runs = ⊎_elim
      (λ (e : run (all_emitted f (length b.milp.cols) (prop p others)) b ≡ run (all_emitted f (length a.milp.cols) ps) a). ⊎_elim
      (λ (q : c ≡ run (emitted f (length b.milp.cols) p) b). inl (others_run c.halt f p others b c refl q r ∙ e))
      (λ (q : c.halt ≡ Some Memory). inr q) r.runs)
      (λ (e : b.halt ≡ Some Memory). ⊎_elim
      (λ (q : c ≡ run (emitted f (length b.milp.cols) p) b). inr (ap (λ (s : State). s.halt) (q ∙ run_halted Memory (emitted f (length b.milp.cols) p) b e) ∙ e))
      (λ (q : c.halt ≡ Some Memory). inr q) r.runs) w.runs;
  literals_are = λ e.
      let n = after (length b.milp.cols) (emitted f (length b.milp.cols) p) in
      let x = ap (λ m. (ls ++ l ∷ []) ++ literals f m others) (runs_length (emitted f (length b.milp.cols) p) b c r e) in
      let y : (ls ++ l ∷ []) ++ literals f n others ≡ ls ++ (l ∷ literals f n others) = simp append_assoc in
      x ∙ y ∙ ap (λ i. ls ++ (i ∷ literals f n others)) (g e) ∙ w.literals_are (went_on (emitted f (length b.milp.cols) p) b c r e);
}

-- a state that memory stopped stays in it
emitting_stopped : (f : ℕ) (ps : PropTrees) (a : State) (others : PropTrees) (ls : List Literal) (c : State) → c.halt ≡ Some Memory → Emitting f ps a others ls c
emitting_stopped f ps a others ls c e = record { runs = inr e; literals_are = λ h. absurd (let y : None ≡ Some Memory = sym h ∙ e in cc) }

pub emitting_kept : (f : ℕ) (ps : PropTrees) (a : State) (p : PropTree) (others : PropTrees) (ls ks : List Literal) (b c d : State) (l : Literal) → Emitting f ps a (prop p others) ls b →
    Runs (emitted f (length b.milp.cols) p) b c → (c.halt ≡ None → l ≡ literal f (length b.milp.cols) p) → Keeps ls l ks c d → Emitting f ps a others ks d
emitting_kept f ps a p others ls ks b c d l w r g k = ⊎_elim
    (λ (e : (ks ≡ ls ++ l ∷ []) × (d ≡ c)). subst (λ s. Emitting f ps a others ks s) (sym e.1) (subst (λ xs. Emitting f ps a others xs c) (sym e.0) (emitting_more f ps a p others ls b c l w r g)))
    (λ (e : d.halt ≡ Some Memory). emitting_stopped f ps a others ks d e) k.keeps

pub emitting_done : (f : ℕ) (ps : PropTrees) (a b : State) (ls : List Literal) → Emitting f ps a no_props ls b → Runs (all_emitted f (length a.milp.cols) ps) a b
emitting_done f ps a b ls w = record { runs = w.runs }
