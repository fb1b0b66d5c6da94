-- What a builder holds before a line is what the lines before it own.
use Rattle.std.proofs.Common.{◌≡◌, ℕ, zero, suc, ◌<◌, true, false, List, [], ◌∷◌, ◌++◌, Option, Some, None, is_some, refl, ap, sym, subst, ◌∙◌, ◌⊎◌, inl, inr, arith}
use Rattle.std.proofs.lemmas.List.{append-nil}
use Rattle.lp_rows.specs.Rows.{RowValue}
use Rattle.propositions.specs.Tree.{PropTree}
use Rattle.model_tree.specs.declared.tree.Mode.{Mode}
use Rattle.model_builder.specs.Building.{OpenBlock, OpenDisjunction, empty_block, closed_block}
use Rattle.model_builder.specs.Nesting.{closed_disjunct, closed_disjunction}
use Rattle.model_tree.specs.View.{disjuncts, disjunctions}
use Rattle.gdp_grammar.specs.Nested.{row_marks, prop_marks, disjunction_marks, disjunct_marks, IsBlockOf}
use Rattle.gdp_grammar.specs.Stacks.{open_after, open_before, first_of, same_owner, owned}
use Rattle.gdp_grammar.specs.Owners.{LineKind, RowLine, LogicLine, DisjunctionLine, DisjunctLine, EndLine, OtherLine, Kinds, is_row, is_logic, is_disjunction, is_disjunct, is_end, depth, IsNested}
use Rattle.gdp_grammar.proofs.NestedTrees.{owns, disjunctions_nested}
use Rattle.gdp_grammar.proofs.Owned.{some_depth}
use Rattle.gdp_grammar.proofs.Owning.{Has, same_self, other_below, Keeps, keep_kind, keep_owner, adds_row, adds_prop, adds_disjunction, adds_disjunct, Descends, descends, descends_more, new_owner, gone_now, DisjunctionsStand, DisjunctsStand, disjunctions_later, disjuncts_later, disjunctions_push, disjuncts_push, disjunction_marks_push, disjunct_marks_push, row_marks_push, prop_marks_push}

-- an open block has what its owner has, where a disjunction that is open in it is pending
abbrev pub BlockHolds : Kinds → ℕ → OpenBlock → Option ℕ → List ℕ → Type 0
BlockHolds kinds n o whose pending = Has kinds n whose (row_marks o.rows) (prop_marks o.props) (disjunction_marks (disjunctions o.closed) ++ pending) [] × DisjunctionsStand kinds n (disjunctions o.closed)

-- an open disjunction has what its line has, where a disjunct that is open in it is pending
abbrev pub ChoiceHolds : Kinds → ℕ → OpenDisjunction → List ℕ → Type 0
ChoiceHolds kinds n d pending = Has kinds n (Some d.mark) [] [] [] (disjunct_marks (disjuncts d.closed) ++ pending) × DisjunctsStand kinds n (disjuncts d.closed)

-- the owner of what stands in an open block with these around it: the root has none
abbrev pub block_owner : OpenBlock → List (OpenBlock × OpenDisjunction) → Option ℕ
block_owner o [] = None
block_owner o (p ∷ ps) = Some o.mark

-- the lines that opened a block and what is around it, from the inside out
abbrev pub opening_lines : OpenBlock → List (OpenBlock × OpenDisjunction) → List ℕ
opening_lines o [] = []
opening_lines o (p ∷ ps) = o.mark ∷ p.1.mark ∷ opening_lines p.0 ps

-- with the disjunction that is open in the block, if one is
abbrev pub with_opened : Option OpenDisjunction → List ℕ → List ℕ
with_opened None lines = lines
with_opened (Some d) lines = d.mark ∷ lines

abbrev pub pending_in : Option OpenDisjunction → List ℕ
pending_in None = []
pending_in (Some d) = d.mark ∷ []

abbrev pub OpenedHolds : Kinds → ℕ → Option OpenDisjunction → Type 0
OpenedHolds kinds n None = Unit {0}
OpenedHolds kinds n (Some d) = ChoiceHolds kinds n d []

-- what is around an open block
abbrev pub AroundHolds : Kinds → ℕ → OpenBlock → List (OpenBlock × OpenDisjunction) → Type 0
AroundHolds kinds n o [] = Unit {0}
AroundHolds kinds n o (p ∷ ps) = ChoiceHolds kinds n p.1 (o.mark ∷ []) × BlockHolds kinds n p.0 (block_owner p.0 ps) (p.1.mark ∷ []) × AroundHolds kinds n p.0 ps

pub record Holds (kinds : Kinds) (n : ℕ) (inner : OpenBlock) (opened : Option OpenDisjunction) (outer : List (OpenBlock × OpenDisjunction)) : Type 0 where
  pub nested : IsNested kinds n
  pub lines : open_before kinds n ≡ with_opened opened (opening_lines inner outer)
  pub block : BlockHolds kinds n inner (block_owner inner outer) (pending_in opened)
  pub choice : OpenedHolds kinds n opened
  pub around : AroundHolds kinds n inner outer

-- nothing is open before the first line
pub holds_nothing : (kinds : Kinds) → Holds kinds 0 (empty_block 0 0) None []
unfolding open_before owned
holds_nothing kinds = record {
  nested = λ k within is. absurd (omega (arith, within));
  lines = refl;
  block = (record { rows_are = refl; props_are = refl; disjunctions_are = refl; disjuncts_are = refl }, tt);
  choice = tt;
  around = tt;
}

-- what keeps what it has is held on
block_on : (kinds : Kinds) (n : ℕ) (o : OpenBlock) (whose : Option ℕ) (pending : List ℕ) → Keeps kinds n whose → BlockHolds kinds n o whose pending → BlockHolds kinds (suc n) o whose pending
block_on kinds n o whose pending keeps h = (keeps (row_marks o.rows) (prop_marks o.props) (disjunction_marks (disjunctions o.closed) ++ pending) [] h.0, disjunctions_later kinds n (disjunctions o.closed) h.1)

choice_on : (kinds : Kinds) (n : ℕ) (d : OpenDisjunction) (pending : List ℕ) → Keeps kinds n (Some d.mark) → ChoiceHolds kinds n d pending → ChoiceHolds kinds (suc n) d pending
choice_on kinds n d pending keeps h = (keeps [] [] [] (disjunct_marks (disjuncts d.closed) ++ pending) h.0, disjuncts_later kinds n (disjuncts d.closed) h.1)

-- the lines around a block that were opened before line h
abbrev AroundDescends : ℕ → List (OpenBlock × OpenDisjunction) → Type 0
AroundDescends h [] = Unit {0}
AroundDescends h (p ∷ ps) = Descends h (p.1.mark ∷ opening_lines p.0 ps)

around_below : (h : ℕ) (p : OpenBlock × OpenDisjunction) (ps : List (OpenBlock × OpenDisjunction)) → AroundDescends h (p ∷ ps) → AroundDescends h ps
around_below h p [] d = tt
around_below h p (q ∷ qs) d = descends_more p.0.mark h (q.1.mark ∷ opening_lines q.0 qs) (omega (arith, d.0, d.1.0)) d.1.1

around_on : (kinds : Kinds) (n h : ℕ) (o : OpenBlock) (ps : List (OpenBlock × OpenDisjunction)) → ((j : ℕ) → j < h → Keeps kinds n (Some j)) → Keeps kinds n None
    → AroundDescends h ps → AroundHolds kinds n o ps → AroundHolds kinds (suc n) o ps
around_on kinds n h o [] keeps root d held = tt
around_on kinds n h o (p ∷ ps) keeps root d held =
    (choice_on kinds n p.1 (o.mark ∷ []) (keeps p.1.mark d.0) held.0, whose ps d held.1, around_on kinds n h p.0 ps keeps root (around_below h p ps d) held.2)
  where
    whose : (qs : List (OpenBlock × OpenDisjunction)) → Descends h (p.1.mark ∷ opening_lines p.0 qs) → BlockHolds kinds n p.0 (block_owner p.0 qs) (p.1.mark ∷ []) → BlockHolds kinds (suc n) p.0 (block_owner p.0 qs) (p.1.mark ∷ [])
    whose [] d b = block_on kinds n p.0 None (p.1.mark ∷ []) root b
    whose (q ∷ qs) d b = block_on kinds n p.0 (Some p.0.mark) (p.1.mark ∷ []) (keeps p.0.mark (omega (arith, d.0, d.1.0))) b

-- the block and what is around it, where its own line is below h too
abbrev InnerDescends : ℕ → OpenBlock → List (OpenBlock × OpenDisjunction) → Type 0
InnerDescends h o ps = Descends h (opening_lines o ps)

inner_on : (kinds : Kinds) (n h : ℕ) (o : OpenBlock) (ps : List (OpenBlock × OpenDisjunction)) (pending : List ℕ) → ((j : ℕ) → j < h → Keeps kinds n (Some j)) → Keeps kinds n None
    → InnerDescends h o ps → BlockHolds kinds n o (block_owner o ps) pending → BlockHolds kinds (suc n) o (block_owner o ps) pending
inner_on kinds n h o [] pending keeps root d b = block_on kinds n o None pending root b
inner_on kinds n h o (p ∷ ps) pending keeps root d b = block_on kinds n o (Some o.mark) pending (keeps o.mark d.0) b

inner_around : (h : ℕ) (o : OpenBlock) (ps : List (OpenBlock × OpenDisjunction)) → InnerDescends h o ps → AroundDescends h ps
inner_around h o [] d = tt
inner_around h o (p ∷ ps) d = descends_more o.mark h (p.1.mark ∷ opening_lines p.0 ps) (omega (arith, d.0)) d.1

-- lines stay nested
nested_on : (kinds : Kinds) (n : ℕ) → (is_end (kinds n) ≡ true → 0 < depth kinds n) → IsNested kinds n → IsNested kinds (suc n)
nested_on kinds n here nested k within is = go (k_is k n within)
  where
    k_is : (k n : ℕ) → k < suc n → (k < n) ⊎ (n ≡ k)
    k_is zero zero within = inr refl
    k_is zero (suc n) within = inl (omega arith)
    k_is (suc k) zero within = absurd (omega (arith, within))
    k_is (suc k) (suc n) within = elim (k_is k n (omega (arith, within))) [ inl l ↦ inl (omega (arith, l)) | inr e ↦ inr (omega (arith, e)) ]

    go : (k < n) ⊎ (n ≡ k) → 0 < depth kinds k
    go (inl less) = nested k less is
    go (inr e) = subst (λ (x : ℕ). 0 < depth kinds x) e (here (ap (λ (x : ℕ). is_end (kinds x)) e ∙ is))

no_end : (kinds : Kinds) (n : ℕ) (k : LineKind) → kinds n ≡ k → is_end k ≡ false → IsNested kinds n → IsNested kinds (suc n)
no_end kinds n k is other nested = nested_on kinds n (λ e. absurd (both (sym e ∙ ap is_end is ∙ other))) nested
  where
    both : true ≡ false → ⊥
    both e = absurd (cc e)

open_next : (kinds : Kinds) (n : ℕ) (k : LineKind) (st : List ℕ) → kinds n ≡ k → open_before kinds n ≡ st → open_before kinds (suc n) ≡ open_after k n st
unfolding open_before
open_next kinds n k st is was = ap (λ (x : LineKind). open_after x n (open_before kinds n)) is ∙ ap (open_after k n) was

-- where each owner keeps what it has
all_on : (kinds : Kinds) (n : ℕ) → ((o : Option ℕ) → Keeps kinds n o) → (o : OpenBlock) (ps : List (OpenBlock × OpenDisjunction)) → AroundHolds kinds n o ps → AroundHolds kinds (suc n) o ps
all_on kinds n keeps o [] a = tt
all_on kinds n keeps o (p ∷ ps) a =
    (choice_on kinds n p.1 (o.mark ∷ []) (keeps (Some p.1.mark)) a.0, block_on kinds n p.0 (block_owner p.0 ps) (p.1.mark ∷ []) (keeps (block_owner p.0 ps)) a.1, all_on kinds n keeps p.0 ps a.2)

-- where line h is on top, the owners below it and the root keep what they have
others : (kinds : Kinds) (n h : ℕ) (below : List ℕ) → open_before kinds n ≡ h ∷ below → (j : ℕ) → j < h → Keeps kinds n (Some j)
others kinds n h below is j less = keep_owner kinds n (Some j) (ap (λ (st : List ℕ). same_owner (Some j) (first_of st)) is ∙ other_below j h less)

not_root : (kinds : Kinds) (n h : ℕ) (below : List ℕ) → open_before kinds n ≡ h ∷ below → Keeps kinds n None
not_root kinds n h below is = keep_owner kinds n None (ap (λ (st : List ℕ). same_owner None (first_of st)) is)

under : (kinds : Kinds) (n h : ℕ) (below : List ℕ) → open_before kinds n ≡ h ∷ below → Descends h below
under kinds n h below is =
    let d : Descends n (h ∷ below) = subst (λ (st : List ℕ). Descends n st) is (descends kinds n) in
    d.1

-- a line that means nothing for nesting
pub other_holds : (kinds : Kinds) (n : ℕ) (inner : OpenBlock) (opened : Option OpenDisjunction) (outer : List (OpenBlock × OpenDisjunction)) → kinds n ≡ OtherLine → Holds kinds n inner opened outer → Holds kinds (suc n) inner opened outer
other_holds kinds n inner opened outer is h = record {
  nested = no_end kinds n OtherLine is refl h.nested;
  lines = open_next kinds n OtherLine (with_opened opened (opening_lines inner outer)) is h.lines;
  block = block_on kinds n inner (block_owner inner outer) (pending_in opened) (keeps (block_owner inner outer)) h.block;
  choice = on opened h.choice;
  around = all_on kinds n keeps inner outer h.around;
}
  where
    keeps : (o : Option ℕ) → Keeps kinds n o
    keeps o = keep_kind kinds n o (ap is_row is) (ap is_logic is) (ap is_disjunction is) (ap is_disjunct is)

    on : (o : Option OpenDisjunction) → OpenedHolds kinds n o → OpenedHolds kinds (suc n) o
    on None c = tt
    on (Some d) c = choice_on kinds n d [] (keeps (Some d.mark)) c

-- a row comes to the innermost block
pub row_holds : (kinds : Kinds) (n : ℕ) (inner : OpenBlock) (opened : Option OpenDisjunction) (outer : List (OpenBlock × OpenDisjunction)) (row : RowValue) → kinds n ≡ RowLine → is_some opened ≡ false
    → Holds kinds n inner opened outer → Holds kinds (suc n) (record inner { rows = inner.rows ++ (row, n) ∷ [] }) opened outer
row_holds kinds n inner (Some d) outer row is none h = absurd (cc none)
row_holds kinds n inner None [] row is none h = record {
  nested = no_end kinds n RowLine is refl h.nested;
  lines = open_next kinds n RowLine [] is h.lines;
  block = (
    subst (λ (rs : List ℕ). Has kinds (suc n) None rs (prop_marks inner.props) (disjunction_marks (disjunctions inner.closed) ++ []) []) (sym (row_marks_push inner.rows (row, n)))
        (adds_row kinds n None (row_marks inner.rows) (prop_marks inner.props) (disjunction_marks (disjunctions inner.closed) ++ []) [] is (ap (λ (st : List ℕ). same_owner None (first_of st)) h.lines) h.block.0),
    disjunctions_later kinds n (disjunctions inner.closed) h.block.1,
  );
  choice = tt;
  around = tt;
}
row_holds kinds n inner None (p ∷ ps) row is none h = record {
  nested = no_end kinds n RowLine is refl h.nested;
  lines = open_next kinds n RowLine (inner.mark ∷ p.1.mark ∷ opening_lines p.0 ps) is h.lines;
  block = (
    subst (λ (rs : List ℕ). Has kinds (suc n) (Some inner.mark) rs (prop_marks inner.props) (disjunction_marks (disjunctions inner.closed) ++ []) []) (sym (row_marks_push inner.rows (row, n)))
        (adds_row kinds n (Some inner.mark) (row_marks inner.rows) (prop_marks inner.props) (disjunction_marks (disjunctions inner.closed) ++ []) [] is (ap (λ (st : List ℕ). same_owner (Some inner.mark) (first_of st)) h.lines ∙ same_self (Some inner.mark)) h.block.0),
    disjunctions_later kinds n (disjunctions inner.closed) h.block.1,
  );
  choice = tt;
  around = around_on kinds n inner.mark inner (p ∷ ps) (others kinds n inner.mark (p.1.mark ∷ opening_lines p.0 ps) h.lines) (not_root kinds n inner.mark (p.1.mark ∷ opening_lines p.0 ps) h.lines) (under kinds n inner.mark (p.1.mark ∷ opening_lines p.0 ps) h.lines) h.around;
}

-- a proposition comes to the innermost block
pub prop_holds : (kinds : Kinds) (n : ℕ) (inner : OpenBlock) (opened : Option OpenDisjunction) (outer : List (OpenBlock × OpenDisjunction)) (q : PropTree) → kinds n ≡ LogicLine → is_some opened ≡ false
    → Holds kinds n inner opened outer → Holds kinds (suc n) (record inner { props = inner.props ++ (q, n) ∷ [] }) opened outer
prop_holds kinds n inner (Some d) outer q is none h = absurd (cc none)
prop_holds kinds n inner None [] q is none h = record {
  nested = no_end kinds n LogicLine is refl h.nested;
  lines = open_next kinds n LogicLine [] is h.lines;
  block = (
    subst (λ (qs : List ℕ). Has kinds (suc n) None (row_marks inner.rows) qs (disjunction_marks (disjunctions inner.closed) ++ []) []) (sym (prop_marks_push inner.props (q, n)))
        (adds_prop kinds n None (row_marks inner.rows) (prop_marks inner.props) (disjunction_marks (disjunctions inner.closed) ++ []) [] is (ap (λ (st : List ℕ). same_owner None (first_of st)) h.lines) h.block.0),
    disjunctions_later kinds n (disjunctions inner.closed) h.block.1,
  );
  choice = tt;
  around = tt;
}
prop_holds kinds n inner None (p ∷ ps) q is none h = record {
  nested = no_end kinds n LogicLine is refl h.nested;
  lines = open_next kinds n LogicLine (inner.mark ∷ p.1.mark ∷ opening_lines p.0 ps) is h.lines;
  block = (
    subst (λ (qs : List ℕ). Has kinds (suc n) (Some inner.mark) (row_marks inner.rows) qs (disjunction_marks (disjunctions inner.closed) ++ []) []) (sym (prop_marks_push inner.props (q, n)))
        (adds_prop kinds n (Some inner.mark) (row_marks inner.rows) (prop_marks inner.props) (disjunction_marks (disjunctions inner.closed) ++ []) [] is (ap (λ (st : List ℕ). same_owner (Some inner.mark) (first_of st)) h.lines ∙ same_self (Some inner.mark)) h.block.0),
    disjunctions_later kinds n (disjunctions inner.closed) h.block.1,
  );
  choice = tt;
  around = around_on kinds n inner.mark inner (p ∷ ps) (others kinds n inner.mark (p.1.mark ∷ opening_lines p.0 ps) h.lines) (not_root kinds n inner.mark (p.1.mark ∷ opening_lines p.0 ps) h.lines) (under kinds n inner.mark (p.1.mark ∷ opening_lines p.0 ps) h.lines) h.around;
}

-- what is pending comes after what is closed
pend_disjunction : (kinds : Kinds) (n m : ℕ) (whose : Option ℕ) (rows qs ds : List ℕ) → Has kinds n whose rows qs ((ds ++ []) ++ m ∷ []) [] → Has kinds n whose rows qs (ds ++ m ∷ []) []
pend_disjunction kinds n m whose rows qs ds has = subst (λ (xs : List ℕ). Has kinds n whose rows qs (xs ++ m ∷ []) []) (append-nil ds) has

pend_disjunct : (kinds : Kinds) (n m : ℕ) (whose : Option ℕ) (js : List ℕ) → Has kinds n whose [] [] [] ((js ++ []) ++ m ∷ []) → Has kinds n whose [] [] [] (js ++ m ∷ [])
pend_disjunct kinds n m whose js has = subst (λ (xs : List ℕ). Has kinds n whose [] [] [] (xs ++ m ∷ [])) (append-nil js) has

-- a disjunction is opened in the innermost block
pub disjunction_holds : (kinds : Kinds) (n : ℕ) (inner : OpenBlock) (opened : Option OpenDisjunction) (outer : List (OpenBlock × OpenDisjunction)) (mode : Mode) → kinds n ≡ DisjunctionLine → is_some opened ≡ false
    → Holds kinds n inner opened outer → Holds kinds (suc n) inner (Some (record { mode = mode; mark = n; closed = [] })) outer
disjunction_holds kinds n inner (Some d) outer mode is none h = absurd (cc none)
disjunction_holds kinds n inner None [] mode is none h = record {
  nested = no_end kinds n DisjunctionLine is refl h.nested;
  lines = open_next kinds n DisjunctionLine [] is h.lines;
  block = (
    pend_disjunction kinds (suc n) n None (row_marks inner.rows) (prop_marks inner.props) (disjunction_marks (disjunctions inner.closed))
        (adds_disjunction kinds n None (row_marks inner.rows) (prop_marks inner.props) (disjunction_marks (disjunctions inner.closed) ++ []) [] is (ap (λ (st : List ℕ). same_owner None (first_of st)) h.lines) h.block.0),
    disjunctions_later kinds n (disjunctions inner.closed) h.block.1,
  );
  choice = (new_owner kinds n, tt);
  around = tt;
}
disjunction_holds kinds n inner None (p ∷ ps) mode is none h = record {
  nested = no_end kinds n DisjunctionLine is refl h.nested;
  lines = open_next kinds n DisjunctionLine (inner.mark ∷ p.1.mark ∷ opening_lines p.0 ps) is h.lines;
  block = (
    pend_disjunction kinds (suc n) n (Some inner.mark) (row_marks inner.rows) (prop_marks inner.props) (disjunction_marks (disjunctions inner.closed))
        (adds_disjunction kinds n (Some inner.mark) (row_marks inner.rows) (prop_marks inner.props) (disjunction_marks (disjunctions inner.closed) ++ []) [] is (ap (λ (st : List ℕ). same_owner (Some inner.mark) (first_of st)) h.lines ∙ same_self (Some inner.mark)) h.block.0),
    disjunctions_later kinds n (disjunctions inner.closed) h.block.1,
  );
  choice = (new_owner kinds n, tt);
  around = around_on kinds n inner.mark inner (p ∷ ps) (others kinds n inner.mark (p.1.mark ∷ opening_lines p.0 ps) h.lines) (not_root kinds n inner.mark (p.1.mark ∷ opening_lines p.0 ps) h.lines) (under kinds n inner.mark (p.1.mark ∷ opening_lines p.0 ps) h.lines) h.around;
}

-- a disjunct is opened in the disjunction that is open
pub disjunct_holds : (kinds : Kinds) (n id : ℕ) (inner : OpenBlock) (d : OpenDisjunction) (outer : List (OpenBlock × OpenDisjunction)) → kinds n ≡ DisjunctLine
    → Holds kinds n inner (Some d) outer → Holds kinds (suc n) (empty_block id n) None ((inner, d) ∷ outer)
disjunct_holds kinds n id inner d outer is h =
    let below : List ℕ = opening_lines inner outer in
    record {
      nested = no_end kinds n DisjunctLine is refl h.nested;
      lines = open_next kinds n DisjunctLine (d.mark ∷ below) is h.lines;
      block = (new_owner kinds n, tt);
      choice = tt;
      around = (
        (
          pend_disjunct kinds (suc n) n (Some d.mark) (disjunct_marks (disjuncts d.closed))
              (adds_disjunct kinds n (Some d.mark) [] [] [] (disjunct_marks (disjuncts d.closed) ++ []) is (ap (λ (st : List ℕ). same_owner (Some d.mark) (first_of st)) h.lines ∙ same_self (Some d.mark)) h.choice.0),
          disjuncts_later kinds n (disjuncts d.closed) h.choice.1,
        ),
        inner_on kinds n d.mark inner outer (d.mark ∷ []) (others kinds n d.mark below h.lines) (not_root kinds n d.mark below h.lines) (under kinds n d.mark below h.lines) h.block,
        around_on kinds n d.mark inner outer (others kinds n d.mark below h.lines) (not_root kinds n d.mark below h.lines) (inner_around d.mark inner outer (under kinds n d.mark below h.lines)) h.around,
      );
    }

-- by an `end` line each owner keeps what it has
keeps_by_end : (kinds : Kinds) (n : ℕ) → kinds n ≡ EndLine → (o : Option ℕ) → Keeps kinds n o
keeps_by_end kinds n is o = keep_kind kinds n o (ap is_row is) (ap is_logic is) (ap is_disjunction is) (ap is_disjunct is)

end_nested : (kinds : Kinds) (n j : ℕ) (below : List ℕ) → open_before kinds n ≡ j ∷ below → IsNested kinds n → IsNested kinds (suc n)
end_nested kinds n j below was nested = nested_on kinds n (λ is. some_depth kinds n j below nested was) nested

-- a disjunction that is closed joins its block
joins_block : (kinds : Kinds) (n : ℕ) (inner : OpenBlock) (d : OpenDisjunction) (whose : Option ℕ) (below : List ℕ) → kinds n ≡ EndLine → open_before kinds n ≡ d.mark ∷ below
    → BlockHolds kinds n inner whose (d.mark ∷ []) → ChoiceHolds kinds n d [] → BlockHolds kinds (suc n) (record inner { closed = inner.closed ++ closed_disjunction d ∷ [] }) whose []
joins_block kinds n inner d whose below is was b c =
    let old : List ℕ = disjunction_marks (disjunctions inner.closed) in
    let marks : disjunction_marks (disjunctions (inner.closed ++ closed_disjunction d ∷ [])) ++ [] ≡ old ++ d.mark ∷ [] =
    append-nil (disjunction_marks (disjunctions (inner.closed ++ closed_disjunction d ∷ []))) ∙ disjunction_marks_push inner.closed (closed_disjunction d) in (
      subst (λ (xs : List ℕ). Has kinds (suc n) whose (row_marks inner.rows) (prop_marks inner.props) xs []) (sym marks) (keeps_by_end kinds n is whose (row_marks inner.rows) (prop_marks inner.props) (old ++ d.mark ∷ []) [] b.0),
      disjunctions_push kinds (suc n) inner.closed (closed_disjunction d) (disjunctions_later kinds n (disjunctions inner.closed) b.1)
          (gone_now kinds n d.mark below was (open_next kinds n EndLine (d.mark ∷ below) is was))
          (subst (λ (xs : List ℕ). Has kinds (suc n) (Some d.mark) [] [] [] xs) (append-nil (disjunct_marks (disjuncts d.closed))) (keeps_by_end kinds n is (Some d.mark) [] [] [] (disjunct_marks (disjuncts d.closed) ++ []) c.0))
          (disjuncts_later kinds n (disjuncts d.closed) c.1),
    )

-- the disjunction that is open is closed
pub choice_ends : (kinds : Kinds) (n : ℕ) (inner : OpenBlock) (d : OpenDisjunction) (outer : List (OpenBlock × OpenDisjunction)) → kinds n ≡ EndLine
    → Holds kinds n inner (Some d) outer → Holds kinds (suc n) (record inner { closed = inner.closed ++ closed_disjunction d ∷ [] }) None outer
choice_ends kinds n inner d [] is h = record {
  nested = end_nested kinds n d.mark [] h.lines h.nested;
  lines = open_next kinds n EndLine (d.mark ∷ []) is h.lines;
  block = joins_block kinds n inner d None [] is h.lines h.block h.choice;
  choice = tt;
  around = tt;
}
choice_ends kinds n inner d (p ∷ ps) is h =
    let below : List ℕ = inner.mark ∷ p.1.mark ∷ opening_lines p.0 ps in
    record {
      nested = end_nested kinds n d.mark below h.lines h.nested;
      lines = open_next kinds n EndLine (d.mark ∷ below) is h.lines;
      block = joins_block kinds n inner d (Some inner.mark) below is h.lines h.block h.choice;
      choice = tt;
      around = all_on kinds n (keeps_by_end kinds n is) inner (p ∷ ps) h.around;
    }

-- the innermost block is closed, and joins its disjunction
pub block_ends : (kinds : Kinds) (n : ℕ) (inner : OpenBlock) (p : OpenBlock × OpenDisjunction) (ps : List (OpenBlock × OpenDisjunction)) → kinds n ≡ EndLine
    → Holds kinds n inner None (p ∷ ps) → Holds kinds (suc n) p.0 (Some (record p.1 { closed = p.1.closed ++ closed_disjunct inner ∷ [] })) ps
block_ends kinds n inner p ps is h =
    let below : List ℕ = p.1.mark ∷ opening_lines p.0 ps in
    let old : List ℕ = disjunct_marks (disjuncts p.1.closed) in
    let marks : disjunct_marks (disjuncts (p.1.closed ++ closed_disjunct inner ∷ [])) ++ [] ≡ old ++ inner.mark ∷ [] =
    append-nil (disjunct_marks (disjuncts (p.1.closed ++ closed_disjunct inner ∷ []))) ∙ disjunct_marks_push p.1.closed (closed_disjunct inner) in
    record {
      nested = end_nested kinds n inner.mark below h.lines h.nested;
      lines = open_next kinds n EndLine (inner.mark ∷ below) is h.lines;
      block = block_on kinds n p.0 (block_owner p.0 ps) (p.1.mark ∷ []) (keeps_by_end kinds n is (block_owner p.0 ps)) h.around.1;
      choice = (
        subst (λ (xs : List ℕ). Has kinds (suc n) (Some p.1.mark) [] [] [] xs) (sym marks) (keeps_by_end kinds n is (Some p.1.mark) [] [] [] (old ++ inner.mark ∷ []) h.around.0.0),
        disjuncts_push kinds (suc n) p.1.closed (closed_disjunct inner) (disjuncts_later kinds n (disjuncts p.1.closed) h.around.0.1)
            (gone_now kinds n inner.mark below h.lines (open_next kinds n EndLine (inner.mark ∷ below) is h.lines)) (
              subst (λ (xs : List ℕ). Has kinds (suc n) (Some inner.mark) (row_marks inner.rows) (prop_marks inner.props) xs []) (append-nil (disjunction_marks (disjunctions inner.closed)))
                  (keeps_by_end kinds n is (Some inner.mark) (row_marks inner.rows) (prop_marks inner.props) (disjunction_marks (disjunctions inner.closed) ++ []) [] h.block.0),
              disjunctions_later kinds n (disjunctions inner.closed) h.block.1,
            ),
      );
      around = all_on kinds n (keeps_by_end kinds n is) p.0 ps h.around.2;
    }

-- where the root alone is open, its block is nested as the lines are
pub root_nested : (kinds : Kinds) (n : ℕ) (inner : OpenBlock) → Holds kinds n inner None [] → IsBlockOf kinds n None (closed_block inner)
root_nested kinds n inner h = (
  owns kinds n None (row_marks inner.rows) (prop_marks inner.props) (disjunction_marks (disjunctions inner.closed)) [] h.nested
      (subst (λ (xs : List ℕ). Has kinds n None (row_marks inner.rows) (prop_marks inner.props) xs []) (append-nil (disjunction_marks (disjunctions inner.closed))) h.block.0),
  disjunctions_nested kinds n (disjunctions inner.closed) h.nested h.block.1,
)
