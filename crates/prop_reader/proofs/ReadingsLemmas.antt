-- What is read of a proposition's tokens is what is read of the proposition.
use Rattle.std.proofs.Common.{◌≡◌, ℕ, ◌≤◌, ◌-◌, ◌^◌, Bool, true, false, ◌&&◌, List, [], ◌∷◌, ◌++◌, length, map, Option, Some, None, is_some, Result, Ok, Err, if◌then◌else◌, refl, ap, sym, ◌∙◌, arith}
use Rattle.std.specs.Option.{option_map}
use Rattle.std.specs.Prelude.{unwrap_or}
use Rattle.propositions.specs.Tree.{PropTree, atom, PropTrees, prop}
use Rattle.propositions.specs.View.{in_order}
use Rattle.model_tree.specs.Variables.{BooleanValue}
use Rattle.gdp_grammar.specs.declared.cause.ReadCause.{ReadCause}
use Rattle.text_grammar.specs.Outcomes.{◌>>=◌, result_map}
use Rattle.gdp_grammar.specs.PropNames.{boolean_number, are_known, are_all_known, combined, tree_in, trees_in}
use Rattle.gdp_grammar.specs.PropReading.{wants, made_of, arguments, application, by_names, prop_of}
use Rattle.gdp_grammar.specs.PropSizes.{named_greatest, named_depth, named_nodes, named_most, named_greatest_within, named_depth_within, named_nodes_within, named_most_within}
use Rattle.gdp_grammar.specs.PropTexts.{Operator, NamedProp, named, applied, takes}
use Rattle.gdp_grammar.specs.Tokens.{Piece}
use Rattle.gdp_grammar.proofs.PropFusion.{IsHomomorphism, made_fused}
use Rattle.prop_reader.specs.declared.size.Size.{Size}
use Rattle.prop_reader.specs.LogicLines.{kept, kept_tree}
use Rattle.prop_reader.specs.SizeCauses.{refusal_by, refusal_of_size, refusal_of_named}
use Rattle.prop_reader.specs.steps.Readings.{ReadTree, OpenTree, reading_of, atom_tree, name_reading, one_tree_more, with_reading, whole_tree, closed_reading, by_readings}
use Rattle.prop_reader.specs.steps.Sizes.{count_end, size_of, joined_size, whole_size}
use Rattle.prop_reader.proofs.SizeCausesLemmas.{sized_refusal, within_limits, none_refused}
use Rattle.prop_reader.proofs.SizesLemmas.{list_size, joins_size, counts_more, whole_sized, takes_same}

-- the trees of arguments, or the cause against the first that has one
abbrev kept_trees : List BooleanValue → List NamedProp → Result (List PropTree) ReadCause
kept_trees booleans [] = Ok []
kept_trees booleans (p ∷ ps) = kept_tree booleans p >>= λ t. (kept_trees booleans ps >>= λ ts. Ok (t ∷ ts))

-- an open operator, with what is read of its arguments
abbrev opened_of : List BooleanValue → Operator × List NamedProp → OpenTree
opened_of booleans o = (o.0, count_end (length o.1), list_size booleans o.1, kept_trees booleans o.1)

-- a name
name_read : (booleans : List BooleanValue) (name : List ℕ) → reading_of booleans (named name) ≡ name_reading booleans name
name_read booleans name = by (boolean_number booleans name)
  where
    size : Option ℕ → Size
    size o = record { known = is_some o; greatest = 0; depth = 1; nodes = 1; most = 0 }

    read : Option ℕ → Result PropTree ReadCause → ReadTree
    read o t = (size o, t)

    by : (o : Option ℕ) → read o (kept (refusal_by (is_some o) 0 1 1 0) (atom (unwrap_or o 0))) ≡ read o (atom_tree o)
    by None = refl
    by (Some id) = refl

-- one argument more
trees_more : (booleans : List BooleanValue) (ps : List NamedProp) (p : NamedProp) → one_tree_more (kept_trees booleans ps) (kept_tree booleans p) ≡ kept_trees booleans (ps ++ p ∷ [])
trees_more booleans [] p = by (kept_tree booleans p)
  where
    by : (r : Result PropTree ReadCause) → (r >>= λ t. Ok (t ∷ [])) ≡ (r >>= λ t. Ok (t ∷ []))
    by r = refl
trees_more booleans (q ∷ ps) p =
    by (kept_tree booleans q) (kept_trees booleans ps) (kept_tree booleans p)
    ∙ ap (λ (ts : Result (List PropTree) ReadCause). (kept_tree booleans q >>= λ t. (ts >>= λ us. Ok (t ∷ us)))) (trees_more booleans ps p)
  where
    by : (a : Result PropTree ReadCause) (b : Result (List PropTree) ReadCause) (c : Result PropTree ReadCause)
        → one_tree_more (a >>= λ t. (b >>= λ ts. Ok (t ∷ ts))) c ≡ (a >>= λ t. (one_tree_more b c >>= λ us. Ok (t ∷ us)))
    by (Ok t) (Ok ts) (Ok u) = refl
    by (Ok t) (Ok ts) (Err d) = refl
    by (Ok t) (Err d) c = refl
    by (Err d) b c = refl

argument_joins : (booleans : List BooleanValue) (o : Operator) (ps : List NamedProp) (p : NamedProp)
    → with_reading (opened_of booleans (o, ps)) (reading_of booleans p) ≡ opened_of booleans (o, ps ++ p ∷ [])
argument_joins booleans o ps p =
    ap (λ (n : ℕ). open_at n (joined_size (list_size booleans ps) (size_of booleans p)) (one_tree_more (kept_trees booleans ps) (kept_tree booleans p))) (counts_more ps p)
    ∙ ap (λ (s : Size). open_at (count_end (length (ps ++ p ∷ []))) s (one_tree_more (kept_trees booleans ps) (kept_tree booleans p))) (joins_size booleans ps p)
    ∙ ap (λ (ts : Result (List PropTree) ReadCause). open_at (count_end (length (ps ++ p ∷ []))) (list_size booleans (ps ++ p ∷ [])) ts) (trees_more booleans ps p)
  where
    open_at : ℕ → Size → Result (List PropTree) ReadCause → OpenTree
    open_at n s ts = (o, n, s, ts)

-- where the whole is within the limits, each argument is kept
first_known : (a b : Bool) → (a && b) ≡ true → (a ≡ true) × (b ≡ true)
first_known true b e = (refl, e)
first_known false b e = absurd (cc e)

kept_whole : (booleans : List BooleanValue) (p : NamedProp) → refusal_of_named booleans p ≡ None → kept_tree booleans p ≡ Ok (tree_in booleans p)
kept_whole booleans p none = ap (λ (o : Option ReadCause). kept o (tree_in booleans p)) none

all_kept : (booleans : List BooleanValue) (ps : List NamedProp) → are_all_known booleans (arguments ps) ≡ true → named_greatest_within (arguments ps) ≤ 1000 → named_depth_within (arguments ps) ≤ 16
    → named_nodes_within (arguments ps) ≤ 5000 → named_most_within (arguments ps) ≤ 200 → kept_trees booleans ps ≡ Ok (map (tree_in booleans) ps)
all_kept booleans [] known greatest depth nodes most = refl
all_kept booleans (p ∷ ps) known greatest depth nodes most =
    let parts = first_known (are_known booleans p) (are_all_known booleans (arguments ps)) known in
    let first : refusal_of_named booleans p ≡ None =
    none_refused (are_known booleans p) (named_greatest p) (named_depth p) (named_nodes p) (named_most p)
    (record { known = parts.0; greatest = omega (arith, greatest); depth = omega (arith, depth); nodes = omega (arith, nodes); most = omega (arith, most) }) in
    ap (λ (t : Result PropTree ReadCause). (t >>= λ t. (kept_trees booleans ps >>= λ ts. Ok (t ∷ ts)))) (kept_whole booleans p first)
    ∙ ap (λ (ts : Result (List PropTree) ReadCause). (ts >>= λ ts. ok_of (tree_in booleans p ∷ ts)))
    (all_kept booleans ps parts.1 (omega (arith, greatest)) (omega (arith, depth)) (omega (arith, nodes)) (omega (arith, most)))
  where
    ok_of : List PropTree → Result (List PropTree) ReadCause
    ok_of ts = Ok ts

trees_ordered : (booleans : List BooleanValue) (ps : List NamedProp) → in_order (map (tree_in booleans) ps) ≡ trees_in booleans (arguments ps)
trees_ordered booleans [] = refl
trees_ordered booleans (p ∷ ps) = ap (λ (ts : PropTrees). prop (tree_in booleans p) ts) (trees_ordered booleans ps)

-- the tree of an operator over what is read of its arguments
whole_kept : (booleans : List BooleanValue) (o : Operator) (ps : List NamedProp) (refusal : Option ReadCause) → refusal ≡ refusal_of_named booleans (applied o (arguments ps))
    → whole_tree o refusal (kept_trees booleans ps) ≡ kept refusal (tree_in booleans (applied o (arguments ps)))
whole_kept booleans o ps (Some cause) is = refl
whole_kept booleans o ps None is =
    let q : NamedProp = applied o (arguments ps) in
    let w = within_limits (are_known booleans q) (named_greatest q) (named_depth q) (named_nodes q) (named_most q) (sym is) in
    ap (λ (ts : Result (List PropTree) ReadCause). result_map (λ ts. combined o (in_order ts)) ts)
    (all_kept booleans ps w.known (omega (arith, w.greatest)) (omega (arith, w.depth)) (omega (arith, w.nodes)) (omega (arith, w.most)))
    ∙ ap (λ (ts : PropTrees). ok_of (combined o ts)) (trees_ordered booleans ps)
  where
    ok_of : PropTree → Result PropTree ReadCause
    ok_of t = Ok t

closes : (booleans : List BooleanValue) (o : Operator) (ps : List NamedProp) → closed_reading (opened_of booleans (o, ps)) ≡ option_map (reading_of booleans) (application (o, ps))
closes booleans o ps =
    ap (λ (b : Bool). chosen b (whole (whole_size o (count_end (length ps)) (list_size booleans ps)))) (takes_same (2 ^ 64 - 1) (omega arith) o (length ps))
    ∙ ap (λ (s : Size). chosen (takes o (length ps)) (whole s)) (whole_sized booleans o ps)
    ∙ ap (λ (r : Option ReadCause). chosen (takes o (length ps)) (size_of booleans q, whole_tree o r (kept_trees booleans ps))) (sized_refusal booleans q)
    ∙ ap (λ (t : Result PropTree ReadCause). chosen (takes o (length ps)) (size_of booleans q, t)) (whole_kept booleans o ps (refusal_of_named booleans q) refl)
    ∙ by (takes o (length ps))
  where
    chosen : Bool → ReadTree → Option ReadTree
    chosen b r = if b then Some r else None

    q : NamedProp
    q = applied o (arguments ps)

    whole : Size → ReadTree
    whole s = (s, whole_tree o (refusal_of_size s) (kept_trees booleans ps))

    by : (b : Bool) → (if b then Some (reading_of booleans (applied o (arguments ps))) else None) ≡ option_map (reading_of booleans) (if b then Some (applied o (arguments ps)) else None)
    by true = refl
    by false = refl

readings_follow : (booleans : List BooleanValue) → IsHomomorphism by_names (by_readings booleans) (reading_of booleans) (opened_of booleans)
readings_follow booleans = record {
  of_name = λ name. name_read booleans name;
  opened = λ o. refl;
  with_argument = λ o p. sym (argument_joins booleans o.0 o.1 p);
  closed = λ o. sym (closes booleans o.0 o.1);
}

pub readings_made : (booleans : List BooleanValue) (ps : List Piece) → made_of (by_readings booleans) [] wants ps ≡ result_map (reading_of booleans) (prop_of ps)
unfolding prop_of
readings_made booleans ps = made_fused by_names (by_readings booleans) (reading_of booleans) (opened_of booleans) (readings_follow booleans) [] wants ps
