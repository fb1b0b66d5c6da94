use Rattle.std.proofs.Common.{◌*◌, ◌/◌, ◌++◌, take, drop, sym, ◌≡◌, ◌+◌, ℕ, ℤ, pos, List, length, arith, ap, ◌∙◌, subst}
use Rattle.std.proofs.lemmas.Bool.{false≢true}
use Rattle.std.proofs.lemmas.List.{length-replicate}
use Rattle.simplex_rows.specs.Matrix.{AreNarrowRows, IsRectangle}
use Rattle.int_linear.specs.Sums.{matrix}
use Rattle.simplex_rows.specs.Index.{IsIndexOf}
use Rattle.exact_simplex.proofs.Indexing.{columns_fit}
use Rattle.exact_simplex.proofs.Sound.{whole_written}
use Rattle.lp_frame.specs.declared.force.AtMost.{AtMost}
use Rattle.exact_simplex.specs.steps.FirstRows.{AreFirst, IsFirstBasis}
use Rattle.exact_simplex.proofs.FirstTable.{first_tableau, first_sound, made, made_first, made_shape}
use Rattle.exact_simplex.proofs.tableau.Tableau.make_in.Goals as goal

-- of the same rows and goal
first_of_same : (columns : ℕ) (rows rest : List AtMost) (goal same : List (ℕ × ℤ)) (now : List (List ℤ)) → rows ≡ rest → goal ≡ same → AreFirst columns rows goal now → AreFirst columns rest same now
first_of_same columns rows rest goal same now a b f = subst (λ g. AreFirst columns rest g now) b (subst (λ r. AreFirst columns r goal now) a f)

pub invariant_of-result : goal.invariant_of-result
invariant_of-result c =
    let form = c.args.standard.now in
    let columns = c.columns-columns.result in
    let height = length c.rows-height.result.now in
    let he : length c.rows-height.result.now ≡ length c.args.standard.now.rows = ap length c.rows-height.ensures in
    let rows : AreFirst c.columns-columns.result c.args.standard.now.rows c.args.standard.now.goal c.in_ok-rows.rows.items =
    first_of_same columns c.rows.result.now c.args.standard.now.rows c.goal.result.now c.args.standard.now.goal c.in_ok-rows.rows.items c.rows.ensures c.goal.ensures c.in_ok-rows.ensures in
    let basis : IsFirstBasis c.columns-columns.result (length c.rows-height.result.now) c.in_ok-basis.basis.items = c.in_ok-basis.ensures in
    let first = made_first form columns height c.in_ok-rows.rows.items c.in_ok-basis.basis.items c.columns-columns.ensures.value he rows basis in
    let count : length c.in_ok-rows.rows.items ≡ length c.rows-height.result.now + 1 = let n = rows.count in omega arith in
    let spare : length c.in_ok-spare.spare ≡ c.columns-columns.result + length c.rows-height.result.now + 3 =
    ap length c.in_ok-spare.ensures ∙ length-replicate (c.columns-columns.result + length c.rows-height.result.now + 3) (pos 0) in
    let all : take c.in_ok-index.index.len (c.index_rows.new.index ++ drop (length c.index_rows.new.index) c.in_ok-index.index.items) ≡ c.index_rows.new.index =
    whole_written c.in_ok-index.index.len c.index_rows.new.index c.in_ok-index.index.items (c.index_rows.auto.index ∙ c.deref_mut.ensures.len) in
    let indexed : IsIndexOf (columns + height + 3) (height + 1) (height / 64 + 1) (matrix c.in_ok-rows.rows.items) c.index_rows.new.index =
    subst (λ n. IsIndexOf (columns + height + 3) n (height / 64 + 1) (matrix c.in_ok-rows.rows.items) c.index_rows.new.index) count
    (subst (λ rs. IsIndexOf (columns + height + 3) (length rs) (height / 64 + 1) (matrix rs) c.index_rows.new.index) c.deref-2.ensures.value c.index_rows.ensures.index) in
    record {
      sound = first_sound form c.columns-columns.ensures.sound (made columns height c.in_ok-rows.rows.items c.in_ok-basis.basis.items) first count basis.count (made_shape form columns height c.in_ok-rows.rows.items he rows);
      spare_width = spare;
      indexed = subst (λ ns. IsIndexOf (columns + height + 3) (height + 1) (height / 64 + 1) (matrix c.in_ok-rows.rows.items) ns) (sym all) indexed;
      narrow = subst (λ rs. AreNarrowRows rs) c.deref.ensures.value c.narrow_rows.ensures;
      written_width = ap length c.in_ok-written.ensures ∙ length-replicate (c.columns-columns.result + length c.rows-height.result.now + 3) (pos 0);
      column_size = ap length c.in_ok-column.ensures ∙ length-replicate (length c.rows-height.result.now + 1) (pos 0);
      column_kept = λ l. absurd (omega arith);
      feasible = λ e. absurd (false≢true e);
    }

pub returns-clause-sound : goal.returns-clause-sound
returns-clause-sound c =
    let form = c.args.standard.now in
    let columns = c.columns-columns.result in
    let height = length c.rows-height.result.now in
    let he : length c.rows-height.result.now ≡ length c.args.standard.now.rows = ap length c.rows-height.ensures in
    let rows : AreFirst c.columns-columns.result c.args.standard.now.rows c.args.standard.now.goal c.in_ok-rows.rows.items =
    first_of_same columns c.rows.result.now c.args.standard.now.rows c.goal.result.now c.args.standard.now.goal c.in_ok-rows.rows.items c.rows.ensures c.goal.ensures c.in_ok-rows.ensures in
    let basis : IsFirstBasis c.columns-columns.result (length c.rows-height.result.now) c.in_ok-basis.basis.items = c.in_ok-basis.ensures in
    let first = made_first form columns height c.in_ok-rows.rows.items c.in_ok-basis.basis.items c.columns-columns.ensures.value he rows basis in
    let count : length c.in_ok-rows.rows.items ≡ length c.rows-height.result.now + 1 = let n = rows.count in omega arith in
    first_sound form c.columns-columns.ensures.sound (made columns height c.in_ok-rows.rows.items c.in_ok-basis.basis.items) first count basis.count (made_shape form columns height c.in_ok-rows.rows.items he rows)

pub returns-clause-first : goal.returns-clause-first
returns-clause-first c =
    let form = c.args.standard.now in
    let columns = c.columns-columns.result in
    let height = length c.rows-height.result.now in
    let he : length c.rows-height.result.now ≡ length c.args.standard.now.rows = ap length c.rows-height.ensures in
    let rows : AreFirst c.columns-columns.result c.args.standard.now.rows c.args.standard.now.goal c.in_ok-rows.rows.items =
    first_of_same columns c.rows.result.now c.args.standard.now.rows c.goal.result.now c.args.standard.now.goal c.in_ok-rows.rows.items c.rows.ensures c.goal.ensures c.in_ok-rows.ensures in
    made_first form columns height c.in_ok-rows.rows.items c.in_ok-basis.basis.items c.columns-columns.ensures.value he rows c.in_ok-basis.ensures

pub returns-clause-tableau : goal.returns-clause-tableau
returns-clause-tableau c =
    let form = c.args.standard.now in
    let columns = c.columns-columns.result in
    let height = length c.rows-height.result.now in
    let he : length c.rows-height.result.now ≡ length c.args.standard.now.rows = ap length c.rows-height.ensures in
    let rows : AreFirst c.columns-columns.result c.args.standard.now.rows c.args.standard.now.goal c.in_ok-rows.rows.items =
    first_of_same columns c.rows.result.now c.args.standard.now.rows c.goal.result.now c.args.standard.now.goal c.in_ok-rows.rows.items c.rows.ensures c.goal.ensures c.in_ok-rows.ensures in
    first_tableau form c.columns-columns.ensures.sound (made columns height c.in_ok-rows.rows.items c.in_ok-basis.basis.items)
    (made_first form columns height c.in_ok-rows.rows.items c.in_ok-basis.basis.items c.columns-columns.ensures.value he rows c.in_ok-basis.ensures)

pub index_rows-requires-clause-columns : goal.index_rows-requires-clause-columns
index_rows-requires-clause-columns c =
    let n = c.columns-columns.result + length c.rows-height.result.now + 3 in
    let words = length c.rows-height.result.now / 64 + 1 in
    let size : length c.deref_mut.result.now ≡ (c.columns-columns.result + length c.rows-height.result.now + 3) * (length c.rows-height.result.now / 64 + 1) = c.deref_mut.ensures.len ∙ c.in_ok-index.ensures.len in
    columns_fit n words c.deref_mut.result.now size

pub index_rows-requires-clause-shape : goal.index_rows-requires-clause-shape
index_rows-requires-clause-shape c =
    let form = c.args.standard.now in
    let he : length c.rows-height.result.now ≡ length c.args.standard.now.rows = ap length c.rows-height.ensures in
    let rows : AreFirst c.columns-columns.result c.args.standard.now.rows c.args.standard.now.goal c.in_ok-rows.rows.items =
    first_of_same c.columns-columns.result c.rows.result.now c.args.standard.now.rows c.goal.result.now c.args.standard.now.goal c.in_ok-rows.rows.items c.rows.ensures c.goal.ensures c.in_ok-rows.ensures in
    (subst (λ rs. IsRectangle (c.columns-columns.result + length c.rows-height.result.now + 3) rs) (sym c.deref-2.ensures.value) (made_shape form c.columns-columns.result (length c.rows-height.result.now) c.in_ok-rows.rows.items he rows)).each
