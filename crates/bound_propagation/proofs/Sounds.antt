-- What a sound model's root rows keep.
use Rattle.std.proofs.Common.{◌≡◌, ℕ, ◌+◌, true, ◌&&◌, List, length, ap, ◌∙◌, add-one}
use Rattle.lp_rows.specs.declared.kinds.Kind.{Kind}
use Rattle.lp_rows.specs.Rows.{RowValue}
use Rattle.block_tree.specs.Variables.{VarValue}
use Rattle.bound_propagation.specs.Boxes.{Box}
use Rattle.bound_propagation.specs.Narrowing.{kinds_of}
use Rattle.bound_propagation.specs.Propagated.{box_after, whole_box, round, rounds}
use Rattle.milps.proofs.Columned.{and_left}
use Rattle.block_tree.specs.Sound.{IsSound, is_block_sound, are_rows_below, are_props_sound, are_disjunctions_sound}
use Rattle.block_tree.specs.Tree.{BlockTree, block}
use Rattle.block_tree.specs.Values.{ModelTree}
use Rattle.block_tree.specs.View.{rows_in}

root_below : (n m : ℕ) (b : BlockTree) → is_block_sound n m b ≡ true → are_rows_below n (rows_in b) ≡ true
root_below n m (block items ds) h = and_left (are_rows_below n items.rows) (are_props_sound m items.props && are_disjunctions_sound n m ds) h

pub rows_sound : (m : ModelTree) → IsSound m → are_rows_below (length m.vars) (rows_in m.root) ≡ true
rows_sound m s = root_below (length m.vars) (length m.booleans) m.root s.root

-- ---- rounds
pub rounds_begun : (kinds : ℕ → Kind) (rows : List (RowValue × ℕ)) (box : Box) (b : Box) → b ≡ box → b ≡ rounds 0 kinds rows box
rounds_begun kinds rows box b e = e

pub rounds_more : (n : ℕ) (kinds : ℕ → Kind) (rows : List (RowValue × ℕ)) (box a b : Box) → a ≡ rounds n kinds rows box → b ≡ round kinds rows a → b ≡ rounds (n + 1) kinds rows box
rounds_more n kinds rows box a b e f = rw add-one (f ∙ ap (λ x. round kinds rows x) e)

pub rounds_done : (m : ModelTree) (n : ℕ) (vars : List VarValue) (rows : List (RowValue × ℕ)) (b : Box) → n ≡ 8 → vars ≡ m.vars → rows ≡ rows_in m.root → b ≡ rounds n (kinds_of vars) rows (whole_box vars) → b ≡ box_after m
rounds_done m n vars rows b e f g h =
    h ∙ ap (λ k. rounds k (kinds_of vars) rows (whole_box vars)) e ∙ ap (λ vs. rounds 8 (kinds_of vs) rows (whole_box vs)) f ∙ ap (λ rs. rounds 8 (kinds_of m.vars) rs (whole_box m.vars)) g
