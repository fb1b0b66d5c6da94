-- Rows that are stored, part by part.
use Rattle.std.proofs.Common.{◌≡◌, ℕ, suc, ◌+◌, ◌<◌, Bool, true, false, ◌&&◌, List, length, get_or, drop, drop-cons, add-one, ap, sym, ◌∙◌}
use Rattle.lp_rows.specs.Rows.{RowValue}
use Rattle.model_tree.specs.declared.tree.Disjunct.{Disjunct}
use Rattle.model_tree.specs.declared.tree.Disjunction.{Disjunction}
use Rattle.model_tree.specs.Tree.{BlockTree, block, Disjunctions}
use Rattle.model_tree.specs.View.{disjuncts_of, disjunctions_of, disjunct_of, disjunction_of, rows_in, disjunctions_in}
use Rattle.model_tree.specs.Sound.{are_rows_stored, is_stored, are_disjunctions_stored, are_disjuncts_stored}

both : (a b : Bool) → a ≡ true → b ≡ true → (a && b) ≡ true
both true b p q = q
both false b p q = absurd (cc p)

block_parts : (tree : BlockTree) → are_rows_stored (rows_in tree) ≡ true → are_disjunctions_stored (disjunctions_in tree) ≡ true → is_stored tree ≡ true
block_parts (block items ds) p q = both (are_rows_stored items.rows) (are_disjunctions_stored ds) p q

pub block_stored : (tree : BlockTree) (rows : List (RowValue × ℕ)) (ds : Disjunctions) → rows ≡ rows_in tree → ds ≡ disjunctions_in tree → are_rows_stored rows ≡ true → are_disjunctions_stored ds ≡ true → is_stored tree ≡ true
block_stored tree rows ds r d p q = block_parts tree (ap are_rows_stored (sym r) ∙ p) (ap are_disjunctions_stored (sym d) ∙ q)

-- one more disjunction, and one more disjunct
pub disjunctions_stored_at : (ds : List Disjunction) (i : ℕ) (d : Disjunction) → i < length ds → d ≡ get_or ds i d → are_disjuncts_stored (disjunction_of d).1 ≡ true
    → are_disjunctions_stored (disjunctions_of (drop i ds)) ≡ are_disjunctions_stored (disjunctions_of (drop (i + 1) ds))
disjunctions_stored_at ds i d h e p = rw (add-one, drop-cons ds i d, ← e) (ap (λ b. b && are_disjunctions_stored (disjunctions_of (drop (suc i) ds))) p)

pub disjuncts_stored_at : (js : List Disjunct) (i : ℕ) (j : Disjunct) → i < length js → j ≡ get_or js i j → is_stored (disjunct_of j).1 ≡ true
    → are_disjuncts_stored (disjuncts_of (drop i js)) ≡ are_disjuncts_stored (disjuncts_of (drop (i + 1) js))
disjuncts_stored_at js i j h e p = rw (add-one, drop-cons js i j, ← e) (ap (λ b. b && are_disjuncts_stored (disjuncts_of (drop (suc i) js))) p)
