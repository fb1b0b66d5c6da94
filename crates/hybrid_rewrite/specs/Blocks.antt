-- The listed rewrite of a block: its rows, its propositions and its disjunctions, in the order of emission.
use Rattle.std.specs.Prelude.{ℕ, ◌+◌, pos, Bool, true, false, ◌&&◌, List, [], ◌∷◌, ◌++◌, length, Option}
use Rattle.lp_rows.specs.declared.kinds.Rel.TheVariants.{AtMost, AtLeast, Equal}
use Rattle.propositions.specs.Tree.{PropTree}
use Rattle.model_tree.specs.declared.tree.Mode.{Mode}
use Rattle.model_tree.specs.declared.tree.Mode.TheVariants.{Xor, Or}
use Rattle.block_tree.specs.Tree.{BlockTree, block, Disjunctions, no_disjunctions, disjunction, Disjuncts, no_disjuncts, disjunct}
use Rattle.hull_rewrite.specs.Choices.{is_xor}
use Rattle.hull_rewrite.specs.Copies.{first_unbounded, occurring, place}
use Rattle.hull_rewrite.specs.Expanded.{expanded_by}
use Rattle.logic_to_rows.specs.Emitted.{emitted, literal}
use Rattle.emission.specs.Items.{Item, stand, followed, Guard, always, where_true}
use Rattle.emission.specs.declared.literals.Literal.{Literal}
use Rattle.emission.specs.Literals.{literal_times}
use Rattle.bigm_rewrite.specs.Relaxed.{Setting, guarded, rows_items}
use Rattle.emission.specs.Sums.{Sum, plus, number, column, minus}

-- a literal is true: its column is 1, or 0 for a flipped one
abbrev pub demanded : Literal → Bool → Item
demanded l false = stand AtLeast (plus (column (pos 1) l.column) (number minus))
demanded l true = stand AtMost (column (pos 1) l.column)

-- a literal is true where the guard is on
abbrev pub demand : ℕ → Guard → Literal → Item
demand first always l = demanded l l.negated
demand first (where_true k) l = stand AtMost (plus (guarded first (pos 1) (where_true k)) (literal_times minus l))

abbrev pub props_items : Setting → Guard → ℕ → List (PropTree × ℕ) → List Item
props_items g on n [] = []
props_items g on n (q ∷ qs) =
    followed n (emitted g.first n q.0 ++ (demand g.first on (literal g.first n q.0) ∷ [])) (λ m. props_items g on m qs)

-- the sum of the indicators
unfoldable pub indicators : ℕ → Disjuncts → Sum
indicators first no_disjuncts = number (pos 0)
indicators first (disjunct head b js) = plus (column (pos 1) (first + head.indicator)) (indicators first js)

-- each indicator is at most Boolean k
abbrev pub each_below : ℕ → ℕ → Disjuncts → List Item
each_below first k no_disjuncts = []
each_below first k (disjunct head b js) =
    stand AtMost (plus (column (pos 1) (first + head.indicator)) (guarded first minus (where_true k))) ∷ each_below first k js

-- as many indicators are true as the mode says where the guard is on, and none where it is not
abbrev pub selection : ℕ → Guard → Mode → Disjuncts → List Item
selection first always Xor js = stand Equal (plus (indicators first js) (number minus)) ∷ []
selection first always Or js = stand AtLeast (plus (indicators first js) (number minus)) ∷ []
selection first (where_true k) Xor js = stand Equal (plus (indicators first js) (guarded first minus (where_true k))) ∷ []
selection first (where_true k) Or js = stand AtLeast (plus (indicators first js) (guarded first minus (where_true k))) ∷ each_below first k js

-- the frames of disjuncts: the one around them with its scale, or copies of these variables from column i on
pub data Frames : Type 0 where
  kept : (ℕ → ℕ) → Guard → Frames
  copied : List ℕ → ℕ → Frames

-- the first disjunct's frame, its scale by its indicator, and the frames of the others
abbrev pub frame_in : Frames → ℕ → ℕ
frame_in (kept f scale) = f
frame_in (copied vs i) = place vs i

abbrev pub scale_in : Frames → ℕ → Guard
scale_in (kept f scale) y = scale
scale_in (copied vs i) y = where_true y

abbrev pub next_frames : Frames → Frames
next_frames (kept f scale) = kept f scale
next_frames (copied vs i) = copied vs (i + length vs)

-- the disjunction is rewritten by hull
abbrev pub is_hulled : Setting → Mode → Disjuncts → Bool
is_hulled g mode js = is_xor mode && g.hulled js

-- what a disjunction adds of its own: nothing by big-M; by hull a refusal where a variable lacks a bound, and else the copies
abbrev pub own_items : Setting → (ℕ → ℕ) → Guard → Guard → ℕ → Bool → Disjuncts → ℕ → Option ℕ → List Item
own_items g f scale on n false js mark lacking = []
own_items g f scale on n true js mark lacking = expanded_by g f scale on n js mark lacking

-- the frames of its disjuncts
abbrev pub frames_of : Setting → (ℕ → ℕ) → Guard → ℕ → Bool → Disjuncts → Frames
frames_of g f scale n false js = kept f scale
frames_of g f scale n true js = copied (occurring g.vars js) n

-- A block with a frame f, a scale and a guard `on`, where n is the next column: its rows, its propositions and its disjunctions.
-- Of a disjunction the selection comes first, then its own columns and rows, and then each disjunct's block, whose guard is its
-- indicator.
abbrev mutual
  pub block_items : Setting → (ℕ → ℕ) → Guard → Guard → ℕ → BlockTree → List Item
  block_items g f scale on n (block items ds) =
      followed n (rows_items g f scale on items.rows) (λ m. followed m (props_items g on m items.props) (λ k. disjunctions_items g f scale on k ds))

  pub disjunctions_items : Setting → (ℕ → ℕ) → Guard → Guard → ℕ → Disjunctions → List Item
  disjunctions_items g f scale on n no_disjunctions = []
  disjunctions_items g f scale on n (disjunction head js ds) =
      followed n
      (followed n (selection g.first on head.mode js) (λ m.
      followed m (own_items g f scale on m (is_hulled g head.mode js) js head.mark (first_unbounded g.box (occurring g.vars js))) (λ k.
      disjuncts_items g (frames_of g f scale m (is_hulled g head.mode js) js) k js)))
      (λ m. disjunctions_items g f scale on m ds)

  pub disjuncts_items : Setting → Frames → ℕ → Disjuncts → List Item
  disjuncts_items g frames n no_disjuncts = []
  disjuncts_items g frames n (disjunct head b js) =
      followed n (block_items g (frame_in frames) (scale_in frames head.indicator) (where_true head.indicator) n b) (λ m. disjuncts_items g (next_frames frames) m js)
