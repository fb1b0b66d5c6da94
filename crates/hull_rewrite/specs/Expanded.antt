-- What an expansion lists under switches, and the frames that it answers.
use Rattle.std.specs.Prelude.{◌≡◌, ◌<◌, ℕ, suc, ◌+◌, Bool, true, false, ◌&&◌, nat_eq, nat_lt, ◌==◌, List, [], ◌∷◌, length, map, Option, None, Some}
use Rattle.std.specs.List.{list_all}
use Rattle.block_tree.specs.Tree.{Disjuncts, no_disjuncts, disjunct}
use Rattle.bound_propagation.specs.Kept.{BoundsValue, box_of}
use Rattle.bigm_rewrite.specs.declared.switches.Switch.{Switch}
use Rattle.bigm_rewrite.specs.declared.switches.Switch.TheVariants.{One, Column}
use Rattle.bigm_rewrite.specs.Relaxed.{Setting}
use Rattle.emission.specs.Items.{Item, refused, no_bound, Guard}
use Rattle.hull_rewrite.specs.Copies.{expansion, first_unbounded, occurring, place, up_to}

-- Boolean 0 stands at column `first`, and the bounds are these
abbrev pub setting_over : ℕ → BoundsValue → Setting
setting_over first b = record { vars = length b.lows; booleans = 0; first = first; box = box_of b; hulled = λ js. false }

-- a setting is one over these bounds
pub record IsSettingOver (g : Setting) (first : ℕ) (b : BoundsValue) : Type 0 where
  pub first_is : g.first ≡ first
  pub box_is : g.box ≡ box_of b
  pub vars_are : g.vars ≡ length b.lows

-- two frames agree at the first n variables
pub record AreSameBelow (n : ℕ) (f h : ℕ → ℕ) : Type 0 where
  pub same : (j : ℕ) → j < n → f j ≡ h j

abbrev pub is_same_switch : Switch → Switch → Bool
is_same_switch One One = true
is_same_switch One (Column j) = false
is_same_switch (Column i) One = false
is_same_switch (Column i) (Column j) = nat_eq i j

-- what a hull adds of its own: a refusal where a variable lacks a bound, and else the copies
abbrev pub expanded_by : Setting → (ℕ → ℕ) → Guard → Guard → ℕ → Disjuncts → ℕ → Option ℕ → List Item
expanded_by g f scale on n js mark (Some v) = refused (no_bound mark v) ∷ []
expanded_by g f scale on n js mark None = expansion g f scale on n (occurring g.vars js) js

abbrev pub expanded : Setting → (ℕ → ℕ) → Guard → Guard → ℕ → Disjuncts → ℕ → List Item
expanded g f scale on n js mark = expanded_by g f scale on n js mark (first_unbounded g.box (occurring g.vars js))

-- a frame as the list of its columns, of the first n variables
abbrev pub listed_frame : ℕ → (ℕ → ℕ) → List ℕ
listed_frame n f = map f (up_to n)

-- the frame of each disjunct, where its copies begin at column i
abbrev pub frames_from : ℕ → List ℕ → ℕ → Disjuncts → List (List ℕ)
frames_from n vs i no_disjuncts = []
frames_from n vs i (disjunct head b js) = listed_frame n (place vs i) ∷ frames_from n vs (i + length vs) js

-- how many disjuncts there are
abbrev pub disjunct_count : Disjuncts → ℕ
disjunct_count no_disjuncts = 0
disjunct_count (disjunct head b js) = suc (disjunct_count js)

-- the disjuncts' indicators are some of the first n Booleans
abbrev pub are_indicators_below : ℕ → Disjuncts → Bool
are_indicators_below n no_disjuncts = true
are_indicators_below n (disjunct head b js) = nat_lt head.indicator n && are_indicators_below n js

-- each frame has a column for each of the first n variables
abbrev pub are_framed : ℕ → List (List ℕ) → Bool
are_framed n frames = list_all (λ f. length f == n) frames
