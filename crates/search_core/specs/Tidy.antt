-- What holds of the halves that wait.
use Rattle.std.specs.Prelude.{◌≡◌, ◌≢◌, ℕ, ◌<◌, Bool, false, List, Some, slice_get}
use Rattle.exact_simplex.specs.declared.log.Event.TheVariants.{Open, Move}
use Rattle.search_rules.specs.declared.waiting.Waiting.{Waiting}
use Rattle.search_core.specs.declared.arena.Slot.{Slot}
use Rattle.search_core.specs.declared.arena.Slot.TheVariants.{Open as Unsettled}
use Rattle.search_rules.specs.Machine.{same_opening}

-- each opening and each number stands once; each is an opening by a node before the n-th; its slot is open
pub record IsTidy (opened : ℕ) (hs : List Waiting) (slots : List Slot) : Type 0 where
  pub apart : (i j : ℕ) (g h : Waiting) → i < j → slice_get hs i ≡ Some g → slice_get hs j ≡ Some h → same_opening h.event g.event ≡ false
  pub numbers : (i j : ℕ) (g h : Waiting) → i < j → slice_get hs i ≡ Some g → slice_get hs j ≡ Some h → h.number ≢ g.number
  pub older : (i p : ℕ) (h : Waiting) (s : Bool) → slice_get hs i ≡ Some h → h.event ≡ Open p s → p < opened
  pub opening : (i a b : ℕ) (h : Waiting) → slice_get hs i ≡ Some h → h.event ≢ Move a b
  pub unsettled : (i : ℕ) (h : Waiting) → slice_get hs i ≡ Some h → slice_get slots h.number ≡ Some Unsettled

-- a half that was taken away from the others and has this number in order of opening, which no other half is of
pub record IsTaken (h : Waiting) (n opened : ℕ) (hs : List Waiting) (slots : List Slot) : Type 0 where
  pub counted : n < opened
  pub childless : (i : ℕ) (g : Waiting) (s : Bool) → slice_get hs i ≡ Some g → g.event ≢ Open n s
  pub unsettled : slice_get slots h.number ≡ Some Unsettled
  pub others : (i : ℕ) (g : Waiting) → slice_get hs i ≡ Some g → g.number ≢ h.number
