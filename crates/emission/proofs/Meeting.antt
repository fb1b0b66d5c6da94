-- The one claim that all emissions are proved by: items are met exactly where each column is meant and a Bool is true.
use Rattle.std.proofs.Common.{◌≡◌, ℕ, ℤ, ℕ, ℤ, ◌<◌, ◌+◌, Bool, true, ◌&&◌, List, [], ◌++◌, refl}
use Rattle.block_tree.specs.Satisfied.{PointOf}
use Rattle.emission.proofs.Values.{meant-append, meets-append}
use Rattle.emission.specs.Items.{AreMeant, Item, Meets}
use Rattle.emission.specs.Sums.{pick}
use Rattle.milps.proofs.Columned.{and_left, and_right, and_true}

-- the items are met exactly where each column is right and x holds
pub record Exact (is : List Item) (x : Bool) (s : PointOf) (w : ℕ → ℤ) : Type 0 where
  pub right : Meets is s.over w → AreMeant is s w
  pub holds : Meets is s.over w → x ≡ true
  pub met : AreMeant is s w → x ≡ true → Meets is s.over w

pub append_exact : (xs : List Item) {ys : List Item} {x y : Bool} (s : PointOf) (w : ℕ → ℤ) → Exact xs x s w → (AreMeant xs s w → x ≡ true → Exact ys y s w) → Exact (xs ++ ys) (x && y) s w
append_exact xs {ys} {x} {y} s w f g =
    let m = meets-append xs ys s.over w in
    let r = meant-append xs ys s w in
    record {
      right = λ h. let a = (m.0 h).0 in r.1 (f.right a, (g (f.right a) (f.holds a)).right (m.0 h).1);
      holds = λ h. let a = (m.0 h).0 in and_true x y (f.holds a) ((g (f.right a) (f.holds a)).holds (m.0 h).1);
      met = λ h e. let a = r.0 h in let p = and_left x y e in m.1 (f.met a.0 p, (g a.0 p).met a.1 (and_right x y e));
    }

pub empty_exact : (s : PointOf) (w : ℕ → ℤ) → Exact [] true s w
empty_exact s w = record { right = λ h. h; holds = λ h. refl; met = λ h e. h }

-- Boolean k stand at column f + k
abbrev pub Booleans : ℕ → ℕ → PointOf → (ℕ → ℤ) → Type 0
Booleans f u s w = (k : ℕ) → k < u → w (f + k) ≡ pick (s.truths k) s.over
