-- One log comes to one stage, where a tableau has one reading.
use Rattle.std.proofs.Common.{◌≡◌, ℕ, ℤ, Bool, true, false, List, [], ◌∷◌, Option, Some, None, Result, Ok, Err, sym, ap, ◌∙◌, subst}
use Rattle.fractions.specs.Fraction.{Fraction, IsReduced}
use Rattle.lp_rows.specs.declared.columns.WideAt.{WideAt}
use Rattle.lp_rows.specs.Points.{PointValue}
use Rattle.exact_simplex.specs.declared.log.Event.{Event}
use Rattle.exact_simplex.specs.declared.log.Event.TheVariants.{OpenRoot, Open, Move}
use Rattle.exact_simplex.specs.declared.moves.Move as moves
use Rattle.exact_simplex.specs.declared.moves.Move.TheVariants as move
use Rattle.exact_simplex.specs.Table.{Table}
use Rattle.exact_simplex.specs.Bland.{bland_move}
use Rattle.exact_simplex.specs.Run.{Pair}
use Rattle.proof_tree.specs.declared.path.Split.{Split}
use Rattle.settling.specs.declared.ending.Found.{Found}
use Rattle.settling.specs.declared.ending.Ending.{Ending}
use Rattle.settling.specs.declared.ending.Ending.TheVariants as ends
use Rattle.settling.specs.Reading.{IsPointRead, IsRayRead}
use Rattle.settling.specs.Settled.{Site, goal_right, goal_scale, is_bounded_by, OptimalEnds, point_ending, UnboundedTested, UnboundedRead, UnboundedEnds, ray_ending, EndsBy}
use Rattle.search_rules.specs.Machine.{Meaning, Work, Stage, resting, working, stuck, ended, start, settled, value_of, site_of, Settles, Comes, Arrives, Begins, IsStep, IsLegal, IsLegalLog}
use Rattle.search_rules.specs.Claims.{IsReached}
use Rattle.search_rules.proofs.Moves.{moved_reached}
use Rattle.search_rules.proofs.Same.{first_same, moved_same}

-- what is read out of a tableau is one answer
pub record HasOneReading (site : Site) (t : Table) : Type 0 where
  pub level : (a b : Fraction) → IsReduced (goal_right t) (goal_scale t) a → IsReduced (goal_right t) (goal_scale t) b → a ≡ b
  pub points : (a b : Result PointValue WideAt) → IsPointRead t site.force a → IsPointRead t site.force b → a ≡ b
  pub rays : (enter : ℕ) (a b : Result (List ℤ) WideAt) → IsRayRead t site.force enter a → IsRayRead t site.force enter b → a ≡ b

module _ (site : Site) (t : Table) (one : HasOneReading site t) where
  optimal_same : (kept : Option (List ℤ)) (level : Fraction) (b : Bool) (x y : Result Ending WideAt) → OptimalEnds site t kept level b x → OptimalEnds site t kept level b y → x ≡ y
  optimal_same kept level true x y a b = a ∙ sym b
  optimal_same kept level false x y a b = a.2 ∙ ap (point_ending site t kept level) (one.points a.0 b.0 a.1 b.1) ∙ sym b.2

  tested_same : (enter : ℕ) (at : PointValue) (what : Result Found WideAt) (x y : Result Ending WideAt) → UnboundedTested site.force t enter at what x → UnboundedTested site.force t enter at what y → x ≡ y
  tested_same enter at (Ok what) x y a b = a.2 ∙ ap (ray_ending at what) (one.rays enter a.0 b.0 a.1 b.1) ∙ sym b.2
  tested_same enter at (Err place) x y a b = a ∙ sym b

  read_same : (enter : ℕ) (read : Result PointValue WideAt) (x y : Result Ending WideAt) → UnboundedRead site t enter read x → UnboundedRead site t enter read y → x ≡ y
  read_same enter (Ok at) x y a b = tested_same enter at (site.test at) x y a b
  read_same enter (Err place) x y a b = a ∙ sym b

  unbounded_same : (enter : ℕ) (loose : Option Split) (x y : Result Ending WideAt) → UnboundedEnds site t enter loose x → UnboundedEnds site t enter loose y → x ≡ y
  unbounded_same enter (Some split) x y a b = a ∙ sym b
  unbounded_same enter None x y a b = read_same enter a.0 x y a.2 (subst (λ r. UnboundedRead site t enter r y) (one.points b.0 a.0 b.1 a.1) b.2)

  ends_same : (kept : Option (List ℤ)) (best : Option Fraction) (d : moves.Move) (x y : Result Ending WideAt) → EndsBy site t kept best d x → EndsBy site t kept best d y → x ≡ y
  ends_same kept best (move.Exchange enter leave) x y a b = absurd a
  ends_same kept best move.Infeasible x y a b = a ∙ sym b
  ends_same kept best move.Optimal x y a b =
      optimal_same kept a.0 (is_bounded_by kept best a.0) x y a.2 (subst (λ l. OptimalEnds site t kept l (is_bounded_by kept best l) y) (one.level b.0 a.0 b.1 a.1) b.2)
  ends_same kept best (move.Unbounded enter) x y a b = unbounded_same enter site.loose x y a b

-- the same at every site and tableau
abbrev pub AreRead : Meaning → Type 0
AreRead m = (w : Work) (t : Table) → IsReached (site_of m w.half).force t → HasOneReading (site_of m w.half) t

settles_same : (m : Meaning) → AreRead m → (w : Work) (t : Table) (s u : Stage) → IsReached (site_of m w.half).force t → Settles m w t s → Settles m w t u → s ≡ u
settles_same m one w t s u r a b =
    a.1.1 ∙ ap (settled w.half w.number w.rest) (ends_same (site_of m w.half) t (one w t r) w.half.kept (value_of w.rest.best) (bland_move t) a.0 b.0 a.1.0 b.1.0) ∙ sym b.1.1

comes_same : (m : Meaning) → AreRead m → (w : Work) (t : Table) (s u : Stage) (d : moves.Move) → IsReached (site_of m w.half).force t → Comes m w t s d → Comes m w t u d → s ≡ u
comes_same m one w t s u (move.Exchange enter leave) r a b = a ∙ sym b
comes_same m one w t s u move.Optimal r a b = settles_same m one w t s u r a b
comes_same m one w t s u move.Infeasible r a b = settles_same m one w t s u r a b
comes_same m one w t s u (move.Unbounded enter) r a b = settles_same m one w t s u r a b

begins_same : (m : Meaning) → AreRead m → (w : Work) (s u : Stage) (d : Option ℕ) → Begins m w s d → Begins m w u d → s ≡ u
begins_same m one w s u (Some item) a b = a ∙ sym b
begins_same m one w s u None a b =
    let e : b.0 ≡ a.0 = first_same (site_of m w.half).force b.0 a.0 b.1.0 a.1.0 in
    comes_same m one w a.0 s u (bland_move a.0) (record { sound = a.1.0.sound; form = a.1.0.form }) a.1.1 (subst (λ t. Arrives m w t u) e b.1.1)

-- the tableau of a node at work was reached
abbrev pub IsReachedAt : Meaning → Stage → Type 0
IsReachedAt m (resting r) = Unit {0}
IsReachedAt m (working w t) = IsReached (site_of m w.half).force t
IsReachedAt m (stuck place) = Unit {0}
IsReachedAt m (ended at truths ray) = Unit {0}

settled_reached : (m : Meaning) (w : Work) (result : Result Ending WideAt) → IsReachedAt m (settled w.half w.number w.rest result)
settled_reached m w (Ok (ends.LogicFalse item)) = tt
settled_reached m w (Ok (ends.Refuted ms)) = tt
settled_reached m w (Ok (ends.Bounded scale ms)) = tt
settled_reached m w (Ok (ends.Better at truths value scale ms)) = tt
settled_reached m w (Ok (ends.Split s ray)) = tt
settled_reached m w (Ok (ends.Endless at truths ray)) = tt
settled_reached m w (Err place) = tt

comes_reached : (m : Meaning) (w : Work) (t : Table) (s : Stage) (d : moves.Move) → IsReached (site_of m w.half).force t → Comes m w t s d → IsReachedAt m s
comes_reached m w t s (move.Exchange enter leave) r c = subst (IsReachedAt m) (sym c) r
comes_reached m w t s move.Optimal r c = subst (IsReachedAt m) (sym c.1.1) (settled_reached m w c.0)
comes_reached m w t s move.Infeasible r c = subst (IsReachedAt m) (sym c.1.1) (settled_reached m w c.0)
comes_reached m w t s (move.Unbounded enter) r c = subst (IsReachedAt m) (sym c.1.1) (settled_reached m w c.0)

begins_reached : (m : Meaning) (w : Work) (s : Stage) (d : Option ℕ) → Begins m w s d → IsReachedAt m s
begins_reached m w s (Some item) b = subst (IsReachedAt m) (sym b) tt
begins_reached m w s None b = comes_reached m w b.0 s (bland_move b.0) (record { sound = b.1.0.sound; form = b.1.0.form }) b.1.1

pub step_reached : (m : Meaning) (s : Stage) (e : Event) (u : Stage) → IsReachedAt m s → IsStep m s e u → IsReachedAt m u
step_reached m (resting r) e u k i = begins_reached m i.0 u (m.dead i.0.half.path) i.1.1
step_reached m (working w t) (Move enter leave) u k i = comes_reached m w i.0 u (bland_move i.0) (moved_reached (site_of m w.half).force t (record { enter = enter; leave = leave }) i.0 k i.1.0) i.1.1
step_reached m (working w t) OpenRoot u k i = absurd i
step_reached m (working w t) (Open parent second) u k i = absurd i
step_reached m (stuck place) e u k i = absurd i
step_reached m (ended at truths ray) e u k i = absurd i

pub step_same : (m : Meaning) → AreRead m → (s : Stage) (e : Event) (u v : Stage) → IsReachedAt m s → IsStep m s e u → IsStep m s e v → u ≡ v
step_same m one (resting r) e u v k a b =
    let q : Some b.0 ≡ Some a.0 = sym b.1.0 ∙ a.1.0 in
    let f : b.0 ≡ a.0 = some_same b.0 a.0 q in
    begins_same m one a.0 u v (m.dead a.0.half.path) a.1.1 (subst (λ w. Begins m w v (m.dead w.half.path)) f b.1.1)
  where
    some_same : (x y : Work) → Some x ≡ Some y → x ≡ y
    some_same x y h = cc
step_same m one (working w t) (Move enter leave) u v k a b =
    let pair : Pair = record { enter = enter; leave = leave } in
    let e : b.0 ≡ a.0 = moved_same (site_of m w.half).force t pair b.0 a.0 k b.1.0 a.1.0 in
    comes_same m one w a.0 u v (bland_move a.0) (moved_reached (site_of m w.half).force t pair a.0 k a.1.0) a.1.1 (subst (λ x. Arrives m w x v) e b.1.1)
step_same m one (working w t) OpenRoot u v k a b = absurd a
step_same m one (working w t) (Open parent second) u v k a b = absurd a
step_same m one (stuck place) e u v k a b = absurd a
step_same m one (ended at truths ray) e u v k a b = absurd a

legal_same : (m : Meaning) → AreRead m → (s : Stage) (es : List Event) (u v : Stage) → IsReachedAt m s → IsLegal m s es u → IsLegal m s es v → u ≡ v
legal_same m one s [] u v k a b = sym a ∙ b
legal_same m one s (e ∷ es) u v k a b =
    let q : b.0 ≡ a.0 = step_same m one s e b.0 a.0 k b.1.0 a.1.0 in
    legal_same m one a.0 es u v (step_reached m s e a.0 k a.1.0) a.1.1 (subst (λ x. IsLegal m x es v) q b.1.1)

-- one log comes to one stage
pub one_stage : (m : Meaning) → AreRead m → (log : List Event) (u v : Stage) → IsLegalLog m log u → IsLegalLog m log v → u ≡ v
one_stage m one log u v a b = legal_same m one (resting start) log u v tt a b
