use Rattle.hull_rewrite.specs.Choices.{is_xor}
use Rattle.std.proofs.Common.{◌∷◌, ◌++◌, append_assoc, ◌≡◌, ◌+◌, ◌*◌, ◌^◌, ◌<◌, ℕ, [], true, length, ◌&&◌, nat_lt, None, is_some, ap, ◌∙◌, sym, subst, refl, drop, arith, get_or}
use Rattle.block_tree.specs.View.{block_of, disjunct_of, disjuncts_of, disjunction_of, disjunctions_of}
use Rattle.milps.proofs.Columned.{and_right}
use Rattle.bigm_rewrite.specs.Answers.{columns}
use Rattle.emission.specs.Items.{where_true}
use Rattle.emission.specs.Run.{Runs}
use Rattle.emission.specs.View.{state_of}
use Rattle.emission.proofs.Running.{following_as, following_done, following_more, runs_followed, runs_halted}
use Rattle.hull_rewrite.proofs.Placed.{frame_at, frames_length, listed_columns}
use Rattle.hull_rewrite.proofs.Settings.{none_by}
use Rattle.hull_rewrite.specs.Copies.{occurring, place}
use Rattle.hull_rewrite.specs.Expanded.{AreSameBelow, frames_from, listed_frame, are_indicators_below}
use Rattle.hull_rewrite.specs.Choices.{flags_below, flags_in, flags_within}
use Rattle.hybrid_rewrite.proofs.Skipped.{flag_is, flag_less, flags_after, flags_block}
use Rattle.milps.proofs.Lists.{drop_past}
use Rattle.hybrid_rewrite.proofs.Flagged.{framed_runs, hull_runs}
use Rattle.hybrid_rewrite.proofs.Selected.{disjunctions_level}
use Rattle.hybrid_rewrite.specs.Blocks.{block_items, copied, disjunctions_items, disjuncts_items, is_hulled, kept, selection}
use Rattle.hybrid_rewrite.specs.Chosen.{are_disjunctions_fit, are_disjuncts_fit, disjunction_items, flagged_items, is_block_fit}
use Rattle.hull_rewrite.proofs.Laying.{disjuncts_level}
use Rattle.hybrid_rewrite.specs.View.{guard_of}
use Rattle.hybrid_rewrite.proofs.framed.+framed.Goals as goal

pub emit_framed-returns-clause-runs : goal.emit_framed-returns-clause-runs
emit_framed-returns-clause-runs t c = λ g f rest o e m.
    let s = guard_of c.args.scale in
    let u = guard_of c.args.on in
    let w = state_of c.args.out.now in
    let x = state_of c.emit_rows.new.out in
    let y = state_of c.emit_props.new.out in
    let z = state_of c.emit_disjunctions.new.out in
    let b = block_of c.args.block.now in
    let below = subst (λ n. AreSameBelow n f (columns c.args.frame.now)) (sym c.requires.framed) m in
    let p = rw c.rows.ensures.tree at (c.emit_rows.ensures.runs g f s u o below c.switch_by.ensures c.switch_by-2.ensures) in
    let q = rw c.props.ensures.tree at (c.emit_props.ensures.runs g o.first_is) in
    let r = rw c.disjunctions.ensures.tree at (c.emit_disjunctions.ensures.runs g f rest o) in
    framed_runs g f s u b w x y z p q (r (e ∙ ap (λ k. k ++ rest) (flags_block g.hulled b)) m)

pub emit_disjunctions-loop-disjunction-preserved : goal.emit_disjunctions-loop-disjunction-preserved
emit_disjunctions-loop-disjunction-preserved t c =
    let all = c.args.disjunctions.now in
    let d = c.disjunction-item.result in
    let head = (disjunction_of d).0 in
    let js = (disjunction_of d).1 in
    let i = c.loop-disjunction.disjunction-index in
    let ds = disjunctions_of (drop (i + 1) all) in
    let n = length c.args.bounds.now.lows in
    let s = guard_of c.args.scale in
    let u = guard_of c.args.on in
    let a = state_of c.loop-disjunction.out in
    let z = state_of c.emit_disjunction.new.out in
    let level = disjunctions_level all i d c.loop-disjunction-test.true c.disjunction-item.is in
    let fit = rw level at c.loop-disjunction.invariant.fit in
    record {
      empty = c.emit_disjunction.ensures.empty;
      fit = and_right (are_indicators_below (2 ^ 31) js && are_disjuncts_fit n js) (are_disjunctions_fit n ds) fit;
      left = λ h rest e.
          let k = rw level at (c.loop-disjunction.invariant.left h rest e) in
          c.skip_disjunction-here.ensures h (flags_below h ds ++ rest) (k ∙ ap (λ q. (is_xor head.mode && h js) ∷ q) (append_assoc (flags_within h js) (flags_below h ds) rest));
      following = λ g f rest o e m.
          let w = rw level at (c.loop-disjunction.invariant.following g f rest o e m) in
          let k = rw level at (c.loop-disjunction.invariant.left g.hulled rest e) in
          let x = k ∙ ap (λ q. (is_xor head.mode && g.hulled js) ∷ q) (append_assoc (flags_within g.hulled js) (flags_below g.hulled ds) rest) in
          following_more (λ k. disjunctions_items g f s u k (disjunctions_of all)) (state_of c.args.out.now) (λ k. disjunction_items g f s u k head js) (λ k. disjunctions_items g f s u k ds) a z w
          (c.emit_disjunction.ensures.runs g f (flags_below g.hulled ds ++ rest) o x m);
    }

pub emit_disjunction-returns-clause-runs : goal.emit_disjunction-returns-clause-runs
emit_disjunction-returns-clause-runs t c = λ g f rest o e m.
    let d = disjunction_of c.args.disjunction.now in
    let js = d.1 in
    let mode = d.0.mode in
    let s = guard_of c.args.scale in
    let u = guard_of c.args.on in
    let a = state_of c.args.out.now in
    let b = state_of c.select.new.out in
    let z = state_of c.emit_flagged.new.out in
    let flags = c.args.flags.now in
    let at_i = c.args.at in
    let flag = is_hulled g mode js in
    let ys = flags_within g.hulled js ++ rest in
    let chosen = rw (c.mode.ensures, c.disjuncts.ensures.tree) at c.select.ensures.runs in
    let p = subst (λ k. Runs (selection k u mode js) a b) (sym o.first_is) chosen in
    let x : c.flag_at-flag.result ≡ flag = c.flag_at-flag.ensures ∙ flag_is flags at_i flag ys e in
    let n = c.next_place-next.ensures (flag_less flags at_i flag ys e) in
    let y = ap (λ k. drop k flags) n ∙ flags_after flags at_i flag ys e in
    let q = subst (λ k. Runs (flagged_items g f s u (length b.milp.cols) k js d.0.mark) b z) x (c.emit_flagged.ensures.runs g f rest o y m) in
    runs_followed (selection g.first u mode js) (λ k. flagged_items g f s u k flag js d.0.mark) a b z p q

pub emit_hull-returns-then-is_halted-clause-runs : goal.emit_hull-returns-then-is_halted-clause-runs
emit_hull-returns-then-is_halted-clause-runs t c = λ g f rest o e m.
    let d = disjunction_of c.args.disjunction.now in
    let s = guard_of c.args.scale in
    let u = guard_of c.args.on in
    let a = state_of c.args.out.now in
    let b = state_of c.expand-frames.new.out in
    let below = subst (λ n. AreSameBelow n f (columns c.args.frame.now)) (sym o.vars_are) m in
    let p = c.expand-frames.ensures.runs g f s u o below c.switch_by.ensures c.switch_by-2.ensures in
    let h : is_some b.halt ≡ true = sym c.is_halted.ensures ∙ c.if-is_halted.true in
    hull_runs g f s u d.1 d.0.mark a b b p (runs_halted (disjuncts_items g (copied (occurring g.vars d.1) (length a.milp.cols)) (length b.milp.cols) d.1) b.halt b refl h)

pub emit_hull-returns-clause-runs : goal.emit_hull-returns-clause-runs
emit_hull-returns-clause-runs t c = λ g f rest o fl m.
    let d = disjunction_of c.args.disjunction.now in
    let lows = c.args.bounds.now.lows in
    let s = guard_of c.args.scale in
    let u = guard_of c.args.on in
    let a = state_of c.args.out.now in
    let b = state_of c.expand-frames.new.out in
    let z = state_of c.emit_copied.new.out in
    let n = length a.milp.cols in
    let vs = occurring g.vars d.1 in
    let below = subst (λ k. AreSameBelow k f (columns c.args.frame.now)) (sym o.vars_are) m in
    let p = c.expand-frames.ensures.runs g f s u o below c.switch_by.ensures c.switch_by-2.ensures in
    let h : b.halt ≡ None = none_by b.halt (sym c.is_halted.ensures ∙ c.if-is_halted.false) in
    let e : c.expand-frames.result ≡ frames_from (length lows) vs n d.1 = c.expand-frames.ensures.frames h ∙ ap (λ k. frames_from (length lows) (occurring k d.1) n d.1) (sym o.vars_are) in
    let known = rw c.disjuncts.ensures.tree at (c.emit_copied.ensures.runs g vs n rest o) in
    hull_runs g f s u d.1 d.0.mark a b z p (known fl e)

pub emit_kept-loop-disjunct-preserved : goal.emit_kept-loop-disjunct-preserved
emit_kept-loop-disjunct-preserved t c =
    let all = c.args.disjuncts.now in
    let j = c.disjunct-item.result in
    let head = (disjunct_of j).0 in
    let b = (disjunct_of j).1 in
    let i = c.loop-disjunct.disjunct-index in
    let js = disjuncts_of (drop (i + 1) all) in
    let n = length c.args.bounds.now.lows in
    let s = guard_of c.args.scale in
    let a = state_of c.loop-disjunct.out in
    let z = state_of c.emit_framed.new.out in
    let level = disjuncts_level all i j c.loop-disjunct-test.true c.disjunct-item.is in
    let fit = rw level at c.loop-disjunct.invariant.fit in
    record {
      empty = c.emit_framed.ensures.empty;
      fit = and_right (nat_lt head.indicator (2 ^ 31) && is_block_fit n b) (are_disjuncts_fit n js) fit;
      left = λ h rest e.
          let k = rw level at (c.loop-disjunct.invariant.left h rest e) in
          let q = rw c.block-in-loop-disjunct.ensures.tree at (c.skip_block-here.ensures h (flags_within h js ++ rest)) in
          q (k ∙ append_assoc (flags_in h b) (flags_within h js) rest);
      following = λ g f rest o e m.
          let w = rw level at (c.loop-disjunct.invariant.following g f rest o e m) in
          let k = rw level at (c.loop-disjunct.invariant.left g.hulled rest e) in
          let y = rw (c.indicator.ensures, c.block.ensures.tree) at (c.emit_framed.ensures.runs g f (flags_within g.hulled js ++ rest) o) in
          let r = y (k ∙ append_assoc (flags_in g.hulled b) (flags_within g.hulled js) rest) m in
          following_more (λ k. disjuncts_items g (kept f s) k (disjuncts_of all)) (state_of c.args.out.now) (λ k. block_items g f s (where_true head.indicator) k b) (λ k. disjuncts_items g (kept f s) k js) a z w r;
    }

pub emit_copied-loop-disjunct-preserved : goal.emit_copied-loop-disjunct-preserved
emit_copied-loop-disjunct-preserved t c =
    let all = c.args.disjuncts.now in
    let j = c.disjunct-item.result in
    let head = (disjunct_of j).0 in
    let b = (disjunct_of j).1 in
    let i = c.loop-disjunct.disjunct-index in
    let js = disjuncts_of (drop (i + 1) all) in
    let n = length c.args.bounds.now.lows in
    let a = state_of c.loop-disjunct.out in
    let z = state_of c.emit_placed.new.out in
    let start = state_of c.args.out.now in
    let level = disjuncts_level all i j c.loop-disjunct-test.true c.disjunct-item.is in
    let fit = rw level at c.loop-disjunct.invariant.fit in
    let placed = c.loop-disjunct.invariant.placed in
    record {
      empty = c.emit_placed.ensures.empty;
      placed = omega arith;
      fit = and_right (nat_lt head.indicator (2 ^ 31) && is_block_fit n b) (are_disjuncts_fit n js) fit;
      left = λ h rest e.
          let k = rw level at (c.loop-disjunct.invariant.left h rest e) in
          let q = rw c.block.ensures.tree at (c.skip_block-here.ensures h (flags_within h js ++ rest)) in
          q (k ∙ append_assoc (flags_in h b) (flags_within h js) rest);
      following = λ g vs k rest o fl e.
          let at_i = k + length vs * i in
          let f = place vs at_i in
          let w = rw level at (c.loop-disjunct.invariant.following g vs k rest o fl e) in
          let many = ap length e ∙ frames_length n vs k all in
          let within : c.loop-disjunct.place < length c.args.frames.now = omega (arith, many, placed, c.loop-disjunct-test.true) in
          let is : get_or c.args.frames.now c.loop-disjunct.place [] ≡ listed_frame n f =
          ap (λ x. get_or c.args.frames.now x []) placed ∙ ap (λ x. get_or x i []) e ∙ frame_at n vs k all i c.loop-disjunct-test.true in
          let same = subst (λ x. AreSameBelow n f (columns x)) (sym is) (listed_columns n f) in
          let here = rw level at (c.loop-disjunct.invariant.left g.hulled rest fl) in
          let r = c.emit_placed.ensures.runs g f (flags_within g.hulled js ++ rest) o (here ∙ append_assoc (flags_in g.hulled b) (flags_within g.hulled js) rest) within same in
          let v = following_more (λ x. disjuncts_items g (copied vs k) x (disjuncts_of all)) start (λ x. block_items g f (where_true head.indicator) (where_true head.indicator) x b) (λ x. disjuncts_items g (copied vs (at_i + length vs)) x js) a z w r in
          following_as (λ x. disjuncts_items g (copied vs k) x (disjuncts_of all)) start (λ x. disjuncts_items g (copied vs (at_i + length vs)) x js) (λ x. disjuncts_items g (copied vs (k + length vs * (i + 1))) x js) z
          (ap (λ y. disjuncts_items g (copied vs y) (length z.milp.cols) js) (next_place k (length vs) i)) v;
    }
  where
    next_place : (k size i : ℕ) → (k + size * i) + size ≡ k + size * (i + 1)
    next_place k size i = grind arith

pub emit_disjunctions-returns-clause-runs : goal.emit_disjunctions-returns-clause-runs
emit_disjunctions-returns-clause-runs t c = λ g f rest o e m.
    let all = c.args.disjunctions.now in
    let past = drop_past all c.loop-disjunction.disjunction-index c.loop-disjunction-test.false in
    following_done (λ n. disjunctions_items g f (guard_of c.args.scale) (guard_of c.args.on) n (disjunctions_of all)) (state_of c.args.out.now) (state_of c.loop-disjunction.out) (rw past at (c.loop-disjunction.invariant.following g f rest o e m))

pub emit_kept-returns-clause-runs : goal.emit_kept-returns-clause-runs
emit_kept-returns-clause-runs t c = λ g f rest o e m.
    let all = c.args.disjuncts.now in
    let past = drop_past all c.loop-disjunct.disjunct-index c.loop-disjunct-test.false in
    following_done (λ n. disjuncts_items g (kept f (guard_of c.args.scale)) n (disjuncts_of all)) (state_of c.args.out.now) (state_of c.loop-disjunct.out) (rw past at (c.loop-disjunct.invariant.following g f rest o e m))

pub emit_copied-returns-clause-runs : goal.emit_copied-returns-clause-runs
emit_copied-returns-clause-runs t c = λ g vs k rest o fl e.
    let all = c.args.disjuncts.now in
    let past = drop_past all c.loop-disjunct.disjunct-index c.loop-disjunct-test.false in
    following_done (λ n. disjuncts_items g (copied vs k) n (disjuncts_of all)) (state_of c.args.out.now) (state_of c.loop-disjunct.out) (rw past at (c.loop-disjunct.invariant.following g vs k rest o fl e))
