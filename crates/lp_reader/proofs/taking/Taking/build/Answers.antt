use Rattle.std.proofs.Common.{◌≡◌, ◌∙◌, ap, sym, false, List}
use Rattle.milps.specs.Milps.{MilpValue}
use Rattle.lp_rows.specs.Rows.{RowValue}
use Rattle.lp_grammar.specs.Reading.{milp_of, is_within}
use Rattle.lp_grammar.specs.Taking.{Taken}
use Rattle.lp_parts.specs.Grown.{with_rows}
use Rattle.lp_reader.specs.Taken.{taken_of}
use Rattle.lp_reader.proofs.Built.{with_goal, cols_of, rows_past, none_built, some_built, cols_told, goal_told, rows_told, all_told}
use Rattle.lp_parts.proofs.Grown.{grown_true, grown_false}
use Rattle.lp_reader.proofs.taking.Taking.build.Goals as goal

pub returns-then-not-branch-2 : goal.returns-then-not-branch-2
returns-then-not-branch-2 c =
    let t : Taken = taken_of c.args.self.now in
    let m : MilpValue = c.push_cols.new.milp in
    let n : MilpValue = c.set_goal.new.milp in
    let cols : m ≡ cols_of t = cols_told t c.new-milp.result m c.as_slice.result.now c.new-milp.ensures c.as_slice.ensures.value (grown_true _ _ _ c.if-not-branch.false c.in_ok-push_cols.ensures).0 in
    let goal : n ≡ with_goal t m = goal_told t m n c.terms.result.now c.terms.ensures c.in_ok-set_goal.ensures in
    let past : is_within (with_rows n c.as_slice-2.result.now) ≡ false = grown_false _ _ _ c.if-not-branch-2.true c.in_ok-push_rows.ensures in
    none_built (milp_of t) (rows_past t m n cols goal (ap (λ (l : List RowValue). is_within (with_rows n l)) (sym c.as_slice-2.ensures.value) ∙ past))

pub returns : goal.returns
returns c =
    let t : Taken = taken_of c.args.self.now in
    let m : MilpValue = c.push_cols.new.milp in
    let n : MilpValue = c.set_goal.new.milp in
    let o : MilpValue = c.push_rows.new.milp in
    let cols : m ≡ cols_of t = cols_told t c.new-milp.result m c.as_slice.result.now c.new-milp.ensures c.as_slice.ensures.value (grown_true _ _ _ c.if-not-branch.false c.in_ok-push_cols.ensures).0 in
    let goal : n ≡ with_goal t m = goal_told t m n c.terms.result.now c.terms.ensures c.in_ok-set_goal.ensures in
    let rows : o ≡ with_rows n t.rows = rows_told t n o c.as_slice-2.result.now c.as_slice-2.ensures.value (grown_true _ _ _ c.if-not-branch-2.false c.in_ok-push_rows.ensures).0 in
    let end = grown_true _ _ _ c.if-not-branch-3.false c.in_ok-push_bounds.ensures in
    let all : c.push_bounds.new.milp ≡ milp_of t = all_told t m n o c.push_bounds.new.milp c.as_slice-3.result.now cols goal rows c.as_slice-3.ensures.value end.0 in
    some_built c.finish.result (milp_of t) (c.finish.ensures ∙ all) (ap is_within (sym (sym end.0 ∙ all)) ∙ end.1)
