use Rattle.std.proofs.Common.{◌≡◌, rules, codes, ◌++◌, refl}
use Rattle.gdp_io.specs.Sink.{grown}
use Rattle.text_grammar.specs.Printing.{text_of}
use Rattle.text_printer.specs.Outputs.{IsCutShort}
use Rattle.text_printer.proofs.Cuts.{cut_at, cut_after, cut_before, cut_behind, put_after}
use Rattle.lp_grammar.specs.Canonical.{canonical_lines, free_lines, integer_lines, objective_lines, row_lines, section_lines}
use Rattle.lp_writer.proofs.Texts.{on_ok, on_err, program_parts}
use Rattle.lp_writer.proofs.put.put_program.Goals as goal

pub returns-in_err-put_objective-clause-part : goal.returns-in_err-put_objective-clause-part
returns-in_err-put_objective-clause-part g c =
    let written = g.O.Output.written in
    let m = c.args.milp.now in
    let old = written c.args.out.now in
    let all = text_of (canonical_lines m) in
    let a = text_of (objective_lines m) in
    let b = codes "Subject To\n" in
    let x = text_of (row_lines 0 m.rows) in
    let y = text_of (section_lines (codes "Bounds") (free_lines 0 m.cols)) in
    let z = text_of (section_lines (codes "Generals") (integer_lines 0 m.cols)) in
    let end = codes "End\n" in
    let w1 = written c.put_objective.new.out in
    let k = cut_at old w1 all a (b ++ (x ++ (y ++ (z ++ end)))) (program_parts m) c.in_err-put_objective.ensures.part in
    search (rules, k)

pub returns-in_err-put-clause-part : goal.returns-in_err-put-clause-part
returns-in_err-put-clause-part g c =
    let written = g.O.Output.written in
    let m = c.args.milp.now in
    let old = written c.args.out.now in
    let all = text_of (canonical_lines m) in
    let a = text_of (objective_lines m) in
    let b = codes "Subject To\n" in
    let x = text_of (row_lines 0 m.rows) in
    let y = text_of (section_lines (codes "Bounds") (free_lines 0 m.cols)) in
    let z = text_of (section_lines (codes "Generals") (integer_lines 0 m.cols)) in
    let end = codes "End\n" in
    let w1 = written c.put_objective.new.out in
    let new = written c.put.new.self in
    let k = cut_after old w1 new all a (b ++ (x ++ (y ++ (z ++ end)))) (program_parts m) c.in_ok-put_objective.ensures.whole (cut_before w1 new b (x ++ (y ++ (z ++ end))) c.in_err-put.ensures.part) in
    search (rules, k)

pub returns-in_err-put_rows-clause-part : goal.returns-in_err-put_rows-clause-part
returns-in_err-put_rows-clause-part g c =
    let written = g.O.Output.written in
    let m = c.args.milp.now in
    let old = written c.args.out.now in
    let all = text_of (canonical_lines m) in
    let a = text_of (objective_lines m) in
    let b = codes "Subject To\n" in
    let x = text_of (row_lines 0 m.rows) in
    let y = text_of (section_lines (codes "Bounds") (free_lines 0 m.cols)) in
    let z = text_of (section_lines (codes "Generals") (integer_lines 0 m.cols)) in
    let end = codes "End\n" in
    let w1 = written c.put_objective.new.out in
    let w2 = written c.put.new.self in
    let new = written c.put_rows.new.out in
    let part : IsCutShort w2 new x = rw c.rows.ensures at c.in_err-put_rows.ensures.part in
    let k = cut_after old w1 new all a (b ++ (x ++ (y ++ (z ++ end)))) (program_parts m) c.in_ok-put_objective.ensures.whole (cut_behind w1 w2 new b (x ++ (y ++ (z ++ end))) c.in_ok-put.ensures.whole (cut_before w2 new x (y ++ (z ++ end)) part)) in
    search (rules, k)

pub returns-in_err-put_bounds-clause-part : goal.returns-in_err-put_bounds-clause-part
returns-in_err-put_bounds-clause-part g c =
    let written = g.O.Output.written in
    let m = c.args.milp.now in
    let old = written c.args.out.now in
    let all = text_of (canonical_lines m) in
    let a = text_of (objective_lines m) in
    let b = codes "Subject To\n" in
    let x = text_of (row_lines 0 m.rows) in
    let y = text_of (section_lines (codes "Bounds") (free_lines 0 m.cols)) in
    let z = text_of (section_lines (codes "Generals") (integer_lines 0 m.cols)) in
    let end = codes "End\n" in
    let w1 = written c.put_objective.new.out in
    let w2 = written c.put.new.self in
    let w3 = written c.put_rows.new.out in
    let rows : w3 ≡ grown w2 x = rw c.rows.ensures at c.in_ok-put_rows.ensures.whole in
    let new = written c.put_bounds.new.out in
    let part : IsCutShort w3 new y = rw c.cols.ensures.cols at c.in_err-put_bounds.ensures.part in
    let k = cut_after old w1 new all a (b ++ (x ++ (y ++ (z ++ end)))) (program_parts m) c.in_ok-put_objective.ensures.whole (cut_behind w1 w2 new b (x ++ (y ++ (z ++ end))) c.in_ok-put.ensures.whole (cut_behind w2 w3 new x (y ++ (z ++ end)) rows (cut_before w3 new y (z ++ end) part))) in
    search (rules, k)

pub returns-in_err-put_generals-clause-part : goal.returns-in_err-put_generals-clause-part
returns-in_err-put_generals-clause-part g c =
    let written = g.O.Output.written in
    let m = c.args.milp.now in
    let old = written c.args.out.now in
    let all = text_of (canonical_lines m) in
    let a = text_of (objective_lines m) in
    let b = codes "Subject To\n" in
    let x = text_of (row_lines 0 m.rows) in
    let y = text_of (section_lines (codes "Bounds") (free_lines 0 m.cols)) in
    let z = text_of (section_lines (codes "Generals") (integer_lines 0 m.cols)) in
    let end = codes "End\n" in
    let w1 = written c.put_objective.new.out in
    let w2 = written c.put.new.self in
    let w3 = written c.put_rows.new.out in
    let rows : w3 ≡ grown w2 x = rw c.rows.ensures at c.in_ok-put_rows.ensures.whole in
    let w4 = written c.put_bounds.new.out in
    let bounds : w4 ≡ grown w3 y = rw c.cols.ensures.cols at c.in_ok-put_bounds.ensures.whole in
    let new = written c.put_generals.new.out in
    let part : IsCutShort w4 new z = rw c.cols-2.ensures.cols at c.in_err-put_generals.ensures.part in
    let k = cut_after old w1 new all a (b ++ (x ++ (y ++ (z ++ end)))) (program_parts m) c.in_ok-put_objective.ensures.whole (cut_behind w1 w2 new b (x ++ (y ++ (z ++ end))) c.in_ok-put.ensures.whole (cut_behind w2 w3 new x (y ++ (z ++ end)) rows (cut_behind w3 w4 new y (z ++ end) bounds (cut_before w4 new z end part)))) in
    search (rules, k)

pub returns-clause-whole : goal.returns-clause-whole
returns-clause-whole g c =
    let written = g.O.Output.written in
    let m = c.args.milp.now in
    let old = written c.args.out.now in
    let all = text_of (canonical_lines m) in
    let a = text_of (objective_lines m) in
    let b = codes "Subject To\n" in
    let x = text_of (row_lines 0 m.rows) in
    let y = text_of (section_lines (codes "Bounds") (free_lines 0 m.cols)) in
    let z = text_of (section_lines (codes "Generals") (integer_lines 0 m.cols)) in
    let end = codes "End\n" in
    let w1 = written c.put_objective.new.out in
    let w2 = written c.put.new.self in
    let w3 = written c.put_rows.new.out in
    let rows : w3 ≡ grown w2 x = rw c.rows.ensures at c.in_ok-put_rows.ensures.whole in
    let w4 = written c.put_bounds.new.out in
    let bounds : w4 ≡ grown w3 y = rw c.cols.ensures.cols at c.in_ok-put_bounds.ensures.whole in
    let w5 = written c.put_generals.new.out in
    let generals : w5 ≡ grown w4 z = rw c.cols-2.ensures.cols at c.in_ok-put_generals.ensures.whole in
    let new = written c.put-2.new.self in
    on_ok c.put-2.result
    (λ e. put_after old w1 new all a (b ++ (x ++ (y ++ (z ++ end)))) (program_parts m) c.in_ok-put_objective.ensures.whole
    (put_after w1 w2 new (b ++ (x ++ (y ++ (z ++ end)))) b (x ++ (y ++ (z ++ end))) refl c.in_ok-put.ensures.whole
    (put_after w2 w3 new (x ++ (y ++ (z ++ end))) x (y ++ (z ++ end)) refl rows
    (put_after w3 w4 new (y ++ (z ++ end)) y (z ++ end) refl bounds (put_after w4 w5 new (z ++ end) z end refl generals e)))))
    c.put-2.ensures.whole

pub returns-clause-part : goal.returns-clause-part
returns-clause-part g c =
    let written = g.O.Output.written in
    let m = c.args.milp.now in
    let old = written c.args.out.now in
    let all = text_of (canonical_lines m) in
    let a = text_of (objective_lines m) in
    let b = codes "Subject To\n" in
    let x = text_of (row_lines 0 m.rows) in
    let y = text_of (section_lines (codes "Bounds") (free_lines 0 m.cols)) in
    let z = text_of (section_lines (codes "Generals") (integer_lines 0 m.cols)) in
    let end = codes "End\n" in
    let w1 = written c.put_objective.new.out in
    let w2 = written c.put.new.self in
    let w3 = written c.put_rows.new.out in
    let rows : w3 ≡ grown w2 x = rw c.rows.ensures at c.in_ok-put_rows.ensures.whole in
    let w4 = written c.put_bounds.new.out in
    let bounds : w4 ≡ grown w3 y = rw c.cols.ensures.cols at c.in_ok-put_bounds.ensures.whole in
    let w5 = written c.put_generals.new.out in
    let generals : w5 ≡ grown w4 z = rw c.cols-2.ensures.cols at c.in_ok-put_generals.ensures.whole in
    let new = written c.put-2.new.self in
    on_err c.put-2.result
    (λ e. cut_after old w1 new all a (b ++ (x ++ (y ++ (z ++ end)))) (program_parts m) c.in_ok-put_objective.ensures.whole (cut_behind w1 w2 new b (x ++ (y ++ (z ++ end))) c.in_ok-put.ensures.whole (cut_behind w2 w3 new x (y ++ (z ++ end)) rows (cut_behind w3 w4 new y (z ++ end) bounds (cut_behind w4 w5 new z end generals (e))))))
    c.put-2.ensures.part
