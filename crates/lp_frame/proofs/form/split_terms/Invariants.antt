use Rattle.std.proofs.Common.{◌≡◌, ◌++◌, true, length, drop}
use Rattle.std.specs.List.{list_all}
use Rattle.lp_rows.specs.Holding.{ids_below}
use Rattle.fractions.specs.Width.{is_narrow}
use Rattle.lp_frame.specs.Split.{split_terms}
use Rattle.lp_frame.proofs.form.split_terms.Given as goal

abbrev pub invariant-loop-term : goal.invariant-loop-term
invariant-loop-term l = record {
  below : ids_below (length l.cols) (drop l.term-index l.terms) ≡ true;
  narrow : list_all (λ t. is_narrow t.1) (drop l.term-index l.terms) ≡ true;
  rest : l.split ++ split_terms l.cols (drop l.term-index l.terms) ≡ split_terms l.cols l.terms;
}
