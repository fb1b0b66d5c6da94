use Rattle.std.proofs.Common.{◌≡◌, ◌++◌, drop}
use Rattle.model_tree.specs.Tree.{below_disjunctions, below_disjuncts}
use Rattle.model_tree.specs.View.{disjunctions_of, disjuncts_of}
use Rattle.gdp_grammar.specs.Canonical.{numbers_of}
use Rattle.gdp_printer.proofs.indicators.+add.Given as goal

abbrev pub invariant-add_disjunctions-loop-disjunction :
    goal.invariant-add_disjunctions-loop-disjunction
invariant-add_disjunctions-loop-disjunction l =
    l.ids.items ++ numbers_of (below_disjunctions (disjunctions_of (drop l.disjunction-index l.disjunctions)))
    ≡ l.fn.ids.items ++ numbers_of (below_disjunctions (disjunctions_of l.disjunctions))

abbrev pub invariant-add_disjuncts-loop-disjunct : goal.invariant-add_disjuncts-loop-disjunct
invariant-add_disjuncts-loop-disjunct l =
    l.ids.items ++ numbers_of (below_disjuncts (disjuncts_of (drop l.disjunct-index l.disjuncts)))
    ≡ l.fn.ids.items ++ numbers_of (below_disjuncts (disjuncts_of l.disjuncts))
