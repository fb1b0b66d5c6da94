-- A tree that is closed is nested as the lines are.
use Rattle.std.proofs.Common.{ℕ, List, [], Option, Some, subst}
use Rattle.model_tree.specs.Tree.{BlockTree, block, Disjunctions, no_disjunctions, disjunction, Disjuncts, no_disjuncts, disjunct}
use Rattle.gdp_grammar.specs.Nested.{AreOwned, Owns, row_marks, prop_marks, disjunction_marks, disjunct_marks, IsBlockOf, AreDisjunctionsOf, AreDisjunctsOf}
use Rattle.gdp_grammar.specs.Owners.{Kinds, is_row, is_logic, is_disjunction, is_disjunct, IsNested}
use Rattle.gdp_grammar.proofs.OwnedLines.{owned_found}
use Rattle.gdp_grammar.proofs.Owning.{Has, BlockStands, DisjunctionsStand, DisjunctsStand}

-- what an owner has is what it owns
pub owns : (kinds : Kinds) (n : ℕ) (o : Option ℕ) (rows qs ds js : List ℕ) → IsNested kinds n → Has kinds n o rows qs ds js → Owns kinds n o rows qs ds js
owns kinds n o rows qs ds js nested has = record {
  rows_are = subst (λ (xs : List ℕ). AreOwned kinds is_row o n xs) has.rows_are (owned_found kinds is_row o n nested);
  props_are = subst (λ (xs : List ℕ). AreOwned kinds is_logic o n xs) has.props_are (owned_found kinds is_logic o n nested);
  disjunctions_are = subst (λ (xs : List ℕ). AreOwned kinds is_disjunction o n xs) has.disjunctions_are (owned_found kinds is_disjunction o n nested);
  disjuncts_are = subst (λ (xs : List ℕ). AreOwned kinds is_disjunct o n xs) has.disjuncts_are (owned_found kinds is_disjunct o n nested);
}

-- what stands so is nested so
mutual
  pub block_nested : (kinds : Kinds) (n : ℕ) (o : Option ℕ) (b : BlockTree) → IsNested kinds n → BlockStands kinds n o b → IsBlockOf kinds n o b
  block_nested kinds n o (block items ds) nested s = (owns kinds n o (row_marks items.rows) (prop_marks items.props) (disjunction_marks ds) [] nested s.0, disjunctions_nested kinds n ds nested s.1)

  pub disjunctions_nested : (kinds : Kinds) (n : ℕ) (ds : Disjunctions) → IsNested kinds n → DisjunctionsStand kinds n ds → AreDisjunctionsOf kinds n ds
  disjunctions_nested kinds n no_disjunctions nested s = tt
  disjunctions_nested kinds n (disjunction head js ds) nested s =
      (owns kinds n (Some head.mark) [] [] [] (disjunct_marks js) nested s.1, disjuncts_nested kinds n js nested s.2, disjunctions_nested kinds n ds nested s.3)

  pub disjuncts_nested : (kinds : Kinds) (n : ℕ) (js : Disjuncts) → IsNested kinds n → DisjunctsStand kinds n js → AreDisjunctsOf kinds n js
  disjuncts_nested kinds n no_disjuncts nested s = tt
  disjuncts_nested kinds n (disjunct head b js) nested s = (block_nested kinds n (Some head.mark) b nested s.1, disjuncts_nested kinds n js nested s.2)
