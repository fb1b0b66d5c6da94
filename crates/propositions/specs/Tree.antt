-- Propositions, as plain data.
use Rattle.std.specs.Prelude.{ℕ}

-- a connective of two propositions
pub data PairConnective : Type 0 where
  implies : PairConnective
  equivalent : PairConnective
  xor : PairConnective

-- a connective of a list of propositions: all of them, some of them, or that many of them
pub data ListConnective : Type 0 where
  all_of : ListConnective
  some_of : ListConnective
  exactly : ℕ → ListConnective
  at_least : ℕ → ListConnective
  at_most : ℕ → ListConnective

mutual
  -- a proposition: the Boolean of this number, or a connective over propositions
  pub data PropTree : Type 0 where
    atom : ℕ → PropTree
    negated : PropTree → PropTree
    paired : PairConnective → PropTree → PropTree → PropTree
    listed : ListConnective → PropTrees → PropTree

  -- the arguments of a connective
  pub data PropTrees : Type 0 where
    no_props : PropTrees
    prop : PropTree → PropTrees → PropTrees
