use Rattle.std.proofs.Common.{◌≡◌, sym, subst, ◌++◌, ◌∷◌, [], List, false, rules}
use Rattle.proof_tree.specs.declared.proof.Node.{Node}
use Rattle.cert_reader.specs.Grown.{IsGrown}
use Rattle.cert_reader.proofs.Grown.{grown_more}
use Rattle.cert_reader.proofs.tree.TreeRead.add.Goals as goal

pub invariant_of-self-2 : goal.invariant_of-self-2
invariant_of-self-2 c =
    let items : c.push.new.self ≡ c.self.inside.nodes ++ c.args.node ∷ [] = search rules in
    subst (λ (l : List Node). IsGrown l c.in-Some.halves false) (sym items)
    (grown_more c.self.inside.nodes c.args.node c.self.inside.halves c.in-Some.halves c.self.inside.ended c.self.invariant c.requires c.if-self-eq0.false c.in-Some.ensures)
