use Rattle.std.proofs.Common.{◌≡◌, FitsSigned, rules}
use Rattle.std.specs.Int.{w128, int_div_euclid, int_rem_euclid}
use Rattle.std.proofs.lemmas.Int.{to_z-of_z}
use Rattle.fractions.proofs.Division.{divided}
use Rattle.fractions.proofs.Rounding.{floor_is}
use Rattle.fractions.proofs.frac.Frac.floor.Goals as goal

pub returns : goal.returns
returns c =
    let n = c.self.inside.num in
    let d = c.self.inside.den in
    let fits_num : FitsSigned w128 c.self.inside.num = search rules in
    let fits_den : FitsSigned w128 c.self.inside.den = search rules in
    let fits_result : FitsSigned w128 c.div_euclid.result = search rules in
    let quotient : c.div_euclid.result ≡ int_div_euclid c.self.inside.num c.self.inside.den = simp to_z-of_z at c.div_euclid.ensures in
    simp to_z-of_z (rw (quotient, ← c.self.view_is) (floor_is _ (int_div_euclid n d) (int_rem_euclid n d) (divided n d c.self.invariant.positive)))
