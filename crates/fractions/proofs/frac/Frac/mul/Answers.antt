use Rattle.std.proofs.Common.{◌≡◌, ◌*ℤ◌, FitsSigned, rules, subst, sym}
use Rattle.std.specs.Int.{w128}
use Rattle.std.proofs.lemmas.Int.{to_z-of_z}
use Rattle.int_linear.proofs.Ring.{mul_pos}
use Rattle.fractions.specs.Fraction.{Fraction}
use Rattle.fractions.proofs.Arithmetic.{multiplication_fits_all}
use Rattle.fractions.proofs.frac.Frac.mul.Goals as goal

pub reduced-requires : goal.reduced-requires
reduced-requires c =
    let fits_den : FitsSigned w128 c.self.inside.den = search rules in
    let fits_other_den : FitsSigned w128 c.other.inside.den = search rules in
    let den : FitsSigned w128 (c.self.inside.den *ℤ c.other.inside.den) × c.in-Some-checked_mul.den ≡ c.self.inside.den *ℤ c.other.inside.den = simp to_z-of_z at c.in-Some-checked_mul.ensures in
    let fits_product : FitsSigned w128 c.in-Some-checked_mul.den = subst (FitsSigned w128) (sym den.1) den.0 in
    simp to_z-of_z (rw den.1 (mul_pos c.self.inside.den c.other.inside.den c.self.invariant.positive c.other.invariant.positive))

pub returns-clause-fits : goal.returns-clause-fits
returns-clause-fits c =
    let fits_num : FitsSigned w128 c.self.inside.num = search rules in
    let fits_den : FitsSigned w128 c.self.inside.den = search rules in
    let fits_other_num : FitsSigned w128 c.other.inside.num = search rules in
    let fits_other_den : FitsSigned w128 c.other.inside.den = search rules in
    let num : FitsSigned w128 (c.self.inside.num *ℤ c.other.inside.num) × c.in-Some.num ≡ c.self.inside.num *ℤ c.other.inside.num = simp to_z-of_z at c.in-Some.ensures in
    let den : FitsSigned w128 (c.self.inside.den *ℤ c.other.inside.den) × c.in-Some-checked_mul.den ≡ c.self.inside.den *ℤ c.other.inside.den = simp to_z-of_z at c.in-Some-checked_mul.ensures in
    let a : Fraction = record { num = c.self.inside.num; den = c.self.inside.den } in
    let b : Fraction = record { num = c.other.inside.num; den = c.other.inside.den } in
    rw (← c.self.view_is, ← c.other.view_is) (sym (multiplication_fits_all a b num.0 den.0))
