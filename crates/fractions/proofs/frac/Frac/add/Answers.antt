use Rattle.std.proofs.Common.{◌≡◌, ◌+ℤ◌, ◌*ℤ◌, FitsSigned, rules, subst, sym}
use Rattle.std.specs.Int.{w128}
use Rattle.std.proofs.lemmas.Int.{to_z-of_z}
use Rattle.int_linear.proofs.Ring.{mul_pos}
use Rattle.fractions.specs.Fraction.{Fraction}
use Rattle.fractions.proofs.Arithmetic.{addition_fits_all, addition_fits_last}
use Rattle.fractions.proofs.frac.Frac.add.Goals as goal

pub returns-in_default-checked_add-clause-fits : goal.returns-in_default-checked_add-clause-fits
returns-in_default-checked_add-clause-fits c =
    let fits_num : FitsSigned w128 c.self.inside.num = search rules in
    let fits_den : FitsSigned w128 c.self.inside.den = search rules in
    let fits_other_num : FitsSigned w128 c.other.inside.num = search rules in
    let fits_other_den : FitsSigned w128 c.other.inside.den = search rules in
    let left : FitsSigned w128 (c.self.inside.num *ℤ c.other.inside.den) × c.in-Some.left ≡ c.self.inside.num *ℤ c.other.inside.den = simp to_z-of_z at c.in-Some.ensures in
    let right : FitsSigned w128 (c.other.inside.num *ℤ c.self.inside.den) × c.in-Some-checked_mul.right ≡ c.other.inside.num *ℤ c.self.inside.den = simp to_z-of_z at c.in-Some-checked_mul.ensures in
    let den : FitsSigned w128 (c.self.inside.den *ℤ c.other.inside.den) × c.in-Some-checked_mul-2.below ≡ c.self.inside.den *ℤ c.other.inside.den = simp to_z-of_z at c.in-Some-checked_mul-2.ensures in
    let fits_left : FitsSigned w128 c.in-Some.left = subst (FitsSigned w128) (sym left.1) left.0 in
    let fits_right : FitsSigned w128 c.in-Some-checked_mul.right = subst (FitsSigned w128) (sym right.1) right.0 in
    let wide : ¬ FitsSigned w128 (c.in-Some.left +ℤ c.in-Some-checked_mul.right) = simp to_z-of_z at c.in_default-checked_add.ensures in
    let a : Fraction = record { num = c.self.inside.num; den = c.self.inside.den } in
    let b : Fraction = record { num = c.other.inside.num; den = c.other.inside.den } in
    rw (← c.self.view_is, ← c.other.view_is) (sym (addition_fits_last a b left.0 right.0 den.0 (rw (left.1, right.1) at wide)))

pub reduced-requires : goal.reduced-requires
reduced-requires c =
    let fits_den : FitsSigned w128 c.self.inside.den = search rules in
    let fits_other_den : FitsSigned w128 c.other.inside.den = search rules in
    let den : FitsSigned w128 (c.self.inside.den *ℤ c.other.inside.den) × c.in-Some-checked_mul-2.below ≡ c.self.inside.den *ℤ c.other.inside.den = simp to_z-of_z at c.in-Some-checked_mul-2.ensures in
    let fits_product : FitsSigned w128 c.in-Some-checked_mul-2.below = subst (FitsSigned w128) (sym den.1) den.0 in
    simp to_z-of_z (rw den.1 (mul_pos c.self.inside.den c.other.inside.den c.self.invariant.positive c.other.invariant.positive))

pub returns-clause-fits : goal.returns-clause-fits
returns-clause-fits c =
    let fits_num : FitsSigned w128 c.self.inside.num = search rules in
    let fits_den : FitsSigned w128 c.self.inside.den = search rules in
    let fits_other_num : FitsSigned w128 c.other.inside.num = search rules in
    let fits_other_den : FitsSigned w128 c.other.inside.den = search rules in
    let left : FitsSigned w128 (c.self.inside.num *ℤ c.other.inside.den) × c.in-Some.left ≡ c.self.inside.num *ℤ c.other.inside.den = simp to_z-of_z at c.in-Some.ensures in
    let right : FitsSigned w128 (c.other.inside.num *ℤ c.self.inside.den) × c.in-Some-checked_mul.right ≡ c.other.inside.num *ℤ c.self.inside.den = simp to_z-of_z at c.in-Some-checked_mul.ensures in
    let den : FitsSigned w128 (c.self.inside.den *ℤ c.other.inside.den) × c.in-Some-checked_mul-2.below ≡ c.self.inside.den *ℤ c.other.inside.den = simp to_z-of_z at c.in-Some-checked_mul-2.ensures in
    let fits_left : FitsSigned w128 c.in-Some.left = subst (FitsSigned w128) (sym left.1) left.0 in
    let fits_right : FitsSigned w128 c.in-Some-checked_mul.right = subst (FitsSigned w128) (sym right.1) right.0 in
    let sum : FitsSigned w128 (c.in-Some.left +ℤ c.in-Some-checked_mul.right) × c.in-Some-checked_add.sum ≡ c.in-Some.left +ℤ c.in-Some-checked_mul.right = simp to_z-of_z at c.in-Some-checked_add.ensures in
    let a : Fraction = record { num = c.self.inside.num; den = c.self.inside.den } in
    let b : Fraction = record { num = c.other.inside.num; den = c.other.inside.den } in
    rw (← c.self.view_is, ← c.other.view_is) (sym (addition_fits_all a b left.0 right.0 den.0 (rw (left.1, right.1) at sum.0)))
