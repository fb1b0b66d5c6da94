use Rattle.std.proofs.Common.{◌≡◌, ◌≢◌, FitsSigned, rules, pos, arith, ap, ◌+ℤ◌, sym, ◌∙◌}
use Rattle.std.specs.Int.{w128, int_div_euclid, int_rem_euclid, cast_unsigned}
use Rattle.std.proofs.lemmas.Int.{to_z-of_z}
use Rattle.std.proofs.lemmas.Grind.{common_steps}
use Rattle.fractions.proofs.Division.{divided}
use Rattle.fractions.proofs.Rounding.{ceiling_exact, ceiling_above}
use Rattle.fractions.proofs.Widths.{same_from_bits}
use Rattle.fractions.proofs.frac.Frac.ceil.Goals as goal

pub returns-then-rem_euclid-eq0 : goal.returns-then-rem_euclid-eq0
returns-then-rem_euclid-eq0 c =
    let n = c.self.inside.num in
    let d = c.self.inside.den in
    let fits_num : FitsSigned w128 c.self.inside.num = search rules in
    let fits_den : FitsSigned w128 c.self.inside.den = search rules in
    let fits_result : FitsSigned w128 c.div_euclid-floor.result = search rules in
    let fits_rest : FitsSigned w128 c.rem_euclid.result = search rules in
    let fits_zero : FitsSigned w128 (pos 0) = search rules in
    let quotient : c.div_euclid-floor.result ≡ int_div_euclid c.self.inside.num c.self.inside.den = simp to_z-of_z at c.div_euclid-floor.ensures in
    let rest : c.rem_euclid.result ≡ int_rem_euclid c.self.inside.num c.self.inside.den = simp to_z-of_z at c.rem_euclid.ensures.value in
    let none : int_rem_euclid c.self.inside.num c.self.inside.den ≡ pos 0 = sym rest ∙ same_from_bits c.rem_euclid.result (pos 0) fits_rest fits_zero c.if-rem_euclid-eq0.true in
    simp to_z-of_z (rw (quotient, ← c.self.view_is) (ceiling_exact _ (int_div_euclid n d) (int_rem_euclid n d) c.self.invariant.positive (divided n d c.self.invariant.positive) none))

pub returns-else-rem_euclid-eq0 : goal.returns-else-rem_euclid-eq0
returns-else-rem_euclid-eq0 c =
    let n = c.self.inside.num in
    let d = c.self.inside.den in
    let fits_num : FitsSigned w128 c.self.inside.num = search rules in
    let fits_den : FitsSigned w128 c.self.inside.den = search rules in
    let fits_result : FitsSigned w128 c.div_euclid-floor.result = search rules in
    let fits_next : FitsSigned w128 (c.div_euclid-floor.result +ℤ pos 1) = first_of (search rules, grind (arith, common_steps)) in
    let quotient : c.div_euclid-floor.result ≡ int_div_euclid c.self.inside.num c.self.inside.den = simp to_z-of_z at c.div_euclid-floor.ensures in
    let rest : c.rem_euclid.result ≡ int_rem_euclid c.self.inside.num c.self.inside.den = simp to_z-of_z at c.rem_euclid.ensures.value in
    let some : int_rem_euclid c.self.inside.num c.self.inside.den ≢ pos 0 = λ e. c.if-rem_euclid-eq0.false (ap (cast_unsigned w128) (rest ∙ e)) in
    simp to_z-of_z (rw (quotient, ← c.self.view_is) (ceiling_above _ (int_div_euclid n d) (int_rem_euclid n d) (divided n d c.self.invariant.positive) some))
