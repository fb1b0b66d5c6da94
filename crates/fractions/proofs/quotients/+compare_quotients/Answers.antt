use Rattle.std.proofs.Common.{◌≡◌, ◌≢◌, FitsSigned, rules, pos, ap, ◌*ℤ◌, ◌∙◌, sym, ◌⊎◌, inl, inr}
use Rattle.std.specs.Int.{w128, int_div_euclid, int_rem_euclid, cast_unsigned}
use Rattle.std.specs.Ordering.{int_cmp}
use Rattle.std.proofs.lemmas.Int.{to_z-of_z}
use Rattle.fractions.proofs.Division.{IsDivided, divided}
use Rattle.fractions.proofs.Order.{whole_order, same_quotient, last_order, turned_order}
use Rattle.fractions.proofs.Widths.{same_from_bits}
use Rattle.fractions.proofs.quotients.+compare_quotients.Goals as goal
use Rattle.fractions.proofs.quotients.+compare_quotients.Goals.{then-left_rest-eq0-via-then-left_rest-eq0, then-left_rest-eq0-via-else-left_rest-eq0+then-right_rest-eq0}

pub returns-then-left-right : goal.returns-then-left-right
returns-then-left-right t c =
    let a = c.args in
    let fits_a = c.ranges.a in
    let fits_b = c.ranges.b in
    let fits_c = c.ranges.c in
    let fits_d = c.ranges.d in
    let fits_left : FitsSigned w128 c.div_euclid-left.result = search rules in
    let fits_right : FitsSigned w128 c.div_euclid-right.result = search rules in
    let left : c.div_euclid-left.result ≡ int_div_euclid c.args.a c.args.b = simp to_z-of_z at c.div_euclid-left.ensures in
    let right : c.div_euclid-right.result ≡ int_div_euclid c.args.c c.args.d = simp to_z-of_z at c.div_euclid-right.ensures in
    let order : c.cmp.result ≡ int_cmp c.div_euclid-left.result c.div_euclid-right.result = simp to_z-of_z at c.cmp.ensures in
    let unequal : c.div_euclid-left.result ≢ c.div_euclid-right.result = λ e. c.if-left-right.true (ap (cast_unsigned w128) e) in
    order ∙ whole_order a.a a.b a.c a.d c.div_euclid-left.result c.div_euclid-right.result (int_rem_euclid a.a a.b) (int_rem_euclid a.c a.d) c.requires.b_positive c.requires.d_positive (rw left (divided a.a a.b c.requires.b_positive)) (rw right (divided a.c a.d c.requires.d_positive)) unequal

pub returns-then-left_rest-eq0 : goal.returns-then-left_rest-eq0
returns-then-left_rest-eq0 t c =
    let a = c.args in
    let fits_a = c.ranges.a in
    let fits_b = c.ranges.b in
    let fits_c = c.ranges.c in
    let fits_d = c.ranges.d in
    let fits_left : FitsSigned w128 c.div_euclid-left.result = search rules in
    let fits_right : FitsSigned w128 c.div_euclid-right.result = search rules in
    let fits_left_rest : FitsSigned w128 c.rem_euclid-left_rest.result = search rules in
    let fits_right_rest : FitsSigned w128 c.rem_euclid-right_rest.result = search rules in
    let fits_zero : FitsSigned w128 (pos 0) = search rules in
    let left : c.div_euclid-left.result ≡ int_div_euclid c.args.a c.args.b = simp to_z-of_z at c.div_euclid-left.ensures in
    let right : c.div_euclid-right.result ≡ int_div_euclid c.args.c c.args.d = simp to_z-of_z at c.div_euclid-right.ensures in
    let left_rest : c.rem_euclid-left_rest.result ≡ int_rem_euclid c.args.a c.args.b = simp to_z-of_z at c.rem_euclid-left_rest.ensures.value in
    let right_rest : c.rem_euclid-right_rest.result ≡ int_rem_euclid c.args.c c.args.d = simp to_z-of_z at c.rem_euclid-right_rest.ensures.value in
    let order : c.cmp-then-left_rest-eq0.result ≡ int_cmp c.rem_euclid-left_rest.result c.rem_euclid-right_rest.result = simp to_z-of_z at c.cmp-then-left_rest-eq0.ensures in
    let equal : c.div_euclid-left.result ≡ c.div_euclid-right.result = same_from_bits c.div_euclid-left.result c.div_euclid-right.result fits_left fits_right c.if-left-right.false in
    let above : IsDivided c.args.a c.args.b c.div_euclid-left.result c.rem_euclid-left_rest.result = rw (left, left_rest) (divided a.a a.b c.requires.b_positive) in
    let below : IsDivided c.args.c c.args.d c.div_euclid-left.result c.rem_euclid-right_rest.result = rw (equal, right, right_rest) (divided a.c a.d c.requires.d_positive) in
    let none : (c.rem_euclid-left_rest.result ≡ pos 0) ⊎ (c.rem_euclid-right_rest.result ≡ pos 0) = elim c.then-left_rest-eq0.branch [
      | then-left_rest-eq0-via-then-left_rest-eq0 w ↦ inl (same_from_bits c.rem_euclid-left_rest.result (pos 0) fits_left_rest fits_zero w.if-left_rest-eq0.true)
      | then-left_rest-eq0-via-else-left_rest-eq0+then-right_rest-eq0 w ↦ inr (same_from_bits c.rem_euclid-right_rest.result (pos 0) fits_right_rest fits_zero w.if-right_rest-eq0.true)
    ] in
    order ∙ last_order a.b a.d c.rem_euclid-left_rest.result c.rem_euclid-right_rest.result c.requires.b_positive c.requires.d_positive above.low below.low none
    ∙ sym (same_quotient a.a a.b a.c a.d c.div_euclid-left.result c.rem_euclid-left_rest.result c.rem_euclid-right_rest.result above below)

pub returns : goal.returns
returns t c =
    let a = c.args in
    let fits_a = c.ranges.a in
    let fits_b = c.ranges.b in
    let fits_c = c.ranges.c in
    let fits_d = c.ranges.d in
    let fits_left : FitsSigned w128 c.div_euclid-left.result = search rules in
    let fits_right : FitsSigned w128 c.div_euclid-right.result = search rules in
    let fits_left_rest : FitsSigned w128 c.rem_euclid-left_rest.result = search rules in
    let fits_right_rest : FitsSigned w128 c.rem_euclid-right_rest.result = search rules in
    let left : c.div_euclid-left.result ≡ int_div_euclid c.args.a c.args.b = simp to_z-of_z at c.div_euclid-left.ensures in
    let right : c.div_euclid-right.result ≡ int_div_euclid c.args.c c.args.d = simp to_z-of_z at c.div_euclid-right.ensures in
    let left_rest : c.rem_euclid-left_rest.result ≡ int_rem_euclid c.args.a c.args.b = simp to_z-of_z at c.rem_euclid-left_rest.ensures.value in
    let right_rest : c.rem_euclid-right_rest.result ≡ int_rem_euclid c.args.c c.args.d = simp to_z-of_z at c.rem_euclid-right_rest.ensures.value in
    let order : c.compare_quotients.result ≡ int_cmp (c.args.d *ℤ c.rem_euclid-left_rest.result) (c.args.b *ℤ c.rem_euclid-right_rest.result) = simp to_z-of_z at c.compare_quotients.ensures in
    let equal : c.div_euclid-left.result ≡ c.div_euclid-right.result = same_from_bits c.div_euclid-left.result c.div_euclid-right.result fits_left fits_right c.if-left-right.false in
    order ∙ turned_order a.b a.d c.rem_euclid-left_rest.result c.rem_euclid-right_rest.result
    ∙ sym (same_quotient a.a a.b a.c a.d c.div_euclid-left.result c.rem_euclid-left_rest.result c.rem_euclid-right_rest.result
    (rw (left, left_rest) (divided a.a a.b c.requires.b_positive)) (rw (equal, right, right_rest) (divided a.c a.d c.requires.d_positive)))
