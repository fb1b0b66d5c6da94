-- What is written fits, and the nodes of a proof may stand in an answer.
use Rattle.std.proofs.Common.{◌≡◌, ℕ, ◌+◌, ◌^◌, ◌<◌, ◌≤◌, ℤ, pos, negsuc, ◌≤ℤ◌, Bool, true, false, not, ◌&&◌, ◌||◌, List, [], ◌∷◌, length, take, get_or, refl, ap, sym, ◌∙◌, arith, FitsSigned}
use Rattle.std.specs.Prelude.{nat_lt}
use Rattle.std.specs.Int.{w128}
use Rattle.std.specs.List.{list_all}
use Rattle.std.proofs.lemmas.List.{take_all}
use Rattle.std.proofs.lemmas.List.Folds.{list_all_more}
use Rattle.std.proofs.lemmas.Bool.Decides.{nat_tests}
use Rattle.fractions.specs.Width.{fits}
use Rattle.fractions.proofs.Widths.{fits_from_range}
use Rattle.text_grammar.proofs.Bools.{and_true}
use Rattle.std.specs.Prelude.{nat_le, nat_eq, unsigned_abs, ◌==◌, int_lt}
use Rattle.std.proofs.lemmas.Int.{ints}
use Rattle.fractions.specs.Fraction.{Fraction, IsLowest}
use Rattle.lp_rows.specs.Points.{PointValue}
use Rattle.cert_grammar.specs.Claims.{is_lowest_spelling}
use Rattle.cert_grammar.specs.Laws.{is_written_den, is_value, IsPointOf, IsFittingProof}
use Rattle.std.proofs.lemmas.Nat.Gcd.{same_from_IsGcd}
use Rattle.fractions.specs.Lowest.{common_divisor}
use Rattle.fractions.proofs.LowestLemmas.{common_divisor_is}
use Rattle.cert_grammar.specs.Nodes.{is_short, are_short, node_fits}
use Rattle.proof_tree.specs.declared.proof.Node.{Node}
use Rattle.proof_tree.specs.Tree.{IsProofList}
use Rattle.proof_tree.proofs.Trees.{list_of}
use Rattle.cert_grammar.specs.Nodes.{pair_fits}

pub short_fit : (n : ℕ) → n < 2 ^ 32 → is_short n ≡ true
short_fit n lt = grind (arith, nat_tests)

pub pair_fit : (row : ℕ) (mult : ℤ) → row < 2 ^ 32 → FitsSigned w128 mult → pair_fits (row, mult) ≡ true
pair_fit row mult lt range = and_true (is_short row) (fits mult) (short_fit row lt) (fits_from_range mult range)

pub int_fit : (column : ℕ) (at : ℤ) → column < 2 ^ 32 → FitsSigned w128 at → (is_short column && fits at) ≡ true
int_fit column at lt range = and_true (is_short column) (fits at) (short_fit column lt) (fits_from_range at range)

pub bounded_fit : (scale : ℤ) (pairs : List (ℕ × ℤ)) → FitsSigned w128 scale → are_short pairs ≡ true → (fits scale && are_short pairs) ≡ true
bounded_fit scale pairs range short = and_true (fits scale) (are_short pairs) (fits_from_range scale range) short

-- the front of a list, item by item
front_more : {A : Type 0} (test : A → Bool) (xs : List A) (k : ℕ) (d : A) → list_all test (take k xs) ≡ true → k < length xs → test (get_or xs k d) ≡ true → list_all test (take (k + 1) xs) ≡ true
front_more test xs k d before lt fit = list_all_more test xs k d lt ∙ and_true (list_all test (take k xs)) (test (get_or xs k d)) before fit

front_all : {A : Type 0} (test : A → Bool) (xs : List A) (k : ℕ) → list_all test (take k xs) ≡ true → length xs ≤ k → list_all test xs ≡ true
front_all {A = A} test xs k before le = ap (λ (l : List A). list_all test l) (sym (take_all k xs le)) ∙ before

pub numbers_start : (xs : List ℤ) → list_all fits (take 0 xs) ≡ true
numbers_start xs = refl

pub numbers_more : (xs : List ℤ) (k : ℕ) (d : ℤ) → list_all fits (take k xs) ≡ true → k < length xs → FitsSigned w128 (get_or xs k d) → list_all fits (take (k + 1) xs) ≡ true
numbers_more xs k d before lt range = front_more fits xs k d before lt (fits_from_range (get_or xs k d) range)

pub numbers_all : (xs : List ℤ) (k : ℕ) → list_all fits (take k xs) ≡ true → length xs ≤ k → list_all fits xs ≡ true
numbers_all xs k before le = front_all fits xs k before le

pub pairs_start : (xs : List (ℕ × ℤ)) → are_short (take 0 xs) ≡ true
pairs_start xs = refl

pub pairs_more : (xs : List (ℕ × ℤ)) (k : ℕ) (d : ℕ × ℤ) → are_short (take k xs) ≡ true → k < length xs → pair_fits (get_or xs k d) ≡ true → are_short (take (k + 1) xs) ≡ true
pairs_more xs k d before lt fit = front_more pair_fits xs k d before lt fit

pub pairs_all : (xs : List (ℕ × ℤ)) (k : ℕ) → are_short (take k xs) ≡ true → length xs ≤ k → are_short xs ≡ true
pairs_all xs k before le = front_all pair_fits xs k before le

-- what fits behind a node that fits, where all fit that are left
pub node_fit : (all more : List Node) (n : Node) (rest : Bool) → list_all node_fits all ≡ rest → all ≡ n ∷ more → node_fits n ≡ true → list_all node_fits more ≡ rest
node_fit all more n rest h e fit = let a = rw (e, fit) at h in a

pub all_fit : (whole left : List Node) → list_all node_fits left ≡ list_all node_fits whole → left ≡ [] → list_all node_fits whole ≡ true
all_fit whole left h e = let a = rw e at h in sym a

-- a proof may stand in an answer
pub proof_list : (ns : List Node) → IsProofList ns → list_all node_fits ns ≡ true → IsFittingProof ns
proof_list ns is fit = record { proof = list_of ns is; fit = fit }

-- a value in lowest terms
at_most_one : (q : ℕ) → 0 < q → (q == 1) ≡ false → nat_le 2 q ≡ true
at_most_one q some e = grind (arith, nat_tests)

one_test : (n : ℕ) → n ≡ 1 → nat_eq n 1 ≡ true
one_test n e = grind (arith, nat_tests)

or_true : (a b : Bool) → b ≡ true → (a || b) ≡ true
or_true true b e = refl
or_true false b e = e

divisor_one : (p : ℤ) (q : ℕ) → IsLowest (record { num = p; den = pos q }) → common_divisor (unsigned_abs p) q ≡ 1
divisor_one p q is = same_from_IsGcd (unsigned_abs p) q (common_divisor (unsigned_abs p) q) 1 (common_divisor_is (unsigned_abs p) q) is.coprime

den_written : (p q : ℤ) → IsLowest (record { num = p; den = q }) → is_written_den p q ≡ true
den_written p (pos q) is = go (q == 1) refl
  where
    go : (b : Bool) → (q == 1) ≡ b → (b || is_lowest_spelling p q) ≡ true
    go true e = refl
    go false e =
        and_true (nat_le 2 q) (not (fits p && fits (pos q)) || nat_eq (common_divisor (unsigned_abs p) q) 1) (at_most_one q (omega (arith, ints, is.positive)) e)
        (or_true (not (fits p && fits (pos q))) (nat_eq (common_divisor (unsigned_abs p) q) 1) (one_test (common_divisor (unsigned_abs p) q) (divisor_one p q is)))
den_written p (negsuc q) is = absurd (omega (arith, ints, is.positive))

pub value_written : (f : Fraction) → FitsSigned w128 f.num → FitsSigned w128 f.den → IsLowest f → is_value f ≡ true
value_written f num den is =
    and_true (fits f.num) (fits f.den && is_written_den f.num f.den) (fits_from_range f.num num)
    (and_true (fits f.den) (is_written_den f.num f.den) (fits_from_range f.den den) (den_written f.num f.den is))

-- a point with a number for each variable and a truth for each Boolean
above_zero : (z : ℤ) → pos 1 ≤ℤ z → int_lt (pos 0) z ≡ true
above_zero (pos n) le = some n (omega (arith, ints, le))
  where
    some : (n : ℕ) → 1 ≤ n → nat_lt 0 n ≡ true
    some n le = grind (arith, nat_tests)
above_zero (negsuc n) le = absurd (omega (arith, ints, le))

pub point_of : (names booleans : List (List ℕ)) (point : PointValue) (truths : List Bool) → pos 1 ≤ℤ point.over → FitsSigned w128 point.over → list_all fits point.nums ≡ true → length point.nums ≡ length names → length truths ≡ length booleans → IsPointOf names booleans point truths
point_of names booleans point truths le range fit n m = record { positive = above_zero point.over le; over_fits = fits_from_range point.over range; nums_fit = fit; nums_long = n; truths_long = m }
