-- The tables are exact.
use Rattle.std.proofs.Common.{◌≡◌, Bool, true, false, not, ◌&&◌, ◌||◌, refl, ap, subst}
use Rattle.gdp_tables.specs.declared.tri.Tri.{Tri}
use Rattle.gdp_tables.specs.declared.tri.Tri.TheVariants.{No, Yes, Open}
use Rattle.gdp_tables.specs.Completions.{known, Completes, are_same}
use Rattle.gdp_tables.specs.Readings.{not_of, and_of, or_of, same_of}
use Rattle.gdp_tables.specs.Laws.{NotIsExact, AndIsExact, OrIsExact, SameIsExact}

-- what completes a known value is that value
pub completes_known : (x answer : Bool) → Completes x (known answer) → x ≡ answer
completes_known x false c = c
completes_known x true c = c

-- some truth value completes each
abbrev pub one_of : Tri → Bool
one_of No = false
one_of Yes = true
one_of Open = true

pub one_completes : (a : Tri) → Completes (one_of a) a
one_completes No = refl
one_completes Yes = refl
one_completes Open = tt

-- completions of the values complete the table's answer
pub not_completes : (a : Tri) (x : Bool) → Completes x a → Completes (not x) (not_of a)
not_completes No x c = ap not c
not_completes Yes x c = ap not c
not_completes Open x c = tt

pub and_completes : (a b : Tri) (x y : Bool) → Completes x a → Completes y b → Completes (x && y) (and_of a b)
and_completes No No x y c d = rw c refl
and_completes No Yes x y c d = rw c refl
and_completes No Open x y c d = rw c refl
and_completes Yes No x y c d = rw (c, d) refl
and_completes Yes Yes x y c d = rw (c, d) refl
and_completes Yes Open x y c d = tt
and_completes Open No false y c d = refl
and_completes Open No true y c d = d
and_completes Open Yes x y c d = tt
and_completes Open Open x y c d = tt

pub or_completes : (a b : Tri) (x y : Bool) → Completes x a → Completes y b → Completes (x || y) (or_of a b)
or_completes No No x y c d = rw (c, d) refl
or_completes No Yes x y c d = rw (c, d) refl
or_completes No Open x y c d = tt
or_completes Yes No x y c d = rw c refl
or_completes Yes Yes x y c d = rw c refl
or_completes Yes Open x y c d = rw c refl
or_completes Open No x y c d = tt
or_completes Open Yes false y c d = d
or_completes Open Yes true y c d = refl
or_completes Open Open x y c d = tt

pub same_completes : (a b : Tri) (x y : Bool) → Completes x a → Completes y b → Completes (are_same x y) (same_of a b)
same_completes No No x y c d = rw (c, d) refl
same_completes No Yes x y c d = rw (c, d) refl
same_completes No Open x y c d = tt
same_completes Yes No x y c d = rw (c, d) refl
same_completes Yes Yes x y c d = rw (c, d) refl
same_completes Yes Open x y c d = tt
same_completes Open No x y c d = tt
same_completes Open Yes x y c d = tt
same_completes Open Open x y c d = tt

-- what every completion gives is known
pub not_known : (a : Tri) (answer : Bool) → ((x : Bool) → Completes x a → not x ≡ answer) → not_of a ≡ known answer
not_known No answer f = ap known (f false refl)
not_known Yes answer f = ap known (f true refl)
not_known Open answer f =
    let yes : false ≡ answer = f true tt in
    let no : true ≡ answer = f false tt in
    cc

pub and_known : (a b : Tri) (answer : Bool) → ((x y : Bool) → Completes x a → Completes y b → (x && y) ≡ answer) → and_of a b ≡ known answer
and_known No No answer f = ap known (f false false refl refl)
and_known No Yes answer f = ap known (f false true refl refl)
and_known No Open answer f = ap known (f false true refl tt)
and_known Yes No answer f = ap known (f true false refl refl)
and_known Yes Yes answer f = ap known (f true true refl refl)
and_known Yes Open answer f =
    let yes : true ≡ answer = f true true refl tt in
    let no : false ≡ answer = f true false refl tt in
    cc
and_known Open No answer f = ap known (f true false tt refl)
and_known Open Yes answer f =
    let yes : true ≡ answer = f true true tt refl in
    let no : false ≡ answer = f false true tt refl in
    cc
and_known Open Open answer f =
    let yes : true ≡ answer = f true true tt tt in
    let no : false ≡ answer = f false true tt tt in
    cc

pub or_known : (a b : Tri) (answer : Bool) → ((x y : Bool) → Completes x a → Completes y b → (x || y) ≡ answer) → or_of a b ≡ known answer
or_known No No answer f = ap known (f false false refl refl)
or_known No Yes answer f = ap known (f false true refl refl)
or_known No Open answer f =
    let yes : true ≡ answer = f false true refl tt in
    let no : false ≡ answer = f false false refl tt in
    cc
or_known Yes No answer f = ap known (f true false refl refl)
or_known Yes Yes answer f = ap known (f true true refl refl)
or_known Yes Open answer f = ap known (f true true refl tt)
or_known Open No answer f =
    let yes : true ≡ answer = f true false tt refl in
    let no : false ≡ answer = f false false tt refl in
    cc
or_known Open Yes answer f = ap known (f false true tt refl)
or_known Open Open answer f =
    let yes : true ≡ answer = f true true tt tt in
    let no : false ≡ answer = f false false tt tt in
    cc

pub same_known : (a b : Tri) (answer : Bool) → ((x y : Bool) → Completes x a → Completes y b → are_same x y ≡ answer) → same_of a b ≡ known answer
same_known No No answer f = ap known (f false false refl refl)
same_known No Yes answer f = ap known (f false true refl refl)
same_known No Open answer f =
    let yes : true ≡ answer = f false false refl tt in
    let no : false ≡ answer = f false true refl tt in
    cc
same_known Yes No answer f = ap known (f true false refl refl)
same_known Yes Yes answer f = ap known (f true true refl refl)
same_known Yes Open answer f =
    let yes : true ≡ answer = f true true refl tt in
    let no : false ≡ answer = f true false refl tt in
    cc
same_known Open No answer f =
    let yes : true ≡ answer = f false false tt refl in
    let no : false ≡ answer = f true false tt refl in
    cc
same_known Open Yes answer f =
    let yes : true ≡ answer = f true true tt refl in
    let no : false ≡ answer = f false true tt refl in
    cc
same_known Open Open answer f =
    let yes : true ≡ answer = f true true tt tt in
    let no : false ≡ answer = f false true tt tt in
    cc

-- each table is exact
pub not_exact : NotIsExact
not_exact a answer = (
  λ e x c. completes_known (not x) answer (let P : Tri → Type 0 = λ t. Completes (not x) t in subst P e (not_completes a x c)),
  not_known a answer,
)

pub and_exact : AndIsExact
and_exact a b answer = (
  λ e x y c d. completes_known (x && y) answer (let P : Tri → Type 0 = λ t. Completes (x && y) t in subst P e (and_completes a b x y c d)),
  and_known a b answer,
)

pub or_exact : OrIsExact
or_exact a b answer = (
  λ e x y c d. completes_known (x || y) answer (let P : Tri → Type 0 = λ t. Completes (x || y) t in subst P e (or_completes a b x y c d)),
  or_known a b answer,
)

pub same_exact : SameIsExact
same_exact a b answer = (
  λ e x y c d. completes_known (are_same x y) answer (let P : Tri → Type 0 = λ t. Completes (are_same x y) t in subst P e (same_completes a b x y c d)),
  same_known a b answer,
)
