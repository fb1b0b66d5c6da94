-- The owner of a line.
use Rattle.std.proofs.Common.{◌≡◌, ℕ, zero, suc, ◌<◌, ◌≤◌, Bool, true, false, List, [], ◌∷◌, Option, Some, None, refl, ap, sym, subst, ◌∙◌, ◌⊎◌, inl, inr, arith}
use Rattle.std.proofs.lemmas.Bool.{cond-true, cond-false}
use Rattle.gdp_grammar.specs.Stacks.{open_after, open_before, first_of, OwnerFound}
use Rattle.gdp_grammar.specs.Owners.{LineKind, RowLine, LogicLine, DisjunctionLine, DisjunctLine, EndLine, OtherLine, Kinds, opens, is_end, count_before, depth, IsClosed, AllClosed, IsOwner, IsNested, OneOwner}

-- less, equal or greater
compared : (a b : ℕ) → (a < b) ⊎ ((a ≡ b) ⊎ (b < a))
compared zero zero = inr (inl refl)
compared zero (suc b) = inl (omega arith)
compared (suc a) zero = inr (inr (omega arith))
compared (suc a) (suc b) = elim (compared a b) [
  | inl l ↦ inl (omega (arith, l))
  | inr r ↦ elim r [ inl e ↦ inr (inl (omega (arith, e))) | inr g ↦ inr (inr (omega (arith, g))) ]
]

pub one_owner : OneOwner
one_owner kinds n None None a b = refl
one_owner kinds n None (Some j) a b = absurd (b.2 (a j (omega arith) b.0 b.1))
one_owner kinds n (Some i) None a b = absurd (a.2 (b i (omega arith) a.0 a.1))
one_owner kinds n (Some i) (Some j) a b = elim (compared i j) [
  | inl l ↦ absurd (b.2 (a.3 j (omega (arith, l)) b.0 b.1))
  | inr r ↦ elim r [
    | inl e ↦ ap (λ (k : ℕ). some_of k) e
    | inr g ↦ absurd (a.2 (b.3 i (omega (arith, g)) a.0 a.1))
  ]
]
  where
    some_of : ℕ → Option ℕ
    some_of k = Some k

-- no `end` line between the lines leads back to the depth of line j
abbrev IsOpen : Kinds → ℕ → ℕ → Type 0
IsOpen kinds j n = (k : ℕ) → j < k → k < n → is_end (kinds k) ≡ true → depth kinds j < depth kinds (suc k)

-- the lines that open what is open before line n, each as it stood before the one above it
record IsTop (kinds : Kinds) (j n : ℕ) : Type 0 where
  before : j < n
  opening : opens (kinds j) ≡ true
  deeper : depth kinds n ≡ suc (depth kinds j)
  stays : IsOpen kinds j n
  closed : AllClosed kinds (suc j) n

record IsBottom (kinds : Kinds) (n : ℕ) : Type 0 where
  flat : depth kinds n ≡ 0
  closed : AllClosed kinds 0 n

abbrev Stands : Kinds → List ℕ → ℕ → Type 0
Stands kinds [] n = IsBottom kinds n
Stands kinds (j ∷ below) n = IsTop kinds j n × Stands kinds below j

-- what is closed before a line is closed before the next
later : (kinds : Kinds) (j n m : ℕ) → n ≤ m → IsClosed kinds j n → IsClosed kinds j m
later kinds j n m more c = (c.0, c.1, omega (arith, c.2, more), c.3, c.4)

-- a line that opens nothing adds nothing to close
not_opening : (kinds : Kinds) (i n : ℕ) → opens (kinds n) ≡ false → AllClosed kinds i n → AllClosed kinds i (suc n)
not_opening kinds i n other all j from within o = elim (compared j n) [
  | inl l ↦ later kinds j n (suc n) (omega arith) (all j from l o)
  | inr r ↦ elim r [
    | inl e ↦ absurd (true_not_false (sym o ∙ ap (λ (k : ℕ). opens (kinds k)) e ∙ other))
    | inr g ↦ absurd (omega (arith, g, within))
  ]
]
  where
    true_not_false : true ≡ false → ⊥
    true_not_false e = absurd (cc e)

-- a line that neither opens nor ends leaves all as it is
still_stands : (kinds : Kinds) (st : List ℕ) (n : ℕ) → opens (kinds n) ≡ false → is_end (kinds n) ≡ false → depth kinds (suc n) ≡ depth kinds n → Stands kinds st n → Stands kinds st (suc n)
still_stands kinds [] n o e same s = record { flat = same ∙ s.flat; closed = not_opening kinds 0 n o s.closed }
still_stands kinds (j ∷ below) n o e same s = (
  record {
    before = omega (arith, s.0.before);
    opening = s.0.opening;
    deeper = same ∙ s.0.deeper;
    stays = λ k over under is. elim (compared k n) [
      | inl l ↦ s.0.stays k over l is
      | inr r ↦ elim r [
        | inl k_n ↦ absurd (true_not_false (sym is ∙ ap (λ (x : ℕ). is_end (kinds x)) k_n ∙ e))
        | inr g ↦ absurd (omega (arith, g, under))
      ]
    ];
    closed = not_opening kinds (suc j) n o s.0.closed;
  },
  s.1,
)
  where
    true_not_false : true ≡ false → ⊥
    true_not_false e = absurd (cc e)

-- a line that opens is open after it
opened_stands : (kinds : Kinds) (st : List ℕ) (n : ℕ) → opens (kinds n) ≡ true → depth kinds (suc n) ≡ suc (depth kinds n) → Stands kinds st n → Stands kinds (n ∷ st) (suc n)
opened_stands kinds st n o deeper s = (
  record {
    before = omega arith;
    opening = o;
    deeper = deeper;
    stays = λ k over under is. absurd (omega (arith, over, under));
    closed = λ j from within opening. absurd (omega (arith, from, within));
  },
  s,
)

end_opens_not : (k : LineKind) → is_end k ≡ true → opens k ≡ false
end_opens_not RowLine e = absurd (cc e)
end_opens_not LogicLine e = absurd (cc e)
end_opens_not DisjunctionLine e = absurd (cc e)
end_opens_not DisjunctLine e = absurd (cc e)
end_opens_not EndLine e = refl
end_opens_not OtherLine e = absurd (cc e)

not_both : (k : LineKind) → opens k ≡ true → is_end k ≡ true → ⊥
not_both RowLine o e = absurd (cc o)
not_both LogicLine o e = absurd (cc o)
not_both DisjunctionLine o e = absurd (cc e)
not_both DisjunctLine o e = absurd (cc e)
not_both EndLine o e = absurd (cc o)
not_both OtherLine o e = absurd (cc o)

-- what is closed before line j, line j itself, and what is closed after it
closed_over : (kinds : Kinds) (i j n : ℕ) → AllClosed kinds i j → j < n → IsClosed kinds j (suc n) → AllClosed kinds (suc j) n → opens (kinds n) ≡ false → AllClosed kinds i (suc n)
closed_over kinds i j n before under here after other x from within o = elim (compared x j) [
  | inl l ↦ later kinds x j (suc n) (omega (arith, under)) (before x from l o)
  | inr r ↦ elim r [
    | inl e ↦ moved (sym e)
    | inr g ↦ not_opening kinds (suc j) n other after x (omega (arith, g)) within o
  ]
]
  where
    moved : j ≡ x → IsClosed kinds x (suc n)
    moved e = subst (λ (y : ℕ). IsClosed kinds y (suc n)) e here

ended_stands : (kinds : Kinds) (j : ℕ) (below : List ℕ) (n : ℕ) → is_end (kinds n) ≡ true → suc (depth kinds (suc n)) ≡ depth kinds n → Stands kinds (j ∷ below) n → Stands kinds below (suc n)
ended_stands kinds j below n e up s = at below s.1
  where
    back : depth kinds (suc n) ≡ depth kinds j
    back = omega (arith, up, s.0.deeper)

    here : IsClosed kinds j (suc n)
    here = (n, s.0.before, omega arith, e, back)

    other : opens (kinds n) ≡ false
    other = end_opens_not (kinds n) e

    at : (below : List ℕ) → Stands kinds below j → Stands kinds below (suc n)
    at [] b = record { flat = back ∙ b.flat; closed = closed_over kinds 0 j n b.closed s.0.before here s.0.closed other }
    at (i ∷ below) b = (
      record {
        before = omega (arith, b.0.before, s.0.before);
        opening = b.0.opening;
        deeper = back ∙ b.0.deeper;
        stays = λ k over under is. elim (compared k j) [
          | inl l ↦ b.0.stays k over l is
          | inr r ↦ elim r [
            | inl k_j ↦ absurd (not_both (kinds j) s.0.opening (ap (λ (x : ℕ). is_end (kinds x)) (sym k_j) ∙ is))
            | inr g ↦ elim (compared k n) [
              | inl l ↦ omega (arith, s.0.stays k g l is, b.0.deeper)
              | inr q ↦ elim q [
                | inl k_n ↦ omega (arith, ap (λ (x : ℕ). depth kinds (suc x)) k_n, back, b.0.deeper)
                | inr g2 ↦ absurd (omega (arith, g2, under))
              ]
            ]
          ]
        ];
        closed = closed_over kinds (suc i) j n b.0.closed s.0.before here s.0.closed other;
      },
      b.1,
    )

-- the counts after a line
count_more : (test : LineKind → Bool) (kinds : Kinds) (n : ℕ) → test (kinds n) ≡ true → count_before test kinds (suc n) ≡ suc (count_before test kinds n)
unfolding count_before
count_more test kinds n e = cond-true (test (kinds n)) _ _ e

count_same : (test : LineKind → Bool) (kinds : Kinds) (n : ℕ) → test (kinds n) ≡ false → count_before test kinds (suc n) ≡ count_before test kinds n
unfolding count_before
count_same test kinds n e = cond-false (test (kinds n)) _ _ e

nested_before : (kinds : Kinds) (n : ℕ) → IsNested kinds (suc n) → IsNested kinds n
nested_before kinds n nested k within is = nested k (omega (arith, within)) is

-- no more lines end than open
balanced : (kinds : Kinds) (n : ℕ) → IsNested kinds n → count_before is_end kinds n ≤ count_before opens kinds n
unfolding count_before
balanced kinds zero nested = omega arith
balanced kinds (suc n) nested = go (kinds n) refl (balanced kinds n (nested_before kinds n nested))
  where
    go : (k : LineKind) → kinds n ≡ k → count_before is_end kinds n ≤ count_before opens kinds n → count_before is_end kinds (suc n) ≤ count_before opens kinds (suc n)
    go RowLine is less = omega (arith, less, count_same is_end kinds n (ap is_end is), count_same opens kinds n (ap opens is))
    go LogicLine is less = omega (arith, less, count_same is_end kinds n (ap is_end is), count_same opens kinds n (ap opens is))
    go DisjunctionLine is less = omega (arith, less, count_same is_end kinds n (ap is_end is), count_more opens kinds n (ap opens is))
    go DisjunctLine is less = omega (arith, less, count_same is_end kinds n (ap is_end is), count_more opens kinds n (ap opens is))
    go EndLine is less = omega (arith, less, count_more is_end kinds n (ap is_end is), count_same opens kinds n (ap opens is), nested n (omega arith) (ap is_end is))
    go OtherLine is less = omega (arith, less, count_same is_end kinds n (ap is_end is), count_same opens kinds n (ap opens is))

stands_after : (kinds : Kinds) (n : ℕ) (k : LineKind) → kinds n ≡ k → count_before is_end kinds n ≤ count_before opens kinds n
    → (is_end (kinds n) ≡ true → 0 < depth kinds n) → (st : List ℕ) → Stands kinds st n → Stands kinds (open_after k n st) (suc n)
stands_after kinds n RowLine is less some st s = still_stands kinds st n (ap opens is) (ap is_end is) (omega (arith, count_same is_end kinds n (ap is_end is), count_same opens kinds n (ap opens is))) s
stands_after kinds n LogicLine is less some st s = still_stands kinds st n (ap opens is) (ap is_end is) (omega (arith, count_same is_end kinds n (ap is_end is), count_same opens kinds n (ap opens is))) s
stands_after kinds n DisjunctionLine is less some st s = opened_stands kinds st n (ap opens is) (omega (arith, less, count_same is_end kinds n (ap is_end is), count_more opens kinds n (ap opens is))) s
stands_after kinds n DisjunctLine is less some st s = opened_stands kinds st n (ap opens is) (omega (arith, less, count_same is_end kinds n (ap is_end is), count_more opens kinds n (ap opens is))) s
stands_after kinds n EndLine is less some [] s = absurd (omega (arith, s.flat, some (ap is_end is)))
stands_after kinds n EndLine is less some (j ∷ below) s =
    ended_stands kinds j below n (ap is_end is) (omega (arith, some (ap is_end is), count_more is_end kinds n (ap is_end is), count_same opens kinds n (ap opens is))) s
stands_after kinds n OtherLine is less some st s = still_stands kinds st n (ap opens is) (ap is_end is) (omega (arith, count_same is_end kinds n (ap is_end is), count_same opens kinds n (ap opens is))) s

stands : (kinds : Kinds) (n : ℕ) → IsNested kinds n → Stands kinds (open_before kinds n) n
unfolding open_before count_before
stands kinds zero nested = record { flat = refl; closed = λ j from within o. absurd (omega (arith, within)) }
stands kinds (suc n) nested =
    stands_after kinds n (kinds n) refl (balanced kinds n (nested_before kinds n nested)) (λ is. nested n (omega arith) is) (open_before kinds n) (stands kinds n (nested_before kinds n nested))

pub owner_found : OwnerFound
owner_found kinds n nested = at (open_before kinds n) (stands kinds n nested)
  where
    at : (st : List ℕ) → Stands kinds st n → IsOwner kinds n (first_of st)
    at [] s = s.closed
    at (j ∷ below) s = (s.0.before, s.0.opening, (λ c. omega (arith, s.0.stays c.0 c.1 c.2 c.3, c.4)), s.0.closed)

-- where something is open, the line stands deeper
pub some_depth : (kinds : Kinds) (n : ℕ) (j : ℕ) (below : List ℕ) → IsNested kinds n → open_before kinds n ≡ j ∷ below → 0 < depth kinds n
some_depth kinds n j below nested is = at (open_before kinds n) is (stands kinds n nested)
  where
    at : (st : List ℕ) → st ≡ j ∷ below → Stands kinds st n → 0 < depth kinds n
    at [] e s = absurd (cc e)
    at (i ∷ others) e s = omega (arith, s.0.deeper)
