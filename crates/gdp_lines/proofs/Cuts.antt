-- A text is cut where the class of its bytes ends.
use Rattle.std.proofs.Common.{◌≡◌, ℕ, ◌+◌, ◌<◌, ◌≤◌, true, false, List, [], ◌∷◌, ◌++◌, length, get_or, take, drop, refl, ap, sym, ◌∙◌, arith}
use Rattle.std.proofs.lemmas.List.{drop_more, take_more, drop_all, append_assoc, append-nil}
use Rattle.std.proofs.lemmas.Bool.{cond-true, cond-false}
use Rattle.gdp_grammar.specs.declared.class.Class.{Class}
use Rattle.gdp_grammar.specs.Classes.{belongs, front, rest}

-- the bytes before `end` belong to the class
pub record IsCut (class : Class) (bytes : List ℕ) (end : ℕ) : Type 0 where
  pub within : end ≤ length bytes
  pub front : front class bytes ≡ take end bytes ++ front class (drop end bytes)
  pub rest : rest class bytes ≡ rest class (drop end bytes)

pub cut_none : (class : Class) (bytes : List ℕ) → IsCut class bytes 0
cut_none class bytes = record { within = omega arith; front = refl; rest = refl }

pub cut_more : (class : Class) (bytes : List ℕ) (end : ℕ) → IsCut class bytes end → end < length bytes → belongs class (get_or bytes end 0) ≡ true → IsCut class bytes (end + 1)
cut_more class bytes end cut within holds =
    let b : ℕ = get_or bytes end 0 in
    let next : drop end bytes ≡ b ∷ drop (end + 1) bytes = drop_more bytes end 0 within in
    let f : front class (drop end bytes) ≡ b ∷ front class (drop (end + 1) bytes) =
    ap (front class) next ∙ cond-true (belongs class b) _ _ holds in
    let r : rest class (drop end bytes) ≡ rest class (drop (end + 1) bytes) =
    ap (rest class) next ∙ cond-true (belongs class b) _ _ holds in
    record {
      within = omega (arith, within);
      front = cut.front ∙ ap (λ bs. take end bytes ++ bs) f
          ∙ sym (append_assoc (take end bytes) (b ∷ []) (front class (drop (end + 1) bytes)))
          ∙ ap (λ bs. bs ++ front class (drop (end + 1) bytes)) (sym (take_more bytes end 0 within));
      rest = cut.rest ∙ r;
    }

-- The cut is the end of the class where the bytes end there, or the next one doesn't belong.
pub cut_ends : (class : Class) (bytes : List ℕ) (end : ℕ) → IsCut class bytes end → length bytes ≤ end → (front class bytes ≡ take end bytes) × (rest class bytes ≡ drop end bytes)
cut_ends class bytes end cut past =
    let none : drop end bytes ≡ [] = drop_all end bytes past in
    (cut.front ∙ ap (λ bs. take end bytes ++ front class bs) none ∙ append-nil (take end bytes), cut.rest ∙ ap (rest class) none ∙ sym none)

pub cut_stops : (class : Class) (bytes : List ℕ) (end : ℕ) → IsCut class bytes end → end < length bytes → belongs class (get_or bytes end 0) ≡ false → (front class bytes ≡ take end bytes) × (rest class bytes ≡ drop end bytes)
cut_stops class bytes end cut within fails =
    let b : ℕ = get_or bytes end 0 in
    let next : drop end bytes ≡ b ∷ drop (end + 1) bytes = drop_more bytes end 0 within in
    let f : front class (drop end bytes) ≡ [] = ap (front class) next ∙ cond-false (belongs class b) _ _ fails in
    let r : rest class (drop end bytes) ≡ drop end bytes = ap (rest class) next ∙ cond-false (belongs class b) _ _ fails ∙ sym next in
    (cut.front ∙ ap (λ bs. take end bytes ++ bs) f ∙ append-nil (take end bytes), cut.rest ∙ r)
