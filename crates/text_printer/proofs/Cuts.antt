-- Texts that were put in part.
use Rattle.std.proofs.Common.{◌≡◌, ℕ, List, [], ◌++◌, refl, ap, sym, ◌∙◌, append_assoc, append-nil, subst}
use Rattle.std.specs.Prelude.{Option, None, Some}
use Rattle.gdp_io.specs.Sink.{grown}
use Rattle.text_printer.specs.Outputs.{IsCutShort}

-- two texts put whole are one
pub grown_on : (old : Option (List ℕ)) (a b : List ℕ) → grown (grown old a) b ≡ grown old (a ++ b)
grown_on None a b = refl
grown_on (Some before) a b = ap Some (append_assoc before a b)

-- a text that was cut short is so before any further one
pub cut_before : (old new : Option (List ℕ)) (a b : List ℕ) → IsCutShort old new a → IsCutShort old new (a ++ b)
cut_before old new a b cut before is =
    let c = cut before is in
    (c.0, c.1 ++ b, c.2, sym (append_assoc c.0 c.1 b) ∙ ap (λ s. s ++ b) c.3 ∙ append_assoc before a b)

-- and behind one that was put whole
pub cut_behind : (old mid new : Option (List ℕ)) (a b : List ℕ) → mid ≡ grown old a → IsCutShort mid new b → IsCutShort old new (a ++ b)
cut_behind old mid new a b whole cut before is =
    let c = cut (before ++ a) (whole ∙ ap (λ o. grown o a) is) in
    (c.0, c.1, c.2, c.3 ∙ append_assoc before a b)

-- nothing was put
pub none_put : (text piece : List ℕ) → IsCutShort (Some text) (Some text) piece
none_put text piece before is = (before, piece, is, refl)

-- nothing behind what was put
pub grown_nil : (old : Option (List ℕ)) → grown old [] ≡ old
grown_nil None = refl
grown_nil (Some before) = ap Some (append-nil before)

-- a text that was cut short between one that was put whole and further ones
pub cut_between : (old mid new : Option (List ℕ)) (a b rest : List ℕ) → mid ≡ grown old a → IsCutShort mid new b → IsCutShort old new (a ++ (b ++ rest))
cut_between old mid new a b rest whole cut = cut_behind old mid new a (b ++ rest) whole (cut_before mid new b rest cut)

-- a text that was cut short while texts were put, of which these are left
pub cut_within : (start old new : Option (List ℕ)) (all left this rest : List ℕ) → grown old left ≡ grown start all → left ≡ this ++ rest → IsCutShort old new this → IsCutShort start new all
cut_within start None new all left this rest same parts cut before is = absurd (cc (same, ap (λ o. grown o all) is))
cut_within start (Some old) new all left this rest same parts cut before is =
    let whole : old ++ left ≡ before ++ all = cc (same ∙ ap (λ o. grown o all) is) in
    let c = cut old refl in
    (c.0, c.1 ++ rest, c.2, sym (append_assoc c.0 c.1 rest) ∙ ap (λ s. s ++ rest) c.3 ∙ append_assoc old this rest ∙ ap (λ s. old ++ s) (sym parts) ∙ whole)

-- one more text was put, of which these are left
pub put_within : (start old new : Option (List ℕ)) (all left this rest : List ℕ) → grown old left ≡ grown start all → left ≡ this ++ rest → new ≡ grown old this → grown new rest ≡ grown start all
put_within start old new all left this rest same parts put = ap (λ o. grown o rest) put ∙ grown_on old this rest ∙ ap (grown old) (sym parts) ∙ same

-- no text is left
pub put_all : (start new : Option (List ℕ)) (all left : List ℕ) → left ≡ [] → grown new left ≡ grown start all → new ≡ grown start all
put_all start new all left none same = sym (grown_nil new) ∙ ap (grown new) (sym none) ∙ same

-- parts of a text: its front was cut short, or what stands behind a front that was put whole
pub cut_at : (old new : Option (List ℕ)) (all this rest : List ℕ) → all ≡ this ++ rest → IsCutShort old new this → IsCutShort old new all
cut_at old new all this rest parts cut = subst (IsCutShort old new) (sym parts) (cut_before old new this rest cut)

pub cut_after : (old mid new : Option (List ℕ)) (all front this : List ℕ) → all ≡ front ++ this → mid ≡ grown old front → IsCutShort mid new this → IsCutShort old new all
cut_after old mid new all front this parts whole cut = subst (IsCutShort old new) (sym parts) (cut_behind old mid new front this whole cut)

-- two parts that were put whole
pub put_after : (old mid new : Option (List ℕ)) (all front this : List ℕ) → all ≡ front ++ this → mid ≡ grown old front → new ≡ grown mid this → new ≡ grown old all
put_after old mid new all front this parts first second = second ∙ ap (λ o. grown o this) first ∙ grown_on old front this ∙ ap (grown old) (sym parts)
