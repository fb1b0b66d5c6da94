-- A line whose items can come where they stand has no token of what isn't supported, and labels come where a row or an objective begins.
use Rattle.std.proofs.Common.{◌≡◌, ◌∙◌, refl, sym, ap, Bool, true, false, ◌&&◌, List, [], ◌∷◌, ℕ, Option, None, Some, if◌then◌else◌}
use Rattle.std.specs.List.{list_any}
use Rattle.lp_grammar.specs.declared.section.Section.{Section}
use Rattle.lp_grammar.specs.declared.section.Section.TheVariants as section
use Rattle.lp_grammar.specs.declared.stage.Stage.{Stage}
use Rattle.lp_grammar.specs.declared.stage.Stage.TheVariants.{Before, Goal, GoalLabel, Rows, RowLabel, Right, Bounds, BoundOf, BoundTo, BoundSign, BoundFrom, BoundOn, BoundMore, Names, Ended}
use Rattle.lp_grammar.specs.Items.{Opens, is_barred_token, colon_first, plain_items, section_of, are_constraints, with_section as section_with, opening_word, opening_of, items_with, items_of}
use Rattle.lp_grammar.specs.Reading.{and_then, with_section, with_token, with_items}
use Rattle.lp_grammar.specs.Taking.{Taken}
use Rattle.lp_grammar.specs.Tokens.{Token, Name, Number, Sign, Compare, Colon, Barred, Stray}
use Rattle.lp_reader.specs.Taken.{is_fresh, Leaves}

-- ---- what isn't supported
barred_refused : (t : Taken) (stage : Stage) (l : Bool) → with_token t stage Barred l ≡ None
barred_refused t Before l = refl
barred_refused t (Goal fresh p) l = refl
barred_refused t GoalLabel l = refl
barred_refused t (Rows fresh p) l = refl
barred_refused t RowLabel l = refl
barred_refused t (Right rel None) l = refl
barred_refused t (Right rel (Some sign)) l = refl
barred_refused t Bounds l = refl
barred_refused t (BoundOf id) l = refl
barred_refused t (BoundTo id rel None) l = refl
barred_refused t (BoundTo id rel (Some sign)) l = refl
barred_refused t (BoundSign b) l = refl
barred_refused t (BoundFrom bound) l = refl
barred_refused t (BoundOn bound rel) l = refl
barred_refused t (BoundMore id) l = refl
barred_refused t (Names b) l = refl
barred_refused t Ended l = refl

-- what goes on was there
goes_on : (o : Option Taken) (next : Taken → Option Taken) (u : Taken) (A : Type 0) → and_then o next ≡ Some u → ((t : Taken) → o ≡ Some t → next t ≡ Some u → A) → A
goes_on None next u A e rest = absurd (cc e)
goes_on (Some t) next u A e rest = rest t refl e

plain_unbarred : (ts : List Token) (next : Bool) (t u : Taken) → with_items t (plain_items ts next) ≡ Some u → list_any is_barred_token ts ≡ false
plain_unbarred [] next t u e = refl
plain_unbarred (token ∷ ts) next t u e = goes_on (with_token t t.stage token (colon_first ts next)) (λ v. with_items v (plain_items ts next)) u (list_any is_barred_token (token ∷ ts) ≡ false) e (λ v f g. first token f (plain_unbarred ts next v u g))
  where
    first : (token : Token) {v : Taken} → with_token t t.stage token (colon_first ts next) ≡ Some v → list_any is_barred_token ts ≡ false → list_any is_barred_token (token ∷ ts) ≡ false
    first (Name name) f g = g
    first (Number n) f g = g
    first (Sign b) f g = g
    first (Compare r) f g = g
    first Colon f g = g
    first Barred f g = absurd (cc (sym (barred_refused t t.stage (colon_first ts next)) ∙ f))
    first Stray f g = g

-- words that open a section are none of it
abbrev SameBarred : List Token → Option (Section × List Token) → Type 0
SameBarred ts None = Unit {0}
SameBarred ts (Some opened) = list_any is_barred_token ts ≡ list_any is_barred_token opened.1

word_same : (name : List ℕ) (o : Option Section) (ts : List Token) → SameBarred (Name name ∷ ts) (section_with o ts)
word_same name None ts = tt
word_same name (Some s) ts = refl

opening_same : (ts : List Token) → SameBarred ts (opening_of ts)
opening_same [] = tt
opening_same (Name first ∷ []) = word_same first (section_of first) []
opening_same (Name first ∷ Name second ∷ ts) = go (are_constraints first second)
  where
    go : (b : Bool) → SameBarred (Name first ∷ Name second ∷ ts) (if b then Some (section.Constraints, ts) else opening_word first (Name second ∷ ts))
    go true = refl
    go false = word_same first (section_of first) (Name second ∷ ts)
opening_same (Name first ∷ Number n ∷ ts) = word_same first (section_of first) (Number n ∷ ts)
opening_same (Name first ∷ Sign b ∷ ts) = word_same first (section_of first) (Sign b ∷ ts)
opening_same (Name first ∷ Compare r ∷ ts) = word_same first (section_of first) (Compare r ∷ ts)
opening_same (Name first ∷ Colon ∷ ts) = word_same first (section_of first) (Colon ∷ ts)
opening_same (Name first ∷ Barred ∷ ts) = word_same first (section_of first) (Barred ∷ ts)
opening_same (Name first ∷ Stray ∷ ts) = word_same first (section_of first) (Stray ∷ ts)
opening_same (Number n ∷ ts) = tt
opening_same (Sign b ∷ ts) = tt
opening_same (Compare r ∷ ts) = tt
opening_same (Colon ∷ ts) = tt
opening_same (Barred ∷ ts) = tt
opening_same (Stray ∷ ts) = tt

with_unbarred : (ts : List Token) (o : Option (Section × List Token)) (next : Bool) (t u : Taken) → SameBarred ts o → with_items t (items_with ts o next) ≡ Some u → list_any is_barred_token ts ≡ false
with_unbarred ts None next t u same e = plain_unbarred ts next t u e
with_unbarred ts (Some opened) next t u same e = go (colon_first opened.1 next) e
  where
    go : (b : Bool) → with_items t (if b then plain_items ts next else Opens opened.0 ∷ plain_items opened.1 next) ≡ Some u → list_any is_barred_token ts ≡ false
    go true e = plain_unbarred ts next t u e
    go false e = goes_on (with_section t opened.0) (λ v. with_items v (plain_items opened.1 next)) u (list_any is_barred_token ts ≡ false) e (λ v f g. same ∙ plain_unbarred opened.1 next v u g)

pub taken_unbarred : (ts : List Token) (next : Bool) (t u : Taken) → with_items t (items_of ts next) ≡ Some u → list_any is_barred_token ts ≡ false
taken_unbarred ts next t u e = with_unbarred ts (opening_of ts) next t u (opening_same ts) e

-- ---- labels
-- whether a colon comes next matters only where a label may come
pub fresh_alone : (t : Taken) (stage : Stage) (token : Token) (l : Bool) → with_token t stage token (is_fresh stage && l) ≡ with_token t stage token l
fresh_alone t Before token l = refl
fresh_alone t (Goal true p) token l = refl
fresh_alone t (Goal false p) (Name name) l = refl
fresh_alone t (Goal false p) (Number n) l = refl
fresh_alone t (Goal false p) (Sign b) l = refl
fresh_alone t (Goal false p) (Compare r) l = refl
fresh_alone t (Goal false p) Colon l = refl
fresh_alone t (Goal false p) Barred l = refl
fresh_alone t (Goal false p) Stray l = refl
fresh_alone t GoalLabel token l = refl
fresh_alone t (Rows true p) token l = refl
fresh_alone t (Rows false p) (Name name) l = refl
fresh_alone t (Rows false p) (Number n) l = refl
fresh_alone t (Rows false p) (Sign b) l = refl
fresh_alone t (Rows false p) (Compare r) l = refl
fresh_alone t (Rows false p) Colon l = refl
fresh_alone t (Rows false p) Barred l = refl
fresh_alone t (Rows false p) Stray l = refl
fresh_alone t RowLabel token l = refl
fresh_alone t (Right rel sign) token l = refl
fresh_alone t Bounds token l = refl
fresh_alone t (BoundOf id) token l = refl
fresh_alone t (BoundTo id rel sign) token l = refl
fresh_alone t (BoundSign b) token l = refl
fresh_alone t (BoundFrom bound) token l = refl
fresh_alone t (BoundOn bound rel) token l = refl
fresh_alone t (BoundMore id) token l = refl
fresh_alone t (Names b) token l = refl
fresh_alone t Ended token l = refl

-- a token and those behind it
pub tokens_follow : (t u : Taken) (token : Token) (l fits : Bool) (left rest : List Token) (next : Bool) → left ≡ token ∷ rest → l ≡ (is_fresh t.stage && colon_first rest next) → fits ≡ true → Leaves u fits (with_token t t.stage token l)
    → with_items u (plain_items rest next) ≡ with_items t (plain_items left next)
tokens_follow t u token l false left rest next e f g leaves = absurd (cc g)
tokens_follow t u token l true left rest next e f g leaves =
    sym
    (ap (λ (ts : List Token). with_items t (plain_items ts next)) e
    ∙ ap (λ (o : Option Taken). and_then o (λ v. with_items v (plain_items rest next))) (found ∙ leaves))
  where
    found : with_token t t.stage token (colon_first rest next) ≡ with_token t t.stage token l
    found = sym (fresh_alone t t.stage token (colon_first rest next)) ∙ sym (ap (with_token t t.stage token) f)

pub tokens_refused : (t u : Taken) (token : Token) (l fits : Bool) (left rest : List Token) (next : Bool) → left ≡ token ∷ rest → l ≡ (is_fresh t.stage && colon_first rest next) → fits ≡ false → Leaves u fits (with_token t t.stage token l)
    → with_items t (plain_items left next) ≡ None
tokens_refused t u token l true left rest next e f g leaves = absurd (cc g)
tokens_refused t u token l false left rest next e f g leaves =
    ap (λ (ts : List Token). with_items t (plain_items ts next)) e
    ∙ ap (λ (o : Option Taken). and_then o (λ v. with_items v (plain_items rest next))) (found ∙ leaves)
  where
    found : with_token t t.stage token (colon_first rest next) ≡ with_token t t.stage token l
    found = sym (fresh_alone t t.stage token (colon_first rest next)) ∙ sym (ap (with_token t t.stage token) f)
