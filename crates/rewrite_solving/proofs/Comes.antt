-- What solving comes to is one thing, where what is made of a search's answer is.
use Rattle.std.proofs.Common.{◌≡◌, ◌⊎◌, ℕ, List, Option, Some, Result, Ok, Err, sym, ap, ◌∙◌, subst, inl, inr}
use Rattle.lp_rows.specs.declared.columns.WideAt.{WideAt}
use Rattle.exact_simplex.specs.declared.log.Event.{Event}
use Rattle.answers.specs.declared.claim.Claim.{Claim}
use Rattle.answers.specs.declared.stop.Stop.{Stop}
use Rattle.answers.specs.declared.stop.Stop.TheVariants.{Wide}
use Rattle.answer_tests.specs.declared.errors.AnswerError.{AnswerError}
use Rattle.lowest_terms.specs.Made.{wide_place}
use Rattle.search_rules.specs.declared.outcome.Answer.{Answer}
use Rattle.search_rules.specs.declared.outcome.Answer.TheVariants.{Stopped}
use Rattle.search_rules.specs.Answered.{AnswersBy}
use Rattle.search_rules.specs.Machine.{Meaning}
use Rattle.search_rules.specs.Solved.{EndsAs, IsDepthLog}
use Rattle.search_rules.proofs.AnswersOnce.{answers_once}
use Rattle.rewrite_solving.specs.declared.reached.Reached.{Reached}
use Rattle.rewrite_solving.specs.declared.reached.Reached.TheVariants.{Claimed, GaveUp}
use Rattle.rewrite_solving.specs.Reached.{AreSame}

-- what is made of an answer
abbrev pub Making : Type 1
Making = Answer → Result Claim WideAt → Type 0

-- it is one thing, and nothing is made of a stop
pub record IsOneMaking (Made : Making) : Type 0 where
  pub once : (a : Answer) (r q : Result Claim WideAt) → Made a r → Made a q → r ≡ q
  pub never : (stop : Stop) (r : Result Claim WideAt) → Made (Stopped stop) r → ⊥

-- this is made of what a search answers
abbrev pub After : Meaning → Making → ℕ → List Event → Result Claim WideAt → Type 0
After m Made steps log made = (a : Answer) × AnswersBy (IsDepthLog m) steps log a × Made a made

-- solving by such a search comes to this
abbrev pub Comes : Meaning → Making → ℕ → Reached → Type 0
Comes m Made steps (Claimed claim) = (log : List Event) × After m Made steps log (Ok claim)
Comes m Made steps (GaveUp log stop) = EndsAs (IsDepthLog m) steps log.events (Err stop) ⊎ ((place : WideAt) × (stop ≡ Wide place) × After m Made steps log.events (Err place))

after_same : (m : Meaning) (Made : Making) → IsOneMaking Made → (steps : ℕ) (xs ys : List Event) (r q : Result Claim WideAt) → After m Made steps xs r → After m Made steps ys q → (xs ≡ ys) × (r ≡ q)
after_same m Made one steps xs ys r q a b =
    let same = answers_once m steps xs ys a.0 b.0 a.1 b.1 in
    (same.0, one.once b.0 r q (subst (λ z. Made z r) same.1 a.2) b.2)

never_both : (m : Meaning) (Made : Making) → IsOneMaking Made → (steps : ℕ) (xs ys : List Event) (r : Result Claim WideAt) (stop : Stop) → After m Made steps xs r → EndsAs (IsDepthLog m) steps ys (Err stop) → ⊥
never_both m Made one steps xs ys r stop a b =
    let same = answers_once m steps xs ys a.0 (Stopped stop) a.1 b in
    one.never stop r (subst (λ z. Made z r) same.1 a.2)

one_claim : (c d : Claim) → ◌≡◌ {A = Result Claim WideAt} (Ok c) (Ok d) → c ≡ d
one_claim c d e = cc

no_claim : (c : Claim) (place : WideAt) → ◌≡◌ {A = Result Claim WideAt} (Ok c) (Err place) → ⊥
no_claim c place e = cc

one_place : (place other : WideAt) → ◌≡◌ {A = Result Claim WideAt} (Err place) (Err other) → place ≡ other
one_place place other e = cc

one_stop : (stop why : Stop) → Stopped stop ≡ Stopped why → stop ≡ why
one_stop stop why e = cc

pub comes_once : (m : Meaning) (Made : Making) → IsOneMaking Made → (steps : ℕ) (r q : Reached) → Comes m Made steps r → Comes m Made steps q → AreSame r q
comes_once m Made one steps (Claimed c) (Claimed d) a b = one_claim c d (after_same m Made one steps a.0 b.0 (Ok c) (Ok d) a.1 b.1).1
comes_once m Made one steps (Claimed c) (GaveUp log stop) a (inl b) = never_both m Made one steps a.0 log.events (Ok c) stop a.1 b
comes_once m Made one steps (Claimed c) (GaveUp log stop) a (inr b) = no_claim c b.0 (after_same m Made one steps a.0 log.events (Ok c) (Err b.0) a.1 b.2).1
comes_once m Made one steps (GaveUp log stop) (Claimed c) (inl a) b = never_both m Made one steps b.0 log.events (Ok c) stop b.1 a
comes_once m Made one steps (GaveUp log stop) (Claimed c) (inr a) b = no_claim c a.0 (after_same m Made one steps b.0 log.events (Ok c) (Err a.0) b.1 a.2).1
comes_once m Made one steps (GaveUp log stop) (GaveUp other why) (inl a) (inl b) =
    let same = answers_once m steps log.events other.events (Stopped stop) (Stopped why) a b in
    (same.0, one_stop stop why same.1)
comes_once m Made one steps (GaveUp log stop) (GaveUp other why) (inl a) (inr b) = absurd (never_both m Made one steps other.events log.events (Err b.0) stop b.2 a)
comes_once m Made one steps (GaveUp log stop) (GaveUp other why) (inr a) (inl b) = absurd (never_both m Made one steps log.events other.events (Err a.0) why a.2 b)
comes_once m Made one steps (GaveUp log stop) (GaveUp other why) (inr a) (inr b) =
    let same = after_same m Made one steps log.events other.events (Err a.0) (Err b.0) a.2 b.2 in
    (same.0, a.1 ∙ ap Wide (one_place a.0 b.0 same.1) ∙ sym b.1)

-- a claim is made; or a test is wide at this place
abbrev pub IsPlaced : Result Claim AnswerError → Result Claim WideAt → Type 0
IsPlaced (Ok claim) made = made ≡ Ok claim
IsPlaced (Err error) (Ok claim) = ⊥
IsPlaced (Err error) (Err place) = wide_place error ≡ Some place

some_place : (o : Option WideAt) (place other : WideAt) → o ≡ Some place → o ≡ Some other → ◌≡◌ {A = Result Claim WideAt} (Err place) (Err other)
some_place o place other a b = let e : ◌≡◌ {A = Option WideAt} (Some place) (Some other) = sym a ∙ b in let p : place ≡ other = cc in ap Err p

pub placed_once : (s : Result Claim AnswerError) (r q : Result Claim WideAt) → IsPlaced s r → IsPlaced s q → r ≡ q
placed_once (Ok claim) r q a b = a ∙ sym b
placed_once (Err error) (Ok c) q a b = absurd a
placed_once (Err error) (Err place) (Ok c) a b = absurd b
placed_once (Err error) (Err place) (Err other) a b = some_place (wide_place error) place other a b
