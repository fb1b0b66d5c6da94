-- One turn of the loops over a proposition's tokens.
use Rattle.std.proofs.Common.{◌≡◌, ℕ, ◌<◌, List, [], ◌∷◌, ◌++◌, length, Option, Some, None, Result, Ok, Err, refl, ap, sym, ◌∙◌}
use Rattle.std.proofs.lemmas.List.{nil_from_length}
use Rattle.gdp_grammar.specs.declared.cause.ReadCause.{ReadCause}
use Rattle.gdp_grammar.specs.PropReading.{Making, wants, has, made_of}
use Rattle.gdp_grammar.specs.Tokens.{Piece}
use Rattle.prop_reader.specs.declared.head.Head.{Head}
use Rattle.prop_reader.specs.declared.head.Head.TheVariants.{Opens}
use Rattle.prop_reader.specs.declared.head.Joint.{Joint}
use Rattle.prop_reader.specs.declared.head.Joint.TheVariants.{End, Further, Closes}
use Rattle.prop_reader.specs.declared.operator.Operator.{Operator}
use Rattle.prop_reader.specs.steps.Heads.{Beginning, of_name, of_operator, head_value, head_of, joint_of, whole_at}
use Rattle.prop_reader.specs.steps.Operators.{operator_value}
use Rattle.prop_reader.proofs.JointsLemmas.{after_close, after_joint, wrong_head, right_head, wrong_joint, right_joint, head_left, place_of, inward, pushed_inward}

-- it is read so far, with these operators open
abbrev pub Reads : {P O X : Type 0} → Making P O → (X → O) → List X → Option P → List Piece → Result P ReadCause → Type 0
Reads make view frames read ps whole = made_of make (inward view frames) (place_of read) ps ≡ whole

at_none : {P O X : Type 0} (make : Making P O) (view : X → O) (frames : List X) (read : Option P) (ps : List Piece) (whole : Result P ReadCause)
    → Reads make view frames read ps whole → read ≡ None → made_of make (inward view frames) wants ps ≡ whole
at_none {P} make view frames read ps whole goes none = sym (ap (λ (r : Option P). made_of make (inward view frames) (place_of r) ps) none) ∙ goes

at_some : {P O X : Type 0} (make : Making P O) (view : X → O) (frames : List X) (read : Option P) (p : P) (ps : List Piece) (whole : Result P ReadCause)
    → Reads make view frames read ps whole → read ≡ Some p → made_of make (inward view frames) (has p) ps ≡ whole
at_some {P} make view frames read p ps whole goes some = sym (ap (λ (r : Option P). made_of make (inward view frames) (place_of r) ps) some) ∙ goes

-- where a proposition is expected and none begins
pub none_begins : {P O X : Type 0} (make : Making P O) (view : X → O) (frames : List X) (read : Option P) (ps : List Piece) (whole : Result P ReadCause) (c : ReadCause)
    → Reads make view frames read ps whole → read ≡ None → head_of ps ≡ Err c → whole ≡ Err c
none_begins make view frames read ps whole c goes none fails = wrong_head make (inward view frames) ps whole c (at_none make view frames read ps whole goes none) fails

-- a name is read
pub name_begins : {P O X : Type 0} (make : Making P O) (view : X → O) (frames : List X) (read now : Option P) (ps qs : List Piece) (whole : Result P ReadCause) (name : List ℕ)
    → Reads make view frames read ps whole → read ≡ None → head_of ps ≡ Ok (of_name name, qs) → now ≡ Some (make.of_name name) → Reads make view frames now qs whole
name_begins {P} make view frames read now ps qs whole name goes none head is =
    ap (λ (r : Option P). made_of make (inward view frames) (place_of r) qs) is
    ∙ right_head make (inward view frames) ps whole (of_name name, qs) (at_none make view frames read ps whole goes none) head

-- an operator is opened
pub operator_begins : {P O X : Type 0} (make : Making P O) (view : X → O) (frames more : List X) (x : X) (read now : Option P) (ps qs : List Piece) (whole : Result P ReadCause) (head : Head) (operator : Operator)
    → Reads make view frames read ps whole → read ≡ None → head_of ps ≡ Ok (head_value head, qs) → head ≡ Opens operator
    → view x ≡ make.opened (operator_value operator) → more ≡ frames ++ x ∷ [] → now ≡ None → Reads make view more now qs whole
operator_begins {P} {O} make view frames more x read now ps qs whole head operator goes none begins is opened push none_now =
    ap (λ (r : Option P). made_of make (inward view more) (place_of r) qs) none_now
    ∙ ap (λ (s : List O). made_of make s wants qs) (pushed_inward view frames more x push)
    ∙ ap (λ (o : O). made_of make (o ∷ inward view frames) wants qs) opened
    ∙ right_head make (inward view frames) ps whole (of_operator (operator_value operator), qs) (at_none make view frames read ps whole goes none)
    (begins ∙ ap (λ (h : Head). at_rest (head_value h)) is)
  where
    at_rest : Beginning → Result (Beginning × List Piece) ReadCause
    at_rest h = Ok (h, qs)

-- what begins takes a token
pub begun_left : (ps qs : List Piece) (h : Beginning) → head_of ps ≡ Ok (h, qs) → length qs < length ps
begun_left ps qs h e = head_left ps (h, qs) e

-- where nothing may follow the argument
pub none_follows : {P O X : Type 0} (make : Making P O) (view : X → O) (frames : List X) (read : Option P) (p : P) (ps : List Piece) (whole : Result P ReadCause) (c : ReadCause)
    → Reads make view frames read ps whole → read ≡ Some p → joint_of ps ≡ Err c → whole ≡ Err c
none_follows make view frames read p ps whole c goes some fails = wrong_joint make (inward view frames) p ps whole c (at_some make view frames read p ps whole goes some) fails

-- what is made behind the argument
pub follows : {P O X : Type 0} (make : Making P O) (view : X → O) (frames : List X) (read : Option P) (p : P) (ps qs : List Piece) (whole : Result P ReadCause) (j : Joint)
    → Reads make view frames read ps whole → read ≡ Some p → joint_of ps ≡ Ok (j, qs) → after_joint make (inward view frames) p (j, qs) ≡ whole
follows make view frames read p ps qs whole j goes some joint = right_joint make (inward view frames) p ps whole (j, qs) (at_some make view frames read p ps whole goes some) joint

-- with nothing open, the proposition is whole or refused
pub none_open : {P O X : Type 0} (make : Making P O) (view : X → O) (frames : List X) (read : Option P) (p : P) (ps qs : List Piece) (whole : Result P ReadCause) (j : Joint)
    → Reads make view frames read ps whole → read ≡ Some p → joint_of ps ≡ Ok (j, qs) → length frames ≡ 0 → whole ≡ whole_at j p
none_open {P} {O} {X} make view frames read p ps qs whole j goes some joint none =
    sym (follows make view frames read p ps qs whole j goes some joint)
    ∙ ap (λ (xs : List X). after_joint make (inward view xs) p (j, qs)) (nil_from_length frames none)
    ∙ by j
  where
    by : (k : Joint) → after_joint make [] p (k, qs) ≡ whole_at k p
    by End = refl
    by Further = refl
    by Closes = refl

-- the innermost operator is closed
pub operator_closes : {P O X : Type 0} (make : Making P O) (view : X → O) (frames rest : List X) (x : X) (read : Option P) (p q : P) (more : O) (ps qs : List Piece) (whole : Result P ReadCause) (j : Joint)
    → Reads make view frames read ps whole → read ≡ Some p → joint_of ps ≡ Ok (j, qs) → j ≡ Closes → frames ≡ rest ++ x ∷ []
    → more ≡ make.with_argument (view x) p → make.closed more ≡ Some q → Reads make view rest (Some q) qs whole
operator_closes {P} {O} make view frames rest x read p q more ps qs whole j goes some joint closes popped more_is closed =
    ap (λ (o : Option P). after_close make (inward view rest) o qs) (sym (ap (λ (o : O). make.closed o) (sym more_is) ∙ closed))
    ∙ ap (λ (k : Joint). after_joint make (view x ∷ inward view rest) p (k, qs)) (sym closes)
    ∙ ap (λ (s : List O). after_joint make s p (j, qs)) (sym (pushed_inward view rest frames x popped))
    ∙ follows make view frames read p ps qs whole j goes some joint
