-- What a checked operation's answer says, by cases on the answer.
use Rattle.std.proofs.Common.{Option, Some, None, subst, sym}
use Rattle.std.specs.Prelude.{SomeIff, IfSome, IfNone}

pub some_is : {T : Type 0} (r : Option T) (Q : Type 0) (v : T) (P : T → Type 0) → SomeIff r Q v → P v → IfSome r P
some_is None Q v P s p = tt
some_is (Some x) Q v P s p = subst P (sym s.1) p

pub none_is : {T : Type 0} (r : Option T) (Q : Type 0) (v : T) (R : Type 0) → SomeIff r Q v → (¬ Q → R) → IfNone r R
none_is None Q v R s f = f s
none_is (Some x) Q v R s f = tt
