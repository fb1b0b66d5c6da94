-- What compiling answers, by what an emission answers.
use Rattle.std.proofs.Common.{◌≡◌, inl, inr, ℕ, Bool, true, List, length, refl, ap, sym, ◌∙◌, Option, Some, None, Result, Ok, Err}
use Rattle.outcomes.specs.Calls.{OrMemory, refused_or}
use Rattle.milps.specs.Milps.{MilpValue}
use Rattle.block_tree.specs.Sound.{IsSound}
use Rattle.block_tree.specs.Tree.{BlockTree, Disjuncts}
use Rattle.bound_propagation.specs.Boxes.{Box}
use Rattle.hull_rewrite.specs.Choices.{flags_in, takes_hull}
use Rattle.hull_rewrite.specs.declared.choices.Choice.{Choice}
use Rattle.block_tree.specs.Values.{ModelTree}
use Rattle.emission.specs.declared.halts.Halt.{Halt}
use Rattle.emission.specs.declared.halts.Halt.TheVariants.{Memory, Unfit}
use Rattle.hybrid_rewrite.specs.Compiled.{CompiledValue, compiled, emitted_by, error_by}
use Rattle.hybrid_rewrite.specs.declared.errors.CompileError.{CompileError}
use Rattle.hybrid_rewrite.specs.declared.errors.CompileError.TheVariants as error
use Rattle.hybrid_rewrite.proofs.Finishing.{listed_ok}
use Rattle.hybrid_rewrite.specs.Laws.{rewritten}
use Rattle.hybrid_rewrite.specs.Rewritten.{listed_milp}
use Rattle.hybrid_rewrite.proofs.FitHulls.{rewrites_are_fit}

halt_is : (o : Option Halt) (h : Halt) (p : MilpValue) → Err h ≡ refused_or o p → o ≡ Some h
halt_is None h p e = cc
halt_is (Some x) h p e = let k = e in cc

abbrev failed : Halt → Result MilpValue Halt
failed h = Err h

pub never_unfit : (m : ModelTree) (hulled : Disjuncts → Bool) (r : Result MilpValue Halt) → IsSound m → OrMemory Memory r (emitted_by m hulled) → r ≡ Err Unfit → ⊥
never_unfit m hulled r s (inl f) e = rewrites_are_fit m hulled s (halt_is (rewritten m hulled).halt Unfit (listed_milp m hulled) (sym e ∙ f))
never_unfit m hulled r s (inr f) e = let k : failed Unfit ≡ failed Memory = sym e ∙ f in cc

-- ---- what compiling answers then
-- the flags that are made are those of the listed rewrite
pub same_flags : (choice : Choice) (n k : ℕ) (box other : Box) (b : BlockTree) → n ≡ k → box ≡ other → flags_in (takes_hull choice n box) b ≡ flags_in (takes_hull choice k other) b
same_flags choice n k box other b e f = ap (λ x. flags_in (takes_hull choice x box) b) e ∙ ap (λ x. flags_in (takes_hull choice k x) b) f

pub compiled_ok : (m : ModelTree) (hulled : Disjuncts → Bool) (p : MilpValue) (flags : List Bool) (n k : ℕ) → flags ≡ flags_in hulled m.root → n ≡ length m.vars → k ≡ length m.booleans → OrMemory Memory (Ok p) (emitted_by m hulled) →
    OrMemory error.Memory (Ok (record { milp = p; hulled = flags; vars = n; booleans = k })) (compiled m hulled)
compiled_ok m hulled p flags n k e f g (inl h) =
    let x = listed_ok (rewritten m hulled).halt p (listed_milp m hulled) h in
    inl (rw (x.0, x.1, e, f, g) refl)
compiled_ok m hulled p flags n k e f g (inr h) = absurd (let x = h in cc)

abbrev answered : CompileError → Result CompiledValue CompileError
answered e = Err e

pub compiled_err : (m : ModelTree) (hulled : Disjuncts → Bool) (h : Halt) → OrMemory Memory (failed h) (emitted_by m hulled) → OrMemory error.Memory (answered (error_by h)) (compiled m hulled)
compiled_err m hulled h (inl f) = inl (rw (halt_is (rewritten m hulled).halt h (listed_milp m hulled) f) refl)
compiled_err m hulled h (inr f) = inr (let k : failed h ≡ failed Memory = f in let e : h ≡ Memory = cc in ap (λ x. answered (error_by x)) e)
