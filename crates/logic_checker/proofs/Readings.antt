-- What the code reads off a model and a path.
use Rattle.std.proofs.Common.{◌≡◌, ◌<◌, ◌≤◌, ℕ, zero, suc, Bool, true, List, [], ◌∷◌, length, get_or, slice_index_or, Some, None, nat_lt, refl, sym, ap, ◌∙◌, arith}
use Rattle.std.proofs.lemmas.Bool.Decides.{nat_tests}
use Rattle.gdp_tables.specs.declared.tri.Tri.{Tri}
use Rattle.gdp_tables.specs.declared.tri.Tri.TheVariants.{No}
use Rattle.propositions.specs.Reading.{tri_of}
use Rattle.proof_tree.specs.declared.path.Half.{Half}
use Rattle.model_items.specs.Items.{item_count_of, condition_of}
use Rattle.model_tree.specs.Values.{ModelTree}
use Rattle.model_tree.specs.Variables.{VarValue}
use Rattle.model_forces.specs.Tables.{listed}
use Rattle.model_forces.specs.Paths.{tris_on, tris_at, kind_at}
use Rattle.model_forces.proofs.Listed.{listed_is}
use Rattle.model_forces.specs.Paths.{is_no}
use Rattle.logic_checker.specs.Models.{is_false_at}

pub kind_there : (vs : List VarValue) (j : ℕ) (v : VarValue) → j < length vs → v ≡ get_or vs j v → kind_at vs j ≡ Some v.1
kind_there [] j v l e = absurd (omega arith)
kind_there (w ∷ vs) zero v l e = ap (λ x. Some x.1) (sym e)
kind_there (w ∷ vs) (suc j) v l e = kind_there vs j v (omega arith) e

pub kind_past : (vs : List VarValue) (j : ℕ) → length vs ≤ j → kind_at vs j ≡ None
kind_past [] j l = refl
kind_past (w ∷ vs) zero l = absurd (omega arith)
kind_past (w ∷ vs) (suc j) l = kind_past vs j (omega arith)

less : (a b : ℕ) → a < b → nat_lt a b ≡ true
less a b l = grind (arith, nat_tests)

pub false_is : (m : ModelTree) (p : List Half) (item : ℕ) (r : Bool) (ts : List Tri) → item < item_count_of m → ts ≡ listed (tris_on p) 0 (length m.booleans)
    → r ≡ is_no (tri_of (condition_of m item) (λ k. slice_index_or ts k No)) → r ≡ is_false_at m p item
false_is m p item r ts l e q =
    let same : (λ (k : ℕ). slice_index_or ts k No) ≡ (λ (k : ℕ). slice_index_or (listed (tris_on p) 0 (length m.booleans)) k No) = ap (λ us k. slice_index_or us k No) e in
    let t : (λ (k : ℕ). slice_index_or ts k No) ≡ tris_at m p = same ∙ listed_is m p in
    let within : nat_lt item (item_count_of m) ≡ true = less item (item_count_of m) l in
    rw within (q ∙ ap (λ u. is_no (tri_of (condition_of m item) u)) t)
