-- What a three-valued reading promises.
use Rattle.std.specs.Prelude.{◌≡◌, ℕ, Bool}
use Rattle.gdp_tables.specs.declared.tri.Tri.{Tri}
use Rattle.gdp_tables.specs.Completions.{known, Completes}
use Rattle.propositions.specs.Tree.{PropTree}
use Rattle.propositions.specs.Truth.{truth_of}

-- every completion of the open truth values gives what the answer says: true for yes, false for no
abbrev pub HoldsOfCompletions : PropTree → (ℕ → Tri) → Tri → Type 0
HoldsOfCompletions p tris answer =
    (truths : ℕ → Bool) → ((k : ℕ) → Completes (truths k) (tris k)) → Completes (truth_of p truths) answer

-- with none open the answer is the truth
abbrev pub IsTruthWhereKnown : PropTree → (ℕ → Tri) → Tri → Type 0
IsTruthWhereKnown p tris answer =
    (truths : ℕ → Bool) → ((k : ℕ) → tris k ≡ known (truths k)) → answer ≡ known (truth_of p truths)
