-- Nodes that were packed are read again.
use Rattle.std.proofs.Common.{◌≡◌, ℕ, zero, suc, ◌-◌, ◌<◌, ◌≤◌, ◌^◌, ℤ, true, List, [], ◌∷◌, ◌++◌, length, refl, sym, ap, ◌∙◌, arith, append_assoc, append-nil, length-append}
use Rattle.std.specs.List.{list_all}
use Rattle.packed_numbers.specs.Packed.{packed_natural, packed_number, natural_in, folded}
use Rattle.packed_numbers.proofs.Reading.{reads_natural, unfolds, natural_leaves, natural_takes}
use Rattle.proof_tree.specs.declared.path.Split.TheVariants as split
use Rattle.proof_tree.specs.declared.proof.Node.{Node}
use Rattle.proof_tree.specs.declared.proof.Node.TheVariants as node
use Rattle.proof_tree.specs.Packing.{packed_pairs, packed_mults, packed_node, packed_nodes, pair_in, pairs_in, mults_in, kind_in, node_in, nodes_in, nodes_of, pair_fits, mults_fit}
use Rattle.lp_frame.proofs.Both.{first, second}
use Rattle.std.specs.Prelude.{nat_lt}
use Rattle.std.proofs.lemmas.Bool.{ltb-true}

-- each part is read again
read_pairs : (ps : List (ℕ × ℤ)) (rest : List ℕ) → pairs_in (length ps) (packed_pairs ps ++ rest) ≡ (ps, rest)
read_pairs [] rest = refl
read_pairs (p ∷ ps) rest = rw (
  append_assoc (packed_natural p.0) (packed_number p.1 ++ packed_pairs ps) rest,
  append_assoc (packed_number p.1) (packed_pairs ps) rest,
  reads_natural p.0 (packed_number p.1 ++ (packed_pairs ps ++ rest)),
  reads_natural (folded p.1) (packed_pairs ps ++ rest),
  unfolds p.1,
  read_pairs ps rest,
) refl

read_mults : (ms : List (ℕ × ℤ)) (rest : List ℕ) → mults_in (packed_mults ms ++ rest) ≡ (ms, rest)
read_mults ms rest = rw (
  append_assoc (packed_natural (length ms)) (packed_pairs ms) rest,
  reads_natural (length ms) (packed_pairs ms ++ rest),
) (read_pairs ms rest)

pub read_node : (n : Node) (rest : List ℕ) → node_in (packed_node n ++ rest) ≡ (n, rest)
read_node (node.Split (split.Int column at)) rest = rw (
  append_assoc (packed_natural column) (packed_number at) rest,
  reads_natural column (packed_number at ++ rest),
  reads_natural (folded at) rest,
  unfolds at,
) refl
read_node (node.Split (split.Truth id)) rest = rw (reads_natural id rest) refl
read_node (node.Refuted ms) rest = rw (read_mults ms rest) refl
read_node (node.Bounded scale ms) rest = rw (
  append_assoc (packed_number scale) (packed_mults ms) rest,
  reads_natural (folded scale) (packed_mults ms ++ rest),
  unfolds scale,
  read_mults ms rest,
) refl
read_node (node.LogicFalse item) rest = rw (reads_natural item rest) refl

-- so many multipliers
pairs_count : (k : ℕ) (bytes : List ℕ) → length (pairs_in k bytes).0 ≡ k
pairs_count zero bytes = refl
pairs_count (suc k) bytes = let e = pairs_count k (pair_in bytes).1 in omega arith

pub count_fits : (bytes : List ℕ) → mults_fit (mults_in bytes).0 ≡ true → (natural_in bytes).0 < 2 ^ 64
count_fits bytes h =
    let l = ltb-true (length (mults_in bytes).0) (2 ^ 64) (first (nat_lt (length (mults_in bytes).0) (2 ^ 64)) (list_all pair_fits (mults_in bytes).0) h) in
    rw (pairs_count (natural_in bytes).0 (natural_in bytes).1) at l

pub pairs_fit : (bytes : List ℕ) → mults_fit (mults_in bytes).0 ≡ true → list_all pair_fits (pairs_in (natural_in bytes).0 (natural_in bytes).1).0 ≡ true
pairs_fit bytes h = second (nat_lt (length (mults_in bytes).0) (2 ^ 64)) (list_all pair_fits (mults_in bytes).0) h

-- the first of some multipliers, and the others
pub first_pair : (k : ℕ) (bytes : List ℕ) → 0 < k → pairs_in k bytes ≡ ((pair_in bytes).0 ∷ (pairs_in (k - 1) (pair_in bytes).1).0, (pairs_in (k - 1) (pair_in bytes).1).1)
first_pair zero bytes h = absurd (omega arith)
first_pair (suc k) bytes h = let e : suc k - 1 ≡ k = omega arith in rw e refl

-- what is left is shorter
pairs_leave : (k : ℕ) (bytes : List ℕ) → length (pairs_in k bytes).1 ≤ length bytes
pairs_leave zero bytes = omega arith
pairs_leave (suc k) bytes =
    let a = natural_leaves bytes in
    let b = natural_leaves (natural_in bytes).1 in
    let c = pairs_leave k (pair_in bytes).1 in
    omega arith

mults_leave : (bytes : List ℕ) → length (mults_in bytes).1 ≤ length bytes
mults_leave bytes =
    let a = natural_leaves bytes in
    let b = pairs_leave (natural_in bytes).0 (natural_in bytes).1 in
    omega arith

kind_leaves : (k : ℕ) (bytes : List ℕ) → length (kind_in k bytes).1 ≤ length bytes
kind_leaves zero bytes = let a = natural_leaves bytes in let b = natural_leaves (natural_in bytes).1 in omega arith
kind_leaves (suc zero) bytes = natural_leaves bytes
kind_leaves (suc (suc zero)) bytes = mults_leave bytes
kind_leaves (suc (suc (suc zero))) bytes = let a = natural_leaves bytes in let b = mults_leave (natural_in bytes).1 in omega arith
kind_leaves (suc (suc (suc (suc k)))) bytes = natural_leaves bytes

node_leaves : (b : ℕ) (bs : List ℕ) → length (node_in (b ∷ bs)).1 ≤ length bs
node_leaves b bs =
    let a = natural_takes b bs in
    let c = kind_leaves (natural_in (b ∷ bs)).0 (natural_in (b ∷ bs)).1 in
    omega arith

no_nodes : (most : ℕ) → nodes_in most [] ≡ []
no_nodes zero = refl
no_nodes (suc most) = refl

-- a count that suffices makes no difference
same_nodes : (most more : ℕ) (bytes : List ℕ) → length bytes ≤ most → length bytes ≤ more → nodes_in most bytes ≡ nodes_in more bytes
same_nodes zero more [] p q = sym (no_nodes more)
same_nodes zero more (b ∷ bs) p q = absurd (omega arith)
same_nodes (suc most) more [] p q = sym (no_nodes more)
same_nodes (suc most) zero (b ∷ bs) p q = absurd (omega arith)
same_nodes (suc most) (suc more) (b ∷ bs) p q =
    let l = node_leaves b bs in
    ap (λ ns. (node_in (b ∷ bs)).0 ∷ ns) (same_nodes most more (node_in (b ∷ bs)).1 (omega arith) (omega arith))

-- the first node, and the others
pub first_node : (bytes : List ℕ) → 0 < length bytes → nodes_of bytes ≡ (node_in bytes).0 ∷ nodes_of (node_in bytes).1
first_node [] some = absurd (omega arith)
first_node (b ∷ bs) some =
    ap (λ ns. (node_in (b ∷ bs)).0 ∷ ns) (same_nodes (length bs) (length (node_in (b ∷ bs)).1) (node_in (b ∷ bs)).1 (node_leaves b bs) (omega arith))

pub no_node : (bytes : List ℕ) → length bytes ≡ 0 → nodes_of bytes ≡ []
no_node [] none = refl
no_node (b ∷ bs) none = absurd (omega arith)

one_read : (most : ℕ) (bytes : List ℕ) → 0 < length bytes → nodes_in (suc most) bytes ≡ (node_in bytes).0 ∷ nodes_in most (node_in bytes).1
one_read most [] some = absurd (omega arith)
one_read most (b ∷ bs) some = refl

some_bytes : (n : Node) (rest : List ℕ) → 0 < length (packed_node n ++ rest)
some_bytes (node.Split (split.Int column at)) rest = omega arith
some_bytes (node.Split (split.Truth id)) rest = omega arith
some_bytes (node.Refuted ms) rest = omega arith
some_bytes (node.Bounded scale ms) rest = omega arith
some_bytes (node.LogicFalse item) rest = omega arith

read_nodes : (most : ℕ) (ns : List Node) → length ns ≤ most → nodes_in most (packed_nodes ns) ≡ ns
read_nodes most [] h = no_nodes most
read_nodes zero (n ∷ ns) h = absurd (omega arith)
read_nodes (suc most) (n ∷ ns) h =
    one_read most (packed_node n ++ packed_nodes ns) (some_bytes n (packed_nodes ns))
    ∙ rw (read_node n (packed_nodes ns)) (ap (λ xs. n ∷ xs) (read_nodes most ns (omega arith)))

-- no more nodes than bytes
pub few_nodes : (ns : List Node) → length ns ≤ length (packed_nodes ns)
few_nodes [] = omega arith
few_nodes (n ∷ ns) = omega (arith, some_bytes n [], few_nodes ns, length-append (packed_node n) (packed_nodes ns), length-append (packed_node n) [])

pub nodes_again : (ns : List Node) → nodes_of (packed_nodes ns) ≡ ns
nodes_again ns = read_nodes (length (packed_nodes ns)) ns (few_nodes ns)

packed_more : (ns ms : List Node) → packed_nodes (ns ++ ms) ≡ packed_nodes ns ++ packed_nodes ms
packed_more [] ms = refl
packed_more (n ∷ ns) ms = ap (λ xs. packed_node n ++ xs) (packed_more ns ms) ∙ sym (append_assoc (packed_node n) (packed_nodes ns) (packed_nodes ms))

-- a node behind packed ones
pub packed_behind : (bytes : List ℕ) (n : Node) → packed_nodes (nodes_of bytes) ≡ bytes → packed_nodes (nodes_of bytes ++ n ∷ []) ≡ bytes ++ packed_node n
packed_behind bytes n is = packed_more (nodes_of bytes) (n ∷ []) ∙ ap (λ xs. packed_nodes (nodes_of bytes) ++ xs) (append-nil (packed_node n)) ∙ ap (λ xs. xs ++ packed_node n) is

pub node_behind : (bytes : List ℕ) (n : Node) → packed_nodes (nodes_of bytes) ≡ bytes → nodes_of (bytes ++ packed_node n) ≡ nodes_of bytes ++ n ∷ []
node_behind bytes n is = ap nodes_of (sym (packed_behind bytes n is)) ∙ nodes_again (nodes_of bytes ++ n ∷ [])

kind_fits : (n : Node) (rest : List ℕ) → (natural_in (packed_node n ++ rest)).0 < 2 ^ 64
kind_fits (node.Split (split.Int column at)) rest = omega arith
kind_fits (node.Split (split.Truth id)) rest = omega arith
kind_fits (node.Refuted ms) rest = omega arith
kind_fits (node.Bounded scale ms) rest = omega arith
kind_fits (node.LogicFalse item) rest = omega arith

-- what stands in front of packed nodes is a kind
pub first_kind : (bytes : List ℕ) → packed_nodes (nodes_of bytes) ≡ bytes → (natural_in bytes).0 < 2 ^ 64
first_kind bytes is = go (nodes_of bytes) is
  where
    go : (ns : List Node) → packed_nodes ns ≡ bytes → (natural_in bytes).0 < 2 ^ 64
    go [] e = rw (← e) (omega arith)
    go (n ∷ ns) e = rw (← e) (kind_fits n (packed_nodes ns))
