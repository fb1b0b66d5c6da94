-- What a node more makes of a list of nodes, and one node less.
use Rattle.std.proofs.Common.{◌≡◌, ◌≢◌, ℕ, zero, suc, ◌+◌, ◌-◌, ◌<◌, ◌≤◌, Bool, true, false, ◌&&◌, List, [], ◌∷◌, ◌++◌, length, refl, sym, ap, ◌∙◌, arith, append_assoc, append-nil, length-append}
use Rattle.std.specs.List.{list_all}
use Rattle.std.specs.Prelude.{◌==◌}
use Rattle.std.proofs.lemmas.List.Folds.{list_all-append}
use Rattle.std.proofs.lemmas.Bool.Decides.{nat_tests}
use Rattle.lp_frame.proofs.Both.{both, first, second}
use Rattle.proof_tree.specs.declared.proof.Node.{Node}
use Rattle.proof_tree.specs.Tree.{closes, opens, is_listed, is_proof}
use Rattle.proof_tree.specs.Packing.{packed_node, packed_nodes, node_in, nodes_of, node_fits}
use Rattle.proof_tree.specs.Lists.{ArePacked, IsNodeList}
use Rattle.proof_tree.proofs.Trees.{opens_most}
use Rattle.proof_tree.proofs.Packing.{packed_behind, node_behind, first_node, few_nodes, read_node}

pub empty_list : IsNodeList [] 0 1 true
empty_list = record {
  nodes = record { packed = refl; fit = refl };
  counted = refl;
  room = omega arith;
  tested = λ more. refl;
}

-- a node behind those that are packed
more_packed : (bytes : List ℕ) (n : Node) → ArePacked bytes → node_fits n ≡ true → ArePacked (bytes ++ packed_node n)
more_packed bytes n are f = record {
  packed = ap packed_nodes (node_behind bytes n are.packed) ∙ packed_behind bytes n are.packed;
  fit = rw (node_behind bytes n are.packed, list_all-append node_fits (nodes_of bytes) (n ∷ [])) (both (list_all node_fits (nodes_of bytes)) (list_all node_fits (n ∷ [])) are.fit (both (node_fits n) true f refl));
}

-- a test more
regrouped : (a b c d : Bool) → (a && (b && (c && d))) ≡ ((a && c) && (b && d))
regrouped true true c d = refl
regrouped true false true d = refl
regrouped true false false d = refl
regrouped false b c d = refl

never : (a b : Bool) → (a && (false && b)) ≡ (false && b)
never true b = refl
never false b = refl

listed_more : (bytes : List ℕ) (len due after : ℕ) (front now : Bool) (n : Node) → IsNodeList bytes len due front → node_fits n ≡ true → after ≤ len + 2
    → ((more : List Node) → (front && (closes due (n ∷ more) && (is_listed n && list_all is_listed more))) ≡ (now && (closes after more && list_all is_listed more)))
    → IsNodeList (bytes ++ packed_node n) (len + 1) after now
listed_more bytes len due after front now n is f few step =
    let same = node_behind bytes n is.nodes.packed in
    record {
      nodes = more_packed bytes n is.nodes f;
      counted = rw same (omega (arith, is.counted, length-append (nodes_of bytes) (n ∷ [])));
      room = omega (arith, few);
      tested = λ more. rw (same, append_assoc (nodes_of bytes) (n ∷ []) more) (is.tested (n ∷ more) ∙ step more);
    }

-- behind the end of a proof
pub closed_list : (bytes : List ℕ) (len due : ℕ) (front : Bool) (n : Node) → IsNodeList bytes len due front → node_fits n ≡ true → due ≡ 0 → IsNodeList (bytes ++ packed_node n) (len + 1) due false
closed_list bytes len due front n is f none = listed_more bytes len due due front false n is f (omega arith)
    (λ more. rw none (never front (is_listed n && list_all is_listed more)))

due_step : (k : ℕ) (n : Node) (more : List Node) → k ≢ 0 → closes k (n ∷ more) ≡ closes (opens n (k - 1)) more
due_step zero n more h = absurd (h refl)
due_step (suc k) n more h = let e : suc k - 1 ≡ k = omega arith in rw e refl

pub longer_list : (bytes : List ℕ) (len due : ℕ) (front : Bool) (n : Node) → IsNodeList bytes len due front → node_fits n ≡ true → due ≢ 0 → IsNodeList (bytes ++ packed_node n) (len + 1) (opens n (due - 1)) (front && is_listed n)
longer_list bytes len due front n is f some = listed_more bytes len due (opens n (due - 1)) front (front && is_listed n) n is f (omega (arith, opens_most n (due - 1), is.room))
    (λ more. rw (due_step due n more some) (regrouped front (closes (opens n (due - 1)) more) (is_listed n) (list_all is_listed more)))

-- a list of bytes that are in memory
pub list_short : (bytes : List ℕ) (len due : ℕ) (front : Bool) → IsNodeList bytes len due front → len ≤ length bytes
list_short bytes len due front is = omega (arith, is.counted, few_nodes (nodes_of bytes), ap length is.nodes.packed)

closes_none : (k : ℕ) → closes k [] ≡ (k == 0)
closes_none zero = refl
closes_none (suc k) = grind (arith, nat_tests)

and_true : (a : Bool) → (a && true) ≡ a
and_true true = refl
and_true false = refl

pub list_proof : (bytes : List ℕ) (len due : ℕ) (front : Bool) → IsNodeList bytes len due front → (front && (due == 0)) ≡ is_proof (nodes_of bytes)
list_proof bytes len due front is =
    sym (ap is_proof (sym (append-nil (nodes_of bytes))) ∙ is.tested [] ∙ ap (λ b. front && b) (and_true (closes due []) ∙ closes_none due))

-- the nodes behind the first
pub rest_packed : (bytes : List ℕ) → ArePacked bytes → 0 < length bytes → ArePacked (node_in bytes).1
rest_packed bytes are some = record {
  packed = sym (ap (λ bs. (node_in bs).1) (sym (rw (first_node bytes some) at are.packed))
      ∙ ap (λ r. r.1) (read_node (node_in bytes).0 (packed_nodes (nodes_of (node_in bytes).1))));
  fit = second (node_fits (node_in bytes).0) (list_all node_fits (nodes_of (node_in bytes).1)) (rw (first_node bytes some) at are.fit);
}

pub first_fits : (bytes : List ℕ) → ArePacked bytes → 0 < length bytes → node_fits (node_in bytes).0 ≡ true
first_fits bytes are some = first (node_fits (node_in bytes).0) (list_all node_fits (nodes_of (node_in bytes).1)) (rw (first_node bytes some) at are.fit)

pub some_left : (bytes : List ℕ) → false ≡ (length bytes == 0) → 0 < length bytes
some_left bytes h = grind (arith, nat_tests)
