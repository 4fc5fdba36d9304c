-- The messages on the way to the root, read back from a buffer in which they stand end to end.
use Prim.Native.Nat.{ℕ, suc, ◌+◌, ◌*◌, ◌/◌, ◌%◌, ◌≤◌}
use mathlib.Core.Path.{◌≡◌, refl, ◌∙◌, ap, ap₂}
use mathlib.Core.Bool.{Bool, true, false}
use mathlib.Core.List.{List, [], ◌∷◌, ◌++◌, append_assoc}
use native.Mathlib.Omega.{arith}
use lib.Dec.{eqb}
use lib.ListN.{length, drop, length-append}
use lib.Seq.{take_at, drop_at}
use Rattle.theory_laws.specs.Questions.{pick}
use Rattle.theory_laws.specs.Lists.{part, flat, stored}
use Rattle.theory_laws.proofs.Lists.{AllLong, runs-flat, length-flat, drop-stored}
use Rattle.theory_merkle.specs.Digests.{DigestsLong}
use Rattle.theory_merkle.specs.Message.{leaf_message, node_message}
use Rattle.theory_merkle.specs.Tree.{group_of, left, right}
use Rattle.theory_merkle.specs.Binding.{messages_of}
use Rattle.theory_merkle.proofs.Message.{length-leaf_message, length-node_message}
use Rattle.compare_chain.specs.helpers.Nodes.{nodes_of}
use Rattle.compare_chain.proofs.Nodes.{messages_nodes}
use Rattle.compare_pick.specs.helpers.Chains.{chain_of}

pick-long : (n : ℕ) (b : Bool) (x y : List ℕ) → length x ≡ n → length y ≡ n → length (pick b x y) ≡ n
pick-long n true x y h k = h
pick-long n false x y h k = k

nodes_long : (H : List ℕ → List ℕ) (sized : DigestsLong H) (domain : List ℕ) (level g : ℕ) (d : List ℕ) (ss : List (List ℕ)) → length d ≡ 32 → AllLong 32 ss
    → AllLong (136 + length domain) (nodes_of H domain level g d ss)
unfolding nodes_of
nodes_long H sized domain level g d [] h a = tt
nodes_long H sized domain level g d (s ∷ ss) h a =
    let m : List ℕ = node_message domain level (left g d s) (right g d s) in
    let even = eqb (g % 2) 0 in (
      length-node_message domain level (left g d s) (right g d s) (pick-long 32 even d s h a.0) (pick-long 32 even s d a.0 h),
      nodes_long H sized domain (suc level) (g / 2) (H m) ss (sized m) a.1,
    )

length_nodes : (H : List ℕ → List ℕ) (domain : List ℕ) (level g : ℕ) (d : List ℕ) (ss : List (List ℕ)) → length (nodes_of H domain level g d ss) ≡ length ss
unfolding nodes_of
length_nodes H domain level g d [] = refl
length_nodes H domain level g d (s ∷ ss) = ap suc (length_nodes H domain (suc level) (g / 2) _ ss)

-- messages of two lengths, the first of one and the others of the other, stored end to end
chain_read : (leaf node : ℕ) (m : List ℕ) (ns : List (List ℕ)) (o : List ℕ) → length m ≡ leaf → AllLong node ns → leaf + node * length ns ≤ length o
    → chain_of leaf node (length ns) (stored o 0 (flat (m ∷ ns))) ≡ m ∷ ns
unfolding chain_of part flat
chain_read leaf node m ns o em long room =
    let bs : List ℕ = m ++ flat ns in
    let r : List ℕ = drop (0 + length bs) o in
    let n : length bs ≡ leaf + node * length ns = length-append m (flat ns) ∙ ap₂ (λ (i j : ℕ). i + j) em (length-flat node ns long) in
    let e : stored o 0 bs ≡ m ++ (flat ns ++ r) = drop-stored o 0 bs (omega arith) ∙ append_assoc m (flat ns) r in
    rw (e, take_at m (flat ns ++ r) leaf em, drop_at m (flat ns ++ r) leaf em, runs-flat node ns r long)

-- the messages of a group and a path
pub messages-read : (H : List ℕ → List ℕ) (sized : DigestsLong H) (domain : List ℕ) (count width place : ℕ) (values : List ℕ) (ss : List (List ℕ)) (depth : ℕ)
    (o : List ℕ) → length values ≡ width
    → length ss ≡ depth → AllLong 32 ss
    → 97 + length domain + 16 * width + (136 + length domain) * depth ≤ length o
    → chain_of (97 + length domain + 16 * width) (136 + length domain) depth (stored o 0 (flat (messages_of H domain count width place values ss)))
    ≡ messages_of H domain count width place values ss
unfolding messages_of
messages-read H sized domain count width place values ss depth o ev es long room =
    let g : ℕ = group_of place width in
    let m : List ℕ = leaf_message domain count width g values in
    let ns : List (List ℕ) = nodes_of H domain 0 g (H m) ss in
    let z : length ns ≡ depth = length_nodes H domain 0 g (H m) ss ∙ es in
    let nodes = nodes_long H sized domain 0 g (H m) ss (sized m) long in
    let q =
    chain_read (97 + length domain + 16 * width) (136 + length domain) m ns o (length-leaf_message domain count width g values ev) nodes (rw z room) in
    rw (messages_nodes H domain 0 g m ss) (rw z at q)
