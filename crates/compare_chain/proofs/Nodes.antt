-- The node messages of a path, written one after the other; with the leaf's before them they are all the messages on the way to the root.
use Prim.Native.Nat.{ℕ, suc, ◌+◌, ◌-◌, ◌*◌, ◌/◌, ◌<◌, ◌≤◌}
use mathlib.Core.Path.{◌≡◌, refl, sym, ◌∙◌, ap, ap₂}
use mathlib.Core.List.{List, [], ◌∷◌, ◌++◌}
use native.Mathlib.Omega.{arith}
use native.Mathlib.Nat.{mul-suc}
use native.Mathlib.Numerals.{add-one}
use lib.ListN.{length, drop}
use lib.Seq.{drop-drop}
use Rattle.theory_laws.specs.Lists.{part, runs, flat, stored}
use Rattle.theory_laws.proofs.Lists.{stored-nil, stored-append, then_stored}
use Rattle.theory_merkle.specs.Message.{leaf_message, node_message}
use Rattle.theory_merkle.specs.Tree.{group_of, left, right}
use Rattle.theory_merkle.specs.Binding.{messages, messages_of}
use Rattle.compare_chain.specs.helpers.Nodes.{nodes_of, Noted}

-- the leaf's message, and the nodes'
pub messages_nodes : (H : List ℕ → List ℕ) (domain : List ℕ) (level g : ℕ) (m : List ℕ) (ss : List (List ℕ))
    → messages H domain level g m ss ≡ m ∷ nodes_of H domain level g (H m) ss
unfolding messages nodes_of
messages_nodes H domain level g m [] = refl
messages_nodes H domain level g m (s ∷ ss) =
    ap (λ (r : List (List ℕ)). m ∷ r) (messages_nodes H domain (suc level) (g / 2) (node_message domain level (left g (H m) s) (right g (H m) s)) ss)

-- what is left to store of the nodes', at digest l of the path
unfoldable pub nodes_left : (H : List ℕ → List ℕ) → List ℕ → ℕ → List ℕ → ℕ → ℕ → List ℕ → List ℕ → ℕ → ℕ → List ℕ
nodes_left H out at domain l g d s path depth = stored out at (flat (nodes_of H domain l g d (runs 32 (depth - l) (drop (path + 32 * l) s))))

pub nodes_begin : (H : List ℕ → List ℕ) (out : List ℕ) (at : ℕ) (domain : List ℕ) (g : ℕ) (d s : List ℕ) (path depth : ℕ)
    → nodes_left H out at domain 0 g d s path depth ≡ stored out at (flat (nodes_of H domain 0 g d (runs 32 depth (drop path s))))
unfolding nodes_left
nodes_begin H out at domain g d s path depth =
    ap₂ (λ (c i : ℕ). stored out at (flat (nodes_of H domain 0 g d (runs 32 c (drop i s))))) {x = depth - 0} {y = depth} {u = path + 32 * 0} {v = path}
    (omega arith) (omega arith)

module _ (H : List ℕ → List ℕ) (out : List ℕ) (at : ℕ) (domain : List ℕ) (l g : ℕ) (d s : List ℕ) (path depth : ℕ) (r : List ℕ)
    (f : nodes_left H out at domain l g d s path depth ≡ r) where
  pub nodes_step : (e out' p : List ℕ) (h : ℕ) → l < depth → e ≡ part 32 (path + 32 * l) s
      → Noted H out at (136 + length domain) (node_message domain l (left g d e) (right g d e)) out' p → h ≡ g / 2
      → nodes_left H out' (at + (136 + length domain)) domain (l + 1) h p s path depth ≡ r
  unfolding nodes_left nodes_of runs flat part
  nodes_step e out' p h lt ee n eh =
      let z : depth - l ≡ suc (depth - suc l) = omega arith in
      let y : path + 32 * l + 32 ≡ path + 32 * suc l = omega arith in
      let x : drop 32 (drop (path + 32 * l) s) ≡ drop (path + 32 * suc l) s = drop-drop 32 (path + 32 * l) s ∙ ap (λ (i : ℕ). drop i s) y in
      let m : List ℕ = node_message domain l (left g d e) (right g d e) in
      let rest : List ℕ = flat (nodes_of H domain (suc l) (g / 2) (H m) (runs 32 (depth - suc l) (drop (path + 32 * suc l) s))) in
      let q : stored out' (at + (136 + length domain)) rest ≡ stored out at (m ++ rest) =
      ap₂ (λ (t : List ℕ) (i : ℕ). stored t (at + i) rest) n.bytes (sym n.size) ∙ sym (stored-append out at m rest) in
      rw (add-one, n.digest, eh) (q ∙ (rw (z, x, ← ee) at f))

  pub nodes_end : depth ≤ l → out ≡ r
  unfolding nodes_left nodes_of runs flat
  nodes_end h = let z : depth - l ≡ 0 = omega arith in sym (stored-nil out at) ∙ (rw z at f)

-- the room for the messages that are left, and what one more leaves of it
pub room_begin : (at node depth len : ℕ) → at + node * depth ≤ len → at + node * (depth - 0) ≤ len
room_begin at node depth len h = let z : depth - 0 ≡ depth = omega arith in rw z h

pub one_more : (node depth l : ℕ) → l < depth → node * (depth - l) ≡ node + node * (depth - (l + 1))
one_more node depth l h =
    let z : depth - l ≡ suc (depth - (l + 1)) = omega arith in
    rw z (mul-suc node (depth - (l + 1)) ∙ omega arith)

pub chain_stored : (H : List ℕ → List ℕ) (o domain : List ℕ) (count width place group : ℕ) (values : List ℕ) (ss : List (List ℕ)) (o1 d o2 : List ℕ) (at : ℕ)
    → group ≡ group_of place width → Noted H o 0 at (leaf_message domain count width group values) o1 d
    → o2 ≡ stored o1 at (flat (nodes_of H domain 0 group d ss)) → o2 ≡ stored o 0 (flat (messages_of H domain count width place values ss))
unfolding messages_of flat
chain_stored H o domain count width place group values ss o1 d o2 at eg n e =
    let m : List ℕ = leaf_message domain count width group values in
    let a : o2 ≡ stored o 0 (m ++ flat (nodes_of H domain 0 group (H m) ss)) =
    then_stored o o1 o2 0 at m _ n.bytes (sym n.size ∙ omega arith)
    (e ∙ ap (λ (x : List ℕ). stored o1 at (flat (nodes_of H domain 0 group x ss))) n.digest) in
    rw (← eg, messages_nodes H domain 0 group m ss) a
