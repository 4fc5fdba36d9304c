-- A message written and hashed: a prefix and the rest put after it, in the buffer itself or in one of its own.
use Prim.Native.Nat.{ℕ, ◌+◌, ◌*◌, ◌≤◌}
use mathlib.Core.Path.{◌≡◌, ◌∙◌, ap}
use mathlib.Core.List.{List, ◌++◌}
use native.Mathlib.Omega.{arith}
use lib.ListN.{length, take, length-append}
use Rattle.theory_laws.specs.Lists.{stored}
use Rattle.theory_laws.proofs.Lists.{length-stored, then_stored}
use Rattle.theory_merkle.specs.Message.{prefixed, leaf_prefix, leaf_rest, leaf_message, node_prefix, node_message}
use Rattle.theory_merkle.specs.Tree.{left, right}
use Rattle.theory_merkle.proofs.Message.{node_message-is}
use Rattle.bytes_numbers.specs.helpers.Put.{Put}
use Rattle.tree_digest.proofs.Messages.{message-is, message-length, prefix-is}
use Rattle.compare_chain.specs.helpers.Nodes.{Noted}

-- two runs of bytes, the second after the first
module _ (o a o1 b o2 : List ℕ) (n k m j : ℕ) (p : Put o 0 n a o1 k) (q : Put o1 k m b o2 j) (fits : n + m ≤ length o) where
  second_fits : k + m ≤ length o1
  second_fits = let e : length o1 ≡ length o = ap length p.bytes ∙ length-stored o 0 a in omega (arith, p.end)

  pub both_is : take j o2 ≡ a ++ b
  both_is = message-is o1 k m b o2 j q second_fits ∙ ap (λ (l : List ℕ). l ++ b) (prefix-is o n a o1 k p (omega arith))

  pub both_long : j ≡ length (take j o2)
  both_long = message-length o1 k m b o2 j q second_fits

  both-size : length (a ++ b) ≡ n + m
  both-size = length-append a b ∙ omega (arith, p.size, q.size)

  both_noted : (H : List ℕ → List ℕ) (d : List ℕ) → d ≡ H (take j o2) → Noted H o 0 (n + m) (a ++ b) o2 d
  both_noted H d e =
      record {
        bytes = then_stored o o1 o2 0 k a b p.bytes (omega (arith, p.end, p.size)) q.bytes;
        size = both-size;
        digest = e ∙ ap H both_is;
      }

  -- and both put from a buffer of their own
  pub copy_noted : (H : List ℕ → List ℕ) (out out' d : List ℕ) (at end : ℕ) → Put out at (length (take j o2)) (take j o2) out' end → d ≡ H (take j o2)
      → Noted H out at (n + m) (a ++ b) out' d
  copy_noted H out out' d at end c e = record { bytes = c.bytes ∙ ap (stored out at) both_is; size = both-size; digest = e ∙ ap H both_is }

pub leaf_noted : (H : List ℕ → List ℕ) (o domain : List ℕ) (count width group : ℕ) (values vs o1 : List ℕ) (k : ℕ) (o2 : List ℕ) (j : ℕ) (d : List ℕ)
    → Put o 0 (73 + length domain) (leaf_prefix domain count width) o1 k → Put o1 k (24 + 16 * width) (leaf_rest width group vs) o2 j
    → 97 + length domain + 16 * width ≤ length o
    → vs ≡ values → d ≡ H (take j o2) → Noted H o 0 (97 + length domain + 16 * width) (leaf_message domain count width group values) o2 d
unfolding leaf_message
leaf_noted H o domain count width group values vs o1 k o2 j d p q fits ev e =
    let z : 73 + length domain + (24 + 16 * width) ≡ 97 + length domain + 16 * width = omega arith in
    rw (← z, ← ev)
    (both_noted o (leaf_prefix domain count width) o1 (leaf_rest width group vs) o2 (73 + length domain) k (24 + 16 * width) j p q (omega arith) H d e)

node_noted : (H : List ℕ → List ℕ) (o domain : List ℕ) (level : ℕ) (l r o1 : List ℕ) (k : ℕ) (o2 : List ℕ) (j : ℕ) (out out' d : List ℕ) (at end : ℕ)
    → Put o 0 (56 + length domain) (node_prefix domain level) o1 k → Put o1 k 80 (prefixed l ++ prefixed r) o2 j → 136 + length domain ≤ length o
    → Put out at (length (take j o2)) (take j o2) out' end → d ≡ H (take j o2)
    → Noted H out at (136 + length domain) (node_message domain level l r) out' d
node_noted H o domain level l r o1 k o2 j out out' d at end p q fits c e =
    let z : 56 + length domain + 80 ≡ 136 + length domain = omega arith in
    rw (← z, node_message-is domain level l r)
    (copy_noted o (node_prefix domain level) o1 (prefixed l ++ prefixed r) o2 (56 + length domain) k 80 j p q (omega arith) H out out' d at end c e)

-- the node message over a digest, number g of its level, and its sibling
pub children_noted : (H : List ℕ → List ℕ) (o domain : List ℕ) (level g : ℕ) (x s l r o1 : List ℕ) (k : ℕ) (o2 : List ℕ) (j : ℕ) (out out' d : List ℕ)
    (at end : ℕ) → (l ≡ left g x s) × (r ≡ right g x s)
    → Put o 0 (56 + length domain) (node_prefix domain level) o1 k → Put o1 k 80 (prefixed l ++ prefixed r) o2 j → 136 + length domain ≤ length o
    → Put out at (length (take j o2)) (take j o2) out' end → d ≡ H (take j o2)
    → Noted H out at (136 + length domain) (node_message domain level (left g x s) (right g x s)) out' d
children_noted H o domain level g x s l r o1 k o2 j out out' d at end e p q fits c f =
    rw (← e.0, ← e.1) (node_noted H o domain level l r o1 k o2 j out out' d at end p q fits c f)
