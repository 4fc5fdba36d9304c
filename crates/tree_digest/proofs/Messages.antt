-- A message in a buffer: its prefix, and the rest put after it.
use Prim.Native.Nat.{ℕ, ◌+◌, ◌≤◌}
use mathlib.Core.Path.{◌≡◌, sym, ◌∙◌, ap}
use mathlib.Core.List.{List, ◌++◌}
use native.Mathlib.Omega.{arith}
use lib.ListN.{length, take, drop, length-append}
use lib.Seq.{length-take-le, take_at, sets-eq}
use Rattle.theory_laws.specs.Lists.{stored}
use Rattle.theory_laws.proofs.Lists.{length-stored, take-stored}
use Rattle.theory_merkle.specs.Message.{prefixed, leaf_prefix, leaf_rest, leaf_message, node_prefix}
use Rattle.theory_merkle.specs.Tree.{leaf_digest, node_digest}
use Rattle.theory_merkle.proofs.Message.{node_message-is}
use Rattle.bytes_numbers.specs.helpers.Put.{Put}
use Rattle.tree_digest.specs.helpers.Hashed.{Hashed}

module _ (o : List ℕ) (from n : ℕ) (a o1 : List ℕ) (k : ℕ) (p : Put o from n a o1 k) (fits : from + n ≤ length o) where
  -- the part that holds the message
  pub message-length : k ≡ length (take k o1)
  message-length =
      let l : length o1 ≡ length o = ap length p.bytes ∙ length-stored o from a in
      sym (length-take-le k o1 (omega (arith, p.end)))

  pub message-is : take k o1 ≡ take from o ++ a
  unfolding stored
  message-is =
      let f : length (take from o) ≡ from = length-take-le from o (omega arith) in
      let l : length (take from o ++ a) ≡ k = length-append (take from o) a ∙ omega (arith, p.end, p.size) in
      ap (take k) (p.bytes ∙ sets-eq a o from (omega (arith, p.size))) ∙ take_at (take from o ++ a) (drop (from + length a) o) k l

  pub message_hashed : (H : List ℕ → List ℕ) (d : List ℕ) → d ≡ H (take k o1) → Hashed H o from a o1 d
  message_hashed H d e = record { digest = e ∙ ap H message-is; kept = ap (take from) p.bytes ∙ take-stored from o from a (omega arith) }

-- the prefix, put first
pub prefix-is : (o : List ℕ) (n : ℕ) (a o1 : List ℕ) (k : ℕ) → Put o 0 n a o1 k → n ≤ length o → take k o1 ≡ a
prefix-is o n a o1 k p fits = message-is o 0 n a o1 k p (omega arith)

-- a whole message: the prefix put first, and the rest
pub prefix_hashed : (H : List ℕ → List ℕ) (o : List ℕ) (n : ℕ) (a o1 : List ℕ) (k : ℕ) (b o2 d : List ℕ)
    → Put o 0 n a o1 k → n ≤ length o → Hashed H o1 k b o2 d → d ≡ H (a ++ b)
prefix_hashed H o n a o1 k b o2 d p fits h = h.digest ∙ ap (λ (l : List ℕ). H (l ++ b)) (prefix-is o n a o1 k p fits)

pub leaf_hashed : (H : List ℕ → List ℕ) (o : List ℕ) (domain : List ℕ) (count width group : ℕ) (values o1 : List ℕ) (k : ℕ) (o2 d : List ℕ)
    → Put o 0 (73 + length domain) (leaf_prefix domain count width) o1 k
    → 73 + length domain ≤ length o → Hashed H o1 k (leaf_rest width group values) o2 d → d ≡ leaf_digest H domain count width group values
unfolding leaf_digest leaf_message
leaf_hashed H o domain count width group values o1 k o2 d p fits h =
    prefix_hashed H o (73 + length domain) (leaf_prefix domain count width) o1 k (leaf_rest width group values) o2 d p fits h

pub node_hashed : (H : List ℕ → List ℕ) (o : List ℕ) (domain : List ℕ) (level : ℕ) (l r o1 : List ℕ) (k : ℕ) (o2 d : List ℕ)
    → Put o 0 (56 + length domain) (node_prefix domain level) o1 k
    → 56 + length domain ≤ length o → Hashed H o1 k (prefixed l ++ prefixed r) o2 d → d ≡ node_digest H domain level l r
unfolding node_digest
node_hashed H o domain level l r o1 k o2 d p fits h =
    prefix_hashed H o (56 + length domain) (node_prefix domain level) o1 k (prefixed l ++ prefixed r) o2 d p fits h
    ∙ ap H (sym (node_message-is domain level l r))
