-- The length of a gamma's message, over the length of the base domain. Rests on the messages' laws.
use Prim.Native.Nat.{ℕ, ◌+◌}
use mathlib.Core.Path.{◌≡◌, ◌∙◌, ap}
use mathlib.Core.List.{List}
use native.Mathlib.Omega.{arith}
use lib.ListN.{length, length-append}
use Rattle.theory_laws.specs.Lists.{flat}
use Rattle.theory_laws.proofs.Lists.{length-le_bytes}
use Rattle.theory_merkle.specs.Message.{serialize_prefix, serialize_parts}
use Rattle.theory_merkle.proofs.Message.{length-prefixed}
use Rattle.theory_code.specs.Gammas.{gamma_label, gamma_message}

pub length-gamma_message : (domain : List ℕ) (n k j i : ℕ) → length (gamma_message domain n k j i) ≡ 109 + length domain
unfolding gamma_message serialize_parts serialize_prefix flat gamma_label
length-gamma_message domain n k j i = simp (length-append, length-le_bytes, length-prefixed) (omega arith)

-- a small value of the specification: a domain of one byte
pub gamma_110 : (domain : List ℕ) (n k j i : ℕ) → length domain ≡ 1 → length (gamma_message domain n k j i) ≡ 110
gamma_110 domain n k j i h = length-gamma_message domain n k j i ∙ ap (◌+◌ 109) h
