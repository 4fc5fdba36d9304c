-- A message in its buffer: the message stored, and zeros stored one after the other to the end.
use Prim.Native.Nat.{ℕ, ◌+◌, ◌-◌, ◌≤◌}
use mathlib.Core.Path.{◌≡◌, ◌∙◌, ap}
use mathlib.Core.List.{List, ◌++◌}
use native.Mathlib.Omega.{arith}
use lib.ListN.{length, replicate, length-append, length-replicate}
use Rattle.theory_laws.specs.Lists.{stored}
use Rattle.theory_laws.proofs.Lists.{length-stored, stored-all, then_stored}
use Rattle.bytes_numbers.specs.helpers.Put.{Put}
use Rattle.theory_compare.specs.Compare.{in_buffer, message_buffer}

pub message_put : (out m out1 out2 : List ℕ) (end : ℕ) → length out ≡ message_buffer → length m ≤ message_buffer → Put out 0 (length m) m out1 end
    → out2 ≡ stored out1 end (replicate (length out1 - end) 0) → out2 ≡ in_buffer m
unfolding in_buffer
message_put out m out1 out2 end n k p e =
    let n1 : length out1 ≡ message_buffer = ap length p.bytes ∙ length-stored out 0 m ∙ n in
    let at : end ≡ 0 + length m = p.end in
    let c : length out1 - end ≡ message_buffer - length m = omega arith in
    let zs : List ℕ = replicate (message_buffer - length m) 0 in
    let d : out2 ≡ stored out1 end zs = rw c at e in
    let len : length (m ++ zs) ≡ length out = length-append m zs ∙ rw (length-replicate {A = ℕ} (message_buffer - length m) 0) (omega arith) in
    then_stored out out1 out2 0 end m zs p.bytes at d ∙ stored-all out (m ++ zs) len
