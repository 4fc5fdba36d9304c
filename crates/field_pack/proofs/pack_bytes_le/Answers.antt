-- `field_pack::pack_bytes_le` meets its contract: two halves are a word.
use mathlib.Core.Path.{◌≡◌, ap, ap₂, ◌∙◌}
use Prim.Native.Nat.{ℕ, ◌+◌, ◌^◌}
use native.Mathlib.Omega.{arith}
use Rattle.theory_laws.specs.Table.{at}
use Rattle.theory_laws.specs.Xor.{sel}
use Rattle.theory_laws.proofs.Sum.{sum-ext}
use Rattle.theory_field.specs.Words.{joined}
use Rattle.field_gf128.specs.Word.{word}
use Rattle.field_pack.proofs.Groups.{halves-word, is-bit}
use Rattle.field_pack.proofs.pack_bytes_le.Goals as goal

pub returns : goal.returns
unfolding word
returns c =
    let bytes = c.args.bytes.now in let from = c.args.from in ap₂ joined
    (c.pack_half-2.ensures ∙ sum-ext 64 (λ b k. ap (λ (i : ℕ). sel (at bytes i) (2 ^ b)) (let e : from + 64 + b ≡ from + (64 + b) = omega arith in e)))
    c.pack_half.ensures
    ∙ halves-word (λ b. at bytes (from + b)) (λ b. is-bit bytes c.requires.bytes_value (from + b))
