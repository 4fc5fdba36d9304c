-- `code_codeword::Code::encode_blocks` meets its contract: the first eps blocks are made.
use Prim.Native.Nat.{◌*◌, ◌^◌}
use mathlib.Core.Path.{◌≡◌}
use lib.ListN.{length, take}
use Rattle.theory_field.specs.Words.{words}
use Rattle.code_codeword.proofs.Blocks.{first_blocks}
use Rattle.code_codeword.proofs.Code.encode_blocks.Given as goal

abbrev pub invariant-loop-eps : goal.invariant-loop-eps
invariant-loop-eps l =
    (length l.out ≡ length l.initial.out) × (length l.multiples ≡ 8192) × (l.count ≡ 2 ^ l.self.k)
    × (words (take (l.eps * l.size) l.out) ≡ first_blocks l.self.n l.self.k (words l.self.gammas.now) (words l.table) l.eps)
