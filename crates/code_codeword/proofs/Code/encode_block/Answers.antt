-- `code_codeword::Code::encode_block` meets its contract: block 0 is the table.
use mathlib.Core.Path.{sym, ap, ◌∙◌}
use Prim.Native.Nat.{◌^◌}
use native.Mathlib.Omega.{arith}
use Rattle.theory_field.specs.Words.{words}
use Rattle.theory_field.proofs.Words.{length-words-even, words-lt}
use Rattle.code_codeword.proofs.Blocks.{block_of_zero}
use Rattle.code_codeword.proofs.Code.encode_block.Goals as goal

pub returns-else-eps-ne0 : goal.returns-else-eps-ne0
returns-else-eps-ne0 c =
    let a = c.args in let table = a.table.now in
    ap words c.copy.ensures
    ∙ sym (block_of_zero a.self.now.n a.self.now.k (words a.self.now.gammas.now) a.eps (words table) (omega arith) (length-words-even table (2 ^ a.self.now.n) (omega arith))
    (words-lt table (λ j. (c.type_inv.table j).fits)))
