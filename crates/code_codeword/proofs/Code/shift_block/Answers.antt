-- `code_codeword::Code::shift_block` meets its contract: the pass at coordinate 0 leaves the table's, and the other passes the block.
use mathlib.Core.Path.{sym, ap, ◌∙◌}
use Prim.Native.Nat.{◌^◌}
use native.Mathlib.Omega.{arith}
use lib.ListN.{length}
use Rattle.theory_field.specs.Words.{words}
use Rattle.theory_field.proofs.Words.{length-words-even, words-lt}
use Rattle.code_codeword.proofs.Lengths.{has_bit}
use Rattle.code_codeword.proofs.Blocks.{none_passed, one-passed, all-passed, shifted-block, block_of_one}
use Rattle.code_codeword.proofs.Code.shift_block.Goals as goal

pub pass_first-requires : goal.pass_first-requires
pass_first-requires c =
    let a = c.args in let table= = c.requires.0 in (has_bit a.self.now.n 0 (length a.out.now) (omega arith) c.requires.1, omega (arith, table=, c.requires.1), c.requires.2)

pub returns-then-self-eq0 : goal.returns-then-self-eq0
returns-then-self-eq0 c =
    let a = c.args in let table = a.table.now in
    ap words c.copy.ensures
    ∙ sym (block_of_one a.self.now.n a.self.now.k (words a.self.now.gammas.now) a.eps (words table) (omega arith)
    (length-words-even table (2 ^ a.self.now.n) c.requires.0) (words-lt table (λ j. (c.type_inv.table j).fits)))

pub returns-else-self-eq0 : goal.returns-else-self-eq0
returns-else-self-eq0 c =
    let a = c.args in let g = words a.self.now.gammas.now in
    let t = words a.table.now in
    let size = length-words-even a.table.now (2 ^ a.self.now.n) c.requires.0 in
    c.shift_table.ensures t
    (one-passed a.self.now.n a.self.now.n a.self.now.k g a.eps 0 _ t t _ (omega arith) c.coordinate-d.ensures
    (none_passed a.self.now.n a.self.now.n a.self.now.k g a.eps t size) c.pass_first.ensures)
    ∙ all-passed a.self.now.n a.self.now.n a.self.now.k g a.eps t (words-lt a.table.now (λ j. (c.type_inv.table j).fits))
    ∙ shifted-block a.self.now.n a.self.now.k g a.eps t
