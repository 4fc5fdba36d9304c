-- `code_parts::encode_half` meets its contract.
use Prim.Native.Nat.{ℕ, ◌-◌, ◌*◌}
use mathlib.Core.Path.{ap, ◌∙◌}
use native.Mathlib.Omega.{arith}
use Rattle.theory_laws.specs.Lists.{part}
use Rattle.theory_field.specs.Words.{words}
use Rattle.theory_field.proofs.Words.{words-lt}
use Rattle.code_parts.proofs.Lengths.{halved}
use Rattle.code_parts.proofs.Block.{table_half}
use Rattle.code_parts.proofs.encode_half.Goals as goal

pub copy_half-requires : goal.copy_half-requires
copy_half-requires c =
    let a = c.args in let z = c.requires.0 in (omega arith, omega (arith, z.table=, z.out=, halved a.code.now.n z.some))

pub returns-then-half-lt2 : goal.returns-then-half-lt2
returns-then-half-lt2 c =
    let a = c.args in let z = c.requires.0 in let table = a.table.now in
    ap words c.copy_half.ensures
    ∙ ap (λ (size : ℕ). words (part size (a.half * size) table)) z.out=
    ∙ table_half (a.code.now.n - 1) a.code.now.n a.code.now.k a.half (words a.code.now.gammas.now) table (omega (arith, z.some)) (omega arith) z.table=
    (words-lt table (λ j. (c.type_inv.table j).fits))
