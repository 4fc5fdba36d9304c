-- `code_level::level_domain` meets its contract.
use native.Mathlib.Omega.{arith}
use Rattle.theory_record.proofs.Domain.{length-level_domain}
use Rattle.code_level.proofs.level_domain.Goals as goal

pub put_domain-requires : goal.put_domain-requires
put_domain-requires c =
    let h = length-level_domain c.args.base.now c.args.l c.requires.0 in
    (c.requires.0, omega arith)
