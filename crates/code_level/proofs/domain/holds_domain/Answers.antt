-- `code_level::domain::holds_domain` meets its contract.
use native.Mathlib.Omega.{arith}
use Rattle.theory_record.proofs.Domain.{length-decimal}
use Rattle.code_level.proofs.Domains.{not_so_long, so_long}
use Rattle.code_level.proofs.domain.holds_domain.Goals as goal

pub overflow_add-behind : goal.overflow_add-behind
overflow_add-behind c =
    omega (arith, length-decimal c.args.l c.requires)

pub returns-then-out-behind : goal.returns-then-out-behind
returns-then-out-behind c = search not_so_long

pub returns : goal.returns
returns c = search so_long
