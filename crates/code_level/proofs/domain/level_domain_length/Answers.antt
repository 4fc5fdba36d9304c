-- `code_level::domain::level_domain_length` meets its contract.
use native.Mathlib.Omega.{arith}
use Rattle.theory_record.proofs.Domain.{length-decimal}
use Rattle.code_level.proofs.Domains.{length-level, length_base, length-done}
use Rattle.code_level.proofs.domain.level_domain_length.Goals as goal

pub returns-then-l-gt20 : goal.returns-then-l-gt20
returns-then-l-gt20 c = search length-level

pub returns-then-base-gt200 : goal.returns-then-base-gt200
returns-then-base-gt200 c = search length_base

pub overflow_add-result-2 : goal.overflow_add-result-2
overflow_add-result-2 c =
    omega (arith, length-decimal c.args.l (omega arith))

pub returns : goal.returns
returns c = search length-done
