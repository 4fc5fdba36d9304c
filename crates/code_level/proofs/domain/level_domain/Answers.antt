-- `code_level::domain::level_domain` meets its contract.
use mathlib.Core.Path.{refl}
use native.Mathlib.Omega.{arith}
use Rattle.code_level.proofs.Domains.{domain-fits, domain-fills}
use Rattle.code_level.proofs.domain.level_domain.Goals as goal

pub put_domain-requires : goal.put_domain-requires
put_domain-requires c =
    let f = domain-fits _ _ _ 0 c.in_ok-questions.ensures refl in
    (omega (arith, f.level-le), omega (arith, f.out_is))

pub returns : goal.returns
returns c =
    let f = domain-fits _ _ _ 0 c.in_ok-questions.ensures refl in
    record { value = c.in_ok-questions.ensures; out_after = domain-fills _ _ _ _ _ f c.put_domain.ensures }
