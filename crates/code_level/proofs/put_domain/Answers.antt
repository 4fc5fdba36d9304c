-- `code_level::put_domain` meets its contract.
use native.Mathlib.Omega.{arith}
use Rattle.code_level.proofs.Domains.{domain_put, domain-long}
use borrow.Author.Rules.{rules}
use Rattle.code_level.proofs.put_domain.Goals as goal

pub put-a-requires : goal.put-a-requires
put-a-requires c =
    let h = domain-long c.args.base.now c.args.l in
    omega arith

pub put-b-requires : goal.put-b-requires
put-b-requires c =
    let h = domain-long c.args.base.now c.args.l in
    search rules

pub put_decimal-requires : goal.put_decimal-requires
put_decimal-requires c =
    let h = domain-long c.args.base.now c.args.l in
    search rules

pub returns : goal.returns
returns c = search domain_put
