-- `record_known::put_domains` meets its contract: the domains of the first k levels stand in their strides.
use mathlib.Core.Path.{refl, sym}
use native.Mathlib.Omega.{arith}
use Rattle.record_known.proofs.Domains.{none_stand, laid, one-more-stands, all_stand}
use Rattle.record_known.proofs.LevelDomains.{size-most}
use borrow.Author.Rules.{rules}
use Rattle.record_known.proofs.put_domains.Goals as goal

pub loop-k-init : goal.loop-k-init
loop-k-init c =
    (refl, search rules, rw c.domain_size-size.ensures (size-most _ c.args.e c.requires.base_short), none_stand _ _ _ _ _)

pub slice_bounds-put-end : goal.slice_bounds-put-end
slice_bounds-put-end c =
    sym (laid _ _ _ _ _ _ _ _ _ _ c.requires c.level_in-l.ensures.0 c.domain_size-size.ensures c.loop-k.invariant.1
    c.level_domain.ensures).long

pub put-requires : goal.put-requires
put-requires c =
    let long = (laid _ _ _ _ _ _ _ _ _ _ c.requires c.level_in-l.ensures.0 c.domain_size-size.ensures c.loop-k.invariant.1
    c.level_domain.ensures).long in
    omega (arith, long, c.requires.room)

pub loop-k-preserved : goal.loop-k-preserved
loop-k-preserved c =
    let inv = c.loop-k.invariant in
    let one = laid _ _ _ _ _ _ _ _ _ _ c.requires c.level_in-l.ensures.0 c.domain_size-size.ensures inv.1 c.level_domain.ensures in (
      search rules,
      search rules,
      inv.2,
      one-more-stands _ _ _ _ _ _ _ _ _ _ _ c.loop-k-test.true (omega (arith, c.requires.room, inv.0)) inv.2 refl one c.put.ensures inv.3,
    )

pub returns : goal.returns
returns c =
    let inv = c.loop-k.invariant in
    all_stand _ _ _ _ _ _ c.loop-k-test.false inv.2 inv.3
