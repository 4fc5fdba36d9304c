-- `code_gamma::message::size` meets its contract.
use mathlib.Core.Path.{◌≡◌}
use Prim.Native.Nat.{◌+◌, ◌*◌}
use native.Mathlib.Omega.{arith}
use lib.ListN.{length}
use Rattle.theory_code.specs.Gammas.{gamma_message}
use Rattle.code_gamma.proofs.Messages.{length-gamma_prefix, fits-new, message_counted}
use Rattle.theory_code.proofs.Gammas.{length-gamma_message}
use Rattle.code_gamma.proofs.message.size.Goals as goal
use Rattle.code_gamma.proofs.message.size.Goals.{After-whole-message}

-- the state has counted the message's bytes
counted : (c : After-whole-message) → (64 * c.whole-message.result.blocks + c.whole-message.result.fill
    ≡ length (gamma_message c.args.domain.now c.args.n
    c.args.k c.args.j c.args.i))
counted c =
    let a = c.args in message_counted _ _ a.domain.now a.n a.k a.j a.i c.requires c.prefix.ensures c.whole-message.ensures

pub whole-message-requires : goal.whole-message-requires
whole-message-requires c =
    let a = c.args in fits-new _ _ _ 32 c.prefix.ensures (length-gamma_prefix a.domain.now a.n a.k) (omega arith)

pub overflow_mul-result : goal.overflow_mul-result
overflow_mul-result c =
    let a = c.args in omega (arith, counted (goal.at.overflow_mul-result c).After-whole-message, length-gamma_message a.domain.now a.n a.k a.j a.i)

pub overflow_add-result : goal.overflow_add-result
overflow_add-result c =
    let a = c.args in omega (arith, counted (goal.at.overflow_add-result c).After-whole-message, length-gamma_message a.domain.now a.n a.k a.j a.i)

pub returns : goal.returns
returns c = counted (goal.at.returns c).After-whole-message
