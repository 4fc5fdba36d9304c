-- `put` meets its contract. The loop's invariant: storing the bytes that are left from here on gives the final buffer.
use mathlib.Core.Path.{refl}
use borrow.Author.Rules.{rules}
use Rattle.bytes_numbers.proofs.Stores.{put_begin, put_step, put_all}
use Rattle.bytes_numbers.proofs.put.Goals as goal

pub loop-i-init : goal.loop-i-init
loop-i-init c = (refl, search put_begin)

pub loop-i-preserved : goal.loop-i-preserved
loop-i-preserved c = (search rules, search put_step)

pub returns : goal.returns
returns c = search put_all
