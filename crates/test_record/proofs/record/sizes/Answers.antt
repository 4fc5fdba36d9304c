-- The sizes are asked only where question 4 has its yes.
use mathlib.Core.Path.{refl}
use Rattle.code_level.proofs.Sizes.{sizes-said}
use Rattle.test_record.proofs.record.sizes.Goals as goal

pub trees_size-requires : goal.trees_size-requires
trees_size-requires c = sizes-said _ _ 0 c.in-Ok.ensures refl

pub query_size-requires : goal.query_size-requires
query_size-requires c = sizes-said _ _ 0 c.in-Ok.ensures refl

pub tail_size-requires : goal.tail_size-requires
tail_size-requires c = sizes-said _ _ 0 c.in-Ok.ensures refl
