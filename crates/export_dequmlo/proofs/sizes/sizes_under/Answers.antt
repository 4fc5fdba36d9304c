-- `export_dequmlo::sizes::sizes_under` meets its contract.
use native.Mathlib.Omega.{arith}
use Rattle.theory_record.proofs.Ranges.{sizes-small}
use Rattle.export_dequmlo.proofs.Fixed.{gammas-small, sizes-made}
use borrow.Author.Rules.{rules}
use Rattle.export_dequmlo.proofs.sizes.sizes_under.Goals as goal

pub power-requires : goal.power-requires
power-requires c =
    omega (arith, c.requires.n_most)

pub overflow_mul-result : goal.overflow_mul-result
overflow_mul-result c =
    let h = gammas-small _ _ c.requires in
    search rules

pub level_length-requires : goal.level_length-requires
level_length-requires c =
    (sizes-small _ _ c.requires, search rules)

pub tree_bytes-requires : goal.tree_bytes-requires
tree_bytes-requires c =
    (sizes-small _ _ c.requires, search rules)

pub levels_length-requires : goal.levels_length-requires
levels_length-requires c =
    c.requires

pub trees_size-requires : goal.trees_size-requires
trees_size-requires c =
    c.requires

pub level_length-requires-2 : goal.level_length-requires-2
level_length-requires-2 c =
    (sizes-small _ _ c.requires, c.requires.n_least)

pub overflow_add-result : goal.overflow_add-result
overflow_add-result c =
    omega (arith, c.requires.n_most)

pub overflow_mul-result-2 : goal.overflow_mul-result-2
overflow_mul-result-2 c =
    omega (arith, c.requires.n_most)

pub level_length-requires-3 : goal.level_length-requires-3
level_length-requires-3 c =
    (sizes-small _ _ c.requires, omega arith)

pub tree_bytes-requires-2 : goal.tree_bytes-requires-2
tree_bytes-requires-2 c =
    (sizes-small _ _ c.requires, omega arith)

pub query_size-requires : goal.query_size-requires
query_size-requires c =
    c.requires

pub tail_size-requires : goal.tail_size-requires
tail_size-requires c =
    c.requires

pub returns : goal.returns
returns c =
    sizes-made _ _ _ _ _ _ _ _ _ _ _ _ _ c.power.ensures c.level_length.ensures c.tree_bytes.ensures
    c.levels_length.ensures c.trees_size.ensures c.level_length-2.ensures
    c.level_length-3.ensures c.tree_bytes-2.ensures c.query_size.ensures c.tail_size.ensures
