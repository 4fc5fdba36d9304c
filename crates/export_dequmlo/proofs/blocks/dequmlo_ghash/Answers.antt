-- `blocks::dequmlo_ghash` meets its contract.
use mathlib.Core.Path.{refl, ap₂, ◌∙◌}
use Prim.Native.Nat.{ℕ}
use mathlib.Core.List.{List}
use Rattle.theory_laws.specs.Lists.{le_bytes}
use Rattle.field_blocks.specs.Block.{block}
use Rattle.field_blocks.specs.Answers.{answer}
use Rattle.export_dequmlo.proofs.blocks.dequmlo_ghash.Goals as goal

pub returns-in-Ok : goal.returns-in-Ok
unfolding answer
returns-in-Ok c = c.in-Ok.ensures

pub returns-in-Err : goal.returns-in-Err
unfolding answer block le_bytes
returns-in-Err c = ap₂ (λ (q : ℕ) (b : List ℕ). (q, b)) c.number.ensures refl ∙ c.in-Err.ensures
