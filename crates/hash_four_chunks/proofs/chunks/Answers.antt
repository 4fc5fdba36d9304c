-- `hash_four_chunks::chunks` meets its contract.
use mathlib.Core.Path.{◌∙◌, ap}
use mathlib.Core.List.{List}
use Prim.Native.Nat.{ℕ, ◌-◌}
use Rattle.theory_laws.specs.Table.{at}
use Rattle.theory_blake3.specs.Compression as C
use Rattle.theory_blake3.specs.Flags.{start_flag}
use Rattle.theory_blake3.specs.Chunk as B
use Rattle.hash_four_chunks.specs.helpers.FourChunks.{which}
use Rattle.hash_four_chunks.proofs.chunks.Goals as goal

pub returns : goal.returns
returns c =
    let a = c.args in let message = which a.s0.now a.s1.now a.s2.now a.s3.now in
    let whole : List ℕ → ℕ → List ℕ = λ h k.
    C.cv (B.chunk_from a.flags (15 - a.blocks) h (start_flag a.blocks) (at a.counters.now k) (message k) a.x) in
    λ k b. c.rests.ensures k b ∙ ap (λ (h : List ℕ). whole h k) (c.spread.ensures k b)
