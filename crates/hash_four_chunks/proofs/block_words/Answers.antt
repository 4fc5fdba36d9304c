-- `hash_four_chunks::block_words` meets its contract.
use mathlib.Core.Path.{sym, ap, ◌∙◌}
use Prim.Native.Nat.{ℕ}
use Rattle.theory_laws.specs.Lists.{part}
use Rattle.theory_blake3.specs.Chunk as B
use Rattle.hash_four_chunks.proofs.block_words.Goals as goal

pub returns-then-n-eq64 : goal.returns-then-n-eq64
returns-then-n-eq64 c = c.words_at.ensures ∙ ap (λ (n : ℕ). B.block (part n c.args.from c.args.s.now))
    (sym c.if-n-eq64.true)
