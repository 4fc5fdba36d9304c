-- `field_pack::double_entries` meets its contract: the entries so far are doubled, the others still there.
use mathlib.Core.Path.{◌≡◌}
use lib.ListN.{length}
use Rattle.field_gf128.specs.Word.{word}
use Rattle.field_runs.proofs.Doubling.{Doubling}
use Rattle.field_pack.specs.Phi.{numbers}
use Rattle.field_pack.proofs.double_entries.Given as goal

abbrev pub invariant-loop-v : goal.invariant-loop-v
invariant-loop-v l = (length l.c ≡ 128) × Doubling l.n (word l.z) l.v (numbers l.initial.c) (numbers l.c)
