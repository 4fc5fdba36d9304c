-- `field_gf128::spread64` meets its contract: each half of the half spreads to a half of the word.
use mathlib.Core.Path.{ap, ◌∙◌}
use native.Mathlib.Omega.{arith}
use lib.Bits.{and_mask}
use Rattle.theory_field.specs.Spread.{spread}
use Rattle.theory_field.proofs.Spread.{spread-low}
use Rattle.field_gf128.specs.Word.{word}
use Rattle.field_gf128.proofs.Spreading.{half-parts}
use Rattle.field_gf128.proofs.spread64.Goals as goal

pub spread32-requires : goal.spread32-requires
spread32-requires g c = omega (arith, and_mask c.args.x 32)

pub returns : goal.returns
unfolding word
returns g c =
    let x = c.args.x in half-parts x c.spread32.result c.spread32-2.result (c.spread32.ensures ∙ ap (spread 32) (and_mask x 32) ∙ spread-low 32 x)
    c.spread32-2.ensures
