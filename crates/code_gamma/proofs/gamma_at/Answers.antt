-- `code_gamma::gamma_at` meets its contract.
use mathlib.Core.Path.{refl, ap, ◌∙◌}
use mathlib.Core.List.{List}
use Prim.Native.Nat.{ℕ}
use Rattle.theory_laws.specs.Lists.{part, le_value}
use Rattle.hash_chunk.specs.State.{finished}
use Rattle.hash_chunk.proofs.Feed.{fits_after}
use Rattle.code_gamma.specs.helpers.Prefix.{gamma_rest}
use Rattle.code_gamma.proofs.Messages.{length-gamma_rest}
use Rattle.code_gamma.proofs.gamma_at.Goals as goal

pub finish-digest-requires : goal.finish-digest-requires
finish-digest-requires c =
    let a = c.args in (fits_after a.common _ (gamma_rest a.j a.i) 32 0 32 c.whole-message.ensures (length-gamma_rest a.j a.i) refl c.requires).within

pub returns : goal.returns
returns c =
    c.word_at.ensures
    ∙ ap (λ (d : List ℕ). le_value (part 16 0 d)) (c.finish-digest.ensures ∙ ap finished c.whole-message.ensures)
