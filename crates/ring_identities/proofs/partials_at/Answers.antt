-- `ring_identities::partials_at` meets its contract: of lengths that are as required neither entry refuses.
use mathlib.Core.Path.{refl, ◌∙◌}
use borrow.Author.Rules.{rules}
use Rattle.theory_laws.proofs.Refusals.{not-refused}
use Rattle.ring_identities.proofs.Sizes.{eq-passes, partial-passes}
use Rattle.ring_identities.proofs.partials_at.Goals as goal

pub unwrap-requires : goal.unwrap-requires
unwrap-requires c = not-refused _ (c.eq_table.ensures.value ∙ eq-passes _ _ _ _ _ c.requires refl)

pub unwrap-requires-2 : goal.unwrap-requires-2
unwrap-requires-2 c =
    not-refused _ (c.partial_evals.ensures.value ∙ partial-passes _ _ _ _ _ _ c.requires c.eq_table.auto.out (search rules))
