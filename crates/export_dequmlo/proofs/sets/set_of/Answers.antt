-- `sets::set_of` meets its contract.
use mathlib.Core.Path.{refl}
use Rattle.theory_laws.proofs.Questions.{yes_eq, no_eq}
use Rattle.export_dequmlo.specs.Sets.{set_of}
use Rattle.export_dequmlo.proofs.sets.set_of.Goals as goal

pub returns-then-widths-eq0 : goal.returns-then-widths-eq0
unfolding set_of
returns-then-widths-eq0 c = yes_eq _ _ _ _ _ c.if-widths-eq0.true refl

pub returns : goal.returns
unfolding set_of
returns c = no_eq _ _ _ _ _ c.if-widths-eq0.false refl
