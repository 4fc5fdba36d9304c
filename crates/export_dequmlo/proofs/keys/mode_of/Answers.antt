-- `keys::mode_of` meets its contract.
use Rattle.theory_laws.proofs.Questions.{yes_eq, no_eq}
use Rattle.export_dequmlo.specs.Keys.{mode_of}
use Rattle.export_dequmlo.proofs.keys.mode_of.Goals as goal

pub returns-then-key-eq0 : goal.returns-then-key-eq0
unfolding mode_of
returns-then-key-eq0 c = yes_eq _ _ _ _ _ c.if-key-eq0.true c.hash_mode.ensures

pub returns : goal.returns
unfolding mode_of
returns c =
    no_eq _ _ _ _ _ c.if-key-eq0.false c.keyed_mode.ensures
