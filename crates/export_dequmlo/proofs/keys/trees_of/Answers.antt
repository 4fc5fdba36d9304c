-- `keys::trees_of` meets its contract.
use mathlib.Core.Path.{ap₂}
use borrow.Author.Rules.{rules}
use Rattle.theory_blake3.specs.declared.Mode.{Mode}
use Rattle.theory_record.specs.declared.WidthSet.{WidthSet}
use Rattle.theory_record.specs.declared.Trees.{Trees}
use Rattle.export_dequmlo.proofs.keys.trees_of.Goals as goal

abbrev made : WidthSet → Mode → Trees
made set mode = record { set = set; mode = mode }

pub returns : goal.returns
returns c =
    ap₂ made c.set_of-set.ensures c.mode_of-mode.ensures
