-- `code_level::widths_of` meets its contract: each arm has its set's widths.
use mathlib.Core.Path.{sym, ap}
use Rattle.theory_record.specs.declared.WidthSet.{WidthSet}
use Rattle.theory_record.specs.Widths.{widths_of}
use Rattle.code_level.proofs.widths_of.Goals as goal

pub returns-in-Present : goal.returns-in-Present
unfolding widths_of
returns-in-Present c =
    record {
      threshold = sym (ap (λ (set : WidthSet). (widths_of set).threshold) c.in-Present.is);
      width = sym (ap (λ (set : WidthSet). (widths_of set).width) c.in-Present.is);
    }

pub returns-in-Wide : goal.returns-in-Wide
unfolding widths_of
returns-in-Wide c =
    record {
      threshold = sym (ap (λ (set : WidthSet). (widths_of set).threshold) c.in-Wide.is);
      width = sym (ap (λ (set : WidthSet). (widths_of set).width) c.in-Wide.is);
    }
