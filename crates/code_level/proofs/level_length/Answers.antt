use Rattle.code_level.proofs.Sizes.{shifted}
use Rattle.code_level.proofs.level_length.Goals as goal

pub returns : goal.returns
returns c = search shifted
