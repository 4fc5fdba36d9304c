use Rattle.code_level.proofs.Sizes.{level-width}
use Rattle.code_level.proofs.level_width.Goals as goal

pub returns : goal.returns
returns c = search level-width
