use Rattle.code_level.proofs.Sizes.{width_positive, level-depth}
use Rattle.code_level.proofs.level_depth.Goals as goal

pub depth-requires : goal.depth-requires
depth-requires c = search width_positive

pub returns : goal.returns
returns c = search level-depth
