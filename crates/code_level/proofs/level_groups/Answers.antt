use Rattle.code_level.proofs.Sizes.{width_positive, level-groups}
use Rattle.code_level.proofs.level_groups.Goals as goal

pub nonzero_div-result : goal.nonzero_div-result
nonzero_div-result c = search width_positive

pub returns : goal.returns
returns c = search level-groups
