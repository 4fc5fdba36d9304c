-- `code_codeword::coordinates::drop_coordinate` meets its contract.
use Rattle.code_codeword.proofs.Lists.{copied-down}
use Rattle.code_codeword.proofs.coordinates.drop_coordinate.Goals as goal

pub returns : goal.returns
returns c = copied-down _ _ _ c.requires c.copy_within.ensures.after
