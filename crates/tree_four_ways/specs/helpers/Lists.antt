-- Four lanes, and what they have, field by field, in lists.
use Rattle.std.specs.Prelude.{ℕ, List, [], ◌∷◌, get_or}
use Rattle.tree_four_ways.specs.declared.Lane.{Lane}

-- a lane that goes nowhere
abbrev pub nowhere : Lane
nowhere = record { count = 0; width = 0; group = 0; values = 0; from = 0; depth = 0 }

abbrev pub lane_at : List Lane → ℕ → Lane
lane_at lanes k = get_or lanes k nowhere

abbrev pub counts : List Lane → List ℕ
counts lanes = (lane_at lanes 0).count ∷ (lane_at lanes 1).count ∷ (lane_at lanes 2).count ∷ (lane_at lanes 3).count ∷ []

abbrev pub groups : List Lane → List ℕ
groups lanes = (lane_at lanes 0).group ∷ (lane_at lanes 1).group ∷ (lane_at lanes 2).group ∷ (lane_at lanes 3).group ∷ []

-- where the values of their groups begin
abbrev pub places : List Lane → List ℕ
places lanes = (lane_at lanes 0).values ∷ (lane_at lanes 1).values ∷ (lane_at lanes 2).values ∷ (lane_at lanes 3).values ∷ []

-- where the digests of their paths begin
abbrev pub froms : List Lane → List ℕ
froms lanes = (lane_at lanes 0).from ∷ (lane_at lanes 1).from ∷ (lane_at lanes 2).from ∷ (lane_at lanes 3).from ∷ []

abbrev pub depths : List Lane → List ℕ
depths lanes = (lane_at lanes 0).depth ∷ (lane_at lanes 1).depth ∷ (lane_at lanes 2).depth ∷ (lane_at lanes 3).depth ∷ []
