-- The fields of lane k of four.
use Prim.Native.Nat.{ℕ, zero, suc, ◌<◌}
use mathlib.Core.Path.{◌≡◌, refl}
use mathlib.Core.List.{List}
use native.Mathlib.Omega.{arith}
use Rattle.theory_laws.specs.Table.{at}
use Rattle.tree_four_ways.specs.declared.Lane.{Lane}
use Rattle.tree_four_ways.specs.helpers.Lists.{lane_at, counts, groups, places, froms, depths}

pub count_at : (lanes : List Lane) (k : ℕ) → k < 4 → at (counts lanes) k ≡ (lane_at lanes k).count
count_at lanes zero h = refl
count_at lanes (suc zero) h = refl
count_at lanes (suc (suc zero)) h = refl
count_at lanes (suc (suc (suc zero))) h = refl
count_at lanes (suc (suc (suc (suc k)))) h = absurd (omega arith)

pub group_at : (lanes : List Lane) (k : ℕ) → k < 4 → at (groups lanes) k ≡ (lane_at lanes k).group
group_at lanes zero h = refl
group_at lanes (suc zero) h = refl
group_at lanes (suc (suc zero)) h = refl
group_at lanes (suc (suc (suc zero))) h = refl
group_at lanes (suc (suc (suc (suc k)))) h = absurd (omega arith)

pub place_at : (lanes : List Lane) (k : ℕ) → k < 4 → at (places lanes) k ≡ (lane_at lanes k).values
place_at lanes zero h = refl
place_at lanes (suc zero) h = refl
place_at lanes (suc (suc zero)) h = refl
place_at lanes (suc (suc (suc zero))) h = refl
place_at lanes (suc (suc (suc (suc k)))) h = absurd (omega arith)

pub from_at : (lanes : List Lane) (k : ℕ) → k < 4 → at (froms lanes) k ≡ (lane_at lanes k).from
from_at lanes zero h = refl
from_at lanes (suc zero) h = refl
from_at lanes (suc (suc zero)) h = refl
from_at lanes (suc (suc (suc zero))) h = refl
from_at lanes (suc (suc (suc (suc k)))) h = absurd (omega arith)

pub depth_at : (lanes : List Lane) (k : ℕ) → k < 4 → at (depths lanes) k ≡ (lane_at lanes k).depth
depth_at lanes zero h = refl
depth_at lanes (suc zero) h = refl
depth_at lanes (suc (suc zero)) h = refl
depth_at lanes (suc (suc (suc zero))) h = refl
depth_at lanes (suc (suc (suc (suc k)))) h = absurd (omega arith)
