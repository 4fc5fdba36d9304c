-- The lanes of a first pass: what each starts from, and where it leads to.
use Rattle.std.specs.Prelude.{ℕ, ◌+◌, ◌*◌, ◌^◌, ◌≤◌, ◌<◌, ◌≡◌, Bool, true, false, List, Option, Some, None, length, get_or, drop}
use Rattle.theory_laws.specs.Lists.{runs}
use Rattle.tree_four_ways.specs.helpers.Ways.{domain_of, digest_of}
use Rattle.theory_merkle.specs.Tree.{leaf_digest, climb}
use Rattle.theory_record.specs.Format.{run_count, run_fits}
use Rattle.theory_record.specs.Scheme.{Scheme, domain_at}
use Rattle.record_opening.specs.helpers.Opening.{values_from, leads_at, Sized}
use Rattle.tree_four_ways.specs.declared.Lane.{Lane}
use Rattle.tree_four_ways.specs.helpers.Lists.{nowhere, lane_at}

-- n, k, a level and the base domain are in their ranges
pub record InRange (S : Scheme) (l : ℕ) : Type 0 where
  pub n_most : S.n ≤ 20
  pub k_most : S.k ≤ 4
  pub level_most : l ≤ S.n
  pub base_short : length S.base ≤ 200

-- 2^60: no record has so many bytes
abbrev pub farthest : ℕ
farthest = 2 ^ 60

-- the run of items of this size at a byte of s is all there, and has as many
pub record RunSized (size : ℕ) (s : List ℕ) (i count : ℕ) : Type 0 where
  pub near : i ≤ farthest
  pub fits : run_fits size (drop i s) ≡ true
  pub count-is : run_count (drop i s) ≡ count

-- a lane, or one that goes nowhere
abbrev pub or_nowhere : Option Lane → Lane
or_nowhere None = nowhere
or_nowhere (Some lane) = lane

-- under a digest function and a domain: the digest of a lane's group, where a digest and the lane's path lead to, and where the group leads to
abbrev pub leaf_in : (List ℕ → List ℕ) → List ℕ → List ℕ → Lane → List ℕ
leaf_in H domain s lane = leaf_digest H domain lane.count lane.width lane.group (values_from s lane.values lane.width)

abbrev pub end_from : (List ℕ → List ℕ) → List ℕ → List ℕ → Lane → List ℕ → List ℕ
end_from H domain s lane leaf = climb H domain 0 lane.group leaf (runs 32 lane.depth (drop lane.from s))

abbrev pub lane_end : (List ℕ → List ℕ) → List ℕ → List ℕ → Lane → List ℕ
lane_end H domain s lane = end_from H domain s lane (leaf_in H domain s lane)

-- the values of its group and the digests of its path are all there
pub record LaneThere (s : ℕ) (lane : Lane) : Type 0 where
  pub wide : lane.width ≤ 32
  pub values-there : lane.values + 16 * lane.width ≤ s
  pub there : lane.from + 32 * lane.depth ≤ s
  pub deep : lane.depth ≤ 24
  pub low : lane.from < 2 ^ 62

-- group and path are sized, and the lane leads to what they lead to
pub record LaneOf (S : Scheme) (l place : ℕ) (s : List ℕ) (group path : ℕ) (lane : Lane) : Type 0 where
  pub lane_there : LaneThere (length s) lane
  pub both_sized : Sized S l s group path
  pub leads : lane_end S.digest (domain_at S l) s lane ≡ leads_at S l place s group path

-- where there is a lane, that is so of it
abbrev pub MaybeLaneOf : Scheme → ℕ → ℕ → List ℕ → ℕ → ℕ → Option Lane → Type 0
MaybeLaneOf S l place s group path None = Unit
MaybeLaneOf S l place s group path (Some lane) = LaneOf S l place s group path lane

-- lane k of a list that has no lane for some
abbrev pub maybe_at : List (Option Lane) → ℕ → Option Lane
maybe_at lanes k = get_or lanes k None

-- four lanes, all of them there
pub record FourThere (s : ℕ) (lanes : List Lane) : Type 0 where
  pub there_at : (k : ℕ) → k < 4 → LaneThere s (lane_at lanes k)

-- whether lane k is one that goes somewhere, by a list that says it of each
abbrev pub is_there : List Bool → ℕ → Bool
is_there there k = get_or there k false

pub record AllThere (s : ℕ) (lanes : List (Option Lane)) : Type 0 where
  pub there_at : (k : ℕ) → k < 4 → LaneThere s (or_nowhere (maybe_at lanes k))

-- four digests one after the other
pub record FourDigests (a b c d r : List ℕ) : Type 0 where
  pub first : digest_of r 0 ≡ a
  pub second : digest_of r 1 ≡ b
  pub third : digest_of r 2 ≡ c
  pub fourth : digest_of r 3 ≡ d

-- the groups of four lanes are of one width
pub record OneWidth (lanes : List Lane) : Type 0 where
  pub second : (lane_at lanes 1).width ≡ (lane_at lanes 0).width
  pub third : (lane_at lanes 2).width ≡ (lane_at lanes 0).width
  pub fourth : (lane_at lanes 3).width ≡ (lane_at lanes 0).width

-- the digests of four lanes' groups, each under its domain of those in strides of 256 bytes, and where they lead to; of a lane that goes nowhere
-- nothing is said
pub record FourLeaves (H : List ℕ → List ℕ) (domains : List ℕ) (size : ℕ) (s : List ℕ) (lanes : List Lane) (there : List Bool) (r : List ℕ) : Type 0 where
  pub leaf : (k : ℕ) → k < 4 → is_there there k ≡ true → digest_of r k ≡ leaf_in H (domain_of domains size k) s (lane_at lanes k)

pub record FourClimbed (H : List ℕ → List ℕ) (domains : List ℕ) (size : ℕ) (s : List ℕ) (lanes : List Lane) (there : List Bool) (r : List ℕ) : Type 0 where
  pub climbed : (k : ℕ) → k < 4 → is_there there k ≡ true → digest_of r k ≡ lane_end H (domain_of domains size k) s (lane_at lanes k)

-- where there is a lane: this digest
abbrev pub end_read : Option Lane → List ℕ → Option (List ℕ)
end_read None end = None
end_read (Some lane) end = Some end

-- where there is a lane: where it leads to
abbrev pub end_at : (List ℕ → List ℕ) → List ℕ → List ℕ → Option Lane → Option (List ℕ)
end_at H domain s lane = end_read lane (lane_end H domain s (or_nowhere lane))

pub record FourEnds (H : List ℕ → List ℕ) (domains : List ℕ) (size : ℕ) (s : List ℕ) (lanes : List (Option Lane)) (r : List (Option (List ℕ))) : Type 0 where
  pub ends : (k : ℕ) → k < 4 → get_or r k None ≡ end_at H (domain_of domains size k) s (maybe_at lanes k)

-- group and path are sized, and lead to this end
pub record Came (S : Scheme) (l place : ℕ) (s : List ℕ) (group path : ℕ) (end : List ℕ) : Type 0 where
  pub both_sized : Sized S l s group path
  pub end_is : end ≡ leads_at S l place s group path

-- where there is an end, that is so of it
abbrev pub Ended : Scheme → ℕ → ℕ → List ℕ → ℕ → ℕ → Option (List ℕ) → Type 0
Ended S l place s group path None = Unit
Ended S l place s group path (Some end) = Came S l place s group path end
