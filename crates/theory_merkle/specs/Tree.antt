-- Trees over groups of values (SPECIFICATION 5) under a digest function H, which is a variable. A digest is a list of 32
-- bytes, a level a list of digests, and a tree its levels, leaves first.
use Rattle.std.specs.Prelude.{ℕ, zero, suc, ◌+◌, ◌*◌, ◌-◌, ◌/◌, ◌%◌, ◌^◌, List, [], ◌∷◌, ◌++◌, eqb, leb, get_or, take, drop}
use Rattle.theory_laws.specs.Questions.{pick}
use Rattle.theory_laws.specs.Lists.{runs}
use Rattle.theory_laws.specs.Places.{flip}
use Rattle.theory_merkle.specs.Message.{leaf_message, node_message}

-- ---- places, groups and sizes

-- the number of the group that holds the value at a place
abbrev pub group_of : ℕ → ℕ → ℕ
group_of place width = place / width

-- how often x can be halved before it is 1, at most n times
unfoldable pub halvings : ℕ → ℕ → ℕ
halvings zero x = 0
halvings (suc n) x = pick (leb x 1) 0 (suc (halvings n (x / 2)))

-- the logarithm to the base two, of a power of two
unfoldable pub log2 : ℕ → ℕ
log2 x = halvings x x

-- how many digests a path has: as many as there are levels above the leaves
unfoldable pub depth_of : ℕ → ℕ → ℕ
depth_of count width = log2 (count / width)

-- how many digests a tree has
abbrev pub tree_size : ℕ → ℕ → ℕ
tree_size count width = 2 * (count / width) - 1

-- ---- a tree given by its levels

-- the level's first digest, of the last level
unfoldable pub root : ℕ → List (List (List ℕ)) → List ℕ
root depth levels = get_or (get_or levels depth []) 0 []

-- the other child of the same parent
abbrev pub sibling : ℕ → ℕ
sibling g = flip 0 g

-- the authentication path of leaf g: its sibling, the sibling of its parent, and so on, below the root
unfoldable pub path : ℕ → List (List (List ℕ)) → ℕ → List (List ℕ)
path zero levels g = []
path (suc depth) [] g = []
path (suc depth) (ds ∷ levels) g = get_or ds (sibling g) [] ∷ path depth levels (g / 2)

-- a tree as it is lent: the levels end to end, leaves first
unfoldable pub end_to_end : List (List (List ℕ)) → List (List ℕ)
end_to_end [] = []
end_to_end (ds ∷ levels) = ds ++ end_to_end levels

-- the levels of a lent tree over 2^depth leaves
unfoldable pub levels_of : ℕ → List (List ℕ) → List (List (List ℕ))
levels_of zero t = t ∷ []
levels_of (suc depth) t = take (2 ^ suc depth) t ∷ levels_of depth (drop (2 ^ suc depth) t)

-- the left and the right child of a parent, of which d is child number g and s its sibling: an even number is a left child's
abbrev pub left : ℕ → List ℕ → List ℕ → List ℕ
left g d s = pick (eqb (g % 2) 0) d s

abbrev pub right : ℕ → List ℕ → List ℕ → List ℕ
right g d s = pick (eqb (g % 2) 0) s d

-- ---- trees under a digest function and a domain
module _ (H : List ℕ → List ℕ) (domain : List ℕ) where
  -- the digest of a group of values, by its number
  unfoldable pub leaf_digest : ℕ → ℕ → ℕ → List ℕ → List ℕ
  leaf_digest count width group values = H (leaf_message domain count width group values)

  -- the digest of two digests
  unfoldable pub node_digest : ℕ → List ℕ → List ℕ → List ℕ
  node_digest level l r = H (node_message domain level l r)

  -- the digests of groups, of which the first has the number g
  unfoldable pub leaves_from : ℕ → ℕ → ℕ → List (List ℕ) → List (List ℕ)
  leaves_from count width g [] = []
  leaves_from count width g (values ∷ groups) = leaf_digest count width g values ∷ leaves_from count width (suc g) groups

  -- the leaves over a list of values: group after group of width values
  unfoldable pub leaves : ℕ → ℕ → List ℕ → List (List ℕ)
  leaves count width values = leaves_from count width 0 (runs width (count / width) values)

  -- the parents of a level's digests, two by two
  unfoldable pub parents : ℕ → List (List ℕ) → List (List ℕ)
  parents level [] = []
  parents level (d ∷ []) = []
  parents level (l ∷ r ∷ ds) = node_digest level l r ∷ parents level ds

  -- the levels over digests: those, and depth levels above them
  unfoldable pub levels_from : ℕ → ℕ → List (List ℕ) → List (List (List ℕ))
  levels_from zero level ds = ds ∷ []
  levels_from (suc depth) level ds = ds ∷ levels_from depth (suc level) (parents level ds)

  -- the tree over a list of values
  unfoldable pub levels : ℕ → ℕ → List ℕ → List (List (List ℕ))
  levels count width values = levels_from (depth_of count width) 0 (leaves count width values)

  -- where a digest, number g of its level, and a path lead to
  unfoldable pub climb : ℕ → ℕ → List ℕ → List (List ℕ) → List ℕ
  climb level g d [] = d
  climb level g d (s ∷ ss) = climb (suc level) (g / 2) (node_digest level (left g d s) (right g d s)) ss

  -- ---- what the entries answer, by the place of a value

  -- the leaf digest of the group of a place
  unfoldable pub leaf_of : ℕ → ℕ → ℕ → List ℕ → List ℕ
  leaf_of count width place values = leaf_digest count width (group_of place width) values

  -- the tree over a list of values, as it is lent
  unfoldable pub tree_of : ℕ → ℕ → List ℕ → List (List ℕ)
  tree_of count width values = end_to_end (levels count width values)

  -- its root
  unfoldable pub root_of : ℕ → ℕ → List ℕ → List ℕ
  root_of count width values = root (depth_of count width) (levels count width values)

  -- the root that the group of a place and a path lead to
  unfoldable pub root_of_path : ℕ → ℕ → ℕ → List ℕ → List (List ℕ) → List ℕ
  root_of_path count width place values ss = climb 0 (group_of place width) (leaf_of count width place values) ss

-- the path of the group of a place, read off a lent tree
unfoldable pub path_of : ℕ → ℕ → ℕ → List (List ℕ) → List (List ℕ)
path_of count width place t = path (depth_of count width) (levels_of (depth_of count width) t) (group_of place width)
