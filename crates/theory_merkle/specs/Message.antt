-- The bytes that are hashed (SPECIFICATION 4.3, 5.2 and 5.3): parts after their lengths, the leaf message of a group of values and the node
-- message of two digests. Every number is 8 bytes, little-endian.
use Rattle.std.specs.Prelude.{ℕ, ◌*◌, List, [], ◌∷◌, ◌++◌, map, length}
use Rattle.theory_laws.specs.Lists.{flat, le_bytes}

-- a part after its length
unfoldable pub prefixed : List ℕ → List ℕ
prefixed part = le_bytes 8 (length part) ++ part

-- serialize_prefix: a count, and then parts, each after its length
unfoldable pub serialize_prefix : ℕ → List (List ℕ) → List ℕ
serialize_prefix count parts = le_bytes 8 count ++ flat (map prefixed parts)

-- serialize_parts: count, then each part after its length
unfoldable pub serialize_parts : List (List ℕ) → List ℕ
serialize_parts parts = serialize_prefix (length parts) parts

-- "magnetar/leafN/v1"
unfoldable pub leaf_label : List ℕ
leaf_label = 109 ∷ 97 ∷ 103 ∷ 110 ∷ 101 ∷ 116 ∷ 97 ∷ 114 ∷ 47 ∷ 108 ∷ 101 ∷ 97 ∷ 102 ∷ 78 ∷ 47 ∷ 118 ∷ 49 ∷ []

-- "magnetar/node/v1"
unfoldable pub node_label : List ℕ
node_label = 109 ∷ 97 ∷ 103 ∷ 110 ∷ 101 ∷ 116 ∷ 97 ∷ 114 ∷ 47 ∷ 110 ∷ 111 ∷ 100 ∷ 101 ∷ 47 ∷ 118 ∷ 49 ∷ []

-- words, 16 bytes each, little-endian
unfoldable pub words_bytes : List ℕ → List ℕ
words_bytes values = flat (map (le_bytes 16) values)

-- what the leaf messages of a tree have in common: domain, value count and width
unfoldable pub leaf_prefix : List ℕ → ℕ → ℕ → List ℕ
leaf_prefix domain count width = serialize_prefix 5 (leaf_label ∷ domain ∷ le_bytes 8 count ∷ le_bytes 8 width ∷ [])

-- what comes after it, bare: the width, the group number and 16 × width, then the values
unfoldable pub leaf_rest : ℕ → ℕ → List ℕ → List ℕ
leaf_rest width group values = le_bytes 8 width ++ le_bytes 8 group ++ le_bytes 8 (16 * width) ++ words_bytes values

-- the leaf message of a group (hash_group). Six fields follow the count of 5, and the width stands where the length 8 would
unfoldable pub leaf_message : List ℕ → ℕ → ℕ → ℕ → List ℕ → List ℕ
leaf_message domain count width group values = leaf_prefix domain count width ++ leaf_rest width group values

-- what the node messages of a level have in common
unfoldable pub node_prefix : List ℕ → ℕ → List ℕ
node_prefix domain level = serialize_prefix 5 (node_label ∷ domain ∷ le_bytes 8 level ∷ [])

-- the node message of a left and a right digest. The parents of the leaves are level 0
unfoldable pub node_message : List ℕ → ℕ → List ℕ → List ℕ → List ℕ
node_message domain level left right = serialize_parts (node_label ∷ domain ∷ le_bytes 8 level ∷ left ∷ right ∷ [])
