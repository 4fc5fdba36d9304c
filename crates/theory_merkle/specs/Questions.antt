-- The questions that the entries on trees put, in the order of SPECIFICATION 8.4: given a value count and a width, 5 comes last.
-- A domain, and what is lent, come in by their lengths. Words are lent two halves each, digests 32 bytes each.
use Rattle.std.specs.Prelude.{ℕ, zero, suc, ◌*◌, ◌%◌, ◌^◌, List, [], ◌∷◌, ◌++◌, Bool, true, eqb, leb, ltb}
use Rattle.theory_laws.specs.Questions.{pick, Question, ◌asks◌}
use Rattle.theory_merkle.specs.Tree.{depth_of, tree_size}

-- whether x is a power of two up to 2^m
unfoldable pub is_pow : ℕ → ℕ → Bool
is_pow zero x = eqb x 1
is_pow (suc m) x = pick (eqb x (2 ^ suc m)) true (is_pow m x)

-- 7: the domain is at most 255 bytes
abbrev pub domain_fits : ℕ → Question
domain_fits domain = 7 asks leb domain 255

-- 8, 9, 10: the value count is a power of two up to 2^24, the width one up to 512, and it divides the count
abbrev pub shape : ℕ → ℕ → List Question
shape count width = (8 asks is_pow 24 count) ∷ (9 asks is_pow 9 width) ∷ (10 asks eqb (count % width) 0) ∷ []

-- 11: the place is below the count
abbrev pub placed : ℕ → ℕ → Question
placed place count = 11 asks ltb place count

-- the leaf digest of the group of a place, lent the group's values
abbrev pub leaf_questions : ℕ → ℕ → ℕ → ℕ → ℕ → List Question
leaf_questions domain count width place values =
    (domain_fits domain ∷ shape count width) ++ (placed place count ∷ (5 asks eqb values (2 * width)) ∷ [])

-- the node digest, lent two digests; it is given neither a value count nor a width, so 5 comes in its place
abbrev pub node_questions : ℕ → ℕ → ℕ → List Question
node_questions domain l r = (5 asks eqb l 32) ∷ (5 asks eqb r 32) ∷ domain_fits domain ∷ []

-- build a tree, lent the values and the tree's buffer
abbrev pub build_questions : ℕ → ℕ → ℕ → ℕ → ℕ → List Question
build_questions domain count width values tree =
    (domain_fits domain ∷ shape count width) ++ ((5 asks eqb values (2 * count)) ∷ (5 asks eqb tree (32 * tree_size count width)) ∷ [])

-- open a place: its path, lent a tree and the path's buffer
abbrev pub open_questions : ℕ → ℕ → ℕ → ℕ → ℕ → List Question
open_questions count width place tree path =
    shape count width ++ (placed place count ∷ (5 asks eqb tree (32 * tree_size count width)) ∷ (5 asks eqb path (32 * depth_of count width)) ∷ [])

-- the root that a group and a path lead to, lent both
abbrev pub root_questions : ℕ → ℕ → ℕ → ℕ → ℕ → ℕ → List Question
root_questions domain count width place values path =
    (domain_fits domain ∷ shape count width) ++ (placed place count ∷ (12 asks eqb path (32 * depth_of count width)) ∷ (5 asks eqb values (2 * width)) ∷ [])
