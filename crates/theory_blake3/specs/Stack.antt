-- The chaining value stack of an incremental hasher (the specification's section 5.1): what it holds of the finished chunks, how a
-- chunk's chaining value goes onto it, and how the tree is finished over it; and the same stack in one flat array of words. A list's head
-- is the stack's top. Rests on parent nodes and the tree.
use Rattle.std.specs.Prelude.{ℕ, zero, suc, ◌+◌, ◌*◌, ◌-◌, ◌^◌, List, [], ◌∷◌, ◌++◌, take, drop, length, leb}
use Rattle.theory_laws.specs.Questions.{pick}
use Rattle.theory_laws.specs.Table.{tab, at}
use Rattle.theory_laws.specs.Lists.{stored}
use Rattle.theory_blake3.specs.Compression.{cv}
use Rattle.theory_blake3.specs.Tree.{parent, chunks_bytes, tree}

-- the chaining values of the full subtrees that the finished chunks make, of which the first has the number t: one of 2^j chunks for
-- each binary digit j < k that is set in their count
unfoldable pub stack : List ℕ → ℕ → ℕ → ℕ → List ℕ → List (List ℕ)
stack key d zero t bs = []
stack key d (suc k) t bs =
    let rest = stack key d k (t + 2 ^ k) (drop (chunks_bytes k) bs) in
    let first = cv (tree key d k t (take (chunks_bytes k) bs) 0) in
    let low = stack key d k t bs in
    pick (leb (chunks_bytes k) (length bs)) (rest ++ (first ∷ [])) low

-- v is joined to the m values on top, one after the other, and goes onto the stack
unfoldable pub merge : List ℕ → ℕ → ℕ → List (List ℕ) → List ℕ → List (List ℕ)
merge key d zero st v = v ∷ st
merge key d (suc m) [] v = v ∷ []
merge key d (suc m) (s ∷ st) v = merge key d m st (cv (parent key d s v 0))

-- the parents over a node o, which is a function of one more flag: the lowest joins the stack's top to o
unfoldable pub fold : List ℕ → ℕ → List (List ℕ) → (ℕ → List ℕ) → ℕ → List ℕ
fold key d [] o x = o x
fold key d (s ∷ st) o x = fold key d st (parent key d s (cv (o 0))) x

-- the stack as one flat array of words has it: value i at its words 8 * i to 8 * i + 7, the top last
unfoldable pub entry : List ℕ → ℕ → List ℕ
entry a i = tab 8 (λ j. at a (8 * i + j))

-- the n values of an array
unfoldable pub entries : List ℕ → ℕ → List (List ℕ)
entries a zero = []
entries a (suc n) = entry a n ∷ entries a n

-- v joined to the m values on top of the n values of the array a, one after the other
unfoldable pub joined : List ℕ → ℕ → ℕ → List ℕ → ℕ → List ℕ → List ℕ
joined key d zero a n v = v
joined key d (suc m) a n v = joined key d m a (n - 1) (cv (parent key d (entry a (n - 1)) v 0))

-- and put in their place: the array and the depth then. That this is `merge` is a law (hash_stack/proofs/Array)
unfoldable pub pushed : List ℕ → ℕ → ℕ → List ℕ → ℕ → List ℕ → List ℕ
pushed key d m a n v = stored a (8 * (n - m)) (joined key d m a n v)

unfoldable pub pushed_depth : ℕ → ℕ → ℕ
pushed_depth m n = n - m + 1
