-- BLAKE3's compression function (the specification's section 2.2). A word is a number below 2^32; the state and the message are
-- lists of 16 words, a chaining value is one of eight.
use Rattle.std.specs.Prelude.{ℕ, zero, suc, ◌+◌, ◌*◌, ◌-◌, ◌/◌, ◌%◌, ◌^◌, List, [], ◌∷◌, ◌++◌, set}
use Rattle.theory_laws.specs.Xor.{◌⊕◌}
use Rattle.theory_laws.specs.Table.{tab, at}

-- the sum of two words: addition modulo 2^32
unfoldable pub add : ℕ → ℕ → ℕ
add x y = (x + y) % 2 ^ 32

-- x rotated right by n bits
unfoldable pub rotr : ℕ → ℕ → ℕ
rotr x n = x / 2 ^ n + x % 2 ^ n * 2 ^ (32 - n)

-- half of the function G, at the places a b c d of the state, with a word x of the message and two distances
unfoldable pub half : List ℕ → ℕ → ℕ → ℕ → ℕ → ℕ → ℕ → ℕ → List ℕ
half s a b c d x p q =
    let s1 = set s a (add (add (at s a) (at s b)) x) in
    let s2 = set s1 d (rotr (at s1 d ⊕ at s1 a) p) in
    let s3 = set s2 c (add (at s2 c) (at s2 d)) in
    set s3 b (rotr (at s3 b ⊕ at s3 c) q)

-- the function G, with two words of the message
unfoldable pub mix : List ℕ → ℕ → ℕ → ℕ → ℕ → ℕ → ℕ → List ℕ
mix s a b c d x y = half (half s a b c d x 16 12) a b c d y 8 7

-- a round: G on each column of the state, and then on each diagonal
unfoldable pub columns : List ℕ → List ℕ → List ℕ
columns s m =
    let s1 = mix s 0 4 8 12 (at m 0) (at m 1) in
    let s2 = mix s1 1 5 9 13 (at m 2) (at m 3) in
    let s3 = mix s2 2 6 10 14 (at m 4) (at m 5) in
    mix s3 3 7 11 15 (at m 6) (at m 7)

unfoldable pub diagonals : List ℕ → List ℕ → List ℕ
diagonals s m =
    let s1 = mix s 0 5 10 15 (at m 8) (at m 9) in
    let s2 = mix s1 1 6 11 12 (at m 10) (at m 11) in
    let s3 = mix s2 2 7 8 13 (at m 12) (at m 13) in
    mix s3 3 4 9 14 (at m 14) (at m 15)

unfoldable pub round : List ℕ → List ℕ → List ℕ
round s m = diagonals (columns s m) m

-- the permutation of the message between two rounds
unfoldable pub permutation : List ℕ
permutation = 2 ∷ 6 ∷ 3 ∷ 10 ∷ 7 ∷ 0 ∷ 4 ∷ 13 ∷ 1 ∷ 11 ∷ 12 ∷ 5 ∷ 9 ∷ 14 ∷ 15 ∷ 8 ∷ []

unfoldable pub permuted : List ℕ → List ℕ
permuted m = tab 16 (λ i. at m (at permutation i))

-- n rounds, the message permuted after each
unfoldable pub rounds : ℕ → List ℕ → List ℕ → List ℕ
rounds zero s m = s
rounds (suc n) s m = rounds n (round s m) (permuted m)

-- the constants IV
unfoldable pub iv : List ℕ
iv = 0x6A09E667 ∷ 0xBB67AE85 ∷ 0x3C6EF372 ∷ 0xA54FF53A ∷ 0x510E527F ∷ 0x9B05688C ∷ 0x1F83D9AB ∷ 0x5BE0CD19 ∷ []

-- the first eight words of a list: of a compression's output, the chaining value
unfoldable pub cv : List ℕ → List ℕ
cv w = tab 8 (at w)

-- the state that the rounds start from: the chaining value, four words of the IV, the counter's halves, the block's length and the flags
unfoldable pub initial : List ℕ → ℕ → ℕ → ℕ → List ℕ
initial h t b d = cv h ++ tab 4 (at iv) ++ (t % 2 ^ 32 ∷ t / 2 ^ 32 ∷ b ∷ d ∷ [])

-- the output, of the state that the rounds end in and the chaining value
unfoldable pub output : List ℕ → List ℕ → List ℕ
output h v = tab 8 (λ i. at v i ⊕ at v (i + 8)) ++ tab 8 (λ i. at v (i + 8) ⊕ at h i)

-- the compression function: chaining value h, message block m, counter t, block length b, flags d
unfoldable pub compress : List ℕ → List ℕ → ℕ → ℕ → ℕ → List ℕ
compress h m t b d = output h (rounds 7 (initial h t b d) m)
