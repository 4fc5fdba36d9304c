-- A block of the codeword made in place, coordinate by coordinate; and the codeword, block by block.
use mathlib.Core.Path.{◌≡◌, refl, sym, ap, ap₂, ◌∙◌}
use mathlib.Core.List.{List, ◌++◌, append_assoc}
use Prim.Native.Nat.{ℕ, zero, suc, ◌+◌, ◌*◌, ◌^◌, ◌≤◌, ◌<◌}
use native.Mathlib.Nat.{zero-mul, suc-mul, mul_comm, mul_left_comm, mul-le-mul_right}
use native.Mathlib.Numerals.{add-one}
use native.Mathlib.Omega.{arith}
use lib.ListN.{length, take, length-append}
use lib.Pow.{pow-add}
use lib.Seq.{take_all, take_at, length-take-le}
use Rattle.theory_laws.specs.Table.{tab, at}
use Rattle.theory_laws.proofs.Table.{at-tab, length-tab, is-tab}
use Rattle.theory_field.specs.Words.{words}
use Rattle.theory_multilinear.specs.Codeword.{shift_at, shift, block, in_blocks, encode}
use Rattle.theory_multilinear.proofs.Passes.{pass, passes, passes-tab, pass-next}
use Rattle.theory_multilinear.proofs.Codeword.{in_blocks-next, first_block}
use Rattle.field_runs.specs.Runs.{pass_list}
use Rattle.code_codeword.specs.Answers.{block_of}
use Rattle.code_codeword.specs.helpers.Shifted.{shifted_of, passed_of}
use Rattle.theory_field.proofs.Words.{words_append}

-- ---- a block

-- one more pass, of the list t that the passes before it left of u
pass-turn : (n i d : ℕ) (ds u t t' : List ℕ) → i < n → length ds ≡ n → d ≡ at ds i
    → t ≡ tab (2 ^ n) (passes 0 (take i ds) (at u)) → t' ≡ pass_list i d t → t' ≡ tab (2 ^ n) (passes 0 (take (i + 1) ds) (at u))
unfolding pass_list
pass-turn zero i d ds u t t' h l ed et e = absurd (omega arith)
pass-turn (suc n) i d ds u t t' h l ed et e =
    e ∙ ap (λ (m : ℕ). tab m (pass i d (at t))) (ap length et ∙ length-tab _ _)
    ∙ rw (ed, et) (pass-next n i ds (at u) (omega arith) (omega arith))

module _ (m n k : ℕ) (g : List ℕ) (eps : ℕ) where
  -- no pass is done
  pub none_passed : (u : List ℕ) → length u ≡ 2 ^ m → u ≡ passed_of 0 m n k g eps u
  unfolding passed_of passes
  none_passed u l = is-tab u (2 ^ m) (at u) l (λ v h. refl)

  -- one more, by a coordinate of L(eps)
  pub one-passed : (i d : ℕ) (u t t' : List ℕ) → i < m → d ≡ shift_at n k g eps i → t ≡ passed_of i m n k g eps u → t' ≡ pass_list i d t
      → t' ≡ passed_of (i + 1) m n k g eps u
  unfolding passed_of
  one-passed i d u t t' h ed et e =
      pass-turn m i d (tab m (shift_at n k g eps)) u t t' h (length-tab m (shift_at n k g eps)) (ed ∙ sym (at-tab m (shift_at n k g eps) i h)) et e

  -- all are
  pub all-passed : (u : List ℕ) → ((v : ℕ) → at u v < 2 ^ 128) → passed_of m m n k g eps u ≡ shifted_of m n k g eps u
  unfolding passed_of shifted_of
  all-passed u lt =
      let ds = tab m (shift_at n k g eps) in
      ap (λ (es : List ℕ). tab (2 ^ m) (passes 0 es (at u))) (take_all m ds (omega (arith, length-tab m (shift_at n k g eps))))
      ∙ rw (length-tab m (shift_at n k g eps)) at (passes-tab ds u lt)

-- shifted by all coordinates it is the block
pub shifted-block : (n k : ℕ) (g : List ℕ) (eps : ℕ) (t : List ℕ) → shifted_of n n k g eps t ≡ block_of n k g eps t
unfolding shifted_of block_of shift
shifted-block n k g eps t = refl

-- a table of one word is every block
pub block_of_one : (n k : ℕ) (g : List ℕ) (eps : ℕ) (t : List ℕ) → n ≡ 0 → length t ≡ 2 ^ n → ((v : ℕ) → at t v < 2 ^ 128)
    → block_of n k g eps t ≡ t
block_of_one n k g eps t e l lt =
    sym (none_passed n n k g eps t l ∙ ap (λ (i : ℕ). passed_of i n n k g eps t) (sym e) ∙ all-passed n n k g eps t lt ∙ shifted-block n k g eps t)

-- block 0 is the table
pub block_of_zero : (n k : ℕ) (g : List ℕ) (eps : ℕ) (t : List ℕ) → eps ≡ 0 → length t ≡ 2 ^ n → ((v : ℕ) → at t v < 2 ^ 128)
    → block_of n k g eps t ≡ t
unfolding block_of
block_of_zero n k g eps t e l lt = rw e (first_block n k g t l lt)

-- ---- the codeword

-- its first eps blocks
unfoldable pub first_blocks : ℕ → ℕ → List ℕ → List ℕ → ℕ → List ℕ
first_blocks n k g t eps = tab (eps * 2 ^ n) (in_blocks n (λ e. block (shift n k g e) (at t)))

-- places and lengths in halves
two-times : (a n : ℕ) → a * (2 * 2 ^ n) ≡ 2 * (a * 2 ^ n)
two-times a n = mul_left_comm a 2 (2 ^ n)

all_blocks : (n k : ℕ) → 2 ^ k * 2 ^ n ≡ 2 ^ (n + k)
all_blocks n k = mul_comm (2 ^ k) (2 ^ n) ∙ sym (pow-add 2 n k)

pub block_within : (n k eps size total : ℕ) → size ≡ 2 * 2 ^ n → total ≡ 2 * 2 ^ (n + k) → eps < 2 ^ k → eps * size + size ≤ total
block_within n k eps size total es et h =
    let p : suc eps * 2 ^ n ≤ 2 ^ k * 2 ^ n = mul-le-mul_right (2 ^ n) h in
    let r : eps * size ≡ 2 * (eps * 2 ^ n) = ap (◌*◌ eps) es ∙ two-times eps n in
    omega (arith, suc-mul eps (2 ^ n), all_blocks n k)

pub no_blocks : (n k size : ℕ) (g t xs : List ℕ) → words (take (0 * size) xs) ≡ first_blocks n k g t 0
unfolding words first_blocks tab
no_blocks n k size g t xs = rw (zero-mul size, zero-mul (2 ^ n))

-- one more: the block ys stored behind the first eps of xs
pub block-turn : (n k eps size : ℕ) (g t xs ys zs : List ℕ) → size ≡ 2 * 2 ^ n → eps * size + size ≤ length xs → length ys ≡ size
    → words (take (eps * size) xs) ≡ first_blocks n k g t eps → words ys ≡ block_of n k g eps t
    → words (take ((eps + 1) * size) (take (eps * size) xs ++ (ys ++ zs))) ≡ first_blocks n k g t (eps + 1)
unfolding first_blocks block_of
block-turn n k eps size g t xs ys zs es h l done made =
    ap words (ap (take ((eps + 1) * size)) (sym (append_assoc (take (eps * size) xs) ys zs))
    ∙ take_at (take (eps * size) xs ++ ys) zs ((eps + 1) * size) together)
    ∙ words_append (take (eps * size) xs) ys (eps * 2 ^ n) (before ∙ ap (◌*◌ eps) es ∙ two-times eps n)
    ∙ ap₂ ◌++◌ done made
    ∙ sym (in_blocks-next n eps (λ e. block (shift n k g e) (at t)))
    ∙ ap (λ (m : ℕ). tab (m * 2 ^ n) (in_blocks n (λ e. block (shift n k g e) (at t)))) (sym (add-one eps))
  where
    before : length (take (eps * size) xs) ≡ eps * size
    before = length-take-le (eps * size) xs (omega arith)

    together : length (take (eps * size) xs ++ ys) ≡ (eps + 1) * size
    together = length-append (take (eps * size) xs) ys ∙ rw (add-one eps, suc-mul eps size) (omega (arith, before))

-- after the last
pub blocks-made : (n k eps size : ℕ) (g t xs : List ℕ) → size ≡ 2 * 2 ^ n → length xs ≡ 2 * 2 ^ (n + k) → eps ≡ 2 ^ k
    → words (take (eps * size) xs) ≡ first_blocks n k g t eps → words xs ≡ encode n k g t
unfolding first_blocks encode
blocks-made n k eps size g t xs es l e done =
    ap words (sym (take_all (eps * size) xs (omega (arith, ap₂ ◌*◌ e es, two-times (2 ^ k) n, all_blocks n k))))
    ∙ done ∙ ap (λ (m : ℕ). tab m (in_blocks n (λ e. block (shift n k g e) (at t)))) (ap (λ (m : ℕ). m * 2 ^ n) e ∙ all_blocks n k)
