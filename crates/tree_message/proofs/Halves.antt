-- A list of words by halves, in bytes.
use Prim.Native.Nat.{ℕ, zero, suc, ◌*◌}
use mathlib.Core.Path.{◌≡◌, refl}
use mathlib.Core.List.{List, [], ◌∷◌, map, append_assoc}
use native.Mathlib.Omega.{arith}
use lib.ListN.{length}
use Rattle.theory_laws.specs.Lists.{flat, le_bytes}
use Rattle.theory_field.specs.Words.{words}
use Rattle.theory_field.proofs.Words.{Halves}
use Rattle.theory_laws.proofs.Bytes.{le_bytes-joined}
use Rattle.theory_merkle.specs.Message.{words_bytes}

-- words, 16 bytes each, are their halves, 8 bytes each
pub words_bytes-halves : (l : List ℕ) (m : ℕ) → length l ≡ 2 * m → Halves l → words_bytes (words l) ≡ flat (map (le_bytes 8) l)
unfolding words_bytes flat words
words_bytes-halves [] m e h = refl
words_bytes-halves (lo ∷ []) m e h = absurd (omega arith)
words_bytes-halves (lo ∷ hi ∷ l) zero e h = absurd (omega arith)
words_bytes-halves (lo ∷ hi ∷ l) (suc m) e h =
    rw (le_bytes-joined 8 8 hi lo (h 0), append_assoc, words_bytes-halves l m (omega arith) (λ k. h (suc (suc k))))
