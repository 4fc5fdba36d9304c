-- Bytes and the numbers that they hold: elements below a bound, numbers in two parts, and lists that are read back from bytes.
use Prim.Native.Nat.{ℕ, zero, suc, ◌+◌, ◌*◌, ◌/◌, ◌%◌, ◌^◌, ◌<◌, ◌≤◌}
use mathlib.Core.Path.{◌≡◌, refl, sym, ◌∙◌, ap, ap₂}
use mathlib.Core.List.{List, [], ◌∷◌, ◌++◌, map}
use native.Mathlib.Omega.{arith}
use native.Mathlib.Nat.{pow-suc, pow-succ', zero-add, suc-add, div-one, div-div-eq-div-mul, mul_assoc}
use native.Mathlib.Decide.{dec_lt}
use lib.Arith.{digits_div, digits_mod}
use lib.ListN.{length, get_or, take, drop, length-take, length-append, get_or-eq_default}
use lib.Seq.{get_or-drop, get_or-take, take_at, drop_at}
use Rattle.theory_laws.specs.Table.{at}
use Rattle.theory_laws.specs.Lists.{part, flat, le_bytes, le_value}
use Rattle.theory_laws.proofs.Lists.{Bytes, length-le_bytes, le_value-le_bytes}

-- ---- elements below a bound

pub below-drop : (m i : ℕ) (l : List ℕ) → ((j : ℕ) → get_or l j 0 < m) → (j : ℕ) → get_or (drop i l) j 0 < m
below-drop m i l h j = rw (get_or-drop i l j 0) (h (i + j))

pub below-take : (m i : ℕ) (l : List ℕ) → 0 < m → ((j : ℕ) → get_or l j 0 < m) → (j : ℕ) → get_or (take i l) j 0 < m
below-take m i l pos h j = go (dec_lt j i)
  where
    go : Dec (j < i) → get_or (take i l) j 0 < m
    go (yes k) = rw (get_or-take i l j 0 k) (h j)
    go (no k) = rw (get_or-eq_default (take i l) 0 {n = j} (rw (length-take i l) (omega arith))) pos

pub below-part : (m n i : ℕ) (l : List ℕ) → 0 < m → ((j : ℕ) → get_or l j 0 < m) → (j : ℕ) → get_or (part n i l) j 0 < m
unfolding part
below-part m n i l pos h j = below-take m n (drop i l) pos (below-drop m i l h) j

pub below-append : (m : ℕ) (xs ys : List ℕ) → ((j : ℕ) → get_or xs j 0 < m) → ((j : ℕ) → get_or ys j 0 < m) → (j : ℕ) → get_or (xs ++ ys) j 0 < m
below-append m [] ys hx hy j = hy j
below-append m (x ∷ xs) ys hx hy zero = hx 0
below-append m (x ∷ xs) ys hx hy (suc j) = below-append m xs ys (λ i. hx (suc i)) hy j

-- ---- little-endian numbers

pub le_bytes-le_value : (n : ℕ) (l : List ℕ) → length l ≡ n → Bytes l → le_bytes n (le_value l) ≡ l
unfolding le_bytes le_value
le_bytes-le_value zero [] e h = refl
le_bytes-le_value zero (b ∷ bs) e h = absurd (omega arith)
le_bytes-le_value (suc n) [] e h = absurd (omega arith)
le_bytes-le_value (suc n) (b ∷ bs) e h =
    ap₂ (λ (x : ℕ) (r : List ℕ). x ∷ r) (digits_mod (le_value bs) (h 0))
    (ap (le_bytes n) (digits_div (le_value bs) (h 0)) ∙ le_bytes-le_value n bs (omega arith) (λ j. h (suc j)))

pub le_value-lt : (n : ℕ) (l : List ℕ) → length l ≤ n → Bytes l → le_value l < 256 ^ n
unfolding le_value
le_value-lt zero [] e h = omega arith
le_value-lt zero (b ∷ bs) e h = absurd (omega arith)
le_value-lt (suc n) [] e h = rw (pow-suc 256 n) (omega (arith, le_value-lt n [] (omega arith) h))
le_value-lt (suc n) (b ∷ bs) e h =
    rw (pow-suc 256 n) (room (256 ^ n) (le_value bs) b (le_value-lt n bs (omega arith) (λ j. h (suc j))) (h 0))
  where
    room : (m x b : ℕ) → x < m → b < 256 → x * 256 + b < m * 256
    room m x b p q = omega arith

-- a number in two parts, read and written
pub le_value-append : (xs ys : List ℕ) → le_value (xs ++ ys) ≡ le_value ys * 256 ^ length xs + le_value xs
unfolding le_value
le_value-append [] ys = omega arith
le_value-append (x ∷ xs) ys = rw (le_value-append xs ys, pow-suc 256 (length xs)) (omega arith)

pub le_bytes-add : (m n x : ℕ) → le_bytes (m + n) x ≡ le_bytes m x ++ le_bytes n (x / 256 ^ m)
unfolding le_bytes
le_bytes-add zero n x = ap₂ le_bytes (zero-add n) (sym (div-one x))
le_bytes-add (suc m) n x =
    rw (suc-add m n) (ap (λ (r : List ℕ). x % 256 ∷ r)
    (le_bytes-add m n (x / 256)
    ∙ ap (λ (y : ℕ). le_bytes m (x / 256) ++ le_bytes n y) (div-div-eq-div-mul x 256 (256 ^ m) ∙ ap (λ (y : ℕ). x / y) (sym (pow-succ' 256 m)))))

-- what stands above the bytes does not show in them
pub le_bytes-low : (n h x : ℕ) → le_bytes n (h * 256 ^ n + x) ≡ le_bytes n x
unfolding le_bytes
le_bytes-low zero h x = refl
le_bytes-low (suc n) h x =
    rw (pow-suc 256 n)
    (ap₂ (λ (b : ℕ) (r : List ℕ). b ∷ r) (last (h * 256 ^ n) x (h * (256 ^ n * 256)) (omega arith))
    (ap (le_bytes n) (above (h * 256 ^ n) x (h * (256 ^ n * 256)) (omega arith)) ∙ le_bytes-low n h (x / 256)))
  where
    last : (a x b : ℕ) → b ≡ a * 256 → (b + x) % 256 ≡ x % 256
    last a x b e = omega arith

    above : (a x b : ℕ) → b ≡ a * 256 → (b + x) / 256 ≡ a + x / 256
    above a x b e = omega arith

-- the bytes of h * 256^n + l are those of l and then those of h
pub le_bytes-joined : (n m h l : ℕ) → l < 256 ^ n → le_bytes (n + m) (h * 256 ^ n + l) ≡ le_bytes n l ++ le_bytes m h
unfolding le_bytes
le_bytes-joined zero m h l b = ap₂ le_bytes (let e : 0 + m ≡ m = omega arith in e) (let e : h * 1 + l ≡ h = omega arith in e)
le_bytes-joined (suc n) m h l b =
    let q : h * 256 ^ suc n ≡ h * 256 ^ n * 256 = ap (λ (k : ℕ). h * k) (pow-suc 256 n) ∙ sym (mul_assoc h (256 ^ n) 256) in
    let u : (h * 256 ^ suc n + l) % 256 ≡ l % 256 = omega arith in
    let v : (h * 256 ^ suc n + l) / 256 ≡ h * 256 ^ n + l / 256 = omega arith in
    let w : l / 256 < 256 ^ n = omega (arith, pow-suc 256 n) in
    rw (suc-add n m, u, v) (ap (λ (r : List ℕ). l % 256 ∷ r) (le_bytes-joined n m h (l / 256) w))

-- ---- read back from bytes

-- every element is below m
abbrev pub AllBelow : ℕ → List ℕ → Type 0
AllBelow m l = (k : ℕ) → at l k < m

-- two lists with beginnings of one length
pub append_determines : {A : Type 0} (a b r s : List A) → length a ≡ length b → a ++ r ≡ b ++ s → (a ≡ b) × (r ≡ s)
append_determines a b r s n e = (
  sym (take_at a r (length b) n) ∙ ap (take (length b)) e ∙ take_at b s (length b) refl,
  sym (drop_at a r (length b) n) ∙ ap (drop (length b)) e ∙ drop_at b s (length b) refl,
)

-- bytes of one size determine the number, and what follows them
pub le_bytes_determine : (n x y : ℕ) → x < 256 ^ n → y < 256 ^ n → le_bytes n x ≡ le_bytes n y → x ≡ y
le_bytes_determine n x y hx hy e = sym (le_value-le_bytes n x hx) ∙ ap le_value e ∙ le_value-le_bytes n y hy

pub le_bytes-append_determines : (n x y : ℕ) (r s : List ℕ) → le_bytes n x ++ r ≡ le_bytes n y ++ s → (le_bytes n x ≡ le_bytes n y) × (r ≡ s)
le_bytes-append_determines n x y r s e = append_determines (le_bytes n x) (le_bytes n y) r s (length-le_bytes n x ∙ sym (length-le_bytes n y)) e

-- numbers of one size, end to end
pub length-numbers : (n : ℕ) (xs : List ℕ) → length (flat (map (le_bytes n) xs)) ≡ n * length xs
unfolding flat
length-numbers n [] = omega arith
length-numbers n (x ∷ xs) = rw (length-append, length-le_bytes, length-numbers n xs) (omega arith)

pub numbers_determine : (n : ℕ) (xs ys : List ℕ) → 0 < n → AllBelow (256 ^ n) xs → AllBelow (256 ^ n) ys
    → flat (map (le_bytes n) xs) ≡ flat (map (le_bytes n) ys) → xs ≡ ys
unfolding flat
numbers_determine n [] [] h hx hy e = refl
numbers_determine n [] (y ∷ ys) h hx hy e = absurd (omega (arith, simp (length-append, length-le_bytes) at (ap length e)))
numbers_determine n (x ∷ xs) [] h hx hy e = absurd (omega (arith, simp (length-append, length-le_bytes) at (ap length e)))
numbers_determine n (x ∷ xs) (y ∷ ys) h hx hy e =
    let d = le_bytes-append_determines n x y (flat (map (le_bytes n) xs)) (flat (map (le_bytes n) ys)) e in
    ap₂ (λ (z : ℕ) (zs : List ℕ). z ∷ zs) (le_bytes_determine n x y (hx 0) (hy 0) d.0)
    (numbers_determine n xs ys h (λ k. hx (suc k)) (λ k. hy (suc k)) d.1)
