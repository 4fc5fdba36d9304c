-- Powers of two and their logarithms: the test, the depth of a tree, and the shape that questions 8, 9 and 10 settle.
use Prim.Native.Nat.{ℕ, zero, suc, ◌+◌, ◌*◌, ◌-◌, ◌/◌, ◌%◌, ◌^◌, ◌≤◌, ◌<◌}
use mathlib.Core.Path.{◌≡◌, refl, sym, ◌∙◌, ap}
use mathlib.Core.Bool.{Bool, true, false}
use mathlib.Core.Logic.{◌⊎◌, ⊎_elim}
use native.Mathlib.Nat.{mod-eq_of_lt, eq-or-lt_of_le, div-add-mod', mul-le-mul_right, mul_comm}
use native.Mathlib.Decide.{dec_le}
use native.Mathlib.Omega.{arith}
use borrow.Author.Tests.{eqb-true, eqb-false, eq-eqb, le-leb, lt-leb}
use lib.Dec.{eqb, leb}
use lib.Pow.{pow_pos, pow_mono, pow-lt, pow-add, shl-shr}
use Rattle.theory_laws.specs.Questions.{pick}
use Rattle.theory_laws.proofs.Numbers.{lt-pow}
use Rattle.theory_merkle.specs.Tree.{group_of, halvings, log2, depth_of, tree_size}
use Rattle.theory_merkle.specs.Shape.{Shape}
use Rattle.theory_merkle.specs.Questions.{is_pow}

-- ---- a power of two up to 2^m

-- x is 2 to an exponent of at most m
pub record Power (m x : ℕ) : Type 0 where
  pub exponent : ℕ
  pub within : exponent ≤ m
  pub is : x ≡ 2 ^ exponent

pub is_pow_yes : (m x : ℕ) → is_pow m x ≡ true → Power m x
unfolding is_pow
is_pow_yes zero x e = record { exponent = 0; within = omega arith; is = eqb-true x 1 e }
is_pow_yes (suc m) x e = go (eqb x (2 ^ suc m)) refl e (is_pow_yes m x)
  where
    go : (b : Bool) → eqb x (2 ^ suc m) ≡ b → pick b true (is_pow m x) ≡ true → (is_pow m x ≡ true → Power m x) → Power (suc m) x
    go true f h below = record { exponent = suc m; within = omega arith; is = eqb-true x (2 ^ suc m) f }
    go false f h below = let p = below h in record { exponent = p.exponent; within = omega arith; is = p.is }

pub is_pow_holds : (m x : ℕ) → Power m x → is_pow m x ≡ true
unfolding is_pow
is_pow_holds zero x p = eq-eqb x 1 (p.is ∙ ap (λ k. 2 ^ k) (let z : p.exponent ≡ 0 = omega arith in z))
is_pow_holds (suc m) x p = go (eqb x (2 ^ suc m)) refl (is_pow_holds m x)
  where
    go : (b : Bool) → eqb x (2 ^ suc m) ≡ b → (Power m x → is_pow m x ≡ true) → pick b true (is_pow m x) ≡ true
    go true f below = refl
    go false f below =
        ⊎_elim
        (λ (h : p.exponent ≡ suc m). absurd (eqb-false x (2 ^ suc m) f (p.is ∙ ap (λ k. 2 ^ k) h)))
        (λ (h : p.exponent < suc m). below (record { exponent = p.exponent; within = omega arith; is = p.is }))
        (eq-or-lt_of_le p.within)

pub power_pos : (m x : ℕ) → Power m x → 0 < x
power_pos m x p = rw p.is (pow_pos p.exponent)

pub power_le : (m x : ℕ) → Power m x → x ≤ 2 ^ m
power_le m x p = rw p.is (pow_mono p.within)

-- ---- the logarithm

halvings-pow : (n h : ℕ) → h ≤ n → halvings n (2 ^ h) ≡ h
unfolding halvings
halvings-pow zero h k = omega arith
halvings-pow (suc n) zero k = refl
halvings-pow (suc n) (suc h) k =
    let p : 1 ≤ 2 ^ h = pow_pos h in
    let e : 2 ^ suc h / 2 ≡ 2 ^ h = omega arith in
    rw (lt-leb (2 ^ suc h) 1 (omega arith), e) (ap suc (halvings-pow n h (omega arith)))

pub log2-pow : (h : ℕ) → log2 (2 ^ h) ≡ h
unfolding log2
log2-pow h = halvings-pow (2 ^ h) h (omega (arith, lt-pow h))

halvings_enough : (n k x : ℕ) → x ≤ n → x ≤ k → halvings n x ≡ halvings k x
unfolding halvings
halvings_enough zero zero x hn hk = refl
halvings_enough zero (suc k) x hn hk = rw (le-leb x 1 (omega arith))
halvings_enough (suc n) zero x hn hk = rw (le-leb x 1 (omega arith))
halvings_enough (suc n) (suc k) x hn hk = ap (λ y. pick (leb x 1) 0 (suc y)) (halvings_enough n k (x / 2) (omega arith) (omega arith))

-- as a loop finds it: one more for each halving
pub log2-step : (x : ℕ) → 1 < x → log2 x ≡ suc (log2 (x / 2))
unfolding log2 halvings
log2-step zero h = absurd (omega arith)
log2-step (suc x) h = rw (lt-leb (suc x) 1 h) (ap suc (halvings_enough x (suc x / 2) (suc x / 2) (omega arith) (omega arith)))

pub log2_end : (x : ℕ) → x ≤ 1 → log2 x ≡ 0
unfolding log2 halvings
log2_end zero h = refl
log2_end (suc x) h = rw (le-leb (suc x) 1 h)

-- ---- the shape of a tree

divides : (a b : ℕ) → 2 ^ a % 2 ^ b ≡ 0 → b ≤ a
divides a b e = go (dec_le b a)
  where
    go : Dec (b ≤ a) → b ≤ a
    go (yes h) = h
    go (no h) = absurd (omega (arith, pow_pos a, mod-eq_of_lt (pow-lt {i = a} {j = b} (omega arith))))

pub shape-pow : (h b count width : ℕ) → count ≡ 2 ^ h * 2 ^ b → width ≡ 2 ^ b → Shape count width
unfolding depth_of
shape-pow h b count width ec ew =
    let e : count / width ≡ 2 ^ h = rw (ec, ew) (shl-shr (2 ^ h) b) in
    let d : log2 (count / width) ≡ h = ap log2 e ∙ log2-pow h in
    record { filled = rw ew (pow_pos b); some = rw e (pow_pos h); groups = e ∙ ap (λ k. 2 ^ k) (sym d); whole = rw (d, ew) ec }

-- what questions 8, 9 and 10 settle, whatever the bounds
pub shape_of : (m k count width : ℕ) → is_pow m count ≡ true → is_pow k width ≡ true → eqb (count % width) 0 ≡ true → Shape count width
shape_of m k count width hc hw hd =
    let c = is_pow_yes m count hc in
    let w = is_pow_yes k width hw in
    let a : ℕ = c.exponent in
    let b : ℕ = w.exponent in
    let z : 2 ^ a % 2 ^ b ≡ 0 = rw (c.is, w.is) at (eqb-true (count % width) 0 hd) in
    let le = divides a b z in
    let e : count ≡ 2 ^ (a - b) * 2 ^ b = c.is ∙ ap (λ k. 2 ^ k) (let s : a ≡ a - b + b = omega arith in s) ∙ pow-add 2 (a - b) b in
    shape-pow (a - b) b count width e w.is

-- the group of a place below the count is one of the groups
pub group_lt : (count width place : ℕ) → Shape count width → place < count → group_of place width < 2 ^ depth_of count width
group_lt count width place s h = go (dec_le (2 ^ depth_of count width) (place / width))
  where
    go : Dec (2 ^ depth_of count width ≤ place / width) → place / width < 2 ^ depth_of count width
    go (yes k) = absurd (omega (arith, s.whole, mul-le-mul_right width k, div-add-mod' place width))
    go (no k) = omega arith

-- a group that begins among the groups ends within the values
pub group_room : (count width g : ℕ) → Shape count width → g < count / width → width * g + width ≤ count
group_room count width g s h =
    let e : suc g * width ≡ width * g + width = omega (arith, mul_comm width g) in
    omega (arith, s.whole, s.groups, mul-le-mul_right width (let k : suc g ≤ count / width = h in k), ap (λ k. k * width) s.groups)

-- ---- the size of a level, as a loop over the levels halves it

pub power_begin : (groups depth : ℕ) → groups ≡ 2 ^ depth → groups ≡ 2 ^ (depth - 0)
power_begin groups depth e = e ∙ ap (λ i. 2 ^ i) (let s : depth ≡ depth - 0 = omega arith in s)

pub next_power : (depth level m : ℕ) → level < depth → m ≡ 2 ^ (depth - level) → m / 2 ≡ 2 ^ (depth - (level + 1))
next_power depth level m lt e =
    let s : depth - level ≡ suc (depth - (level + 1)) = omega arith in
    let z : m ≡ 2 * 2 ^ (depth - (level + 1)) = e ∙ rw s (omega arith) in
    omega arith

pub half-even : (depth level m : ℕ) → level < depth → m ≡ 2 ^ (depth - level) → 2 * (m / 2) ≡ m
half-even depth level m lt e =
    let s : depth - level ≡ suc (depth - (level + 1)) = omega arith in
    let z : m ≡ 2 * 2 ^ (depth - (level + 1)) = e ∙ rw s (omega arith) in
    omega arith

pub half_some : (depth level m : ℕ) → level < depth → m ≡ 2 ^ (depth - level) → 1 ≤ m / 2
half_some depth level m lt e = rw (next_power depth level m lt e) (pow_pos (depth - (level + 1)))

-- the bytes of 2 × groups − 1 digests
pub tree-fits : (count width tree : ℕ) → Shape count width → tree ≡ 32 * tree_size count width → tree + 32 ≡ 64 * (count / width)
tree-fits count width tree s e = omega (arith, s.some)
