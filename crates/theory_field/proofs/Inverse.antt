-- Every word but 0 has one inverse, the product of its squares a^2, a^4, .., a^(2^127). So there are no zero divisors.
-- The way: squaring 128 times gives every word back, since it does so with x; hence e = a × inverse a is its own square; and
-- only 0 and 1 are, which a linear map shows that takes v + v^2 to v with bit 0 cleared.
use mathlib.Core.Path.{◌≡◌, refl, sym, ap, ap₂, ◌∙◌}
use mathlib.Core.Bool.{Bool}
use mathlib.Core.Logic.{◌⊎◌, inl, inr, ◌≢◌}
use mathlib.Core.List.{List, [], ◌∷◌}
use Prim.Native.Nat.{ℕ, zero, suc, ◌+◌, ◌*◌, ◌/◌, ◌^◌, ◌<◌}
use native.Mathlib.Nat.{le_of_suc-le, add-suc, add-zero}
use native.Mathlib.Omega.{arith}
use lib.Pow.{pow-lt}
use lib.Dec.{T, eqb, eqb→eq, lit<}
use Rattle.theory_laws.specs.Xor.{◌⊕◌, sel}
use Rattle.theory_laws.proofs.Xor.{bit-cases, ⊕_self, ⊕_dbl, ⊕-half}
use Rattle.theory_laws.proofs.Linear.{Additive, at_zero, ext, all_below, below, sum_additive, linear, linear_additive}
use Rattle.theory_field.specs.Field.{reduction, xtime, ◌⊗◌, sq, frob, ladder, inverse}
use Rattle.theory_field.specs.LongProduct.{long}
use Rattle.theory_field.specs.Spread.{spread}
use Rattle.theory_field.proofs.Product.{times, times-one, times-xtime, one-⊗, ⊗-one, pow-⊗, ⊗-lt, ⊗_comm, ⊗_assoc, zero-⊗, ⊗-zero}
use Rattle.theory_field.proofs.Square.{sq-lt, sq-⊕, sq-⊗, sq_fast, sq_fast-⊕, sq-fast, reduce_once, by_reduction}

-- ---- repeated squaring

pub frob-sq : (n a : ℕ) → frob n (sq a) ≡ sq (frob n a)
unfolding frob
frob-sq zero a = refl
frob-sq (suc n) a = frob-sq n (sq a)

pub frob-⊗ : (n a b : ℕ) → frob n (a ⊗ b) ≡ frob n a ⊗ frob n b
unfolding frob
frob-⊗ zero a b = refl
frob-⊗ (suc n) a b = ap (frob n) (sq-⊗ a b) ∙ frob-⊗ n (sq a) (sq b)

pub frob-⊕ : (n : ℕ) → Additive (frob n)
unfolding frob
frob-⊕ zero a b = refl
frob-⊕ (suc n) a b = ap (frob n) (sq-⊕ a b) ∙ frob-⊕ n (sq a) (sq b)

-- m squarings, then n
pub frob-frob : (n m a : ℕ) → frob n (frob m a) ≡ frob (m + n) a
unfolding frob
frob-frob n zero a = ap (λ (k : ℕ). frob k a) (let e : n ≡ 0 + n = omega arith in e)
frob-frob n (suc m) a = frob-frob n m (sq a) ∙ ap (λ (k : ℕ). frob k a) (let e : suc (m + n) ≡ suc m + n = omega arith in e)

pub frob-suc : (n a : ℕ) → frob (suc n) a ≡ frob n (sq a)
unfolding frob
frob-suc n a = refl

pub frob-zero : (a : ℕ) → frob 0 a ≡ a
unfolding frob
frob-zero a = refl

pub frob-once : (a : ℕ) → frob 1 a ≡ sq a
unfolding frob
frob-once a = refl

fast : ℕ → ℕ → ℕ
fast zero a = a
fast (suc n) a = fast n (sq_fast a)

frob-fast : (n a : ℕ) → a < 2 ^ 128 → frob n a ≡ fast n a
unfolding fast frob
frob-fast zero a h = refl
frob-fast (suc n) a h = frob-fast n (sq a) (sq-lt a) ∙ ap (fast n) (sq-fast a h)

-- x is what it was after 128 squarings: computed
x-back : T (eqb (fast 128 2) 2)
unfolding fast sq_fast reduce_once by_reduction long reduction spread sel ◌⊕◌
x-back = tt

frob-x : frob 128 2 ≡ 2
frob-x = frob-fast 128 2 (lit< tt) ∙ eqb→eq (fast 128 2) 2 x-back

frob-one : (n : ℕ) → frob n 1 ≡ 1
unfolding frob sq
frob-one zero = refl
frob-one (suc n) = ap (frob n) (one-⊗ 1 (lit< tt)) ∙ frob-one n

two-pow : (i : ℕ) → suc i < 128 → 2 ⊗ 2 ^ i ≡ 2 ^ suc i
two-pow i h =
    pow-⊗ 1 (2 ^ i) (lit< tt) (pow-lt (le_of_suc-le h))
    ∙ ap xtime (sym (times-one i (le_of_suc-le h))) ∙ sym (times-xtime i 1) ∙ times-one (suc i) h

frob-pow : (i : ℕ) → i < 128 → frob 128 (2 ^ i) ≡ 2 ^ i
frob-pow zero h = frob-one 128
frob-pow (suc i) h =
    ap (frob 128) (sym (two-pow i h)) ∙ frob-⊗ 128 2 (2 ^ i) ∙ ap₂ ◌⊗◌ frob-x (frob-pow i (le_of_suc-le h)) ∙ two-pow i h

-- Fermat: every word is its own power 2^128
pub frob-all : (a : ℕ) → a < 2 ^ 128 → frob 128 a ≡ a
frob-all a h = ext 128 (frob 128) (λ x. x) (frob-⊕ 128) (λ a b. refl) frob-pow a h

-- ---- v^2 = v only of 0 and 1

-- where the linear map takes each x^i; nothing trusts these numbers but the test below
unroot : List ℕ
unroot =
    0x295ac0b1f4731af9676aac9fa4b20b08 ∷ 0xe5da5595ee970b89929959af766af404 ∷ 0xe5da5595ee970b89929959af766af406 ∷
    0x4e9826c74350bfe67783f7333404a20c ∷ 0xe5da5595ee970b89929959af766af402 ∷ 0x2aaea79ad7da34b07dc714cb83074e6a ∷
    0x4e9826c74350bfe67783f7333404a204 ∷ 0xcc8095241ae41171f5f3f531d2d9fe18 ∷ 0xe5da5595ee970b89929959af766af412 ∷
    0x4e983687d159ce9677cb862e8ac85b44 ∷ 0x2aaea79ad7da34b07dc714cb83074e4a ∷ 0xaae2ab6aaf144aaff73fcb3c06aaff56 ∷
    0x4e9826c74350bfe67783f7333404a244 ∷ 0xe62f327ccd5792dd893fe9ca40603f62 ∷ 0xcc8095241ae41171f5f3f531d2d9fe98 ∷
    0xab52f0323f47c90be1336bc7d453b626 ∷ 0xe5da5595ee970b89929959af766af512 ∷ 0x2abe34bad75338b479a6a089abf4573a ∷
    0x4e983687d159ce9677cb862e8ac85944 ∷ 0x1e8ccb9dcc72f2e1a9cbef8232562fc ∷ 0x2aaea79ad7da34b07dc714cb83074a4a ∷ 0x2442c3221f3dc1a0ce869b24a80e48c
    ∷ 0xaae2ab6aaf144aaff73fcb3c06aaf756 ∷ 0xcf64612f39c4323deb3ff936dd9aa228 ∷ 0x4e9826c74350bfe67783f7333404b244 ∷
    0xcc911696880d4909f0d5382a57572458 ∷ 0xe62f327ccd5792dd893fe9ca40601f62 ∷ 0x4d7cd7cc29d28cf2697f6478e5db2834 ∷
    0xcc8095241ae41171f5f3f531d2d9be98 ∷ 0xccc99127569146a7fc0956ca1a5b86a4 ∷ 0xab52f0323f47c90be1336bc7d4533626 ∷
    0x65cece94dacd5b1c14f5986b001eeb82 ∷ 0xe5da5595ee970b89929959af766bf512 ∷ 0x2b0e7fa2d509ca746fe27169c7c3e73a ∷
    0x2abe34bad75338b479a6a089abf6573a ∷ 0x65df4d264824132411d3553885980142 ∷ 0x4e983687d159ce9677cb862e8acc5944 ∷
    0xcf74f70e70ef2af7ef6fd21d2af671a4 ∷ 0x1e8ccb9dcc72f2e1a9cbef8232d62fc ∷ 0xcec4b9173b16cdf9f91a9d8499490f58 ∷
    0x2aaea79ad7da34b07dc714cb83174a4a ∷ 0x83f16f99175f624799a6cf206b513bdc ∷ 0x2442c3221f3dc1a0ce869b24aa0e48c ∷ 0x3f562a96a2aa9081b9e27ebe84671c0
    ∷ 0xaae2ab6aaf144aaff73fcb3c06eaf756 ∷ 0xccc9c07ae11bcce3fcd6d526cddeebd4 ∷ 0xcf64612f39c4323deb3ff936dd1aa228 ∷
    0xa95fc803c09556f7e461dfebe8467196 ∷ 0x4e9826c74350bfe67783f7333504b244 ∷ 0x4cdc1ab0f0ab5b2e7b20ee03c15c7384 ∷
    0xcc911696880d4909f0d5382a55572458 ∷ 0xaaba68961da11d79fb48c8c7fe68cf6a ∷ 0xe62f327ccd5792dd893fe9ca44601f62 ∷
    0xe5db5416ee209847938b5c70638d3bee ∷ 0x4d7cd7cc29d28cf2697f6478eddb2834 ∷ 0x6437818b95e2e76e0b49fa26a7e512ce ∷
    0xcc8095241ae41171f5f3f531c2d9be98 ∷ 0x4cd9020746184ba27868a299022ddf34 ∷ 0xccc99127569146a7fc0956ca3a5b86a4 ∷
    0x824171dcefbe4a8b8f1d24e407e8e76c ∷ 0xab52f0323f47c90be1336bc794533626 ∷ 0xe62e22af1f6bf32b88711e202cdc3b5e ∷
    0x65cece94dacd5b1c14f5986b801eeb82 ∷ 0x83f4672b23a92e499aadb85427b54520 ∷ 0xe5da5595ee970b89929959ae766bf512 ∷ 0x1040920971720048711dbeccf94c
    ∷ 0x2b0e7fa2d509ca746fe2716bc7c3e73a ∷ 0x81edd40a7a7437cb99d6b267d0d7976c ∷ 0x2abe34bad75338b479a6a08dabf6573a ∷
    0xe46a1e8deccdf96d84dd884d1a5d4462 ∷ 0x65df4d264824132411d3553085980142 ∷ 0x804c1cb1eac70f698ab1aeeb3a605920 ∷
    0x4e983687d159ce9677cb863e8acc5944 ∷ 0xa94f4b3252499e01e04514377dbd55aa ∷ 0xcf74f70e70ef2af7ef6fd23d2af671a4 ∷
    0xe7d77da5831189d3978a93f3f56f619e ∷ 0x1e8ccb9dcc72f2e1a9cbeb8232d62fc ∷ 0x4cdd0f362b68e52a7a5109eab0a16ef4 ∷
    0xcec4b9173b16cdf9f91a9d0499490f58 ∷ 0xe4329c3d7bf233698830781e88d05912 ∷ 0x2aaea79ad7da34b07dc715cb83174a4a ∷
    0x82082082597387418618bcbfcff334e0 ∷ 0x83f16f99175f624799a6cd206b513bdc ∷ 0x294b124ed1181a846297e291f4adcc3a ∷
    0x2442c3221f3dc1a0ce86db24aa0e48c ∷ 0xe78fff41144664939b696b666550119e ∷ 0x3f562a96a2aa9081b9e2febe84671c0 ∷ 0xcd78dbfd54a1436beb568d9e63d55a14
    ∷ 0xaae2ab6aaf144aaff73fdb3c06eaf756 ∷ 0xccdd4e7b1ce38d0ffacabbbeed722b64 ∷ 0xccc9c07ae11bcce3fcd6f526cddeebd4 ∷
    0x3e5e1ccb1bf89c61fb4754fa43bbf3c ∷ 0xcf64612f39c4323deb3fb936dd1aa228 ∷ 0xe5da00893461b455926f68f4172caea2 ∷
    0xa95fc803c09556f7e4615febe8467196 ∷ 0xe78ae2a77b3e87b1981cf1dccb9d1fd2 ∷ 0x4e9826c74350bfe67782f7333504b244 ∷
    0x2912d4222a675b0a6fd777b6c15f72c6 ∷ 0x4cdc1ab0f0ab5b2e7b22ee03c15c7384 ∷ 0xe7d6682e58d237f196f8740f85956fd2 ∷
    0xcc911696880d4909f0d1382a55572458 ∷ 0xab4366b0764a0b4be46143c933474626 ∷ 0xaaba68961da11d79fb40c8c7fe68cf6a ∷
    0xe7d77d718378aeb397849bb7f7de0d9e ∷ 0xe62f327ccd5792dd892fe9ca44601f62 ∷ 0x64231d9efb5729d60d13f9bd382e380e ∷
    0xe5db5416ee20984793ab5c70638d3bee ∷ 0x81b51ab7a5fe1499959811bd9a557220 ∷ 0x4d7cd7cc29d28cf2693f6478eddb2834 ∷
    0x295ab4bb43072c12678a4ee975a08406 ∷ 0x6437818b95e2e76e0bc9fa26a7e512ce ∷ 0xab0eead38eb165ebef9e1acd25989a26 ∷
    0xcc8095241ae41171f4f3f531c2d9be98 ∷ 0x3ba7996db230c0010185b9b29b00000 ∷ 0x4cd9020746184ba27a68a299022ddf34 ∷
    0x8210932010890d058261f45338765990 ∷ 0xccc99127569146a7f80956ca3a5b86a4 ∷ 0x2a88e0fbb92f0c2c7f14722e3db361fa ∷
    0x824171dcefbe4a8b871d24e407e8e76c ∷ 0x29b11e87b8989fd86fb067f47d17578a ∷ 0xab52f0323f47c90bf1336bc794533626 ∷ 0x0 ∷
    0xe62e22af1f6bf32ba8711e202cdc3b5e ∷ 0x862e22af1f6bf32ba8711e202cdc3b6c ∷ 0x65cece94dacd5b1c54f5986b801eeb82 ∷
    0x8e8cbdc6770aef73b1ef36f7c270bdac ∷ 0x83f4672b23a92e491aadb85427b54520 ∷ 0x38b21c09fae1613c0db7ed8c3891e6fa ∷ []

back : ℕ → ℕ
back v = linear unroot (v ⊕ sq_fast v)

clear : ℕ → ℕ
clear v = 2 * (v / 2)

back-⊕ : Additive back
unfolding back
back-⊕ a b = ap (linear unroot) (sum_additive (λ v. v) sq_fast (λ a b. refl) sq_fast-⊕ a b) ∙ linear_additive unroot (a ⊕ sq_fast a) (b ⊕ sq_fast b)

clear-⊕ : Additive clear
unfolding clear
clear-⊕ a b = ap (λ (x : ℕ). 2 * x) (⊕-half a b) ∙ ⊕_dbl (a / 2) (b / 2)

right : ℕ → Bool
right i = eqb (back (2 ^ i)) (clear (2 ^ i))

basis : T (all_below 128 right)
unfolding right back clear linear unroot sq_fast reduce_once by_reduction long reduction spread sel ◌⊕◌
basis = tt

pub idempotent : (v : ℕ) → v < 2 ^ 128 → sq v ≡ v → (v ≡ 0) ⊎ (v ≡ 1)
unfolding right back clear
idempotent v h e = bit-cases v (low v z)
  where
    z : 2 * (v / 2) ≡ 0
    z =
        sym (ext 128 back clear back-⊕ clear-⊕ (λ i k. eqb→eq (back (2 ^ i)) (clear (2 ^ i)) (below 128 right basis i k)) v h)
        ∙ ap (λ (x : ℕ). linear unroot (v ⊕ x)) (sym (sq-fast v h) ∙ e) ∙ ap (linear unroot) (⊕_self v) ∙ at_zero (linear unroot) (linear_additive unroot)

    low : (v : ℕ) → 2 * (v / 2) ≡ 0 → v < 2
    low v z = omega arith

-- ---- the ladder a^(2^n - 1)

pub ladder-lt : (n a : ℕ) → ladder n a < 2 ^ 128
unfolding ladder
ladder-lt zero a = lit< tt
ladder-lt (suc n) a = ⊗-lt (ladder n a) (frob n a)

pub ladder-suc : (n a : ℕ) → ladder (suc n) a ≡ ladder n a ⊗ frob n a
unfolding ladder
ladder-suc n a = refl

-- one rung: the word itself
pub ladder-one : (a : ℕ) → a < 2 ^ 128 → ladder 1 a ≡ a
unfolding ladder frob
ladder-one a h = one-⊗ a h

-- m rungs, then n more, each n rungs' worth of squarings up: how inversion doubles its exponent
pub ladder-add : (m n a : ℕ) → ladder (m + n) a ≡ ladder m a ⊗ frob m (ladder n a)
unfolding ladder
ladder-add m zero a =
    ap (λ (k : ℕ). ladder k a) (add-zero m) ∙ sym (⊗-one (ladder m a) (ladder-lt m a)) ∙ ap (λ (x : ℕ). ladder m a ⊗ x) (sym (frob-one m))
ladder-add m (suc n) a =
    ap (λ (k : ℕ). ladder k a) (add-suc m n)
    ∙ ap₂ ◌⊗◌ (ladder-add m n a) (sym (frob-frob m n a ∙ ap (λ (k : ℕ). frob k a) (let e : n + m ≡ m + n = omega arith in e)))
    ∙ ⊗_assoc (ladder m a) (frob m (ladder n a)) (frob m (frob n a))
    ∙ ap (λ (x : ℕ). ladder m a ⊗ x) (sym (frob-⊗ m (ladder n a) (frob n a)))

sq-ladder : (n a : ℕ) → sq (ladder n a) ≡ ladder n (sq a)
unfolding ladder sq frob
sq-ladder zero a = frob-one 1
sq-ladder (suc n) a = sq-⊗ (ladder n a) (frob n a) ∙ ap₂ ◌⊗◌ (sq-ladder n a) (sym (frob-sq n a))

ladder-front : (n a : ℕ) → ladder (suc n) a ≡ a ⊗ ladder n (sq a)
unfolding ladder frob
ladder-front zero a = ⊗_comm 1 a
ladder-front (suc n) a = ap (λ (x : ℕ). x ⊗ frob n (sq a)) (ladder-front n a) ∙ ⊗_assoc a (ladder n (sq a)) (frob n (sq a))

ladder-back : (n a : ℕ) → a < 2 ^ 128 → ladder n a ⊗ a ≡ frob n a
unfolding ladder frob sq
ladder-back zero a h = one-⊗ a h
ladder-back (suc n) a h =
    ap (λ (x : ℕ). x ⊗ a) (⊗_comm (ladder n a) (frob n a)) ∙ ⊗_assoc (frob n a) (ladder n a) a
    ∙ ap (◌⊗◌ (frob n a)) (ladder-back n a h) ∙ sym (frob-sq n a)

-- ---- the inverse

pub inverse-lt : (a : ℕ) → inverse a < 2 ^ 128
unfolding inverse
inverse-lt a = ladder-lt 127 (sq a)

-- the square of a^(2^127 - 1), as code computes it
pub inverse-sq : (a : ℕ) → inverse a ≡ sq (ladder 127 a)
unfolding inverse
inverse-sq a = sym (sq-ladder 127 a)

unit : (a : ℕ) → a < 2 ^ 128 → sq (a ⊗ inverse a) ≡ a ⊗ inverse a
unfolding inverse
unit a h =
    ap sq (sym (ladder-front 127 a)) ∙ sq-ladder 128 a ∙ ladder-suc 127 (sq a)
    ∙ ap (◌⊗◌ (ladder 127 (sq a))) (sym (frob-suc 127 a) ∙ frob-all a h)
    ∙ ⊗_comm (ladder 127 (sq a)) a

pub inverse-right : (a : ℕ) → a < 2 ^ 128 → a ≢ 0 → a ⊗ inverse a ≡ 1
unfolding inverse
inverse-right a h ne = go (idempotent (a ⊗ inverse a) (⊗-lt a (inverse a)) (unit a h))
  where
    go : (a ⊗ inverse a ≡ 0) ⊎ (a ⊗ inverse a ≡ 1) → a ⊗ inverse a ≡ 1
    go (inr e) = e
    go (inl e) =
        absurd (ne (sym (frob-all a h) ∙ sym (ladder-back 128 a h) ∙ ap (λ (x : ℕ). x ⊗ a) (ladder-front 127 a ∙ e) ∙ zero-⊗ a))

-- a factor that is not 0 is taken away by its inverse
pub cancel : (a b : ℕ) → a < 2 ^ 128 → b < 2 ^ 128 → a ≢ 0 → inverse a ⊗ (a ⊗ b) ≡ b
cancel a b ha hb ne =
    sym (⊗_assoc (inverse a) a b)
    ∙ ap (λ (x : ℕ). x ⊗ b) (⊗_comm (inverse a) a ∙ inverse-right a ha ne) ∙ one-⊗ b hb

-- no two words but 0 have the product 0
pub no_zero_divisor : (a b : ℕ) → a < 2 ^ 128 → b < 2 ^ 128 → a ≢ 0 → a ⊗ b ≡ 0 → b ≡ 0
no_zero_divisor a b ha hb ne e = sym (cancel a b ha hb ne) ∙ ap (◌⊗◌ (inverse a)) e ∙ ⊗-zero (inverse a)

-- no other word has the product 1
pub inverse_unique : (a b : ℕ) → a < 2 ^ 128 → b < 2 ^ 128 → a ⊗ b ≡ 1 → b ≡ inverse a
inverse_unique a b ha hb e =
    sym (cancel a b ha hb ne) ∙ ap (◌⊗◌ (inverse a)) e ∙ ⊗-one (inverse a) (inverse-lt a)
  where
    zero-ne-one : ◌≡◌ {A = ℕ} 0 1 → ⊥
    zero-ne-one p = omega arith

    ne : a ≢ 0
    ne z = zero-ne-one (sym (zero-⊗ b) ∙ ap (λ (x : ℕ). x ⊗ b) (sym z) ∙ e)

pub inverse-zero : inverse 0 ≡ 0
unfolding inverse
inverse-zero =
    ap (ladder 127) (at_zero sq sq-⊕) ∙ ladder-suc 126 0 ∙ ap (◌⊗◌ (ladder 126 0)) (at_zero (frob 126) (frob-⊕ 126)) ∙ ⊗-zero (ladder 126 0)
