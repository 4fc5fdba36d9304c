-- Lanes by their places, and a loop over the lanes.
use mathlib.Core.Path.{◌≡◌, refl, sym, ap, ap₂, ◌∙◌}
use mathlib.Core.Logic.{⊎_elim}
use mathlib.Core.List.{List}
use Prim.Native.Nat.{ℕ, ◌+◌, ◌*◌, ◌-◌, ◌<◌, ◌≤◌}
use native.Mathlib.Nat.{eq-or-lt_of_le}
use native.Mathlib.Omega.{arith}
use lib.ListN.{length, set, length-set}
use lib.Seq.{get_or-set_same, get_or-set_other}
use Rattle.theory_laws.specs.Xor.{◌⊕◌}
use Rattle.theory_laws.specs.Table.{tab, at}
use Rattle.theory_laws.proofs.Table.{at-tab, tab-ext, is-tab}
use Rattle.theory_laws.proofs.Updates.{fill_step}
use Rattle.theory_blake3.specs.Compression as C
use Rattle.theory_blake3.specs.Orders as O
use Rattle.hash_four_lanes.specs.helpers.Lane as X

pub lane-at : (n : ℕ) (s : List ℕ) (l i : ℕ) → i < n → at (X.lane n s l) i ≡ at s (4 * i + l)
unfolding X.lane
lane-at n s l i h = at-tab n (λ i. at s (4 * i + l)) i h

pub lane-ext : (n : ℕ) (s t : List ℕ) (l : ℕ) → ((i : ℕ) → i < n → at s (4 * i + l) ≡ at t (4 * i + l)) → X.lane n s l ≡ X.lane n t l
unfolding X.lane
lane-ext n s t l h = tab-ext n h

-- a list whose places are those of a lane
pub lane-all : (n : ℕ) (s v : List ℕ) (l : ℕ) → length v ≡ n → ((k : ℕ) → k < n → at v k ≡ at s (4 * k + l)) → v ≡ X.lane n s l
unfolding X.lane
lane-all n s v l e h = is-tab v n (λ i. at s (4 * i + l)) e h

-- the first i of the n words of lane l of s stand in v
abbrev pub Copied : ℕ → List ℕ → ℕ → List ℕ → ℕ → Type 0
Copied n s l v i = (length v ≡ n) × ((k : ℕ) → k < i → at v k ≡ at s (4 * k + l))

pub copied_more : (n : ℕ) (s v : List ℕ) (l i : ℕ) → i < n → Copied n s l v i → Copied n s l (set v i (at s (4 * i + l))) (i + 1)
copied_more n s v l i h p =
    (simp length-set p.0, fill_step (λ (k : ℕ). at s (4 * k + l)) i v (at s (4 * i + l)) (omega (arith, p.0)) refl p.1)

pub copied_all : (n : ℕ) (s v : List ℕ) (l i : ℕ) → n ≤ i → Copied n s l v i → v ≡ X.lane n s l
copied_all n s v l i h p = lane-all n s v l p.0 (λ k b. p.1 k (omega arith))

-- the message's words in an order, read from a lane
pub ordered_at : (m o : List ℕ) (l i : ℕ) → O.Small o → i < 16 → at m (4 * at o i + l) ≡ at (X.lane 16 m l) (at o i)
unfolding O.Small
ordered_at m o l i h b = sym (lane-at 16 m l (at o i) (h i b))

pub ordered-all : (m o v : List ℕ) → length v ≡ 16 → ((k : ℕ) → k < 16 → at v k ≡ at m (at o k)) → v ≡ O.ordered m o
unfolding O.ordered
ordered-all m o v e h = is-tab v 16 (λ i. at m (at o i)) e h

-- ---- a word is put in lane l

pub store_at : (s v : List ℕ) (l i x : ℕ) → 4 * i + l < length s → x ≡ at v i → ((j : ℕ) → j < i → at s (4 * j + l) ≡ at v j)
    → (j : ℕ) → j < i + 1 → at (set s (4 * i + l) x) (4 * j + l) ≡ at v j
store_at s v l i x h e f j b =
    ⊎_elim
    (λ (q : j ≡ i). rw q (get_or-set_same s (4 * i + l) x 0 h ∙ e))
    (λ (a : j < i). get_or-set_other s (4 * i + l) (4 * j + l) x 0 (omega arith) ∙ f j a)
    (eq-or-lt_of_le {n = j} {m = i} (omega arith))

pub store_other : (s s₀ : List ℕ) (l i x : ℕ) → l < 4 → ((j k : ℕ) → k < 4 → 0 < k - l + (l - k) → at s (4 * j + k) ≡ at s₀ (4 * j + k))
    → (j k : ℕ) → k < 4 → 0 < k - l + (l - k) → at (set s (4 * i + l) x) (4 * j + k) ≡ at s₀ (4 * j + k)
store_other s s₀ l i x b f j k p q = get_or-set_other s (4 * i + l) (4 * j + k) x 0 (omega arith) ∙ f j k p q

-- ---- the end

pub value_law : (h s : List ℕ) (k : ℕ) → k < 4 → ((i : ℕ) → i < 32 → at h i ≡ at s i ⊕ at s (i + 32)) → X.lane 8 h k ≡ X.value (X.lane 16 s k)
unfolding X.lane X.value
value_law h s k b g =
    tab-ext 8 (λ i a.
    let e : 4 * (i + 8) + k ≡ 4 * i + k + 32 = omega arith in
    g (4 * i + k) (omega arith)
    ∙ ap₂ ◌⊕◌ (sym (lane-at 16 s k i (omega arith))) (sym (lane-at 16 s k (i + 8) (omega arith) ∙ ap (at s) e)))

pub value-cv : (h v : List ℕ) → X.value v ≡ C.cv (C.output h v)
unfolding X.value C.cv C.output tab
value-cv h v = refl

-- ---- a turn of a loop over the lanes, in which `store` left t

pub lanes_step : (s t v : List ℕ) (l : ℕ) (f : ℕ → List ℕ) → l < 4 → X.Stored s t l v → v ≡ f l
    → ((k : ℕ) → k < l → X.lane 16 s k ≡ f k) → (k : ℕ) → k < l + 1 → X.lane 16 t k ≡ f k
lanes_step s t v l f b st e g k h =
    ⊎_elim
    (λ (q : k ≡ l). rw q (st.here ∙ e))
    (λ (a : k < l). st.others k (omega arith) (omega arith) ∙ g k a)
    (eq-or-lt_of_le {n = k} {m = l} (omega arith))

pub lanes_rest : (s₀ s t v : List ℕ) (l : ℕ) → X.Stored s t l v
    → ((k : ℕ) → l ≤ k → k < 4 → X.lane 16 s k ≡ X.lane 16 s₀ k) → (k : ℕ) → l + 1 ≤ k → k < 4 → X.lane 16 t k ≡ X.lane 16 s₀ k
lanes_rest s₀ s t v l st g k h b = st.others k b (omega arith) ∙ g k (omega arith) b

pub round-lane : (s m o : List ℕ) {r v w z : List ℕ} → w ≡ O.ordered m o → v ≡ z → z ≡ s → r ≡ C.round v w → r ≡ C.round s (O.ordered m o)
round-lane s m o a b c d = d ∙ ap₂ C.round (b ∙ c) a

pub compress-lane : (h m : List ℕ) (t b d : ℕ) {r v u : List ℕ} → r ≡ X.value v → v ≡ C.rounds 7 u m → u ≡ C.initial h t b d → r ≡ C.cv (C.compress h m t b d)
unfolding C.compress
compress-lane h m t b d p q e = p ∙ ap X.value (q ∙ ap (λ (x : List ℕ). C.rounds 7 x m) e) ∙ value-cv h (C.rounds 7 (C.initial h t b d) m)
