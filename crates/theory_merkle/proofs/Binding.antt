-- Binding: two (group, path) pairs for one place that lead to one root are equal, or two different messages, those nearest the root, have one digest.
use Prim.Native.Nat.{ℕ, suc, ◌+◌, ◌*◌, ◌/◌, ◌%◌, ◌^◌, ◌≤◌}
use mathlib.Core.Path.{◌≡◌, refl, sym, ◌∙◌, ap, ap₂}
use mathlib.Core.Bool.{Bool, true, false}
use mathlib.Core.List.{List, [], ◌∷◌}
use native.Mathlib.Omega.{arith}
use lib.Dec.{eqb}
use lib.ListN.{length}
use Rattle.theory_laws.specs.Questions.{pick}
use Rattle.theory_laws.specs.Lists.{same}
use Rattle.theory_laws.proofs.Lists.{AllLong, same_true, same_refl}
pub use Rattle.theory_merkle.specs.Binding.{Nearest}
use Rattle.theory_merkle.specs.Digests.{DigestsLong}
use Rattle.theory_merkle.specs.Message.{leaf_message, node_message}
use Rattle.theory_merkle.specs.Tree.{group_of, left, right, leaf_digest, node_digest, climb, leaf_of, root_of_path}
use Rattle.theory_merkle.specs.Binding.{Found, none, pair, or_else, differing, last_differing, messages, messages_of, collision}
use Rattle.theory_merkle.proofs.Message.{Short, length-leaf_message, length-node_message, node_message_determines_digests, leaf_message_determines_values}
use Rattle.theory_laws.proofs.Bytes.{AllBelow}

-- two messages that differ and have one digest, nearest the end of two lists of messages
pub record Collision (H : List ℕ → List ℕ) (ms ms' : List (List ℕ)) (x x' : List ℕ) : Type 0 where
  pub differ : x ≡ x' → ⊥
  pub one_digest : H x ≡ H x'
  pub nearest : Nearest ms ms' x x'

-- what a comparison of two lists of messages says: P where it found none, else a collision
abbrev pub Says : (List ℕ → List ℕ) → List (List ℕ) → List (List ℕ) → Type 0 → Found → Type 0
Says H ms ms' P none = P
Says H ms ms' P (pair x x') = Collision H ms ms' x x'

-- the children of a node give back a digest and its sibling
apart : (g : ℕ) (d s d' s' : List ℕ) → (left g d s ≡ left g d' s') × (right g d s ≡ right g d' s') → (d ≡ d') × (s ≡ s')
apart g d s d' s' = go (eqb (g % 2) 0)
  where
    go : (b : Bool) → (pick b d s ≡ pick b d' s') × (pick b s d ≡ pick b s' d') → (d ≡ d') × (s ≡ s')
    go true e = e
    go false e = (e.1, e.0)

sides : (g : ℕ) (d s : List ℕ) → length d ≡ 32 → length s ≡ 32 → (length (left g d s) ≡ 32) × (length (right g d s) ≡ 32)
sides g d s hd hs = go (eqb (g % 2) 0)
  where
    go : (b : Bool) → (length (pick b d s) ≡ 32) × (length (pick b s d) ≡ 32)
    go true = (hd, hs)
    go false = (hs, hd)

-- the first message, where all that come after it are the same and so its digest is
first_says : (H : List ℕ → List ℕ) (m m' : List ℕ) (above above' : List (List ℕ)) (P : Type 0) → H m ≡ H m' → above ≡ above'
    → (m ≡ m' → P) → Says H (m ∷ above) (m' ∷ above') P (differing m m')
unfolding differing
first_says H m m' above above' P d e f = go (same m m') refl
  where
    go : (b : Bool) → same m m' ≡ b → Says H (m ∷ above) (m' ∷ above') P (pick b none (pair m m'))
    go true t = f (same_true m m' t)
    go false t = record {
      differ = λ z. let u : true ≡ false = sym (same_refl m') ∙ (rw z at t) in let w : ◌≡◌ {A = ℕ} 0 1 = cc in omega arith;
      one_digest = d;
      nearest = record { below = []; below' = []; above = above; first = refl; second = ap (λ (r : List (List ℕ)). m' ∷ r) (sym e); level = refl };
    }

-- a message before: where those after it say nothing, it does
step_says : (H : List ℕ → List ℕ) (m m' : List ℕ) (ms ms' : List (List ℕ)) (P Q : Type 0) (f : Found) → Says H ms ms' Q f
    → (Q → Says H (m ∷ ms) (m' ∷ ms') P (differing m m')) → Says H (m ∷ ms) (m' ∷ ms') P (or_else f (differing m m'))
step_says H m m' ms ms' P Q none q k = k q
step_says H m m' ms ms' P Q (pair x x') c k =
    record {
      differ = c.differ;
      one_digest = c.one_digest;
      nearest = record {
        below = m ∷ c.nearest.below;
        below' = m' ∷ c.nearest.below';
        above = c.nearest.above;
        first = ap (λ (r : List (List ℕ)). m ∷ r) c.nearest.first;
        second = ap (λ (r : List (List ℕ)). m' ∷ r) c.nearest.second;
        level = ap suc c.nearest.level;
      };
    }

so_says : (H : List ℕ → List ℕ) (ms ms' : List (List ℕ)) (P Q : Type 0) (f : Found) → (P → Q) → Says H ms ms' P f → Says H ms ms' Q f
so_says H ms ms' P Q none k p = k p
so_says H ms ms' P Q (pair x x') k c = c

module _ (H : List ℕ → List ℕ) (domain : List ℕ) (sized : DigestsLong H) (short : Short domain) where
  -- two ways up from one number to one digest
  pub climbs_bind : (l g : ℕ) (m m' : List ℕ) (ss ss' : List (List ℕ)) → AllLong 32 ss → AllLong 32 ss' → length ss ≡ length ss'
      → climb H domain l g (H m) ss ≡ climb H domain l g (H m') ss'
      → Says H (messages H domain l g m ss) (messages H domain l g m' ss') ((m ≡ m') × (ss ≡ ss'))
      (last_differing (messages H domain l g m ss) (messages H domain l g m' ss'))
  unfolding climb messages last_differing node_digest
  climbs_bind l g m m' [] [] a a' n e = first_says H m m' [] [] ((m ≡ m') × (◌≡◌ {A = List (List ℕ)} [] [])) e refl (λ z. (z, refl))
  climbs_bind l g m m' [] (s' ∷ ss') a a' n e = absurd (omega arith)
  climbs_bind l g m m' (s ∷ ss) [] a a' n e = absurd (omega arith)
  climbs_bind l g m m' (s ∷ ss) (s' ∷ ss') a a' n e =
      let p : List ℕ = node_message domain l (left g (H m) s) (right g (H m) s) in
      let p' : List ℕ = node_message domain l (left g (H m') s') (right g (H m') s') in
      let ms : List (List ℕ) = messages H domain (suc l) (g / 2) p ss in
      let ms' : List (List ℕ) = messages H domain (suc l) (g / 2) p' ss' in
      let x = sides g (H m) s (sized m) a.0 in
      let x' = sides g (H m') s' (sized m') a'.0 in
      step_says H m m' ms ms' ((m ≡ m') × (s ∷ ss ≡ s' ∷ ss')) ((p ≡ p') × (ss ≡ ss')) (last_differing ms ms')
      (climbs_bind (suc l) (g / 2) p p' ss ss' a.1 a'.1 (omega arith) e)
      (λ q.
      let d = apart g (H m) s (H m') s' (node_message_determines_digests domain l _ _ _ _ short x.0 x.1 x'.0 x'.1 q.0) in
      let after : ms ≡ ms' = ap₂ (λ (u : List ℕ) (us : List (List ℕ)). messages H domain (suc l) (g / 2) u us) q.0 q.1 in
      first_says H m m' ms ms' ((m ≡ m') × (s ∷ ss ≡ s' ∷ ss')) d.0 after
      (λ z. (z, ap₂ (λ (u : List ℕ) (us : List (List ℕ)). u ∷ us) d.1 q.1)))

  -- two (group, path) pairs for one place that lead to one root
  pub binding : (count width place : ℕ) (values values' : List ℕ) (ss ss' : List (List ℕ)) → AllBelow (2 ^ 128) values → AllBelow (2 ^ 128) values'
      → AllLong 32 ss → AllLong 32 ss' → length ss ≡ length ss'
      → root_of_path H domain count width place values ss ≡ root_of_path H domain count width place values' ss'
      → Says H (messages_of H domain count width place values ss) (messages_of H domain count width place values' ss') ((values ≡ values') × (ss ≡ ss'))
      (collision H domain count width place values ss values' ss')
  unfolding root_of_path leaf_of leaf_digest collision messages_of
  binding count width place values values' ss ss' b b' a a' n e =
      let g : ℕ = group_of place width in
      let m : List ℕ = leaf_message domain count width g values in
      let m' : List ℕ = leaf_message domain count width g values' in
      so_says H (messages H domain 0 g m ss) (messages H domain 0 g m' ss') ((m ≡ m') × (ss ≡ ss')) ((values ≡ values') × (ss ≡ ss'))
      (last_differing (messages H domain 0 g m ss) (messages H domain 0 g m' ss'))
      (λ q. (leaf_message_determines_values domain count width g values values' b b' q.0, q.1))
      (climbs_bind 0 g m m' ss ss' a a' n e)

-- ---- what is found

-- nothing, of two lists that are the same
pub last_differing-same : (ms : List (List ℕ)) → last_differing ms ms ≡ none
unfolding last_differing differing
last_differing-same [] = refl
last_differing-same (m ∷ ms) = rw (last_differing-same ms, same_refl m)

pub collision-same : (H : List ℕ → List ℕ) (domain : List ℕ) (count width place : ℕ) (values : List ℕ) (ss : List (List ℕ))
    → collision H domain count width place values ss values ss ≡ none
unfolding collision
collision-same H domain count width place values ss = last_differing-same (messages_of H domain count width place values ss)

-- every message is at most n long
abbrev pub AllWithin : ℕ → List (List ℕ) → Type 0
AllWithin n [] = Unit
AllWithin n (m ∷ ms) = (length m ≤ n) × AllWithin n ms

-- messages that are found are at most as long as the longest
abbrev pub FoundWithin : ℕ → Found → Type 0
FoundWithin n none = Unit
FoundWithin n (pair x x') = (length x ≤ n) × (length x' ≤ n)

or_else-within : (n : ℕ) (f f' : Found) → FoundWithin n f → FoundWithin n f' → FoundWithin n (or_else f f')
or_else-within n none f' a b = b
or_else-within n (pair x x') f' a b = a

differing-within : (n : ℕ) (m m' : List ℕ) → length m ≤ n → length m' ≤ n → FoundWithin n (differing m m')
unfolding differing
differing-within n m m' a b = go (same m m')
  where
    go : (b : Bool) → FoundWithin n (pick b none (pair m m'))
    go true = tt
    go false = (a, b)

last_differing-within : (n : ℕ) (ms ms' : List (List ℕ)) → AllWithin n ms → AllWithin n ms' → FoundWithin n (last_differing ms ms')
unfolding last_differing
last_differing-within n [] ms' a b = tt
last_differing-within n (m ∷ ms) [] a b = tt
last_differing-within n (m ∷ ms) (m' ∷ ms') a b =
    or_else-within n (last_differing ms ms') (differing m m') (last_differing-within n ms ms' a.1 b.1) (differing-within n m m' a.0 b.0)

module _ (H : List ℕ → List ℕ) (domain : List ℕ) (sized : DigestsLong H) where
  messages-within : (n l g : ℕ) (m : List ℕ) (ss : List (List ℕ)) → 136 + length domain ≤ n → length m ≤ n → AllLong 32 ss
      → AllWithin n (messages H domain l g m ss)
  unfolding messages
  messages-within n l g m [] d k a = (k, tt)
  messages-within n l g m (s ∷ ss) d k a =
      let x = sides g (H m) s (sized m) a.0 in
      let e = length-node_message domain l (left g (H m) s) (right g (H m) s) x.0 x.1 in
      (k, messages-within n (suc l) (g / 2) (node_message domain l (left g (H m) s) (right g (H m) s)) ss d (omega arith) a.1)

  pub collision-within : (n count width place : ℕ) (values values' : List ℕ) (ss ss' : List (List ℕ))
      → 136 + length domain ≤ n → 97 + length domain + 16 * width ≤ n → length values ≡ width → length values' ≡ width
      → AllLong 32 ss → AllLong 32 ss' → FoundWithin n (collision H domain count width place values ss values' ss')
  unfolding collision messages_of
  collision-within n count width place values values' ss ss' d k v v' a a' =
      let g : ℕ = group_of place width in
      let e = length-leaf_message domain count width g values v in
      let e' = length-leaf_message domain count width g values' v' in
      let m = leaf_message domain count width g values in
      let m' = leaf_message domain count width g values' in
      last_differing-within n (messages H domain 0 g m ss) (messages H domain 0 g m' ss')
      (messages-within n 0 g m ss d (omega arith) a) (messages-within n 0 g m' ss' d (omega arith) a')
