-- Four messages laid in their strides, level after level, and the digests of four ways.
use Prim.Native.Nat.{ℕ, ◌+◌, ◌-◌, ◌*◌, ◌<◌, ◌≤◌}
use mathlib.Core.Path.{◌≡◌, refl, sym, ◌∙◌, ap}
use mathlib.Core.Logic.{⊎_elim}
use mathlib.Core.List.{List, ◌++◌, append_assoc}
use native.Mathlib.Nat.{eq-or-lt_of_le}
use native.Mathlib.Omega.{arith}
use lib.Dec.{ltb}
use lib.ListN.{length, take, drop}
use lib.Seq.{take_at}
use Rattle.theory_laws.specs.Lists.{part, stored, le_bytes}
use Rattle.theory_laws.specs.Questions.{pick}
use Rattle.theory_laws.proofs.Lists.{drop-stored, length_part, lent-part}
use Rattle.theory_merkle.specs.Message.{prefixed, node_prefix, node_message}
use Rattle.theory_merkle.specs.Tree.{left, right}
use Rattle.theory_merkle.proofs.Message.{node_message-is, length-node_prefix}
use Rattle.bytes_reader.specs.Windows.{window, window_at}
use Rattle.bytes_reader.specs.declared.Window.{Window}
use Rattle.bytes_numbers.specs.helpers.Put.{Put}
use Rattle.bytes_numbers.proofs.Stores.{then_put, same_put}
use Rattle.tree_four_messages.specs.helpers.Strides.{Each}
use Rattle.tree_four_messages.proofs.Filling.{part-before}
use Rattle.tree_digest.specs.helpers.Begun.{node_front}
use Rattle.tree_digest.proofs.Front.{length-node_front, front-first}
use Rattle.tree_four_ways.specs.helpers.Ways.{node_end, domain_of, digest_of}

-- ---- what follows the front of a message

pub node_end_put : (o : List ℕ) (to level g n : ℕ) (d other l r o1 o2 : List ℕ) (j k : ℕ) → n ≡ g → l ≡ left n d other → r ≡ right n d other
    → Put o to 8 (le_bytes 8 level) o1 j → Put o1 j 80 (prefixed l ++ prefixed r) o2 k → Put o to 88 (node_end level g d other) o2 k
unfolding node_end
node_end_put o to level g n d other l r o1 o2 j k en el er a b =
    same_put o to _ 88 _ (node_end level g d other) o2 k (omega arith) (rw (el, er, en))
    (then_put o to _ _ o1 j _ _ o2 k a b)

-- as lane k has it
pub lane_end_put : (m : List ℕ) (to n level g g' i i' k : ℕ) (d s digests m' : List ℕ) (w : Window) {next : ℕ} → g ≡ g' → i ≡ i' → w ≡ window_at s i
    → d ≡ part 32 (32 * k) digests
    → Put m to n (node_end level g d w.bytes) m' next → Put m to n (node_end level g' (digest_of digests k) (window s i')) m' next
unfolding window_at
lane_end_put m to n level g g' i i' k d s digests m' w eg ei ew ed p = rw (ew, ed, eg, ei) at p

-- ---- fronts

-- the front of a prefix that was written at the front of a buffer
pub front-taken : (domain front front' : List ℕ) (n next size : ℕ) → length domain ≡ size → size ≤ 255 → length front ≡ 311
    → Put front 0 n (node_prefix domain 0) front' next → take (48 + size) front' ≡ node_front domain
front-taken domain front front' n next size es le room p =
    let rest : List ℕ = drop (0 + length (node_prefix domain 0)) front in
    let a : stored front 0 (node_prefix domain 0) ≡ node_prefix domain 0 ++ rest =
    drop-stored front 0 (node_prefix domain 0) (omega (arith, length-node_prefix domain 0)) in
    ap (take (48 + size))
    (p.bytes ∙ a ∙ ap (λ (l : List ℕ). l ++ rest) (front-first domain 0) ∙ append_assoc (node_front domain) (le_bytes 8 0) rest)
    ∙ take_at (node_front domain) (le_bytes 8 0 ++ rest) (48 + size) (length-node_front domain ∙ ap (λ i. 48 + i) es)

-- the domain of lane k, as it is lent
pub lent-domain : (domains : List ℕ) (from size k : ℕ) → from ≡ 256 * k → take (from + size - from) (drop from domains) ≡ part size (256 * k) domains
lent-domain domains from size k e = lent-part size from domains ∙ ap (λ i. part size i domains) e

module _ (domains front front' : List ℕ) (n next from size k : ℕ) (e : from ≡ 256 * k) (lt : k < 4) (le : size ≤ 255) (long : 1024 ≤ length domains)
    (room : length front ≡ 311) (p : Put front 0 n (node_prefix (take (from + size - from) (drop from domains)) 0) front' next) where
  front_of : take (48 + size) front' ≡ node_front (domain_of domains size k)
  front_of =
      front-taken _ front front' n next size (ap length (lent-domain domains from size k e) ∙ length_part size (256 * k) domains (omega arith)) le room p
      ∙ ap node_front (lent-domain domains from size k e)

  pub front_length : length (take (48 + size) front') ≡ 48 + size
  front_length =
      ap length front_of ∙ length-node_front (domain_of domains size k)
      ∙ ap (λ i. 48 + i) (length_part size (256 * k) domains (omega arith))

  pub front_put : (m : List ℕ) (to : ℕ) (m' : List ℕ) (end : ℕ) → Put m to (length (take (48 + size) front')) (take (48 + size) front') m' end
      → Put m to (48 + size) (node_front (domain_of domains size k)) m' end
  front_put m to m' end q = same_put m to _ (48 + size) _ (node_front (domain_of domains size k)) m' end front_length front_of q

pub message_of : (domain : List ℕ) (level g : ℕ) (d other : List ℕ)
    → node_front domain ++ node_end level g d other ≡ node_message domain level (left g d other) (right g d other)
unfolding node_end
message_of domain level g d other =
    sym (node_message-is domain level (left g d other) (right g d other)
    ∙ ap (λ (p : List ℕ). p ++ (prefixed (left g d other) ++ prefixed (right g d other))) (front-first domain level)
    ∙ append_assoc (node_front domain) (le_bytes 8 level) (prefixed (left g d other) ++ prefixed (right g d other)))

-- ---- digests

pub part-stored : (i : ℕ) (l bs : List ℕ) → i + length bs ≤ length l → part (length bs) i (stored l i bs) ≡ bs
unfolding part
part-stored i l bs h = ap (take (length bs)) (drop-stored l i bs h) ∙ take_at bs (drop (i + length bs) l) (length bs) refl

pub digests-step : (f : ℕ → List ℕ) (k i n : ℕ) (d r r' : List ℕ) (next : ℕ) → k < 4 → length r ≡ 128 → length d ≡ 32 → i ≡ 32 * k → d ≡ f k
    → Put r i n d r' next → ((j : ℕ) → j < k → digest_of r j ≡ f j) → (j : ℕ) → j < k + 1 → digest_of r' j ≡ f j
digests-step f k i n d r r' next lt room long ei ed p old j h =
    let z : r' ≡ stored r (32 * k) d = p.bytes ∙ ap (λ x. stored r x d) ei in
    ⊎_elim
    (λ (q : j ≡ k). rw q (ap (part 32 (32 * k)) z ∙ ap (λ x. part x (32 * k) (stored r (32 * k) d)) (sym long)
    ∙ part-stored (32 * k) r d (omega arith) ∙ ed))
    (λ (a : j < k). ap (part 32 (32 * j)) z ∙ part-before 32 (32 * j) r (32 * k) d (omega arith) ∙ old j a)
    (eq-or-lt_of_le {n = j} {m = k} (omega arith))

pub chosen_is : (level depth : ℕ) (r new old x y : List ℕ) → r ≡ pick (ltb level depth) new old → new ≡ x → old ≡ y → r ≡ pick (ltb level depth) x y
chosen_is level depth r new old x y e f g = rw (f, g) at e

-- fronts that begin each message
pub strides_front : (m₀ m : List ℕ) (n : ℕ) (f : ℕ → List ℕ) → Each (0 + n) m (λ j. part 0 (1024 * j) m₀ ++ f j) → Each n m f
unfolding part
strides_front m₀ m n f h k lt = let z : 0 + n ≡ n = omega arith in rw z at (h k lt)
