-- A level of four ways: the messages that are hashed, and what is left of each way.
use Prim.Native.Nat.{ℕ, ◌+◌, ◌-◌, ◌*◌, ◌/◌, ◌^◌, ◌<◌, ◌≤◌}
use mathlib.Core.Path.{◌≡◌, refl, sym, ◌∙◌, ap}
use mathlib.Core.Logic.{⊎_elim}
use mathlib.Core.List.{List, ◌++◌}
use native.Mathlib.Nat.{div-div-eq-div-mul, div-one, pow-suc}
use native.Mathlib.Numerals.{add-one}
use native.Mathlib.Omega.{arith}
use borrow.Author.Tests.{lt-ltb, le-ltb}
use lib.Dec.{ltb}
use lib.ListN.{length, take, drop}
use lib.Seq.{take_at, take-take}
use Rattle.theory_laws.specs.Lists.{part, runs}
use Rattle.theory_laws.specs.Questions.{pick}
use Rattle.theory_laws.proofs.Lists.{length_part}
use Rattle.theory_laws.proofs.Numbers.{lt_or_le}
use Rattle.theory_blake3.specs.declared.Mode.{Mode}
use Rattle.theory_merkle.specs.Tree.{node_digest, climb}
use Rattle.hash_four_lanes.specs.helpers.Lane as X
use Rattle.bytes_reader.specs.Windows.{window, window_at}
use Rattle.bytes_reader.proofs.Windows.{digest-read}
use Rattle.hash_chunk.specs.helpers.Blocks.{first_blocks}
use Rattle.hash_chunk.proofs.Blocks.{first_blocks-append}
use Rattle.tree_four_messages.specs.helpers.Strides.{Each, Begun}
use Rattle.tree_walk.proofs.Climb.{climb_from, climb_begin, climb-step, climb_end}
use Rattle.tree_digest.specs.helpers.Begun.{node_front}
use Rattle.tree_digest.proofs.Front.{length-node_front}
use Rattle.tree_four_ways.specs.helpers.Ways.{node_end, domain_of}
use Rattle.tree_four_ways.proofs.Ways.{message_of}

-- ---- the four messages

part-front : (p n i : ℕ) (l : List ℕ) → part p i l ≡ take p (part (p + n) i l)
unfolding part
part-front p n i l = sym (take-take p (p + n) (drop i l) (omega arith))

pub fronts_long : (domains : List ℕ) (size k : ℕ) → size ≤ 255 → 1024 ≤ length domains → k < 4 → length (node_front (domain_of domains size k)) ≡ 48 + size
fronts_long domains size k le long lt =
    length-node_front (domain_of domains size k) ∙ ap (λ i. 48 + i) (length_part size (256 * k) domains (omega arith))

module _ (p n : ℕ) (f g : ℕ → List ℕ) (m m' : List ℕ) (fronts : Each p m f) (filled : Each (p + n) m' (λ k. part p (1024 * k) m ++ g k)) where
  -- each is its front and what follows
  pub whole-messages : Each (p + n) m' (λ k. f k ++ g k)
  whole-messages k h = filled k h ∙ ap (λ (l : List ℕ). l ++ g k) (fronts k h)

  -- the fronts are kept
  pub fronts_kept : ((k : ℕ) → k < 4 → length (f k) ≡ p) → Each p m' f
  fronts_kept long k h = part-front p n (1024 * k) m' ∙ ap (take p) (whole-messages k h) ∙ take_at (f k) (g k) p (long k h)

-- they are hashed from the whole blocks of their fronts on
pub from_fronts : (mode : Mode) (p n : ℕ) (f g : ℕ → List ℕ) (h m₀ m' : List ℕ) → Each p m₀ f → ((k : ℕ) → k < 4 → length (f k) ≡ p)
    → X.Each 8 h (λ k. first_blocks mode.key mode.flags (p / 64) (part p (1024 * k) m₀)) → Each (p + n) m' (λ k. f k ++ g k)
    → 0 < n → p + n ≤ 1024 → 4096 ≤ length m' → Begun mode (X.lane 8 h) (p / 64) (p + n) m'
from_fronts mode p n f g h m₀ m' fronts long begun whole some fits room = record {
  chunk = fits;
  followed = omega arith;
  room = room;
  value = λ k b.
      begun k b ∙ ap (first_blocks mode.key mode.flags (p / 64)) (fronts k b)
      ∙ sym (first_blocks-append mode.key mode.flags (p / 64) (f k) (g k) (omega (arith, long k b)))
      ∙ ap (first_blocks mode.key mode.flags (p / 64)) (sym (whole k b));
}

-- ---- a level of one way

pub way_begin : (H : List ℕ → List ℕ) (domain s : List ℕ) (from depth g : ℕ) (d : List ℕ)
    → climb_from H domain s from depth 0 (g / 2 ^ 0) d ≡ climb H domain 0 g d (runs 32 depth (drop from s))
way_begin H domain s from depth g d =
    ap (λ x. climb_from H domain s from depth 0 x d) (div-one g) ∙ climb_begin H domain s from depth g d

halved : (g level : ℕ) → g / 2 ^ (level + 1) ≡ g / 2 ^ level / 2
halved g level = sym (div-div-eq-div-mul g (2 ^ level) 2 ∙ ap (λ x. g / x) (let z : 2 ^ level * 2 ≡ 2 ^ (level + 1) = rw add-one (sym (pow-suc 2 level)) in z))

climb_still : (H : List ℕ → List ℕ) (domain s : List ℕ) (from depth l g h : ℕ) (d r : List ℕ) → climb_from H domain s from depth l g d ≡ r → depth ≤ l
    → climb_from H domain s from depth (l + 1) h d ≡ r
unfolding climb_from climb runs
climb_still H domain s from depth l g h d r f le =
    let z : depth - (l + 1) ≡ 0 = omega arith in
    rw z (climb_end H domain s from depth l g d r f le)

module _ (H : List ℕ → List ℕ) (domain s : List ℕ) (from depth level g : ℕ) (d new d' r : List ℕ) (there : from + 32 * depth ≤ length s)
    (old : climb_from H domain s from depth level (g / 2 ^ level) d ≡ r)
    (hashed : new ≡ H (node_front domain ++ node_end level (g / 2 ^ level) d (window s (from + 32 * level))))
    (settled : d' ≡ pick (ltb level depth) new d) where
  goes_on : level < depth → climb_from H domain s from depth (level + 1) (g / 2 ^ (level + 1)) d' ≡ r
  unfolding window_at node_digest
  goes_on lt =
      let h : ℕ = g / 2 ^ level in
      let e : List ℕ = window s (from + 32 * level) in
      climb-step H domain s from depth level h (g / 2 ^ (level + 1)) d e d' r old
      ((rw (lt-ltb level depth lt) at settled) ∙ hashed ∙ ap H (message_of domain level h d e))
      (digest-read s (from + 32 * level) (window_at s (from + 32 * level)) (omega arith) refl) lt (halved g level)

  stays : depth ≤ level → climb_from H domain s from depth (level + 1) (g / 2 ^ (level + 1)) d' ≡ r
  stays le =
      let same : d' ≡ d = rw (le-ltb level depth le) at settled in
      ap (climb_from H domain s from depth (level + 1) (g / 2 ^ (level + 1))) same
      ∙ climb_still H domain s from depth level (g / 2 ^ level) (g / 2 ^ (level + 1)) d r old le

  -- one more level leaves the same root to be found
  pub way_step : climb_from H domain s from depth (level + 1) (g / 2 ^ (level + 1)) d' ≡ r
  way_step = ⊎_elim goes_on stays (lt_or_le level depth)
