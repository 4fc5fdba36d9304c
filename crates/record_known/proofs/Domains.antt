-- Four domains put one after the other in strides of 256 bytes.
use Prim.Native.Nat.{ℕ, ◌+◌, ◌*◌, ◌≤◌, ◌<◌}
use mathlib.Core.Path.{◌≡◌, sym, ◌∙◌, ap}
use mathlib.Core.Logic.{⊎_elim}
use mathlib.Core.List.{List}
use native.Mathlib.Nat.{eq-or-lt_of_le}
use native.Mathlib.Omega.{arith}
use lib.ListN.{length, take, drop}
use lib.Seq.{take_at}
use Rattle.theory_laws.specs.Lists.{part, stored}
use Rattle.theory_laws.proofs.Lists.{drop-stored}
use Rattle.theory_record.specs.Domain.{level_domain}
use Rattle.bytes_numbers.specs.helpers.Put.{Put}
use Rattle.tree_four_messages.proofs.Filling.{part-before}
use Rattle.tree_four_ways.proofs.Ways.{part-stored}
use Rattle.record_known.specs.helpers.Domains.{level_in, domain_size, DomainsFit, DomainsStand}
use Rattle.record_known.proofs.LevelDomains.{one-length, size-most}

-- the domains of the first k lanes stand
pub record FirstStand (base : List ℕ) (e last size : ℕ) (out : List ℕ) (k : ℕ) : Type 0 where
  pub stands : (j : ℕ) → j < k → part size (256 * j) out ≡ level_domain base (level_in e last j)

pub none_stand : (base : List ℕ) (e last size : ℕ) (out : List ℕ) → FirstStand base e last size out 0
none_stand base e last size out = record { stands = λ j h. absurd (omega arith) }

pub all_stand : (base : List ℕ) (e last size : ℕ) (out : List ℕ) (k : ℕ) → 4 ≤ k → size ≤ 209 → FirstStand base e last size out k
    → DomainsStand base e last size out
all_stand base e last size out k h short f = record { short = short; stands = λ j g. f.stands j (omega arith) }

-- the domain of lane k, at the front of its own buffer
pub record Laid (base : List ℕ) (e last size k : ℕ) (d : List ℕ) : Type 0 where
  pub domain : d ≡ level_domain base (level_in e last k)
  pub long : length d ≡ size

pub laid : (base : List ℕ) (e last size out k l : ℕ) (b b' : List ℕ) (next : ℕ) → DomainsFit base e last out → l ≡ level_in e last k
    → size ≡ domain_size (length base) e → length b ≡ 209 → Put b 0 (length (level_domain base l)) (level_domain base l) b' next
    → Laid base e last size k (take size b')
laid base e last size out k l b b' next f el es eb p =
    let bs : List ℕ = level_domain base l in
    let long : length bs ≡ size = ap (λ (i : ℕ). length (level_domain base i)) el ∙ one-length base e last out k f ∙ sym es in
    let most : size ≤ 209 = rw es (size-most (length base) e f.base_short) in
    let front : take size b' ≡ bs =
    ap (take size) (p.bytes ∙ drop-stored b 0 bs (omega arith)) ∙ take_at bs (drop (0 + length bs) b) size long in
    record { domain = front ∙ ap (level_domain base) el; long = ap length front ∙ long }

pub one-more-stands : (base : List ℕ) (e last size k i n : ℕ) (d r r' : List ℕ) (next : ℕ) → k < 4 → 1024 ≤ length r → size ≤ 209 → i ≡ 256 * k
    → Laid base e last size k d → Put r i n d r' next → FirstStand base e last size r k → FirstStand base e last size r' (k + 1)
one-more-stands base e last size k i n d r r' next lt room small ei one p f =
    let l : length d ≡ size = one.long in
    let z : r' ≡ stored r (256 * k) d = p.bytes ∙ ap (λ x. stored r x d) ei in
    record {
      stands = λ j h.
          ⊎_elim
          (λ (q : j ≡ k). rw q (ap (part size (256 * k)) z ∙ ap (λ x. part x (256 * k) (stored r (256 * k) d)) (sym l)
          ∙ part-stored (256 * k) r d (omega arith) ∙ one.domain))
          (λ (a : j < k). ap (part size (256 * j)) z ∙ part-before size (256 * j) r (256 * k) d (omega arith) ∙ f.stands j a)
          (eq-or-lt_of_le {n = j} {m = k} (omega arith));
    }
