-- Question 13: the number 0 says that the counters agree and that there is room.
use mathlib.Core.Path.{◌≡◌, refl, sym, ap}
use Rattle.std.specs.Prelude.{Ok, Err}
use mathlib.Core.Logic.{◌⊎◌, ⊎_elim}
use mathlib.Core.List.{List}
use Prim.Native.Nat.{ℕ, ◌+◌, ◌*◌, min}
use borrow.Author.Tests.{leb-true, eqb-true, le-leb, eq-eqb}
use lib.Count.{ones}
use lib.ListN.{length}
use Rattle.theory_laws.proofs.Questions.{all_yes, one_number}
use Rattle.hash_hasher.specs.declared.hasher.Hasher.{Hasher}
use Rattle.theory_laws.specs.Refusals as no
use Rattle.theory_laws.specs.declared.Refusal.{Refusal}
use Rattle.theory_laws.proofs.Refusals.{not-done}
use Rattle.hash_hasher.specs.Whole.{most_bytes, digested}
use Rattle.hash_hasher.specs.Hasher.{questions, number_of, absorbed, updated, update_of, finished, finalize_of}
use Rattle.hash_hasher.specs.helpers.Counts.{Ready}

pub ready : (s : Hasher) (n : ℕ) → number_of s n ≡ 0 → Ready s n
unfolding number_of
ready s n e =
    let y = all_yes (questions s n) tt e in
    record {
      counts = record {
        small = leb-true (s.len + n) most_bytes y.0;
        low = leb-true s.chunk.blocks 15 y.1.0;
        within = leb-true s.chunk.fill 64 y.1.1.0;
        sum = eqb-true s.len (1024 * s.chunk.counter + 64 * s.chunk.blocks + s.chunk.fill) y.1.1.1.0;
        deep = eqb-true s.stack.depth (ones s.chunk.counter) y.1.1.1.1.1.0;
      };
      some = leb-true (min 1 s.len) s.chunk.fill y.1.1.1.1.0;
    }

-- and the other way round
pub ready-number : (s : Hasher) (n : ℕ) → Ready s n → number_of s n ≡ 0
unfolding number_of
ready-number s n r =
    let c = r.counts in
    rw (
      le-leb (s.len + n) most_bytes c.small,
      le-leb s.chunk.blocks 15 c.low,
      le-leb s.chunk.fill 64 c.within,
      eq-eqb s.len (1024 * s.chunk.counter + 64 * s.chunk.blocks + s.chunk.fill) c.sum,
      le-leb (min 1 s.len) s.chunk.fill r.some,
      eq-eqb s.stack.depth (ones s.chunk.counter) c.deep,
    )

-- every refusal has the number 13
thirteen : (s : Hasher) (n : ℕ) → (number_of s n ≡ 0) ⊎ (number_of s n ≡ 13)
unfolding number_of
thirteen s n = one_number 13 (questions s n) (refl, (refl, (refl, (refl, (refl, (refl, tt))))))

pub refused : (s : Hasher) (n : ℕ) → (Ready s n → ⊥) → 13 ≡ number_of s n
refused s n f = ⊎_elim (λ (e : number_of s n ≡ 0). absurd (f (ready s n e))) (λ (e : number_of s n ≡ 13). sym e) (thirteen s n)

-- ---- what the calls answer

module _ (s : Hasher) (bs : List ℕ) where
  pub update_refused : (e : Refusal) → no.number_of e ≡ number_of s (length bs) → updated s (Err e) ≡ update_of s bs
  unfolding update_of
  update_refused e q = rw (← q, not-done e)

  pub update_done : {t : Hasher} → 0 ≡ number_of s (length bs) → t ≡ absorbed s bs → updated s (Ok t) ≡ update_of s bs
  unfolding update_of
  update_done q f = rw (← q) (ap (λ (t : Hasher). record { number = 0; state = t }) f)

module _ (s : Hasher) where
  pub finalize_refused : (e : Refusal) → no.number_of e ≡ number_of s 0 → digested (Err e) ≡ finalize_of s
  unfolding finalize_of
  finalize_refused e q = rw (← q, not-done e)

  pub finalize_done : {bytes : List ℕ} → 0 ≡ number_of s 0 → bytes ≡ finished s → digested (Ok bytes) ≡ finalize_of s
  unfolding finalize_of
  finalize_done q f = rw (← q) (ap (λ (bs : List ℕ). record { number = 0; bytes = bs }) f)
