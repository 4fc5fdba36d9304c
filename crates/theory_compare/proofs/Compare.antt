-- Comparing two accepted query records, with buffers of 1,024 bytes, gives 33 exactly when they are equal bytes; else 0, and the two messages,
-- each to its length in its buffer, differ and have one digest. Rests on what is found of them.
use Prim.Native.Nat.{ℕ, ◌-◌, ◌≤◌}
use mathlib.Core.Path.{◌≡◌, refl, sym, ◌∙◌, ap}
use mathlib.Core.Logic.{◌⊎◌, inl, inr}
use mathlib.Core.Bool.{Bool, true, false, not}
use mathlib.Core.List.{List}
use native.Mathlib.Omega.{arith}
use borrow.Author.Tests.{eq-eqb, le-leb, lt-ltb}
use lib.ListN.{length, take, replicate}
use lib.Seq.{take_at}
use Rattle.theory_laws.specs.Questions.{pick}
use Rattle.theory_laws.specs.Lists.{same}
use Rattle.theory_laws.proofs.Lists.{Bytes, same_true, same_refl}
use Rattle.theory_merkle.specs.Digests.{DigestsLong}
use Rattle.theory_merkle.specs.Binding.{Found, none, pair}
use Rattle.theory_record.specs.Query.{check_query}
use Rattle.theory_record.proofs.Widths.{PowersOfTwo}
use Rattle.theory_record.proofs.Query.{QueryAccepted, query_accepted, query_zero}
use Rattle.theory_compare.specs.Compare.{records_found, in_buffer, accepts, Comparison, compare_number, compared, first_message, second_message}
use Rattle.theory_compare.specs.Compare.{longest_leaf, message_buffer}
use Rattle.theory_compare.specs.Nearest.{NearestRoot}
use Rattle.theory_compare.proofs.Found.{Tells, records_tell}
use Rattle.theory_record.specs.Scheme.{Scheme}

-- a message is the first bytes of its buffer
pub message_in_buffer : (m : List ℕ) → take (length m) (in_buffer m) ≡ m
unfolding in_buffer
message_in_buffer m = take_at m (replicate (message_buffer - length m) 0) (length m) refl

unequal : (u v : List ℕ) → same u v ≡ false → u ≡ v → ⊥
unequal u v z e = let t : true ≡ false = sym (same_refl v) ∙ (rw e at z) in let w : ◌≡◌ {A = ℕ} 0 1 = cc in omega arith

module _ (S : Scheme) (position : ℕ) (challenges roots u v old old' : List ℕ) where
  open S use {digest as H, widths as s}

  -- the messages, each to its length in its buffer
  abbrev pub found : List ℕ
  found = take (compared S position challenges roots u v old old').first (first_message S position challenges roots u v old old')

  abbrev pub found' : List ℕ
  found' = take (compared S position challenges roots u v old old').second (second_message S position challenges roots u v old old')

  -- what comparing gives for equal records: 33
  pub record Equal : Type 0 where
    pub are_same : u ≡ v
    pub gives_33 : (compared S position challenges roots u v old old').number ≡ 33

  -- and for others: 0, and two messages, of the lengths given, that differ and have one digest
  pub record Different : Type 0 where
    pub are_not : u ≡ v → ⊥
    pub gives_0 : (compared S position challenges roots u v old old').number ≡ 0
    pub first-long : length found ≡ (compared S position challenges roots u v old old').first
    pub second_long : length found' ≡ (compared S position challenges roots u v old old').second
    pub differ : found ≡ found' → ⊥
    pub one_digest : H found ≡ H found'
    pub first_fits : length found ≤ message_buffer
    pub second_fits : length found' ≤ message_buffer
    pub nearest : NearestRoot S position u v found found'

  -- where every other question has its yes, 33 decides
  number_is : QueryAccepted S position challenges roots u → (check_query S position challenges roots u).number ≡ 0
      → (check_query S position challenges roots v).number ≡ 0 → length old ≡ message_buffer → length old' ≡ message_buffer
      → compare_number S position challenges roots u v old old' ≡ pick (not (same u v)) 0 33
  unfolding compare_number accepts
  number_is h eu ev e e' =
      let r = h.ranges in
      rw (
        le-leb _ _ r.sizes.n_most,
        le-leb _ _ r.sizes.k_most,
        le-leb _ _ r.sizes.n_least,
        eq-eqb _ _ r.challenges_long,
        eq-eqb _ _ r.roots_long,
        eq-eqb _ _ e,
        eq-eqb _ _ e',
        le-leb _ _ r.base_short,
        lt-ltb _ _ h.position_low,
        eq-eqb _ _ eu,
        eq-eqb _ _ ev,
      )

  -- what the three answers are, by the number and what is found
  answers_33 : compare_number S position challenges roots u v old old' ≡ 33 → (compared S position challenges roots u v old old').number ≡ 33
  unfolding compared
  answers_33 e = rw e

  answers_0 : (m m' : List ℕ) → compare_number S position challenges roots u v old old' ≡ 0 → records_found S position u v ≡ pair m m'
      → (compared S position challenges roots u v old old' ≡ record { number = 0; first = length m; second = length m' }) × ((found ≡ m) × (found' ≡ m'))
  unfolding compared first_message second_message
  answers_0 m m' e f = rw (e, f) (refl, (message_in_buffer m, message_in_buffer m'))

  -- two records that are accepted for one position, and buffers with room for the longest message
  pub compare_accepted : DigestsLong H → PowersOfTwo s → longest_leaf s ≤ message_buffer → Bytes u → Bytes v
      → length old ≡ message_buffer → length old' ≡ message_buffer
      → (check_query S position challenges roots u).number ≡ 0 → (check_query S position challenges roots v).number ≡ 0 → Equal ⊎ Different
  compare_accepted sized p room bu bv e e' eu ev =
      let hu = query_accepted S position challenges roots u (query_zero S position challenges roots u eu) in
      let hv = query_accepted S position challenges roots v (query_zero S position challenges roots v ev) in
      go (same u v) refl (number_is hu eu ev e e') (records_found S position u v) refl
      (records_tell S sized p room hu.ranges.base_short position challenges roots u v bu bv hu hv)
    where
      go : (b : Bool) → same u v ≡ b → compare_number S position challenges roots u v old old' ≡ pick (not b) 0 33
          → (f : Found) → records_found S position u v ≡ f → Tells H (u ≡ v) (NearestRoot S position u v) f → Equal ⊎ Different
      go true z c f ef t = inl (record { are_same = same_true u v z; gives_33 = answers_33 c })
      go false z c none ef t = absurd (unequal u v z t)
      go false z c (pair m m') ef t =
          let a = answers_0 m m' c ef in
          inr (record {
            are_not = unequal u v z;
            gives_0 = ap (λ (r : Comparison). r.number) a.0;
            first-long = ap length a.1.0 ∙ ap (λ (r : Comparison). r.first) (sym a.0);
            second_long = ap length a.1.1 ∙ ap (λ (r : Comparison). r.second) (sym a.0);
            differ = λ d. t.0.differ (sym a.1.0 ∙ d ∙ a.1.1);
            one_digest = ap H a.1.0 ∙ t.0.one_digest ∙ ap H (sym a.1.1);
            first_fits = rw a.1.0 t.0.first_fits;
            second_fits = rw a.1.1 t.0.second_fits;
            nearest = rw (a.1.0, a.1.1) t.1;
          })
