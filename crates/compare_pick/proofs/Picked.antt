-- What was picked of two messages, and of two places that are looked at one after the other.
use Prim.Native.Nat.{ℕ, ◌+◌, ◌-◌, ◌≤◌}
use mathlib.Core.Path.{◌≡◌, refl, sym, ◌∙◌, ap, ap₂}
use mathlib.Core.Bool.{Bool, true, false}
use Rattle.std.specs.Prelude.{Option, Some, None, MatchOption}
use Rattle.std.specs.Option.{unwrap_or}
use mathlib.Core.List.{List}
use native.Mathlib.Omega.{arith}
use lib.ListN.{length, take, drop}
use Rattle.theory_laws.specs.Lists.{part, same}
use Rattle.theory_laws.proofs.Lists.{length_part}
use Rattle.theory_merkle.specs.Binding.{Found, none, pair, or_else, differing}
use Rattle.theory_compare.specs.Compare.{in_buffer, first_of, second_of, first_buffer, second_buffer}
use Rattle.compare_pick.specs.helpers.Chains.{IsLong, Picked}

-- ---- the messages at one place of two chains, which code reads up to from + len

between : (from len : ℕ) (a : List ℕ) → take (from + len - from) (drop from a) ≡ part len from a
unfolding part
between from len a = ap (λ (i : ℕ). take i (drop from a)) (let z : from + len - from ≡ len = omega arith in z)

same-between : (from len : ℕ) (a b : List ℕ) (q t : Bool) → q ≡ same (take (from + len - from) (drop from a)) (take (from + len - from) (drop from b)) → q ≡ t
    → same (part len from a) (part len from b) ≡ t
same-between from len a b q t e f = ap₂ same (sym (between from len a)) (sym (between from len b)) ∙ sym e ∙ f

-- they are the same
pub picked_same : (from len : ℕ) (a b old old' : List ℕ) (q : Bool) → q ≡ same (take (from + len - from) (drop from a)) (take (from + len - from) (drop from b))
    → q ≡ true
    → Picked (differing (part len from a) (part len from b)) old old' old old' None
unfolding differing
picked_same from len a b old old' q e t =
    rw (same-between from len a b q true e t) (record { first-is = refl; second_is = refl; answer = refl })

-- or they are not
pub picked_differ : (from len : ℕ) (a b old old' new new' : List ℕ) (q : Bool)
    → q ≡ same (take (from + len - from) (drop from a)) (take (from + len - from) (drop from b)) → q ≡ false
    → new ≡ in_buffer (take (from + len - from) (drop from a)) → new' ≡ in_buffer (take (from + len - from) (drop from b)) → from + len ≤ length a
    → from + len ≤ length b
    → Picked (differing (part len from a) (part len from b)) old old' new new' (Some len)
unfolding differing
picked_differ from len a b old old' new new' q e t f g ha hb =
    rw (same-between from len a b q false e t) (record {
      first-is = f ∙ ap in_buffer (between from len a);
      second_is = g ∙ ap in_buffer (between from len b);
      answer = (sym (length_part len from a ha), sym (length_part len from b hb));
    })

-- ---- places that are looked at one after the other

-- where something was picked, what is looked at later is not
pub picked_first : (f g : Found) (old old' new new' : List ℕ) (n : ℕ) → Picked f old old' new new' (Some n) → Picked (or_else f g) old old' new new' (Some n)
picked_first none g old old' new new' n p = absurd p.answer
picked_first (pair m m') g old old' new new' n p = p

-- where nothing was, the buffers are as they were
pub record Unpicked (f : Found) (old old' new new' : List ℕ) : Type 0 where
  pub found_none : f ≡ none
  pub first_same : new ≡ old
  pub second_same : new' ≡ old'

pub picked_none : (f : Found) (old old' new new' : List ℕ) → Picked f old old' new new' None → Unpicked f old old' new new'
picked_none f old old' new new' p =
    let e : f ≡ none = p.answer in
    record {
      found_none = e;
      first_same = p.first-is ∙ ap (λ (h : Found). first_buffer h old) e;
      second_same = p.second_is ∙ ap (λ (h : Found). second_buffer h old') e;
    }

-- and what is looked at later is what is found
pub picked_later : (f g : Found) (old old' mid mid' new new' : List ℕ) (r : Option ℕ) → Unpicked f old old' mid mid' → Picked g mid mid' new new' r
    → Picked (or_else f g) old old' new new' r
picked_later f g old old' mid mid' new new' r u p =
    rw u.found_none (rw (u.first_same, u.second_same) at p)

-- the length that is answered, 0 where nothing was picked
pub picked_long : (f : Found) (r : Option ℕ) → MatchOption r (f ≡ none) (λ n. IsLong f n)
    → (unwrap_or r 0 ≡ length (first_of f)) × (unwrap_or r 0 ≡ length (second_of f))
picked_long none None e = (refl, refl)
picked_long none (Some n) e = absurd e
picked_long (pair m m') None e = absurd cc
picked_long (pair m m') (Some n) e = e
