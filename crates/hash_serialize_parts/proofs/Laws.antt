-- What the loops over the parts leave: the sum of what is left of the lengths, and what is left to store.
use mathlib.Core.Path.{◌≡◌, refl, sym, ap, ◌∙◌}
use mathlib.Core.Bool.{Bool, false}
use mathlib.Core.List.{List, [], ◌∷◌, ◌++◌, map}
use Prim.Native.Nat.{ℕ, suc, ◌+◌, ◌*◌, ◌-◌, ◌<◌, ◌≤◌}
use native.Mathlib.Omega.{arith}
use native.Mathlib.Numerals.{add-one}
use borrow.Author.Tests.{eqb-true, ne_eqb}
use lib.Dec.{eqb}
use lib.ListN.{length, take, drop, length-append, length-drop, drop_of_length-le}
use lib.Seq.{drop-cons, drop-drop, length-take-le}
use Rattle.theory_laws.specs.Table.{at}
use Rattle.theory_laws.specs.Lists.{part, stored, le_bytes, flat}
use Rattle.theory_laws.proofs.Lists.{stored-nil, stored-all, then_stored, length-stored, lent-part, length-lent}
use Rattle.theory_laws.proofs.Questions.{all_yes, eqb_iff}
use Rattle.theory_merkle.specs.Message.{prefixed, serialize_prefix, serialize_parts}
use Rattle.theory_merkle.proofs.Message.{length-prefixed}
use Rattle.bytes_numbers.specs.helpers.Put.{Put}
use Rattle.bytes_numbers.proofs.Stores.{put_after, then_put}
use Rattle.hash_serialize_parts.specs.Parts.{cut, serialized, total, questions, number_of}
use Rattle.hash_serialize_parts.specs.helpers.Room.{Sized}

-- ---- the sum of the lengths

total-next : (ls : List ℕ) (i : ℕ) → i < length ls → total (drop i ls) ≡ at ls i + total (drop (i + 1) ls)
unfolding total
total-next ls i h = rw (drop-cons ls i 0 h, add-one i)

pub sum_step : (ls : List ℕ) (i left : ℕ) (r : Bool) → i < length ls → at ls i ≤ left → eqb (total (drop i ls)) left ≡ r
    → eqb (total (drop (i + 1) ls)) (left - at ls i) ≡ r
sum_step ls i left r h l e =
    let n = total-next ls i h in
    eqb_iff (total (drop (i + 1) ls)) (left - at ls i) (total (drop i ls)) left (λ z. omega arith) (λ z. omega arith) ∙ e

pub sum_stop : (ls : List ℕ) (i left : ℕ) (r : Bool) → i < length ls → left < at ls i → eqb (total (drop i ls)) left ≡ r → false ≡ r
sum_stop ls i left r h l e =
    let n = total-next ls i h in
    sym (ne_eqb (total (drop i ls)) left (λ z. omega arith)) ∙ e

pub sum_end : (ls : List ℕ) (i left : ℕ) (r : Bool) → length ls ≤ i → eqb (total (drop i ls)) left ≡ r → eqb left 0 ≡ r
unfolding total
sum_end ls i left r h e = eqb_iff left 0 0 left (λ z. sym z) (λ z. sym z) ∙ (rw (drop_of_length-le ls {i = i} h) at e)

-- ---- storing the parts

-- the parts, each after its length
unfoldable pub body : List ℕ → List ℕ → List ℕ
body ls bs = flat (map prefixed (cut ls bs))

length_cut : (ls bs : List ℕ) → length (cut ls bs) ≡ length ls
unfolding cut
length_cut [] bs = refl
length_cut (l ∷ ls) bs = ap suc (length_cut ls (drop l bs))

serialized-is : (ls bs : List ℕ) → serialized ls bs ≡ le_bytes 8 (length ls) ++ body ls bs
unfolding serialize_parts serialize_prefix body
serialized-is ls bs = ap (λ (n : ℕ). le_bytes 8 n ++ flat (map prefixed (cut ls bs))) (length_cut ls bs)

length-body : (ls bs : List ℕ) → total ls ≤ length bs → length (body ls bs) ≡ 8 * length ls + total ls
unfolding body cut flat total
length-body [] bs h = refl
length-body (l ∷ ls) bs h =
    let p : length (take l bs) ≡ l = length-take-le l bs (omega arith) in
    let d : length (drop l bs) ≡ length bs - l = length-drop l bs in
    length-append (prefixed (take l bs)) (body ls (drop l bs)) ∙ omega (arith, length-prefixed (take l bs), length-body ls (drop l bs) (omega arith))

-- a part after its length
pub part_put : (o : List ℕ) (from : ℕ) (p o1 : List ℕ) (j : ℕ) (o2 : List ℕ) (k : ℕ)
    → Put o from 8 (le_bytes 8 (length p)) o1 j → Put o1 j (length p) p o2 k → Put o from (8 + length p) (prefixed p) o2 k
unfolding prefixed
part_put o from p o1 j o2 k a b = then_put o from 8 (le_bytes 8 (length p)) o1 j (length p) p o2 k a b

-- out holds what is stored before `to`; the parts from i on, whose bytes start at `from`, are left
pub record Left (ls bs out : List ℕ) (to from i : ℕ) : Type 0 where
  pub parts : i ≤ length ls
  pub bytes : from ≤ length bs
  pub sum : total (drop i ls) ≡ length bs - from
  pub size : length out ≡ to + 8 * (length ls - i) + (length bs - from)
  pub rest : stored out to (body (drop i ls) (drop from bs)) ≡ serialized ls bs

pub left_begin : {ls bs out₀ out : List ℕ} {to : ℕ} → Sized ls (length bs) (length out₀) → Put out₀ 0 8 (le_bytes 8 (length ls)) out to → Left ls bs out to 0 0
left_begin {ls} {bs} {out₀} {out} {to} s p =
    let n : length out ≡ length out₀ = ap length p.bytes ∙ length-stored out₀ 0 (le_bytes 8 (length ls)) in
    let first = le_bytes 8 (length ls) in
    let b = length-body ls bs (omega (arith, s.sum)) in
    let w : length (first ++ body ls bs) ≡ length out₀ = length-append first (body ls bs) ∙ omega (arith, p.size, s.size, s.sum) in
    record {
      parts = omega arith;
      bytes = omega arith;
      sum = omega (arith, s.sum);
      size = omega (arith, s.size, p.end);
      rest =
          then_stored out₀ out _ 0 to _ (body ls bs) p.bytes (put_after p) refl ∙ stored-all out₀ (first ++ body ls bs) w
          ∙ sym (serialized-is ls bs);
    }

-- part i lies in the bytes, and there is room for it after its length
pub record Room (ls bs out : List ℕ) (to from i : ℕ) : Type 0 where
  pub lies : from + at ls i ≤ length bs
  pub room : to + 8 + at ls i ≤ length out

pub left-room : {ls bs out : List ℕ} {to from i : ℕ} → i < length ls → Left ls bs out to from i → Room ls bs out to from i
left-room {ls} {bs} {out} {to} {from} {i} h r =
    let n = total-next ls i h in
    record { lies = omega (arith, r.sum, r.bytes); room = omega (arith, r.sum, r.bytes, r.size) }

-- the length of part i, as it is lent
pub part_length : {ls bs out : List ℕ} {to from i : ℕ} → Room ls bs out to from i → length (take (from + at ls i - from) (drop from bs)) ≡ at ls i
part_length {ls} {bs} {from = from} {i = i} r = length-lent (at ls i) from bs r.lies

pub left-turn : {ls bs out p out' : List ℕ} {to from i to' : ℕ} → i < length ls → Left ls bs out to from i → p ≡ take (from + at ls i - from) (drop from bs)
    → Put out to (8 + length p) (prefixed p) out' to' → Left ls bs out' to' (from + at ls i) (i + 1)
unfolding body cut flat part
left-turn {ls} {bs} {out} {p} {out'} {to} {from} {i} {to'} h r f q =
    let l = at ls i in
    let n = total-next ls i h in
    let e : p ≡ take l (drop from bs) = f ∙ lent-part l from bs in
    let lp : length p ≡ l = ap length f ∙ part_length (left-room h r) in
    let g = rw (drop-cons ls i 0 h, drop-drop l from bs) at r.rest in
    let m : length out' ≡ length out = ap length q.bytes ∙ length-stored out to (prefixed p) in
    let after = body (drop (suc i) ls) (drop (from + l) bs) in
    record {
      parts = omega arith;
      bytes = omega (arith, r.sum, r.bytes);
      sum = omega (arith, r.sum);
      size = omega (arith, r.size, r.sum, r.bytes, q.end);
      rest = rw (add-one i)
          (then_stored out out' _ to to' (prefixed p) after q.bytes (put_after q) refl
          ∙ ap (λ (x : List ℕ). stored out to (prefixed x ++ after)) e ∙ g);
    }

pub left_end : {ls bs out : List ℕ} {to from i : ℕ} → length ls ≤ i → Left ls bs out to from i → out ≡ serialized ls bs
unfolding body cut flat
left_end {ls} {i = i} h r = rw (drop_of_length-le ls {i = i} h, stored-nil) at r.rest

-- ---- the question

pub sized : (ls : List ℕ) (n out q : ℕ) → q ≡ number_of ls n out → q ≡ 0 → Sized ls n out
unfolding number_of
sized ls n out q e h =
    let y = all_yes (questions ls n out) tt (sym e ∙ h) in
    record { sum = eqb-true (total ls) n y.0; size = eqb-true out (8 + 8 * length ls + n) y.1.0 }
