-- Stores one after the other, in the form in which the functions ask for them.
use Prim.Native.Nat.{ℕ, suc, ◌+◌, ◌-◌, ◌<◌, ◌≤◌}
use mathlib.Core.Path.{◌≡◌, refl, sym, ◌∙◌, ap}
use mathlib.Core.List.{List, ◌++◌, append_assoc}
use native.Mathlib.Omega.{arith}
use borrow.Rule.Slice.PartMut.{put_mid}
use lib.ListN.{length, get_or, take, drop, set, replicate, length-append, length-take, length-drop, length-replicate, drop_of_length-le}
use lib.Seq.{drop-drop, drop-cons, sets-eq}
use Rattle.theory_laws.specs.Lists.{stored}
use Rattle.theory_laws.proofs.Lists.{stored-append, stored-cons, stored-nil}
use Rattle.bytes_numbers.specs.helpers.Put.{Put}

-- a put ends as far from its place as its bytes are many
pub put_after : {o : List ℕ} {from n : ℕ} {a o1 : List ℕ} {k : ℕ} → Put o from n a o1 k → k ≡ from + length a
put_after {from = from} p = p.end ∙ ap (λ i. from + i) (sym p.size)

-- one put after another
pub then_put : (o : List ℕ) (from n : ℕ) (a o1 : List ℕ) (j m : ℕ) (b o2 : List ℕ) (k : ℕ) → Put o from n a o1 j → Put o1 j m b o2 k
    → Put o from (n + m) (a ++ b) o2 k
then_put o from n a o1 j m b o2 k p q =
    record {
      bytes =
          q.bytes ∙ ap (λ (l : List ℕ). stored l j b) p.bytes ∙ ap (λ i. stored (stored o from a) i b) (put_after p)
          ∙ sym (stored-append o from a b);
      size = length-append a b ∙ omega (arith, p.size, q.size);
      end = omega (arith, p.end, q.end);
    }

-- the same bytes, by other names
pub same_put : (o : List ℕ) (from n m : ℕ) (a b o1 : List ℕ) (k : ℕ) → n ≡ m → a ≡ b → Put o from n a o1 k → Put o from m b o1 k
same_put o from n m a b o1 k e f p = record {
  bytes = p.bytes ∙ ap (λ (l : List ℕ). stored o from l) f;
  size = ap length (sym f) ∙ p.size ∙ e;
  end = p.end ∙ ap (λ i. from + i) e;
}

-- a part overwritten is a store
pub put_mid-stored : (o : List ℕ) (from k : ℕ) (ys : List ℕ) → from + k ≤ length o → length ys ≡ k → put_mid from k o ys ≡ stored o from ys
unfolding stored
put_mid-stored o from k ys h e =
    ap (λ (r : List ℕ). take from o ++ (ys ++ r)) (drop-drop k from o ∙ ap (λ (n : ℕ). drop (from + n) o) (sym e))
    ∙ sym (append_assoc (take from o) ys (drop (from + length ys) o)) ∙ sym (sets-eq ys o from (omega arith))

pub put_part : (o : List ℕ) (from n : ℕ) (src ys : List ℕ) → from + n ≤ length o → length src ≡ n → ys ≡ src
    → Put o from n src (put_mid from (from + n - from) o ys) (from + n)
put_part o from n src ys h e f =
    let z : from + n - from ≡ n = omega arith in
    record { bytes = rw (z, f) (put_mid-stored o from n src h e); size = e; end = refl }

-- zeros to the end
pub fill_end : (o : List ℕ) (from : ℕ) (ys : List ℕ) → from < length o → ys ≡ replicate (length (take (length o - from) (drop from o))) 0
    → put_mid from (length o - from) o ys ≡ stored o from (replicate (length o - from) 0)
fill_end o from ys h e =
    let z : length (take (length o - from) (drop from o)) ≡ length o - from = simp (length-take, length-drop) (omega arith) in
    rw (e, z) (put_mid-stored o from (length o - from) (replicate (length o - from) 0) (omega arith) (length-replicate {A = ℕ} (length o - from) 0))

-- ---- a list stored byte by byte: what is left to store from here on gives the whole

module _ (out : List ℕ) (at : ℕ) (src : List ℕ) (i : ℕ) (r : List ℕ) where
  pub put_step : i < length src → stored out (at + i) (drop i src) ≡ r → stored (set out (at + i) (get_or src i 0)) (at + (i + 1)) (drop (i + 1) src) ≡ r
  put_step h e =
      let z : at + (i + 1) ≡ suc (at + i) = omega arith in
      let w : suc i ≡ i + 1 = omega arith in
      rw (z, sym w) (rw (drop-cons src i 0, stored-cons) at e)

  pub put_end : length src ≤ i → stored out (at + i) (drop i src) ≡ r → out ≡ r
  put_end h e = rw (drop_of_length-le src, stored-nil) at e

pub put_begin : (out : List ℕ) (at : ℕ) (src : List ℕ) → stored out (at + 0) src ≡ stored out at src
put_begin out at src = ap (λ (k : ℕ). stored out k src) (let e : at + 0 ≡ at = omega arith in e)

-- all of src is copied
pub put_all : (o : List ℕ) (from : ℕ) (src out : List ℕ) (i : ℕ) → length src ≤ i → stored out (from + i) (drop i src) ≡ stored o from src
    → Put o from (length src) src out (from + length src)
put_all o from src out i h e = record { bytes = put_end out from src i (stored o from src) h e; size = refl; end = refl }
