-- The leaf messages of four groups whose values are lent in their bytes, and four digests one after the other.
use Prim.Native.Nat.{ℕ, zero, suc, ◌+◌, ◌-◌, ◌*◌, ◌<◌, ◌≤◌}
use mathlib.Core.Path.{◌≡◌, refl, sym, ◌∙◌, ap, ap₂}
use mathlib.Core.List.{List, [], ◌++◌, map}
use native.Mathlib.Omega.{arith}
use lib.ListN.{length, take, drop, get_or}
use lib.Seq.{take_all}
use Rattle.theory_laws.specs.Lists.{part, runs, flat, le_bytes, le_value}
use Rattle.theory_laws.proofs.Lists.{Bytes, length_part, flat-runs, runs-long, runs-take, get_d_runs, runs_of_flat, stored-all}
use Rattle.theory_blake3.specs.declared.Mode.{Mode}
use Rattle.theory_merkle.specs.Message.{words_bytes, leaf_prefix, leaf_rest, leaf_message}
use Rattle.theory_record.proofs.Runs.{runs-bytes, words-read}
use Rattle.bytes_numbers.specs.helpers.Put.{Put}
use Rattle.bytes_numbers.proofs.Stores.{then_put, same_put}
use Rattle.tree_digest.proofs.Messages.{prefix-is}
use Rattle.hash_chunk.specs.helpers.Blocks.{blocks_from, first_blocks}
use Rattle.tree_four_messages.specs.helpers.Strides.{four, Each, Common}
use Rattle.tree_four_ways.specs.helpers.Ways.{domain_of, digest_of, values_in}
use Rattle.tree_four_ways.proofs.Ways.{lent-domain}

-- ---- one message

-- values are read from their bytes, and written as they stood
pub values-bytes : (width : ℕ) (l : List ℕ) → length l ≡ 16 * width → Bytes l → words_bytes (values_in width l) ≡ l
unfolding words_bytes
values-bytes width l e h =
    ap flat (words-read (runs 16 width l) (runs-long 16 width l (omega arith)) (runs-bytes 16 width l h))
    ∙ flat-runs 16 width l ∙ take_all (16 * width) l (omega arith)

pub leaf-rest_put : (o : List ℕ) (from width group : ℕ) (values o1 o2 o3 o4 : List ℕ) (j1 j2 j3 j4 : ℕ) → length values ≡ 16 * width → Bytes values
    → Put o from 8 (le_bytes 8 width) o1 j1 → Put o1 j1 8 (le_bytes 8 group) o2 j2 → Put o2 j2 8 (le_bytes 8 (16 * width)) o3 j3
    → Put o3 j3 (length values) values o4 j4 → Put o from (24 + 16 * width) (leaf_rest width group (values_in width values)) o4 j4
unfolding leaf_rest
leaf-rest_put o from width group values o1 o2 o3 o4 j1 j2 j3 j4 n h a b c d =
    same_put o from _ (24 + 16 * width) _ (leaf_rest width group (values_in width values)) o4 j4 (omega arith) (rw (values-bytes width values n h))
    (then_put o from _ _ o3 j3 _ _ o4 j4 (then_put o from _ _ o2 j2 _ _ o3 j3 (then_put o from _ _ o1 j1 _ _ o2 j2 a b) c) d)

-- the prefix, written in a buffer of its own
module _ (domain : List ℕ) (count width : ℕ) (front front' : List ℕ) (n : ℕ)
    (p : Put front 0 (73 + length domain) (leaf_prefix domain count width) front' n) (room : 73 + length domain ≤ length front) where
  pub prefix-long : length (take n front') ≡ 73 + length domain
  prefix-long = ap length (prefix-is front _ _ front' n p room) ∙ p.size

  -- and the rest
  pub leaf_put : (o : List ℕ) (to group : ℕ) (values o1 o2 : List ℕ) (a r : ℕ) → Put o to (length (take n front')) (take n front') o1 a
      → Put o1 a (24 + 16 * width) (leaf_rest width group values) o2 r
      → Put o to (97 + length domain + 16 * width) (leaf_message domain count width group values) o2 r
  unfolding leaf_message
  leaf_put o to group values o1 o2 a r q s =
      same_put o to _ (97 + length domain + 16 * width) _ (leaf_message domain count width group values) o2 r (omega (arith, prefix-long))
      (ap (λ (x : List ℕ). x ++ leaf_rest width group values) (prefix-is front _ _ front' n p room))
      (then_put o to _ _ o1 a _ _ o2 r q s)

-- as lane k has it: the domain and the values are lent as parts
pub lane-leaf_put : (m : List ℕ) (to d size k count width group i : ℕ) (domains s m' : List ℕ) (next : ℕ)
    → d ≡ 256 * k → k < 4 → size ≤ 255 → 1024 ≤ length domains
    → Put m to (97 + length (take (d + size - d) (drop d domains)) + 16 * width)
    (leaf_message (take (d + size - d) (drop d domains)) count width group (values_in width (take (i + 16 * width - i) (drop i s)))) m' next
    → Put m to (97 + size + 16 * width) (leaf_message (domain_of domains size k) count width group (values_in width (drop i s))) m' next
lane-leaf_put m to d size k count width group i domains s m' next ed lt le long p =
    let e = lent-domain domains d size k ed in
    let l : length (take (d + size - d) (drop d domains)) ≡ size = ap length e ∙ length_part size (256 * k) domains (omega arith) in
    let z : i + 16 * width - i ≡ 16 * width = omega arith in
    let v : runs 16 width (take (i + 16 * width - i) (drop i s)) ≡ runs 16 width (drop i s) =
    ap (λ n. runs 16 width (take n (drop i s))) z ∙ runs-take 16 width (drop i s) in
    same_put m to _ (97 + size + 16 * width) _ _ m' next (ap (λ n. 97 + n + 16 * width) l)
    (ap₂ (λ (x : List ℕ) (y : List (List ℕ)). leaf_message x count width group (map le_value y)) e v) p

-- ---- four digests

four-at : (f : ℕ → List ℕ) (k : ℕ) → k < 4 → get_or (four f) k [] ≡ f k
four-at f zero h = refl
four-at f (suc zero) h = refl
four-at f (suc (suc zero)) h = refl
four-at f (suc (suc (suc zero))) h = refl
four-at f (suc (suc (suc (suc k)))) h = absurd (omega arith)

-- digest k of four that stand one after the other
digest_of_four : (f : ℕ → List ℕ) (o r : List ℕ) (next : ℕ) → ((k : ℕ) → length (f k) ≡ 32) → length o ≡ 128
    → Put o 0 128 (flat (four f)) r next → (k : ℕ) → k < 4 → digest_of r k ≡ f k
digest_of_four f o r next long room p k h =
    ap (part 32 (32 * k)) (p.bytes ∙ stored-all o (flat (four f)) (p.size ∙ sym room))
    ∙ sym (get_d_runs 32 4 k (flat (four f)) h)
    ∙ ap (λ (xs : List (List ℕ)). get_or xs k []) (runs_of_flat 32 4 (four f) refl (long 0, (long 1, (long 2, (long 3, tt)))))
    ∙ four-at f k h

-- the digests of four messages
pub messages_hashed : (H : List ℕ → List ℕ) (n : ℕ) (f : ℕ → List ℕ) (m o r : List ℕ) (next : ℕ) → ((l : List ℕ) → length (H l) ≡ 32)
    → length o ≡ 128 → Each n m f → Put o 0 128 (flat (four (λ k. H (part n (1024 * k) m)))) r next → (k : ℕ) → k < 4 → digest_of r k ≡ H (f k)
messages_hashed H n f m o r next sized room e p k h =
    digest_of_four (λ j. H (part n (1024 * j) m)) o r next (λ j. sized (part n (1024 * j) m)) room p k h ∙ ap H (e k h)

-- four whole messages, of which no block is hashed before
pub none-begun : (mode : Mode) (n : ℕ) (m : List ℕ) → 0 < n → n ≤ 1024 → 4096 ≤ length m → Common mode mode.key 0 n m
unfolding first_blocks blocks_from
none-begun mode n m some fits room = record { chunk = fits; followed = omega arith; room = room; value = λ k h. refl }
