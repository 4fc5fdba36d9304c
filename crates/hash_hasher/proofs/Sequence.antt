-- From a new state, after any sequence of updates, finalize gives the digest of all the bytes in order.
use mathlib.Core.Path.{◌≡◌, refl, sym, ap, ap₂, ◌∙◌, subst}
use mathlib.Core.Logic.{⊎_elim}
use mathlib.Core.List.{List, [], ◌∷◌, ◌++◌, append-nil, append_assoc}
use Prim.Native.Nat.{ℕ, ◌+◌, ◌*◌, ◌-◌, ◌<◌, ◌≤◌, min}
use native.Mathlib.Omega.{arith}
use borrow.Author.Tests.{le-leb, lt-leb}
use lib.Count.{ones, ones_in}
use lib.ListN.{length, take, drop, length-append, length-drop, drop_of_length-le}
use lib.Seq.{take_all, take-append-le, drop-append-le}
use Rattle.theory_laws.specs.Lists.{part, flat}
use Rattle.theory_laws.proofs.Lists.{length-stored}
use Rattle.theory_blake3.specs.Flags.{root_node}
use Rattle.theory_blake3.specs.Compression.{cv}
use Rattle.theory_blake3.specs.Chunk.{chunk}
use Rattle.theory_blake3.specs.Digest.{bytes_of_words32, root, digest}
use Rattle.theory_blake3.specs.Stack.{stack, entries, fold, pushed, pushed_depth}
use Rattle.theory_blake3.proofs.Stack.{stack-nil}
use Rattle.hash_chunk.specs.declared.state.ChunkState.{ChunkState}
use Rattle.hash_chunk.specs.State.{started, fed_byte, last_of}
use Rattle.hash_chunk.proofs.Stands.{Stands, stands-started, stands_byte, stands-last}
use Rattle.hash_stack.proofs.Tower.{merges, tower_depth, tower_step, tower_root}
use Rattle.hash_hasher.specs.declared.hasher.Hasher.{Hasher}
use Rattle.hash_hasher.specs.Whole.{most_bytes, digest_of}
use Rattle.hash_hasher.specs.Hasher.{new_of, number_of, with_chunk, next_chunk, taken, absorbed, update_of, finished, finalize_of}
use Rattle.hash_hasher.specs.Sequence.{run, done}
use Rattle.hash_hasher.specs.helpers.Counts.{Ready}
use Rattle.hash_hasher.proofs.Ready.{ready-number}
use Rattle.hash_hasher.proofs.Absorb.{roomy_full, roomy_not}
use Rattle.theory_laws.proofs.Numbers.{lt_or_le}

-- the state s holds the bytes bs: its stack the finished chunks, its chunk the rest
pub record Holds (key : List ℕ) (d : ℕ) (s : Hasher) (bs : List ℕ) : Type 0 where
  pub same_key : s.key ≡ key
  pub same_flags : s.chunk.flags ≡ d
  pub total : s.len ≡ length bs
  pub whole : 1024 * s.chunk.counter ≤ length bs
  pub deep : s.stack.depth ≡ ones s.chunk.counter
  pub wide : length s.stack.values ≡ 112
  pub tower : entries s.stack.values s.stack.depth ≡ stack key d 54 0 (take (1024 * s.chunk.counter) bs)
  pub rest : Stands key d s.chunk.counter s.chunk (drop (1024 * s.chunk.counter) bs)

-- and the last block is not empty, unless there is no byte
pub record Stood (key : List ℕ) (d : ℕ) (s : Hasher) (bs : List ℕ) : Type 0 where
  pub holds : Holds key d s bs
  pub some : min 1 (length bs) ≤ s.chunk.fill

pub stood_new : (key : List ℕ) (d : ℕ) → Stood key d (new_of key d) []
unfolding new_of entries ones ones_in started
stood_new key d = record {
  holds = record {
    same_key = refl;
    same_flags = refl;
    total = refl;
    whole = omega arith;
    deep = refl;
    wide = refl;
    tower = sym (stack-nil key d 54 0);
    rest = stands-started key d 0;
  };
  some = omega arith;
}

-- ---- a byte more

-- what is left of a list, if it is a chunk
last-part : (i : ℕ) (l : List ℕ) → length (drop i l) ≤ 1024 → part 1024 i l ≡ drop i l
unfolding part
last-part i l h = take_all 1024 (drop i l) h

-- a full chunk is finished
next_holds : (key : List ℕ) (d : ℕ) (s : Hasher) (bs : List ℕ) → Holds key d s bs → length bs < most_bytes → 64 * s.chunk.blocks + s.chunk.fill ≡ 1024
    → Holds key d (next_chunk s) bs
unfolding next_chunk started pushed
next_holds key d s bs r l f =
    let n = s.chunk.counter in
    let z : length bs ≡ 1024 * n + 1024 = omega (arith, r.rest.total, r.whole, length-drop (1024 * n) bs) in
    let p : part 1024 (1024 * n) bs ≡ drop (1024 * n) bs = last-part (1024 * n) bs (simp length-drop (omega arith)) in
    let e : drop (1024 * (n + 1)) bs ≡ [] = drop_of_length-le bs {i = 1024 * (n + 1)} (omega arith) in
    record {
      same_key = r.same_key;
      same_flags = r.same_flags;
      total = r.total;
      whole = omega arith;
      deep = tower_depth key d n s.stack.depth r.deep (omega arith);
      wide = length-stored s.stack.values _ _ ∙ r.wide;
      tower = ap₂ (λ (k : List ℕ) (g : ℕ). entries (pushed k g (merges n) s.stack.values s.stack.depth (cv (last_of s.chunk 0)))
          (pushed_depth (merges n) s.stack.depth)) r.same_key r.same_flags
          ∙ tower_step key d n s.stack.depth r.deep bs s.stack.values (cv (last_of s.chunk 0)) (omega arith) (omega arith) r.wide r.tower
          (ap cv (stands-last key d n s.chunk (drop (1024 * n) bs) 0 r.rest ∙ ap (λ (c : List ℕ). chunk key d n c 0) (sym p)));
      rest = rw (r.same_key, r.same_flags, e) (stands-started key d (n + 1));
    }

-- with room there, a byte goes into the chunk
put_holds : (key : List ℕ) (d : ℕ) (u : Hasher) (c : ChunkState) (bs : List ℕ) (b : ℕ) → Holds key d u bs → c.counter ≡ u.chunk.counter → c.flags ≡ d
    → Stands key d u.chunk.counter c (drop (1024 * u.chunk.counter) bs ++ (b ∷ []))
    → Stood key d (with_chunk u c (u.len + 1)) (bs ++ (b ∷ []))
put_holds key d u c bs b r e f t = record {
  holds = record {
    same_key = r.same_key;
    same_flags = f;
    total = simp length-append (omega (arith, r.total));
    whole = rw e (simp length-append (omega (arith, r.whole)));
    deep = r.deep ∙ ap ones (sym e);
    wide = r.wide;
    tower = rw (e, take-append-le (1024 * u.chunk.counter) bs (b ∷ []) r.whole) r.tower;
    rest = subst (λ (n : ℕ). Stands key d n c (drop (1024 * n) (bs ++ (b ∷ [])))) (sym e) (rw (drop-append-le (1024 * u.chunk.counter) bs (b ∷ []) r.whole) t);
  };
  some = let h : 1 ≤ c.fill = omega (arith, t.some, length-append (drop (1024 * u.chunk.counter) bs) (b ∷ [])) in omega arith;
}

pub stood_byte : (key : List ℕ) (d : ℕ) (s : Hasher) (bs : List ℕ) (b : ℕ) → Holds key d s bs → length bs < most_bytes → Stood key d (taken s b) (bs ++ (b ∷ []))
unfolding taken next_chunk
stood_byte key d s bs b r l =
    let P : Hasher → Type 0 = λ (u : Hasher). Stood key d (with_chunk u (fed_byte u.chunk b) (u.len + 1)) (bs ++ (b ∷ [])) in
    ⊎_elim
    (λ (h : 64 * s.chunk.blocks + s.chunk.fill < 1024). subst P (sym (roomy_not s (λ z. omega arith))) (with_room s r (omega (arith, r.rest.total))))
    (λ (h : 1024 ≤ 64 * s.chunk.blocks + s.chunk.fill).
    let f : 64 * s.chunk.blocks + s.chunk.fill ≡ 1024 = omega (arith, r.rest.low, r.rest.within) in
    let n = next_holds key d s bs r l f in
    subst P (sym (roomy_full s f)) (with_room (next_chunk s) n (omega (arith, n.rest.total))))
    (lt_or_le (64 * s.chunk.blocks + s.chunk.fill) 1024)
  where
    with_room : (u : Hasher) → Holds key d u bs → length (drop (1024 * u.chunk.counter) bs) < 1024
        → Stood key d (with_chunk u (fed_byte u.chunk b) (u.len + 1)) (bs ++ (b ∷ []))
    with_room u r h =
        let t = stands_byte key d u.chunk.counter u.chunk (drop (1024 * u.chunk.counter) bs) b r.rest h in
        put_holds key d u (fed_byte u.chunk b) bs b r t.same_counter t.same_flags t

pub stood_absorbed : (key : List ℕ) (d : ℕ) (s : Hasher) (bs more : List ℕ) → Stood key d s bs → length bs + length more ≤ most_bytes
    → Stood key d (absorbed s more) (bs ++ more)
unfolding absorbed
stood_absorbed key d s bs [] r l = rw append-nil r
stood_absorbed key d s bs (b ∷ more) r l =
    rw (append_assoc bs (b ∷ []) more) at
    (stood_absorbed key d (taken s b) (bs ++ (b ∷ [])) more (stood_byte key d s bs b r.holds (omega arith)) (simp length-append (omega arith)))

-- ---- the answers of a state that holds bytes

pub stood_ready : (key : List ℕ) (d : ℕ) (s : Hasher) (bs : List ℕ) (n : ℕ) → Stood key d s bs → length bs + n ≤ most_bytes → Ready s n
stood_ready key d s bs n r l =
    let h = r.holds in
    record {
      counts = record {
        small = omega (arith, h.total);
        low = h.rest.low;
        within = h.rest.within;
        sum = omega (arith, h.total, h.rest.total, h.whole, length-drop (1024 * s.chunk.counter) bs);
        deep = h.deep;
      };
      some = omega (arith, h.total, r.some);
    }

pub stood_finished : (key : List ℕ) (d : ℕ) (s : Hasher) (bs : List ℕ) → Stood key d s bs → length bs ≤ most_bytes → finished s ≡ digest key d bs
unfolding finished digest root
stood_finished key d s bs r l =
    let h = r.holds in
    let n = s.chunk.counter in
    let q : 64 * s.chunk.blocks + s.chunk.fill ≡ length bs - 1024 * n = h.rest.total ∙ length-drop (1024 * n) bs in
    ap (λ (w : List ℕ). bytes_of_words32 (cv w))
    (ap₂ (λ (k : List ℕ) (f : ℕ). fold k f (entries s.stack.values s.stack.depth) (last_of s.chunk) root_node) h.same_key h.same_flags
    ∙ tower_root key d n bs (entries s.stack.values s.stack.depth) (last_of s.chunk) root_node h.whole
    (omega (arith, h.rest.low, h.rest.within, h.whole)) (omega (arith, r.some)) (omega (arith, r.some, h.whole))
    h.tower (λ y. stands-last key d n s.chunk (drop (1024 * n) bs) y h.rest))

-- ---- any sequence of updates

update_done : (s : Hasher) (bs : List ℕ) → Ready s (length bs) → (update_of s bs).state ≡ absorbed s bs
unfolding update_of
update_done s bs r = rw (ready-number s (length bs) r)

update_refused : (s : Hasher) (bs : List ℕ) → most_bytes < s.len + length bs → (update_of s bs).state ≡ s
unfolding update_of number_of
update_refused s bs h = rw (lt-leb (s.len + length bs) most_bytes h)

-- the state after a sequence holds the bytes of the updates that are done
run_stood : (key : List ℕ) (d : ℕ) (us : List (List ℕ)) (s : Hasher) (bs : List ℕ) → Stood key d s bs → length bs ≤ most_bytes
    → Stood key d (run s us) (bs ++ done (length bs) us) × (length (bs ++ done (length bs) us) ≤ most_bytes)
unfolding run done
run_stood key d [] s bs r l = rw append-nil (r, l)
run_stood key d (xs ∷ us) s bs r l =
    ⊎_elim
    (λ (h : most_bytes < length bs + length xs).
    rw (update_refused s xs (omega (arith, r.holds.total)), lt-leb (length bs + length xs) most_bytes h) (run_stood key d us s bs r l))
    (λ (h : length bs + length xs ≤ most_bytes).
    let e : length (bs ++ xs) ≡ length bs + length xs = length-append bs xs in
    let i = run_stood key d us (absorbed s xs) (bs ++ xs) (stood_absorbed key d s bs xs r h) (omega arith) in
    let i' = rw (e, append_assoc bs xs (done (length bs + length xs) us)) at i in
    rw (update_done s xs (stood_ready key d s bs (length xs) r h), le-leb (length bs + length xs) most_bytes h) i')
    (lt_or_le most_bytes (length bs + length xs))

-- THE LAW: from new, after any sequence of updates, finalize answers the digest of the bytes of those that are done, in order
pub finalize_sequence : (key : List ℕ) (d : ℕ) (us : List (List ℕ))
    → finalize_of (run (new_of key d) us) ≡ record { number = 0; bytes = digest key d (done 0 us) }
unfolding finalize_of
finalize_sequence key d us =
    let s = run (new_of key d) us in
    let p = run_stood key d us (new_of key d) [] (stood_new key d) (omega arith) in
    let n : number_of s 0 ≡ 0 = ready-number s 0 (stood_ready key d s (done 0 us) 0 p.0 (omega arith)) in
    rw (n, stood_finished key d s (done 0 us) p.0 p.1)

-- where all are at most 2^24 bytes, each is done
pub done_all : (n : ℕ) (us : List (List ℕ)) → n + length (flat us) ≤ most_bytes → done n us ≡ flat us
unfolding done flat
done_all n [] l = refl
done_all n (xs ∷ us) l =
    let e : length (xs ++ flat us) ≡ length xs + length (flat us) = length-append xs (flat us) in
    rw (le-leb (n + length xs) most_bytes (omega arith), done_all (n + length xs) us (omega arith))

-- and the answer is that of the digest in one call
pub finalize_whole : (key : List ℕ) (d : ℕ) (us : List (List ℕ)) → length (flat us) ≤ most_bytes → finalize_of (run (new_of key d) us) ≡ digest_of key d (flat us)
unfolding digest_of
finalize_whole key d us l = finalize_sequence key d us ∙ rw (done_all 0 us (omega arith), le-leb (length (flat us)) most_bytes l)
