-- A level of a query record: what is read of it is in the record, and its number by the parts that code asks for.
use Prim.Native.Nat.{ℕ, suc, ◌+◌, ◌*◌, ◌^◌, ◌<◌, ◌≤◌}
use mathlib.Core.Path.{◌≡◌, refl, sym, ◌∙◌, ap}
use mathlib.Core.Bool.{Bool, true, false}
use mathlib.Core.List.{List, [], ◌∷◌, ◌++◌}
use native.Mathlib.Omega.{arith}
use native.Mathlib.Numerals.{add-one}
use borrow.Author.Tests.{leb-true, eq-eqb, ne_eqb}
use lib.Dec.{leb, eqb}
use lib.ListN.{length, drop, length-drop}
use lib.Pow.{pow_mono}
use Rattle.theory_laws.specs.Xor.{◌⊕◌}
use Rattle.theory_laws.specs.Table.{at}
use Rattle.theory_laws.specs.Questions.{Question, ◌asks◌, first_no, on_done}
use Rattle.theory_laws.specs.Lists.{part, le_value}
use Rattle.theory_laws.proofs.Lists.{both_true}
use Rattle.theory_laws.proofs.Questions.{first_no-append}
use Rattle.theory_field.specs.Field.{◌⊗◌}
use Rattle.theory_field.specs.Words.{words}
use Rattle.record_reader.specs.helpers.Places.{level_at}
use Rattle.record_reader.specs.declared.Level.{Level}
use Rattle.record_reader.proofs.Places.{level-places}
use Rattle.theory_record.specs.Format.{LevelRecord, level_read, level_fits, run_fits, from_aGroup, from_cGroup, from_aPath, from_cPath, word_at}
use Rattle.theory_record.specs.Query.{pair_of, root_at, pair_questions, level_number}
use Rattle.theory_record.proofs.Reading.{word-at}
use Rattle.theory_record.proofs.Offsets.{pair_lt, level-le}
use Rattle.record_opening.specs.helpers.Opening.{values_at, digests_at, Readable, opening_questions}
use Rattle.std.specs.Prelude.{Option, Some}
use Rattle.record_reader.specs.declared.Opening.{Opening}
use Rattle.record_query_check.specs.helpers.Level.{pair_held, held, a_number, c_number, Allowed, LevelThere}
use Rattle.theory_record.specs.Scheme.{Scheme, width_at}

-- ---- what is read is there

pub pair_small : {S : Scheme} {position : ℕ} {challenges roots : List ℕ} (l q : ℕ) → Allowed S position challenges roots → l < S.n → q ≡ pair_of position l
    → q < 16777216
pair_small {S} {position} l q z h e =
    let p = pair_lt S.n S.k l position z.position_low (omega arith) in
    let m = level-le S.n S.k (suc l) in
    let b : 2 ^ (S.n + S.k) ≤ 2 ^ 24 = pow_mono {i = S.n + S.k} {j = 24} (omega arith) in
    omega arith

pub record LevelRoom (S : Scheme) (l : ℕ) (s : List ℕ) (i : ℕ) (v : Level) : Type 0 where
  pub words_room : i + 48 ≤ length s
  pub a_readable : Readable S l s v.a.group_at v.a.path_at
  pub c_readable : Readable S (l + 1) s v.c.group_at v.c.path_at

pub level-room : {S : Scheme} {position : ℕ} {challenges roots : List ℕ} (l : ℕ) (s : List ℕ) (i : ℕ) (v : Level) → Allowed S position challenges roots
    → l < S.n
    → Some v ≡ level_at s i → LevelRoom S l s i v
unfolding level_fits
level-room l s i v z h e =
    let t : List ℕ = drop i s in
    let p = level-places s i v e in
    let b0 = both_true (leb 48 (length t)) _ p.fits in
    let b1 = both_true (run_fits 16 (from_aGroup t)) _ b0.1 in
    let b2 = both_true (run_fits 16 (from_cGroup t)) _ b1.1 in
    let b3 = both_true (run_fits 32 (from_aPath t)) (run_fits 32 (from_cPath t)) b2.1 in
    let g = leb-true 48 (length t) b0.0 in
    let n0 = length-drop i s in
    record {
      words_room = omega arith;
      a_readable = record {
        n_most = z.n_most;
        k_most = z.k_most;
        level_most = omega arith;
        base_short = z.base_short;
        group_fits = ap (run_fits 16) p.a_group ∙ b1.0;
        path_fits = ap (run_fits 32) p.a_path_there ∙ b3.0;
      };
      c_readable = record {
        n_most = z.n_most;
        k_most = z.k_most;
        level_most = omega arith;
        base_short = z.base_short;
        group_fits = ap (run_fits 16) p.c_group ∙ b2.0;
        path_fits = ap (run_fits 32) p.c_path_there ∙ b3.1;
      };
    }

pub room-there : {S : Scheme} {position : ℕ} {challenges roots : List ℕ} {l : ℕ} {s : List ℕ} {i : ℕ} {v : Level} {old c-old : Option Opening}
    → LevelThere S position challenges roots l s i v old c-old → LevelRoom S l s i v
room-there {l = l} {s = s} {i = i} {v = v} z = level-room l s i v z.allowed z.level_low z.read

-- ---- the level that was read

abbrev as_read : List ℕ → Level → ℕ → ℕ → ℕ → LevelRecord
as_read s v a b c =
    record {
      a = a;
      b = b;
      c = c;
      a_group = values_at s v.a.group_at;
      c_group = values_at s v.c.group_at;
      a_path = digests_at s v.a.path_at;
      c_path = digests_at s v.c.path_at;
    }

read_is : (s : List ℕ) (i : ℕ) (v : Level) (a b c : ℕ) → Some v ≡ level_at s i → a ≡ le_value (part 16 i s) → b ≡ le_value (part 16 (i + 16) s)
    → c ≡ le_value (part 16 (i + 32) s) → level_read (drop i s) ≡ as_read s v a b c
unfolding level_read values_at digests_at
read_is s i v a b c e ea eb ec =
    let p = level-places s i v e in
    let z : i + 0 ≡ i = omega arith in
    let wa : word_at 0 (drop i s) ≡ a = word-at s i 0 ∙ ap (λ (j : ℕ). le_value (part 16 j s)) z ∙ sym ea in
    let wb : word_at 16 (drop i s) ≡ b = word-at s i 16 ∙ sym eb in
    let wc : word_at 32 (drop i s) ≡ c = word-at s i 32 ∙ sym ec in
    rw (wa, wb, wc, p.a_group, p.c_group, p.a_path_there, p.c_path_there)

-- ---- its number by parts

abbrev folded : ℕ → ℕ → ℕ → ℕ → List Question
folded r a b c = (26 asks eqb (a ⊕ r ⊗ (a ⊕ b)) c) ∷ []

-- the number of 16 to 26, of which A is that of 16 to 21 and C that of 22 to 25
by_parts : (S : Scheme) (l q r : ℕ) (ra rc : List ℕ) (x : LevelRecord)
    → first_no (pair_questions S l q r ra rc x)
    ≡ on_done (a_number S l q x.a_group x.a_path ra x.a x.b)
    (on_done (c_number S (suc l) q x.c_group x.c_path rc x.c) (first_no (folded r x.a x.b x.c))
    (c_number S (suc l) q x.c_group x.c_path rc x.c))
    (a_number S l q x.a_group x.a_path ra x.a x.b)
unfolding a_number c_number
by_parts S l q r ra rc x =
    let A : List Question = opening_questions S l (2 * q) x.a_group x.a_path ra 16 ++ pair_held (width_at S l) q x.a_group x.a x.b in
    let C : List Question = opening_questions S (suc l) q x.c_group x.c_path rc 22 ++ held (width_at S (suc l)) q x.c_group x.c in
    first_no-append A (C ++ folded r x.a x.b x.c) tt
    ∙ ap (λ (y : ℕ). on_done (first_no A) y (first_no A)) (first_no-append C (folded r x.a x.b x.c) tt)

-- what a level's number is once 16 to 25 have their yes: 26 is asked, and t says whether the fold is c
pub record FoldDecides (t : Bool) (number : ℕ) : Type 0 where
  pub not_folded : t ≡ false → 26 ≡ number
  pub all_hold : t ≡ true → 0 ≡ number

module _ (S : Scheme) (position : ℕ) (challenges roots : List ℕ) (l : ℕ) (s : List ℕ) (i : ℕ) (v : Level) (a b c q : ℕ) (ev : Some v ≡ level_at s i)
    (ea : a ≡ le_value (part 16 i s)) (eb : b ≡ le_value (part 16 (i + 16) s)) (ec : c ≡ le_value (part 16 (i + 32) s)) (eq : q ≡ pair_of position l)
    (ra : List ℕ) (era : ra ≡ part 32 (32 * l) roots) (x : ℕ)
    (ex : x ≡ a_number S l q (values_at s v.a.group_at) (digests_at s v.a.path_at) ra a b) where
  number : ℕ
  number = level_number S position challenges roots l (level_read (drop i s))

  parts : (r : ℕ) (rc : List ℕ) → r ≡ at (words challenges) l → rc ≡ part 32 (32 * (l + 1)) roots
      → let y = c_number S (l + 1) q (values_at s v.c.group_at) (digests_at s v.c.path_at) rc c in
      number ≡ on_done x (on_done y (first_no (folded r a b c)) y) x
  unfolding level_number root_at number
  parts r rc er erc =
      let one : l + 1 ≡ suc l = add-one l in
      let erc' : rc ≡ part 32 (32 * suc l) roots = erc ∙ ap (λ (j : ℕ). part 32 (32 * j) roots) one in
      rw (one, ex, read_is s i v a b c ev ea eb ec, ← eq, ← er, ← era, ← erc') (by_parts S l q r ra rc (as_read s v a b c))

  pub a_says_no : (x ≡ 0 → ⊥) → x ≡ level_number S position challenges roots l (level_read (drop i s))
  unfolding number
  a_says_no z = sym (parts (at (words challenges) l) (part 32 (32 * (l + 1)) roots) refl refl ∙ rw (ne_eqb x 0 z))

  module _ (z : x ≡ 0) (rc : List ℕ) (erc : rc ≡ part 32 (32 * (l + 1)) roots) (y : ℕ)
      (ey : y ≡ c_number S (l + 1) q (values_at s v.c.group_at) (digests_at s v.c.path_at) rc c) where
    pub c_says_no : (y ≡ 0 → ⊥) → y ≡ level_number S position challenges roots l (level_read (drop i s))
    unfolding number
    c_says_no u = sym (parts (at (words challenges) l) rc refl erc ∙ rw (eq-eqb x 0 z, ← ey, ne_eqb y 0 u))

    module _ (u : y ≡ 0) (r : ℕ) (er : r ≡ at (words challenges) l) (f : ℕ) (ef : f ≡ a ⊕ r ⊗ (a ⊕ b)) (t : Bool) (et : t ≡ eqb f c) where
      pub fold_decides : FoldDecides t (level_number S position challenges roots l (level_read (drop i s)))
      unfolding number
      fold_decides =
          record {
            not_folded = λ g. sym (parts r rc er erc ∙ rw (eq-eqb x 0 z, ← ey, eq-eqb y 0 u, ← ef, ← et, g));
            all_hold = λ g. sym (parts r rc er erc ∙ rw (eq-eqb x 0 z, ← ey, eq-eqb y 0 u, ← ef, ← et, g));
          }
