-- What a build that is not refused may rely on, and what it leaves: the number is 0 exactly when these facts hold, and the buffer keeps
-- its length either way.
use Prim.Native.Nat.{ℕ, suc, ◌+◌, ◌*◌, ◌^◌, ◌<◌}
use mathlib.Core.Path.{◌≡◌, refl, sym, ◌∙◌}
use mathlib.Core.Bool.{Bool, true, false}
use mathlib.Core.List.{List}
use borrow.Author.Tests.{eqb-true, ltb-true, eq-eqb, lt-ltb}
use lib.Arith.{digits_lt}
use lib.Dec.{eqb}
use lib.ListN.{length}
use Rattle.theory_laws.specs.Questions.{pick}
use Rattle.theory_laws.proofs.Questions.{all_yes, yes_all}
use Rattle.theory_field.specs.Words.{words}
use Rattle.theory_field.proofs.Words.{Halves, at_words, length-words-even}
use Rattle.theory_record.specs.Widths.{Widths, level_length, tree_length}
use Rattle.theory_record.specs.Sizes.{query_size, tail_size}
use Rattle.theory_record.specs.Build.{levels_length, tree_start, query_bytes, tail_bytes}
use Rattle.theory_record.specs.Build.{build_query_questions, build_query_number, build_query, build_tail_questions, build_tail_number, build_tail}
use Rattle.theory_record.proofs.Ranges.{SizesFit, sizes_fit, fit_sizes, sizes-small}
use Rattle.theory_record.proofs.Widths.{PowersOfTwo}
use Rattle.theory_record.proofs.Runs.{Words}
use Rattle.theory_record.proofs.Build.{Lent, built_query_fills, built-tail-fills}

-- words lent as halves of 64 bits are below 2^128
pub words_of_halves : (l : List ℕ) → Halves l → Words (words l)
words_of_halves l h j = rw (at_words l j) (digits_lt (h (2 * j + 1)) (h (2 * j)))

module _ (s : Widths) (n k : ℕ) where
  -- ---- a query record

  pub record QueryBuild (levels trees : List ℕ) (position : ℕ) (out : List ℕ) : Type 0 where
    pub sizes : SizesFit n k
    pub levels_long : length levels ≡ 2 * levels_length n k
    pub trees_long : length trees ≡ 32 * tree_start s n k (suc n)
    pub out_long : length out ≡ query_size s n k
    pub position_low : position < 2 ^ (n + k)

  module _ (levels trees : List ℕ) (position : ℕ) (out : List ℕ) where
    pub query_build : build_query_number s n k levels trees position out ≡ 0 → QueryBuild levels trees position out
    unfolding build_query_number
    query_build e =
        let all = sizes_fit n k (all_yes (build_query_questions s n k levels trees position out) tt e) in
        let y = all.1 in
        record {
          sizes = all.0;
          levels_long = eqb-true _ _ y.0;
          trees_long = eqb-true _ _ y.1.0;
          out_long = eqb-true _ _ y.1.1.0;
          position_low = ltb-true _ _ y.1.1.1.0;
        }

    pub build_query_lem : QueryBuild levels trees position out → build_query_number s n k levels trees position out ≡ 0
    unfolding build_query_number
    build_query_lem h =
        yes_all (build_query_questions s n k levels trees position out)
        (fit_sizes n k h.sizes (eq-eqb _ _ h.levels_long, (eq-eqb _ _ h.trees_long, (eq-eqb _ _ h.out_long, (lt-ltb _ _ h.position_low, tt)))))

    pub build_query_done : QueryBuild levels trees position out → build_query s n k levels trees position out ≡ query_bytes s n k (words levels) trees position
    unfolding build_query
    build_query_done h = rw (eq-eqb _ 0 (build_query_lem h))

    pub query_lent : QueryBuild levels trees position out → Halves levels → Lent s n k (words levels) trees
    query_lent h halves =
        record {
          small = sizes-small n k h.sizes;
          words_long = length-words-even levels (levels_length n k) h.levels_long;
          all_words = words_of_halves levels halves;
          trees_long = h.trees_long;
        }

    pub length-build_query : PowersOfTwo s → Halves levels → length (build_query s n k levels trees position out) ≡ length out
    unfolding build_query
    length-build_query p halves = go (eqb (build_query_number s n k levels trees position out) 0) refl
      where
        go : (b : Bool) → eqb (build_query_number s n k levels trees position out) 0 ≡ b
            → length (pick b (query_bytes s n k (words levels) trees position) out) ≡ length out
        go true e =
            let h = query_build (eqb-true _ 0 e) in
            built_query_fills s p n k (words levels) trees (query_lent h halves) position h.position_low ∙ sym h.out_long
        go false e = refl

  -- ---- a tail record

  pub record TailBuild (level tree out : List ℕ) : Type 0 where
    pub sizes : SizesFit n k
    pub level-long : length level ≡ 2 * level_length n k n
    pub tree_long : length tree ≡ 32 * tree_length s n k n
    pub out_long : length out ≡ tail_size s n k

  module _ (level tree out : List ℕ) where
    pub tail_build : build_tail_number s n k level tree out ≡ 0 → TailBuild level tree out
    unfolding build_tail_number
    tail_build e =
        let all = sizes_fit n k (all_yes (build_tail_questions s n k level tree out) tt e) in
        let y = all.1 in
        record { sizes = all.0; level-long = eqb-true _ _ y.0; tree_long = eqb-true _ _ y.1.0; out_long = eqb-true _ _ y.1.1.0 }

    pub build_tail_lem : TailBuild level tree out → build_tail_number s n k level tree out ≡ 0
    unfolding build_tail_number
    build_tail_lem h =
        yes_all (build_tail_questions s n k level tree out)
        (fit_sizes n k h.sizes (eq-eqb _ _ h.level-long, (eq-eqb _ _ h.tree_long, (eq-eqb _ _ h.out_long, tt))))

    pub build_tail-done : TailBuild level tree out → build_tail s n k level tree out ≡ tail_bytes s n k (words level) tree
    unfolding build_tail
    build_tail-done h = rw (eq-eqb _ 0 (build_tail_lem h))

    pub length-build_tail : PowersOfTwo s → Halves level → length (build_tail s n k level tree out) ≡ length out
    unfolding build_tail
    length-build_tail p halves = go (eqb (build_tail_number s n k level tree out) 0) refl
      where
        go : (b : Bool) → eqb (build_tail_number s n k level tree out) 0 ≡ b → length (pick b (tail_bytes s n k (words level) tree) out) ≡ length out
        go true e =
            let h = tail_build (eqb-true _ 0 e) in
            built-tail-fills s p n k (sizes-small n k h.sizes) (words level) (words_of_halves level halves)
            (length-words-even level (level_length n k n) h.level-long) tree h.tree_long
            ∙ sym h.out_long
        go false e = refl
