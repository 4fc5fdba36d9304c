-- The questions of every entry have numbers of SPECIFICATION 8.2, by computing over each list, and so has its answer: none is 20.
use Prim.Native.Nat.{ℕ, suc}
use mathlib.Core.Path.{◌≡◌, refl}
use mathlib.Core.Bool.{Bool, true, false}
use mathlib.Core.List.{List, [], ◌∷◌, ◌++◌}
use native.Mathlib.Omega.{arith}
use lib.Dec.{leb, eqb}
use lib.ListN.{length}
use Rattle.theory_laws.specs.Questions.{pick, Question, first_no}
use Rattle.theory_laws.proofs.Questions.{numbers_pass, pass-append, answer-passes}
use Rattle.theory_record.specs.declared.WidthSet.{WidthSet}
use Rattle.theory_record.specs.Scheme.{Scheme}
use Rattle.theory_record.specs.Format.{TailGroup, tail_form, record_items}
use Rattle.theory_record.specs.Widths.{level_groups}
use Rattle.theory_record.proofs.Consequences.{query_passes}
use Rattle.field_gf128.specs.Inverse.{inverse_questions, refusal, inverse_of}
use Rattle.field_blocks.specs.Answers as blocks
use Rattle.field_pack.specs.Pack.{pack_questions, pack_number}
use Rattle.field_equality.specs.Eq.{eq_questions, eq_number}
use Rattle.ring_partials.specs.Numbers as ring
use Rattle.ring_indicator.specs.Numbers.{eval_questions, eval_number}
use Rattle.ring_identities.specs.Numbers.{sides_questions, sides_number}
use Rattle.hash_hasher.specs.Whole.{digest_questions, digest_of}
use Rattle.hash_hasher.specs.Hasher.{Updated}
use Rattle.hash_hasher.specs.Hasher as hasher
use Rattle.hash_modes.specs.Answers as modes
use Rattle.hash_serialize_parts.specs.Parts as parts
use Rattle.theory_merkle.specs.Questions.{leaf_questions, node_questions, build_questions, open_questions, root_questions}
use Rattle.theory_merkle.specs.Numbers.{leaf_number, node_number, build_number, open_number, root_number}
use Rattle.theory_merkle.specs.PartQuestions.{leaves_questions, leaves_number, parents_questions, parents_number}
use Rattle.theory_code.specs.Questions as code
use Rattle.theory_code.specs.PartQuestions.{block_questions, block_number, half_questions, half_number, fold_part_questions, fold_part_number}
use Rattle.code_codeword.specs.Answers.{Folded}
use Rattle.theory_claim.specs.Commit.{commit_questions, commit_number}
use Rattle.code_level.specs.Sizes.{size_number}
use Rattle.code_level.specs.Domain.{DomainLength}
use Rattle.code_level.specs.Domain.{length_questions, length_number, domain_questions, domain_number}
use Rattle.code_commit.specs.Level.{level_questions, level_tree_number}
use Rattle.code_level_parts.specs.Numbers as levelPart
use Rattle.code_fold_levels.specs.Levels.{lent_questions, fold_levels_number}
use Rattle.theory_record.specs.Build.{build_query_questions, build_query_number, build_tail_questions, build_tail_number}
use Rattle.theory_record.specs.Query.{size_questions}
use Rattle.theory_record.specs.Tail.{groups_questions, tail_questions, check_tail}
use Rattle.theory_compare.specs.Compare.{Comparison, compare_questions, compare_number, compared}
use Rattle.claim_run_parts.specs.Questions as run
use Rattle.export_tail_entries.specs.Tail as list
use Rattle.export_dequmlo.specs.Sets.{set_of, with_set}
use Rattle.export_dequmlo.specs.Sizes.{sizes_number}
use Rattle.export_dequmlo.specs.declared.sizes.Sizes.{Sizes}
use Rattle.export_numbers.specs.Numbers.{among, known, Known}
use Rattle.export_numbers.specs.Entries.{EveryEntry}

-- the answer to questions is known where their numbers are: `refl` computes that
asked : (qs : List Question) → numbers_pass known qs ≡ true → Known (first_no qs)
unfolding known among
asked qs h = answer-passes known refl qs h

-- a tail record's questions go group by group
module _ (S : Scheme) (root : List ℕ) where
  open S use {widths as s, n, k}

  groups-known : (g : ℕ) (xs : List TailGroup) → numbers_pass known (groups_questions S root g xs) ≡ true
  unfolding groups_questions known among
  groups-known g [] = refl
  groups-known g (x ∷ xs) = groups-known (suc g) xs

  tail-known : (claim : ℕ) (bytes : List ℕ) → numbers_pass known (tail_questions S root claim bytes) ≡ true
  unfolding tail_questions known among
  tail-known claim bytes =
      pass-append known (groups_questions S root 0 (record_items tail_form (level_groups s n k n) bytes)) _
      (groups-known 0 (record_items tail_form (level_groups s n k n) bytes)) refl

-- one of two answers
module _ {A : Type 0} (number : A → ℕ) where
  either_known : (b : Bool) (x y : A) → Known (number x) → Known (number y) → Known (number (pick b x y))
  either_known true x y h k = h
  either_known false x y h k = k

  set_known : (widths : ℕ) (made : WidthSet → A) (instead : A) → ((set : WidthSet) → Known (number (made set))) → Known (number instead)
      → Known (number (with_set widths made instead))
  set_known widths made instead h k = either_known (leb widths 1) (made (set_of widths)) instead (h (set_of widths)) k

pub every_entry : EveryEntry
unfolding known among
    inverse_of refusal blocks.run_number blocks.hash_number pack_number eq_number ring.partial_number ring.fold_number eval_number sides_number
    digest_of hasher.number_of hasher.update_of hasher.finalize_of parts.number_of
    modes.keyed_digest_of modes.derived_key_of modes.keyed_hasher_of modes.context_hasher_of
    leaf_number node_number build_number open_number root_number leaves_number parents_number
    code.derive_number code.shift_number code.encode_number code.fold_number code.earlier_number block_number half_number fold_part_number
    commit_number size_number length_number domain_number level_tree_number
    levelPart.next_part_number levelPart.level_leaves_number levelPart.level_parents_number fold_levels_number
    build_query_number build_tail_number check_tail compared compare_number sizes_number run.run_number list.tail_number
every_entry =
    record {
      inv = λ a. asked (inverse_questions a) refl;
      block_runs = λ bytes halves. asked (blocks.run_questions bytes halves) refl;
      ghash = λ bytes. asked (blocks.hash_questions bytes) refl;
      pack_table = λ bytes out. asked (pack_questions bytes out) refl;
      eq_table = λ n point out. asked (eq_questions n point out) refl;
      partial_evals = λ n packed eq out. asked (ring.partial_questions n packed eq out) refl;
      fold_partials = λ s. asked (ring.fold_questions s) refl;
      eval_at = λ n z point. asked (eval_questions n z point) refl;
      sides = λ n packed point table. asked (sides_questions n packed point table) refl;
      digest = λ key flags input. asked (digest_questions input) refl;
      update = λ s input. asked (hasher.questions s (length input)) refl;
      finalize = λ s. asked (hasher.questions s 0) refl;
      keyed_digest = λ key input. asked (modes.keyed_questions key input) refl;
      derive_key = λ context material. asked (modes.derive_questions context material) refl;
      keyed_hasher = λ key.
          either_known (λ (r : Updated). r.number) (eqb (first_no (modes.key_questions key)) 0) _ _ refl (asked (modes.key_questions key) refl);
      context_hasher = λ context.
          either_known (λ (r : Updated). r.number) (eqb (first_no (digest_questions context)) 0) _ _ refl (asked (digest_questions context) refl);
      serialize_parts = λ lengths bytes out. asked (parts.questions lengths bytes out) refl;
      leaf = λ domain count width place values. asked (leaf_questions domain count width place values) refl;
      node = λ domain left right. asked (node_questions domain left right) refl;
      tree = λ domain count width values out. asked (build_questions domain count width values out) refl;
      path = λ count width place tree out. asked (open_questions count width place tree out) refl;
      leaves = λ domain count width first values out. asked (leaves_questions domain count width first values out) refl;
      parents = λ domain children out. asked (parents_questions domain children out) refl;
      root = λ domain count width place values path. asked (root_questions domain count width place values path) refl;
      derive = λ n k domain out. asked (code.derive_questions n k domain out) refl;
      l_of = λ n k original coordinates gammas out. asked (code.shift_questions n k original coordinates gammas out) refl;
      encode = λ n k table gammas out. asked (code.encode_questions n k table gammas out) refl;
      block = λ n k eps table gammas out. asked (block_questions n k eps table gammas out) refl;
      half = λ n k half table gammas out. asked (half_questions n k half table gammas out) refl;
      fold = λ n k original var coordinates src out.
          either_known (λ (r : Folded). r.number) (eqb (code.fold_number n k original var coordinates src out) 0) _ _ refl
          (asked (code.fold_questions n k original var coordinates src out) refl);
      earlier_reading = λ n k original coordinates. asked (code.earlier_questions n k original coordinates) refl;
      fold_part = λ n k var first src out. asked (fold_part_questions n k var first src out) refl;
      commit = λ s n k base table gammas codeword coordinates tree. asked (commit_questions s n k base table gammas codeword coordinates tree) refl;
      sizes = λ widths n k.
          either_known (λ (r : Sizes). r.number) (eqb (sizes_number widths n k) 0) _ _ refl
          (set_known (λ x. x) widths (λ _. size_number n k) 4 (λ _. asked (size_questions n k) refl) refl);
      domain_length = λ base l.
          either_known (λ (r : DomainLength). r.number) (eqb (length_number base l) 0) _ _ refl (asked (length_questions base l) refl);
      domain = λ base l out. asked (domain_questions base l out) refl;
      level_tree = λ s n k l base values tree. asked (size_questions n k ++ level_questions s n k l base values tree) refl;
      next_part = λ n k l first values out. asked (levelPart.next_part_questions n k l first values out) refl;
      level_leaves = λ s n k l base first values out. asked (levelPart.level_leaves_questions s n k l base first values out) refl;
      level_parents = λ n k l base children out. asked (levelPart.level_parents_questions n k l base children out) refl;
      fold_levels = λ s n k base challenges levels half trees roots.
          asked (size_questions n k ++ lent_questions s n k base challenges levels half trees roots) refl;
      build_query = λ s n k levels trees position out. asked (build_query_questions s n k levels trees position out) refl;
      query_check = λ S position challenges roots bytes. query_passes S position challenges roots known refl (λ l x. refl) bytes refl;
      build_tail = λ s n k level tree out. asked (build_tail_questions s n k level tree out) refl;
      tail_check = λ S root claim bytes. asked (tail_questions S root claim bytes) (tail-known S root claim bytes);
      compare = λ S position challenges roots first second old old'.
          either_known (λ (r : Comparison). r.number) (eqb (compare_number S position challenges roots first second old old') 0) _ _ refl
          (asked (compare_questions S position challenges roots first second old old') refl);
      whole_run = λ s n k position base table calls challenges gammas levels coordinates half kept trees roots query tail one two.
          asked (run.run_questions s n k position base table calls challenges gammas levels coordinates half kept trees roots query tail one two) refl;
      tail_list = λ input. asked (list.tail_questions input) refl;
      by_number = set_known;
    }

-- the retired number is no answer
pub retired : Known 20 → ⊥
unfolding known among
retired e = let w : ◌≡◌ {A = ℕ} 0 1 = cc in omega arith
