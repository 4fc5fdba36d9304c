-- Every entry that puts questions (SPECIFICATION 8.4) answers 0 or the number of a question: a fact for each, of the number that its contract names, whatever
-- it is given. The comment over a fact has the first column of the entry's row, or of two rows whose entries put the same questions. Rests on the questions of all entries.
use Rattle.std.specs.Prelude.{ℕ, List}
use Rattle.theory_record.specs.declared.WidthSet.{WidthSet}
use Rattle.theory_record.specs.Widths.{Widths}
use Rattle.theory_record.specs.Scheme.{Scheme}
use Rattle.field_gf128.specs.Inverse.{inverse_of}
use Rattle.field_blocks.specs.Answers as blocks
use Rattle.field_pack.specs.Pack.{pack_number}
use Rattle.field_equality.specs.Eq.{eq_number}
use Rattle.ring_partials.specs.Numbers as ring
use Rattle.ring_indicator.specs.Numbers.{eval_number}
use Rattle.ring_identities.specs.Numbers.{sides_number}
use Rattle.hash_hasher.specs.declared.hasher.Hasher.{Hasher}
use Rattle.hash_hasher.specs.Whole.{digest_of}
use Rattle.hash_hasher.specs.Hasher.{update_of, finalize_of}
use Rattle.hash_modes.specs.Answers.{keyed_digest_of, derived_key_of, keyed_hasher_of, context_hasher_of}
use Rattle.hash_serialize_parts.specs.Parts as parts
use Rattle.theory_merkle.specs.Numbers.{leaf_number, node_number, build_number, open_number, root_number}
use Rattle.theory_merkle.specs.PartQuestions.{leaves_number, parents_number}
use Rattle.theory_code.specs.Questions.{derive_number, encode_number, shift_number, fold_number, earlier_number}
use Rattle.theory_code.specs.PartQuestions.{block_number, half_number, fold_part_number}
use Rattle.code_codeword.specs.Answers.{folded_of}
use Rattle.theory_claim.specs.Commit.{commit_number}
use Rattle.code_level.specs.Domain.{domain_length_of, domain_number}
use Rattle.code_commit.specs.Level.{level_tree_number}
use Rattle.code_level_parts.specs.Numbers.{next_part_number, level_leaves_number, level_parents_number}
use Rattle.code_fold_levels.specs.Levels.{fold_levels_number}
use Rattle.theory_record.specs.Build.{build_query_number, build_tail_number}
use Rattle.theory_record.specs.Query.{check_query}
use Rattle.theory_record.specs.Tail.{check_tail}
use Rattle.theory_compare.specs.Compare.{compared}
use Rattle.claim_run_parts.specs.Questions as run
use Rattle.export_tail_entries.specs.Tail.{tail_number}
use Rattle.export_dequmlo.specs.Sets.{with_set}
use Rattle.export_dequmlo.specs.Sizes.{sizes_of}
use Rattle.export_numbers.specs.Numbers.{Known}

pub record EveryEntry : Type 1 where
  -- inv
  pub inv : (a : ℕ) → Known (inverse_of a).0
  -- import_run; export_run
  pub block_runs : (bytes halves : ℕ) → Known (blocks.run_number bytes halves)
  -- ghash
  pub ghash : (bytes : ℕ) → Known (blocks.hash_number bytes)
  -- pack_table
  pub pack_table : (bytes : List ℕ) (out : ℕ) → Known (pack_number bytes out)
  -- eq_table; materialize
  pub eq_table : (n point out : ℕ) → Known (eq_number n point out)
  -- partial_evals
  pub partial_evals : (n packed eq out : ℕ) → Known (ring.partial_number n packed eq out)
  -- fold_partials
  pub fold_partials : (s : ℕ) → Known (ring.fold_number s)
  -- eval_at
  pub eval_at : (n z point : ℕ) → Known (eval_number n z point)
  -- extension_sides, fold_sides
  pub sides : (n packed point table : ℕ) → Known (sides_number n packed point table)
  -- digest in one call
  pub digest : (key : List ℕ) (flags : ℕ) (input : List ℕ) → Known (digest_of key flags input).number
  -- hasher: update, finalize
  pub update : (s : Hasher) (input : List ℕ) → Known (update_of s input).number
  pub finalize : (s : Hasher) → Known (finalize_of s).number
  -- digest in keyed mode
  pub keyed_digest : (key input : List ℕ) → Known (keyed_digest_of key input).number
  -- key derivation
  pub derive_key : (context material : List ℕ) → Known (derived_key_of context material).number
  -- hasher: started with a key
  pub keyed_hasher : (key : List ℕ) → Known (keyed_hasher_of key).number
  -- hasher: started with a context
  pub context_hasher : (context : List ℕ) → Known (context_hasher_of context).number
  -- serialize_parts
  pub serialize_parts : (lengths : List ℕ) (bytes out : ℕ) → Known (parts.number_of lengths bytes out)
  -- leaf digest of the group of a place
  pub leaf : (domain count width place values : ℕ) → Known (leaf_number domain count width place values)
  -- node digest of two digests
  pub node : (domain left right : ℕ) → Known (node_number domain left right)
  -- tree
  pub tree : (domain count width values out : ℕ) → Known (build_number domain count width values out)
  -- path off a tree
  pub path : (count width place tree out : ℕ) → Known (open_number count width place tree out)
  -- leaves of a tree, in part
  pub leaves : (domain count width first values out : ℕ) → Known (leaves_number domain count width first values out)
  -- parents in a tree, in part
  pub parents : (domain children out : ℕ) → Known (parents_number domain children out)
  -- root of a path
  pub root : (domain count width place values path : ℕ) → Known (root_number domain count width place values path)
  -- derive
  pub derive : (n k domain out : ℕ) → Known (derive_number n k domain out)
  -- l_of
  pub l_of : (n k original : ℕ) (coordinates : List ℕ) (gammas out : ℕ) → Known (shift_number n k original coordinates gammas out)
  -- encode
  pub encode : (n k table gammas out : ℕ) → Known (encode_number n k table gammas out)
  -- a block of the codeword
  pub block : (n k eps table gammas out : ℕ) → Known (block_number n k eps table gammas out)
  -- half a block of the codeword
  pub half : (n k half table gammas out : ℕ) → Known (half_number n k half table gammas out)
  -- fold
  pub fold : (n k original var : ℕ) (coordinates : List ℕ) (src out : ℕ) → Known (folded_of n (fold_number n k original var coordinates src out)).number
  -- the earlier reading
  pub earlier_reading : (n k original : ℕ) (coordinates : List ℕ) → Known (earlier_number n k original coordinates)
  -- a fold, in part
  pub fold_part : (n k var first src out : ℕ) → Known (fold_part_number n k var first src out)
  -- commit
  pub commit : (s : Widths) (n k base table gammas codeword coordinates tree : ℕ) → Known (commit_number s n k base table gammas codeword coordinates tree)
  -- sizes
  pub sizes : (widths n k : ℕ) → Known (sizes_of widths n k).number
  -- length of a level's domain
  pub domain_length : (base : List ℕ) (l : ℕ) → Known (domain_length_of base l).number
  -- a level's domain
  pub domain : (base : List ℕ) (l out : ℕ) → Known (domain_number base l out)
  -- a level's tree
  pub level_tree : (s : Widths) (n k l base values tree : ℕ) → Known (level_tree_number s n k l base values tree)
  -- the next level, in part
  pub next_part : (n k l first values out : ℕ) → Known (next_part_number n k l first values out)
  -- leaves of a level's tree, in part
  pub level_leaves : (s : Widths) (n k l base first values out : ℕ) → Known (level_leaves_number s n k l base first values out)
  -- parents in a level's tree, in part
  pub level_parents : (n k l base children out : ℕ) → Known (level_parents_number n k l base children out)
  -- fold_levels
  pub fold_levels : (s : Widths) (n k base challenges levels half trees roots : ℕ) → Known (fold_levels_number s n k base challenges levels half trees roots)
  -- build a query record
  pub build_query : (s : Widths) (n k : ℕ) (levels trees : List ℕ) (position : ℕ) (out : List ℕ) → Known (build_query_number s n k levels trees position out)
  -- check a query record
  pub query_check : (S : Scheme) (position : ℕ) (challenges roots bytes : List ℕ) → Known (check_query S position challenges roots bytes).number
  -- build a tail record
  pub build_tail : (s : Widths) (n k : ℕ) (level tree out : List ℕ) → Known (build_tail_number s n k level tree out)
  -- check a tail record
  pub tail_check : (S : Scheme) (root : List ℕ) (claim : ℕ) (bytes : List ℕ) → Known (check_tail S root claim bytes)
  -- compare two query records
  pub compare : (S : Scheme) (position : ℕ) (challenges roots first second old old' : List ℕ)
      → Known (compared S position challenges roots first second old old').number
  -- the whole run (10.4)
  pub whole_run : (s : Widths) (n k position base table calls challenges gammas levels coordinates half kept trees roots query tail one two : ℕ)
      → Known (run.run_number s n k position base table calls challenges gammas levels coordinates half kept trees roots query tail one two)
  -- the program tail_list
  pub tail_list : (input : List ℕ) → Known (tail_number input)
  -- an exported function that is given the number of a set of widths, with a key or without: where the entry's answer under each set has such a
  -- number, and so has the one that is given instead (4), then what it answers has
  pub by_number : {A : Type 0} (number : A → ℕ) (widths : ℕ) (made : WidthSet → A) (instead : A) → ((set : WidthSet) → Known (number (made set)))
      → Known (number instead) → Known (number (with_set widths made instead))
