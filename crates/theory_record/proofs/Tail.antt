-- A tail record is accepted exactly when every question put to it has its yes, as one conjunction of facts.
use Prim.Native.Nat.{ℕ, suc, ◌≤◌}
use mathlib.Core.Path.{◌≡◌}
use mathlib.Core.Bool.{true}
use mathlib.Core.List.{List, [], ◌∷◌, ◌++◌}
use borrow.Author.Tests.{eqb-true, leb-true, eq-eqb, le-leb}
use lib.Dec.{T, eqb}
use lib.ListN.{length}
use Rattle.theory_laws.specs.Questions.{Question, ◌asks◌}
use Rattle.theory_laws.proofs.Lists.{same_true}
use Rattle.theory_laws.proofs.Questions.{AllYes, Numbered, all_yes, yes_all, same_yes, yes_append, append_yes}
pub use Rattle.theory_record.specs.Accepted.{GroupHolds, AllGroupsHold}
use Rattle.theory_record.specs.Widths.{level_groups}
use Rattle.theory_record.specs.Format.{TailGroup, tail_form, run_count, record_whole, record_items}
use Rattle.theory_record.specs.Tail.{first_value, group_questions, groups_questions, tail_questions, check_tail}
use Rattle.theory_record.proofs.Ranges.{SizesFit, sizes_fit, fit_sizes}
use Rattle.theory_record.specs.Scheme.{Scheme}

module _ (S : Scheme) (last_root : List ℕ) where
  open S use {widths as s, base, n, k}

  group_holds : (g : ℕ) (x : TailGroup) → AllYes (group_questions S last_root g x) → GroupHolds S last_root g x
  group_holds g x y = record { width = eqb-true _ _ y.0; depth = eqb-true _ _ y.1.0; leads = same_true _ _ y.1.1.0 }

  holds_group : (g : ℕ) (x : TailGroup) → GroupHolds S last_root g x → AllYes (group_questions S last_root g x)
  holds_group g x h = (eq-eqb _ _ h.width, (eq-eqb _ _ h.depth, (same_yes _ _ h.leads, tt)))

  groups_hold : (g : ℕ) (xs : List TailGroup) → AllYes (groups_questions S last_root g xs) → AllGroupsHold S last_root g xs
  unfolding groups_questions
  groups_hold g [] y = tt
  groups_hold g (x ∷ xs) y =
      let p = append_yes (group_questions S last_root g x) (groups_questions S last_root (suc g) xs) y in
      (group_holds g x p.0, groups_hold (suc g) xs p.1)

  hold_groups : (g : ℕ) (xs : List TailGroup) → AllGroupsHold S last_root g xs → AllYes (groups_questions S last_root g xs)
  unfolding groups_questions
  hold_groups g [] h = tt
  hold_groups g (x ∷ xs) h =
      yes_append (group_questions S last_root g x) (groups_questions S last_root (suc g) xs) (holds_group g x h.0) (hold_groups (suc g) xs h.1)

  -- no question has the number 0
  numbered : (g : ℕ) (xs : List TailGroup) (q : Question) → T (Numbered (q ∷ [])) → T (Numbered (groups_questions S last_root g xs ++ (q ∷ [])))
  unfolding groups_questions
  numbered g [] q h = h
  numbered g (x ∷ xs) q h = numbered (suc g) xs q h

  -- every question put to a tail record, for a claim, has its yes
  pub record TailAccepted (claim : ℕ) (bytes : List ℕ) : Type 0 where
    pub sizes : SizesFit n k
    pub root_long : length last_root ≡ 32
    pub base_short : length base ≤ 200
    pub reads_whole : record_whole tail_form bytes ≡ true
    pub has_all_groups : run_count bytes ≡ level_groups s n k n
    pub all_hold : AllGroupsHold S last_root 0 (record_items tail_form (level_groups s n k n) bytes)
    pub claim_first : first_value (record_items tail_form (level_groups s n k n) bytes) ≡ claim

  module _ (claim : ℕ) (bytes : List ℕ) where
    items : List TailGroup
    items = record_items tail_form (level_groups s n k n) bytes

    pub tail-accepted : check_tail S last_root claim bytes ≡ 0 → TailAccepted claim bytes
    unfolding check_tail tail_questions items
    tail-accepted e =
        let last : Question = 31 asks eqb (first_value items) claim in
        let all = sizes_fit n k (all_yes (tail_questions S last_root claim bytes) (numbered 0 items last tt) e) in
        let y = all.1 in
        let p = append_yes (groups_questions S last_root 0 items) (last ∷ []) y.1.1.1.1 in
        record {
          sizes = all.0;
          root_long = eqb-true _ _ y.0;
          base_short = leb-true _ _ y.1.0;
          reads_whole = y.1.1.0;
          has_all_groups = eqb-true _ _ y.1.1.1.0;
          all_hold = groups_hold 0 items p.0;
          claim_first = eqb-true _ _ p.1.0;
        }

    pub accepted-tail : TailAccepted claim bytes → check_tail S last_root claim bytes ≡ 0
    unfolding check_tail tail_questions items
    accepted-tail h =
        let last : Question = 31 asks eqb (first_value items) claim in
        yes_all (tail_questions S last_root claim bytes)
        (fit_sizes n k h.sizes (
          eq-eqb _ _ h.root_long,
          (
            le-leb _ _ h.base_short,
            (
              h.reads_whole,
              (
                eq-eqb _ _ h.has_all_groups,
                yes_append (groups_questions S last_root 0 items) (last ∷ []) (hold_groups 0 items h.all_hold) (eq-eqb _ _ h.claim_first, tt),
              ),
            ),
          ),
        ))
