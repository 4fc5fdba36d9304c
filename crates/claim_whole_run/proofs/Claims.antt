-- The claim applied to what a run leaves, clause by clause.
use Prim.Native.Nat.{ℕ, suc, ◌+◌, ◌-◌, ◌*◌, ◌<◌, ◌≤◌}
use mathlib.Core.Path.{◌≡◌, refl, sym, ◌∙◌, ap, ap₂, subst}
use mathlib.Core.Logic.{inl, inr, ⊎_elim}
use mathlib.Core.List.{List, [], ◌∷◌, ◌++◌}
use native.Mathlib.Omega.{arith}
use lib.ListN.{length, take, drop, get_or, length-append, length-drop, length-map}
use lib.Seq.{take_at, take_all}
use Rattle.theory_laws.specs.Table.{tab, at}
use Rattle.theory_laws.proofs.Table.{length-tab}
use Rattle.theory_laws.specs.Lists.{part, flat, Bytes}
use Rattle.theory_field.specs.Words.{words}
use Rattle.theory_field.proofs.Words.{length-words-even}
use Rattle.theory_multilinear.specs.Folds.{Fold, Folds, at_first}
use Rattle.theory_multilinear.specs.Codeword.{all_coordinates}
use Rattle.theory_code.specs.Questions.{fold_number}
use Rattle.theory_blake3.proofs.Modes.{length-under}
use Rattle.theory_record.specs.Widths.{Widths, widths_of, level_length, tree_length}
use Rattle.theory_record.specs.Trees.{tree_for, root_for, levels_lent, trees_lent, roots_lent}
use Rattle.theory_record.specs.Query.{Answer, root_at, check_query}
use Rattle.theory_record.specs.Tail.{check_tail}
use Rattle.theory_record.specs.Build.{levels_length, level_values, build_query, build_tail}
use Rattle.theory_record.specs.Scheme.{Scheme, scheme}
use Rattle.theory_record.proofs.Ranges.{sizes-small}
use Rattle.theory_record.proofs.Widths.{powers}
use Rattle.theory_record.proofs.Totals.{end_to_end-ext, part-end_to_end, total-same}
use Rattle.theory_record.proofs.Offsets.{level-within, tree-within, length-level_values}
use Rattle.theory_record.proofs.Accepted.{length-root_for}
use Rattle.theory_compare.specs.Compare.{Comparison, compared, first_message, second_message}
use Rattle.theory_claim.specs.Calls.{Codeword, Call, call_number, done_folds, after_folds, left_by}
use Rattle.theory_claim.specs.Claim.{Lent, LastLent, After, Outcome, Claim}
use Rattle.theory_claim.specs.Claim as P
use Rattle.theory_claim.proofs.Calls.{after-all}
use Rattle.theory_claim.proofs.Lent as L
use Rattle.code_levels.proofs.Laying.{levels-laid}
use Rattle.claim_fold_calls.specs.Left.{challenges_of}
use Rattle.claim_whole_run.specs.Whole as whole
use Rattle.claim_run_parts.specs.Parts.{Deposited, last_level, last_tree, last_root}
use Rattle.claim_whole_run.specs.Whole.{Given, Buffers, PartWay, Claimed, AfterCalls}
use Rattle.claim_run_parts.specs.helpers.Room.{Room, RecordRoom, LastRoom}
use Rattle.claim_run_parts.proofs.Deposits.{deposit_of, claim_of}

-- room for the last level, its tree and its root
pub last-room : {s : Widths} {n k base table calls challenges gammas levels coordinates half kept trees roots : ℕ}
    → Room s n k base table calls challenges gammas levels coordinates half kept trees roots → LastRoom s n k levels trees roots
last-room {s} {n} {k} r =
    record {
      small = sizes-small n k r.commit.sizes;
      levels_least = omega (arith, r.commit.levels_long, level-within n k n (omega arith));
      trees_least = omega (arith, r.commit.trees_long, tree-within s n k n (omega arith));
      roots_least = omega (arith, r.roots_long);
    }

-- lengths that a step kept
pub room-same : {s : Widths} {n k base table calls challenges gammas levels coordinates half kept trees roots levels' coordinates' kept' trees' roots' : ℕ}
    → Room s n k base table calls challenges gammas levels coordinates half kept trees roots
    → levels' ≡ levels → coordinates' ≡ coordinates → kept' ≡ kept → trees' ≡ trees → roots' ≡ roots
    → Room s n k base table calls challenges gammas levels' coordinates' half kept' trees' roots'
room-same r el ec ek et er = rw (el, ec, ek, et, er) r

-- the challenges of folds at variable 0
challenges_first : (r : List ℕ) → challenges_of (at_first r) ≡ r
challenges_first [] = refl
challenges_first (x ∷ r) = ap (λ (rs : List ℕ). x ∷ rs) (challenges_first r)

module _ (G : Given) (old new : Buffers) (h done : ℕ)
    (room : Room (widths_of G.how.set) G.n G.k (length G.base) (length G.table) (length G.calls) (length G.challenges)
    (length old.gammas) (length new.levels) (length new.coordinates) h (length new.kept) (length new.trees) (length new.roots))
    (old-list : length old.coordinates ≡ G.n)
    (d : Deposited G.how G.n G.k G.base G.table G.calls G.challenges old.levels old.kept new.gammas new.levels
    new.coordinates new.kept new.trees new.roots done) where
  open G use {how, n, k, position, base, table}
  open new use {levels, coordinates, kept, trees, roots}

  abbrev s : Widths
  s = widths_of how.set

  abbrev S : Scheme
  S = scheme how base n k

  abbrev c : Codeword
  c = whole.codeword G

  abbrev xs : List Call
  xs = whole.made G

  abbrev values : ℕ → List ℕ
  values l = level_values n k (words levels) l

  -- the claim, with what is kept for its challenges
  pub theorem : Claim how n k base table kept
  theorem = claim_of how base table kept room.commit room.kept_long

  words_long : length (words levels) ≡ levels_length n k
  words_long = length-words-even levels (levels_length n k) room.commit.levels_long

  length-values : (l : ℕ) → l ≤ n → length (values l) ≡ level_length n k l
  length-values l g = length-level_values n k l (words levels) g words_long

  -- the fold of a level by the challenge that is kept for it
  pub fold_done : (l : ℕ) → l < n → call_number (whole.in_use G old new l) (whole.kept_call G old new l) ≡ 0
  unfolding call_number
  fold_done l g =
      ap (λ (m : ℕ). fold_number (n - l) k n 0 (drop l (all_coordinates n)) (2 * m) (2 * level_length n k (suc l))) (length-values l (omega arith))
      ∙ theorem.fold_done l g

  -- ---- after any calls

  abbrev fs : List Fold
  fs = done_folds c xs

  abbrev left : Codeword
  left = left_by c xs

  part_way : P.PartWay how n k base table kept xs
  part_way = theorem.part_way xs

  -- the coordinates that are left and the folds that were done are n
  left-long : length left.coordinates ≡ n - done
  left-long =
      omega (
        arith,
        room.commit.list_long,
        ap length d.left.list_is ∙ length-append left.coordinates (tab done (λ v. 0)),
        length-tab done (λ v. 0),
      )

  -- the codeword that is left, in the buffers
  values-left : values done ≡ left.values
  values-left =
      d.left.each done (omega arith) ∙ ap (λ (l : ℕ). (after_folds c xs l).values) d.left.count ∙ ap (λ (x : Codeword). x.values) (after-all xs c)

  list_left : take (n - done) coordinates ≡ left.coordinates
  list_left = ap (take (n - done)) d.left.list_is ∙ take_at left.coordinates (tab done (λ v. 0)) (n - done) left-long

  left_is : left ≡ record { values = values done; coordinates = take (n - done) coordinates }
  left_is = ap₂ (λ (vs cs : List ℕ). record { values = vs; coordinates = cs }) (sym values-left) (sym list_left)

  pub part_way_left : PartWay G old new done
  part_way_left =
      record {
        count = d.left.count;
        folds-done = subst (λ (m : ℕ). Folds n m fs) left-long part_way.folds-done;
        list_is = d.left.list_is ∙ ap (λ (cs : List ℕ). cs ++ tab done (λ v. 0)) part_way.list_is;
        left_is = left_is;
        entry = rw (values-left, list_left, ← left-long) part_way.entry;
        shift_done = rw (list_left, ← left-long) part_way.shift_done;
        next-done = rw (list_left, ← left-long) part_way.next-done;
      }

  -- the root of a level
  root-at : (l : ℕ) → l ≤ n → root_at roots l ≡ root_for S l (values l)
  unfolding root_at
  root-at l g =
      ap (part 32 (32 * l)) d.roots_are
      ∙ ap (λ (i : ℕ). part 32 i (roots_lent S values)) (sym (total-same 32 l))
      ∙ part-end_to_end (suc n) l (λ i. root_for S i (values i)) (λ i. 32)
      (λ i f. length-root_for S (length-under how.mode) i (values i) (powers how.set)) (omega arith)

  pub root-last : (l : ℕ) → l ≤ n → get_or (tree_for S l (values l)) (tree_length s n k l - 1) [] ≡ root_at roots l
  root-last l g = theorem.root-last l g (values l) ∙ sym (root-at l g)

  -- the last level has its length
  last-long : length (last_level n k levels) ≡ 2 * level_length n k n
  last-long =
      length-drop (length levels - 2 * level_length n k n) levels
      ∙ omega (arith, room.commit.levels_long, level-within n k n (omega arith))

  last-tree-long : length (last_tree s n k trees) ≡ 32 * tree_length s n k n
  last-tree-long =
      length-drop (length trees - 32 * tree_length s n k n) trees
      ∙ omega (arith, room.commit.trees_long, tree-within s n k n (omega arith))

  -- ---- where the done calls are n folds at variable 0 by what is kept

  module _ (All-first : done_folds c xs ≡ at_first (words kept)) where
    abbrev level : ℕ → List ℕ
    level l = (after_folds c xs l).values

    after : After how n k base table kept xs
    after = theorem.after_calls xs All-first

    first-long : length (done_folds c xs) ≡ n
    first-long =
        ap length All-first ∙ length-map (words kept) (λ (x : ℕ). record { var = 0; by = x }) ∙ length-words-even kept n room.kept_long

    all_done : done ≡ n
    all_done = d.left.count ∙ first-long

    each : (l : ℕ) → l ≤ n → values l ≡ level l
    each l g = d.left.each l (omega (arith, all_done))

    words_are : words levels ≡ levels_lent n level
    words_are = levels-laid n k (words levels) level words_long each

    trees_are : trees ≡ trees_lent S level
    trees_are = d.trees_are ∙ end_to_end-ext (suc n) _ _ (λ l g. ap (λ (x : List ℕ). flat (tree_for S l x)) (each l (omega arith)))

    roots_are : roots ≡ roots_lent S level
    roots_are = d.roots_are ∙ end_to_end-ext (suc n) _ _ (λ l g. ap (root_for S l) (each l (omega arith)))

    lent : Lent how n k base table kept xs levels trees roots
    lent = record { levels_long = room.commit.levels_long; levels_are = words_are; trees_are = trees_are; roots_are = roots_are }

    last-lent : LastLent how n k base table kept xs (last_level n k levels) (last_tree s n k trees) (last_root roots)
    last-lent = L.last-lent how n k base table kept (deposit_of base table kept room.commit room.kept_long) xs All-first levels trees roots lent

  -- ---- with the records and their checks

  module _ (q : RecordRoom s n k position (length old.query) (length old.tail) (length old.one) (length old.two)) {query : Answer} {tail : ℕ}
      (query_is : new.query ≡ build_query s n k levels trees position old.query)
      (tail_is : new.tail ≡ build_tail s n k (last_level n k levels) (last_tree s n k trees) old.tail)
      (answer_is : query ≡ check_query S position kept roots new.query) (number_is : tail ≡ check_tail S (last_root roots) G.claim new.tail) where
    -- by what is kept
    after_kept : done_folds c xs ≡ at_first (words kept) → AfterCalls G old new (words kept) query tail
    after_kept All-first =
        record {
          kept_are = refl;
          level-long = λ l g. ap length (each All-first l g) ∙ (after All-first).level-long l g;
          level_list = (after All-first).level_list;
          last-left = (after All-first).last-left ∙ sym (each All-first n (omega arith));
          last_entry = λ eps low. ap (λ (ws : List ℕ). at ws eps) (each All-first n (omega arith)) ∙ (after All-first).last_entry eps low;
          query_accepted =
              answer_is ∙ ap (check_query S position kept roots) query_is
              ∙ (after All-first).query_record levels trees roots (lent All-first) position q.position_low old.query q.query_long;
          tail-accepted = rw (number_is, tail_is) ((after All-first).tail_record _ _ _ (last-lent All-first) old.tail q.tail_long G.claim);
        }

    -- what is kept is r, all of it
    kept-is : (r : List ℕ) → length r ≡ n → done_folds c xs ≡ at_first r → words kept ≡ r
    kept-is r long All-first =
        let e : words kept ≡ r ++ drop done (words old.kept) =
        d.left.kept_are ∙ ap (λ (fs : List Fold). challenges_of fs ++ drop done (words old.kept)) All-first
        ∙ ap (λ (rs : List ℕ). rs ++ drop done (words old.kept)) (challenges_first r) in
        sym (take_all n (words kept) (omega (arith, length-words-even kept n room.kept_long))) ∙ ap (take n) e
        ∙ take_at r (drop done (words old.kept)) n long

    after_calls : (r : List ℕ) → length r ≡ n → done_folds c xs ≡ at_first r → AfterCalls G old new r query tail
    after_calls r long All-first =
        let e = kept-is r long All-first in
        subst (λ (x : List ℕ). AfterCalls G old new x query tail) e (after_kept (All-first ∙ ap at_first (sym e)))

    -- what comparing left, where both lent records are accepted
    module _ {found : Comparison} (found-is : found ≡ compared S position kept roots G.first G.second old.one old.two)
        (one_is : new.one ≡ first_message S position kept roots G.first G.second old.one old.two)
        (two_is : new.two ≡ second_message S position kept roots G.first G.second old.one old.two) where
      number_same : (m : ℕ) → (compared S position kept roots G.first G.second old.one old.two).number ≡ m → found.number ≡ m
      number_same m e = ap (λ (x : Comparison). x.number) found-is ∙ e

      settled : Outcome how n k base table kept position kept roots G.first G.second old.one old.two → whole.Settled G old new found
      settled =
          ⊎_elim (λ x. inl (number_same 33 x.0, x.1))
          (λ x. inr (
            number_same 0 x.gives_0,
            rw (found-is, one_is, two_is) (record {
              unequal = x.unequal;
              differ = x.differ;
              one_digest = x.one_digest;
              lengths = x.lengths;
              fit = (omega (arith, x.fit.0, q.one_long), omega (arith, x.fit.1, q.two_long));
              nearest = x.nearest;
            }),
          ))

      pub claimed_by : Bytes new.query → Bytes new.tail → Bytes G.first → Bytes G.second → Claimed G old new done query tail found
      claimed_by bq bt bu bv =
          record {
            commit_done = rw (room.commit.gammas_long, old-list ∙ sym (length-tab n (λ i. i))) theorem.commit_done;
            fold_done = fold_done;
            tree-done = theorem.tree-done;
            root-last = root-last;
            query_done =
                theorem.query_done levels trees old.query position room.commit.levels_long room.commit.trees_long q.query_long q.position_low;
            tail-done = theorem.tail-done (last_level n k levels) (last_tree s n k trees) old.tail last-long last-tree-long q.tail_long;
            calls_exist = theorem.calls_exist;
            any_folds = theorem.any_folds;
            refused-among = λ before after x e z. ap (done_folds c) e ∙ theorem.refused-among before after x z;
            refused_exist = λ l. theorem.refused_exist (whole.in_use G old new l);
            part_way = part_way_left;
            after_calls = after_calls;
            query_exactly = rw answer_is (theorem.query_exactly position kept roots new.query bq);
            first_exactly = theorem.query_exactly position kept roots G.first bu;
            second_exactly = theorem.query_exactly position kept roots G.second bv;
            tail_exactly = rw number_is (theorem.tail_exactly (last_root roots) G.claim new.tail bt);
            two_records =
                λ a b. settled (theorem.two_records position kept roots G.first G.second old.one old.two bu bv q.one_long q.two_long a b);
          }
