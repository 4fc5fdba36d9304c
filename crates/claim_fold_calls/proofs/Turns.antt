-- The turns of a list of calls: where it stands at the start, after a refused call, after a done one, and at the end.
use Prim.Native.Nat.{ℕ, zero, suc, ◌+◌, ◌-◌, ◌*◌, ◌/◌, ◌<◌, ◌≤◌}
use mathlib.Core.Path.{◌≡◌, refl, sym, ◌∙◌, ap, ap₂, subst}
use mathlib.Core.Logic.{◌⊎◌, inl, inr, ⊎_elim}
use mathlib.Core.Bool.{Bool, true, false}
use Rattle.std.specs.Prelude.{Result, Ok, Err}
use Rattle.std.specs.Result.{is_err}
use mathlib.Core.List.{List, [], ◌∷◌, ◌++◌, append_assoc, append-nil}
use native.Mathlib.Nat.{eq-or-lt_of_le}
use native.Mathlib.Numerals.{add-one}
use native.Mathlib.Omega.{arith}
use borrow.Author.Tests.{eq-eqb, ne_eqb, eqb-true, eqb-false}
use lib.Dec.{eqb}
use lib.ListN.{length, take, drop, set, length-map, length-append, length-drop, take-append-drop, drop_of_length-le}
use lib.Seq.{length-take-le, take_at, drop_at, take_all, drop-set-lt, take-suc-set}
use Rattle.theory_laws.specs.Questions.{on_done}
use Rattle.theory_laws.specs.Table.{tab}
use Rattle.theory_laws.specs.Refusals.{answered}
use Rattle.theory_laws.specs.declared.Refusal.{Refusal}
use Rattle.theory_laws.proofs.Questions.{on_refused}
use Rattle.theory_laws.proofs.Refusals.{never}
use Rattle.theory_field.specs.Words.{words}
use Rattle.theory_field.proofs.Words.{length-words-even}
use Rattle.theory_multilinear.specs.Fold.{fold_list}
use Rattle.theory_multilinear.specs.Folds.{Fold, dropped_at}
use Rattle.theory_multilinear.proofs.Folds.{length-dropped_at}
use Rattle.theory_code.specs.Questions.{fold_number}
use Rattle.code_codeword.specs.Answers.{dropped_of}
use Rattle.code_codeword.proofs.Lengths.{fold-sizes}
use Rattle.theory_record.specs.Widths.{level_length, total}
use Rattle.theory_record.specs.Build.{level_start, levels_length, level_values}
use Rattle.theory_record.proofs.Offsets.{length-level_values, level-halves, level-le}
use Rattle.theory_claim.specs.Calls.{Codeword, Call, call_number, call_fold, done_folds, after_folds, left_by}
use Rattle.theory_claim.proofs.Calls.{skip, fold-there, none_done, after-all}
use Rattle.code_levels.specs.helpers.Levels.{laid, LevelLent}
use Rattle.code_levels.proofs.Laying.{next_start, laid-before, laid-there, laid-behind, behind_more, length-fold}
use Rattle.claim_fold_calls.specs.Lent.{call_at, calls_from, lent_calls}
use Rattle.claim_fold_calls.specs.Left.{challenges_of, Left}
use Rattle.claim_fold_calls.specs.helpers.Laid.{in_use, number_on, Reached, Called}

-- ---- the start

start-zero : (n k : ℕ) → 0 ≡ 2 * level_start n k 0
unfolding level_start total
start-zero n k = refl

-- the codeword that stands as level 0, and its list
abbrev first : ℕ → ℕ → List ℕ → List ℕ → Codeword
first n k levels coordinates = record { values = level_values n k (words levels) 0; coordinates = coordinates }

pub reached_none : (n k : ℕ) (calls : List Call) (levels coordinates kept : List ℕ) → length levels ≡ 2 * levels_length n k → length coordinates ≡ n
    → length kept ≡ 2 * n
    → Reached n k (record { values = level_values n k (words levels) 0; coordinates = coordinates }) (words levels) (words kept) calls calls 0 0 levels
    coordinates kept
unfolding after_folds tab
reached_none n k calls levels coordinates kept el ec ek =
    let c : Codeword = first n k levels coordinates in
    let same : c ≡ in_use n k 0 levels coordinates =
    ap (first n k levels) (sym (take_all (n - 0) coordinates (omega (arith, ec)))) in
    record {
      within = omega arith;
      from= = start-zero n k;
      levels_long = el;
      list_long = ec;
      kept_long = ek;
      before =
          λ j h. ap (λ (i : ℕ). level_values n k (words levels) i) {x = j} {y = 0} (omega arith)
          ∙ ap (λ (i : ℕ). (after_folds c calls i).values) {x = 0} {y = j} (omega arith);
      behind = refl;
      behind_list = drop_of_length-le coordinates {i = n - 0} (omega (arith, ec));
      behind_kept = refl;
      left = λ j. ap (after_folds c calls) {x = 0 + j} {y = j} (omega arith) ∙ ap (λ (d : Codeword). after_folds d calls j) same;
      all = ap (λ (d : Codeword). left_by d calls) same;
      by = ap (λ (d : Codeword). challenges_of (done_folds d calls)) same;
    }

-- ---- a call

none_after : (c : Codeword) (xs : List Call) → after_folds c xs 0 ≡ c
unfolding after_folds
none_after c xs = refl

-- a refused one leaves the codeword
skipped : (c : Codeword) (x : Call) (rest : List Call) → (call_number c x ≡ 0 → ⊥) → (j : ℕ) → after_folds c (x ∷ rest) j ≡ after_folds c rest j
unfolding after_folds
skipped c x rest z zero = refl
skipped c x rest z (suc j) = rw (ne_eqb (call_number c x) 0 z)

skipped-all : (c : Codeword) (x : Call) (rest : List Call) → (call_number c x ≡ 0 → ⊥) → left_by c (x ∷ rest) ≡ left_by c rest
unfolding left_by
skipped-all c x rest z = rw (ne_eqb (call_number c x) 0 z)

-- a done one leaves its fold
taken : (c : Codeword) (x : Call) (rest : List Call) → call_number c x ≡ 0 → (j : ℕ) → after_folds c (x ∷ rest) (suc j) ≡ after_folds (call_fold c x) rest j
unfolding after_folds
taken c x rest z j = rw (eq-eqb (call_number c x) 0 z)

taken-all : (c : Codeword) (x : Call) (rest : List Call) → call_number c x ≡ 0 → left_by c (x ∷ rest) ≡ left_by (call_fold c x) rest
unfolding left_by
taken-all c x rest z = rw (eq-eqb (call_number c x) 0 z)

taken-folds : (c : Codeword) (x : Call) (rest : List Call) → call_number c x ≡ 0
    → challenges_of (done_folds c (x ∷ rest)) ≡ x.by ∷ challenges_of (done_folds (call_fold c x) rest)
unfolding done_folds
taken-folds c x rest z = rw (eq-eqb (call_number c x) 0 z)

-- a done call's variable has an entry in the list
there : (c : Codeword) (x : Call) → call_number c x ≡ 0 → x.var < length c.coordinates
unfolding call_number
there c x z = fold-there x.n x.k x.original x.var c.coordinates (2 * length c.values) x.room z

module _ (n k : ℕ) (c : Codeword) (old oldKept : List ℕ) (calls rest : List Call) (x : Call) (l from : ℕ) (levels coordinates kept : List ℕ)
    (s : Reached n k c old oldKept calls (x ∷ rest) l from levels coordinates kept) where
  abbrev current : Codeword
  current = in_use n k l levels coordinates

  pub reached_refused : (levels' coordinates' kept' : List ℕ) → length levels' ≡ length levels → length kept' ≡ length kept → words levels' ≡ words levels
      → coordinates' ≡ coordinates → words kept' ≡ words kept
      → (call_number (in_use n k l levels coordinates) x ≡ 0 → ⊥) → Reached n k c old oldKept calls rest l from levels' coordinates' kept'
  reached_refused levels' coordinates' kept' el ek ew ec ev z =
      record {
        within = s.within;
        from= = s.from=;
        levels_long = el ∙ s.levels_long;
        list_long = ap length ec ∙ s.list_long;
        kept_long = ek ∙ s.kept_long;
        before = rw ew s.before;
        behind = ap (drop (level_start n k (suc l))) ew ∙ s.behind;
        behind_list = ap (drop (n - l)) ec ∙ s.behind_list;
        behind_kept = ap (drop l) ev ∙ s.behind_kept;
        left = rw (ew, ec) (λ j. s.left j ∙ skipped current x rest z j);
        all = rw (ew, ec) (s.all ∙ skipped-all current x rest z);
        by = rw (ew, ec, ev) (s.by ∙ ap (λ (fs : List Fold). take l (words kept) ++ challenges_of fs) (skip current x rest z));
      }

  -- its fold is laid behind the levels, its coordinate dropped, its challenge put behind those of the calls before
  module _ (z : call_number (in_use n k l levels coordinates) x ≡ 0) (h : l < n) (levels' coordinates' kept' : List ℕ)
      (long : length levels' ≡ length levels) (kept_long : length kept' ≡ length kept)
      (new : words levels' ≡ laid n k (suc l) (call_fold (in_use n k l levels coordinates) x).values (words levels))
      (dropped : coordinates' ≡ dropped_of x.var (take (n - l) coordinates) ++ drop (n - l) coordinates)
      (put : words kept' ≡ set (words kept) l x.by) where
    words_long : length (words levels) ≡ levels_length n k
    words_long = length-words-even levels (levels_length n k) s.levels_long

    length-next : length (call_fold current x).values ≡ level_length n k (suc l)
    unfolding call_fold
    length-next = length-fold n k l x.var x.by (words levels) h words_long

    -- the list without that coordinate, 0 and what was behind
    abbrev shorter : List ℕ
    shorter = dropped_at x.var (take (n - l) coordinates)

    length-shorter : length shorter ≡ n - suc l
    length-shorter =
        omega (arith, length-take-le (n - l) coordinates (omega (arith, s.list_long)), length-dropped_at x.var (take (n - l) coordinates) (there current x z))

    list_is : coordinates' ≡ shorter ++ 0 ∷ drop (n - l) coordinates
    unfolding dropped_of
    list_is = dropped ∙ append_assoc shorter (0 ∷ []) (drop (n - l) coordinates)

    list_behind : drop (n - suc l) coordinates' ≡ tab (suc l) (λ v. 0)
    unfolding tab
    list_behind =
        ap (drop (n - suc l)) list_is ∙ drop_at shorter (0 ∷ drop (n - l) coordinates) (n - suc l) length-shorter
        ∙ ap (λ (ws : List ℕ). 0 ∷ ws) s.behind_list

    length_list : length coordinates' ≡ n
    length_list =
        ap length list_is ∙ length-append shorter (0 ∷ drop (n - l) coordinates)
        ∙ omega (arith, length-shorter, length-drop (n - l) coordinates, s.list_long, s.within)

    next-is : in_use n k (suc l) levels' coordinates' ≡ call_fold current x
    unfolding call_fold
    next-is =
        ap₂ (λ (vs cs : List ℕ). record { values = vs; coordinates = cs })
        (ap (λ (ws : List ℕ). level_values n k ws (suc l)) new ∙ laid-there n k l _ (words levels) h words_long length-next)
        (ap (take (n - suc l)) list_is ∙ take_at shorter (0 ∷ drop (n - l) coordinates) (n - suc l) length-shorter)

    after : (j : ℕ) → after_folds c calls (suc l + j) ≡ after_folds (in_use n k (suc l) levels' coordinates') rest j
    after j =
        ap (after_folds c calls) {x = suc l + j} {y = l + suc j} (omega arith) ∙ s.left (suc j) ∙ taken current x rest z j
        ∙ ap (λ (d : Codeword). after_folds d rest j) (sym next-is)

    levels_are : (j : ℕ) → j ≤ suc l → level_values n k (words levels') j ≡ (after_folds c calls j).values
    levels_are j g =
        ⊎_elim
        (λ (e : j ≡ suc l). rw e
        (sym (ap (λ (d : Codeword). d.values)
        (ap (after_folds c calls) {x = suc l} {y = suc l + 0} (omega arith) ∙ after 0 ∙ none_after (in_use n k (suc l) levels' coordinates') rest))))
        (λ (b : j < suc l). ap (λ (ws : List ℕ). level_values n k ws j) new ∙ laid-before n k l _ (words levels) h words_long j (omega arith)
        ∙ s.before j (omega arith))
        (eq-or-lt_of_le {n = j} {m = suc l} g)

    kept_are : challenges_of (done_folds c calls) ≡ take (suc l) (words kept') ++ challenges_of (done_folds (in_use n k (suc l) levels' coordinates') rest)
    kept_are =
        s.by ∙ ap (λ (rs : List ℕ). take l (words kept) ++ rs) (taken-folds current x rest z)
        ∙ sym (append_assoc (take l (words kept)) (x.by ∷ []) (challenges_of (done_folds (call_fold current x) rest)))
        ∙ ap₂ (λ (rs : List ℕ) (d : Codeword). rs ++ challenges_of (done_folds d rest))
        (sym (ap (take (suc l)) put ∙ take-suc-set (words kept) l x.by (omega (arith, length-words-even kept n s.kept_long)))) (sym next-is)

    levels-behind : drop (level_start n k (suc (suc l))) (words levels') ≡ drop (level_start n k (suc (suc l))) old
    levels-behind =
        ap (drop (level_start n k (suc (suc l)))) new
        ∙ laid-behind n k l _ (words levels) h words_long length-next
        ∙ behind_more (level_start n k (suc l)) (level_length n k (suc l)) (level_start n k (suc (suc l))) (words levels) old (next_start n k (suc l)) s.behind

    kept-behind : drop (suc l) (words kept') ≡ drop (suc l) oldKept
    kept-behind =
        ap (drop (suc l)) put ∙ drop-set-lt (suc l) (words kept) l x.by (omega arith)
        ∙ behind_more l 1 (suc l) (words kept) oldKept (omega arith) s.behind_kept

    pub reached_done : Reached n k c old oldKept calls rest (suc l) (from + 2 * level_length n k l) levels' coordinates' kept'
    reached_done =
        record {
          within = omega arith;
          from= = omega (arith, s.from=, next_start n k l);
          levels_long = long ∙ s.levels_long;
          list_long = length_list;
          kept_long = kept_long ∙ s.kept_long;
          before = levels_are;
          behind = levels-behind;
          behind_list = list_behind;
          behind_kept = kept-behind;
          left = after;
          all = s.all ∙ taken-all current x rest z ∙ ap (λ (d : Codeword). left_by d rest) (sym next-is);
          by = kept_are;
        }

-- ---- the end: no call is to come, or n are done and no coordinate is left

module _ (n k : ℕ) (c : Codeword) (old oldKept : List ℕ) (calls rest : List Call) (l from : ℕ) (levels coordinates kept : List ℕ)
    (s : Reached n k c old oldKept calls rest l from levels coordinates kept) (end : (rest ≡ []) ⊎ (l ≡ n)) where
  abbrev last : Codeword
  last = in_use n k l levels coordinates

  kept_least : length (take l (words kept)) ≡ l
  kept_least = length-take-le l (words kept) (omega (arith, s.within, length-words-even kept n s.kept_long))

  none-to_come : done_folds last rest ≡ []
  unfolding done_folds
  none-to_come =
      ⊎_elim (λ (e : rest ≡ []). rw e) (λ (e : l ≡ n). let z : n - l ≡ 0 = omega arith in none_done rest last (ap (λ (m : ℕ). take m coordinates) z)) end

  done-kept : challenges_of (done_folds c calls) ≡ take l (words kept)
  done-kept = s.by ∙ ap (λ (fs : List Fold). take l (words kept) ++ challenges_of fs) none-to_come ∙ append-nil (take l (words kept))

  -- nothing more is folded away
  last-left : left_by c calls ≡ last
  last-left = s.all ∙ sym (after-all rest last) ∙ ap (λ (fs : List Fold). after_folds last rest (length fs)) none-to_come ∙ none_after last rest

  pub all_left : Left n k c old oldKept calls l levels coordinates kept
  all_left =
      record {
        count = sym (sym (length-map (done_folds c calls) (λ f. f.by)) ∙ ap length done-kept ∙ kept_least);
        each = s.before;
        behind = s.behind;
        list_is =
            sym (take-append-drop (n - l) coordinates)
            ∙ ap₂ (λ (cs ws : List ℕ). cs ++ ws) (ap (λ (d : Codeword). d.coordinates) (sym last-left)) s.behind_list;
        kept_are = sym (take-append-drop l (words kept)) ∙ ap₂ (λ (rs ws : List ℕ). rs ++ ws) (sym done-kept) s.behind_kept;
      }

-- ---- the number of a call on a level

number_on_lem : (n k l : ℕ) (levels coordinates : List ℕ) (x : Call) → l ≤ n → length levels ≡ 2 * levels_length n k
    → number_on n k l levels coordinates x
    ≡ fold_number x.n x.k x.original x.var (take (n - l) coordinates) (2 * level_length n k l) x.room
unfolding call_number
number_on_lem n k l levels coordinates x h long =
    ap (λ (m : ℕ). fold_number x.n x.k x.original x.var (take (n - l) coordinates) (2 * m) x.room)
    (length-level_values n k l (words levels) h (length-words-even levels (levels_length n k) long))

-- ---- what one call leaves

module _ {n k l from levels half : ℕ} (z : LevelLent n k l from levels half) (x : Call) (cs : List ℕ) where
  number_is : (ws : List ℕ) → length ws ≡ levels
      → number_on n k l ws cs x ≡ fold_number x.n x.k x.original x.var (take (n - l) cs) (2 * level_length n k l) x.room
  number_is ws e = number_on_lem n k l ws cs x z.within (e ∙ z.room.levels_long)

  -- a done one has half the level's length for its room, in words
  room-is : (ws : List ℕ) → length ws ≡ levels → number_on n k l ws cs x ≡ 0 → x.room ≡ level_length n k l
  room-is ws e f = omega (arith, (fold-sizes x.n x.k x.original x.var _ _ _ 0 (sym f ∙ number_is ws e) refl).halved)

  -- so one with more room than there is is refused
  pub too_long : (ws : List ℕ) → length ws ≡ levels → half < x.room → number_on n k l ws cs x ≡ 0 → ⊥
  too_long ws e h f = absurd (omega (arith, h, room-is ws e f, level-le n k l, z.room.half_long))

-- a call that is answered with an error has a number
pub err-refused : (r : Result ℕ Refusal) → is_err r ≡ true → answered r ≡ 0 → ⊥
err-refused (Ok m) e z = cc
err-refused (Err x) e z = never x z

pub ok-done : (r : Result ℕ Refusal) → is_err r ≡ false → answered r ≡ 0
ok-done (Ok m) e = refl
ok-done (Err x) e = cc

pub called_refused : {n k l from : ℕ} {x : Call} {levels coordinates kept coordinates' : List ℕ} → (number_on n k l levels coordinates x ≡ 0 → ⊥)
    → coordinates' ≡ coordinates → Called n k l from x levels coordinates kept levels coordinates' kept l from
called_refused z e =
    record {
      count = sym (on_refused _ _ _ z);
      start = sym (on_refused _ _ _ z);
      level = sym (on_refused _ _ _ z);
      list = e ∙ sym (on_refused _ _ _ z);
      challenge = sym (on_refused _ _ _ z);
    }

module _ {n k l from h : ℕ} (levels coordinates : List ℕ) (z : LevelLent n k l from (length levels) h) (below : l < n) (x : Call) {q : ℕ}
    (e : q ≡ fold_number x.n x.k x.original x.var (take (n - l) coordinates) (2 * level_length n k l) x.room) {list : List ℕ}
    (ec : list ≡ on_done q (dropped_of x.var (take (n - l) coordinates)) (take (n - l) coordinates)) where
  said : q ≡ number_on n k l levels coordinates x
  said = e ∙ sym (number_is z x coordinates levels refl)

  pub called_no : {kept : List ℕ} → (q ≡ 0 → ⊥) → Called n k l from x levels coordinates kept levels (list ++ drop (n - l) coordinates) kept l from
  called_no w =
      called_refused (λ f. w (said ∙ f))
      (ap (λ (cs : List ℕ). cs ++ drop (n - l) coordinates) (ec ∙ on_refused _ _ _ w) ∙ take-append-drop (n - l) coordinates)

  pub called_done : q ≡ 0 → (half : List ℕ) {kept levels' kept' : List ℕ} {to : ℕ} (u : List ℕ) → to ≡ 2 * level_start n k (l + 1)
      → words (take x.room half) ≡ on_done q (fold_list x.var x.by (level_values n k (words levels) l)) u
      → words levels' ≡ laid n k (l + 1) (words (take (2 * level_length n k (l + 1)) half)) (words levels) → words kept' ≡ set (words kept) l x.by
      → Called n k l from x levels coordinates kept levels' (list ++ drop (n - l) coordinates) kept' (l + 1) to
  unfolding call_fold
  called_done w half u et ef el ek =
      let none : number_on n k l levels coordinates x ≡ 0 = sym said ∙ w in
      let all = eq-eqb (number_on n k l levels coordinates x) 0 none in
      let room : x.room ≡ 2 * level_length n k (suc l) = room-is z x coordinates levels refl none ∙ level-halves n k l (omega arith) in
      let f : words (take (2 * level_length n k (suc l)) half) ≡ fold_list x.var x.by (level_values n k (words levels) l) = rw (room, w) at ef in
      let g : list ≡ dropped_of x.var (take (n - l) coordinates) = rw w at ec in
      record {
        count = rw (all, add-one);
        start = rw all (rw add-one at et);
        level = rw all (rw (add-one, f) at el);
        list = rw all (ap (λ (cs : List ℕ). cs ++ drop (n - l) coordinates) g);
        challenge = rw all ek;
      }

-- ---- a turn, of the calls of two lent lists

pub next_call : (cs rs : List ℕ) (m i : ℕ) → i < m → calls_from cs rs i (m - i) ≡ call_at cs rs i ∷ calls_from cs rs (suc i) (m - suc i)
unfolding calls_from
next_call cs rs m i h = let e : m - i ≡ suc (m - suc i) = omega arith in rw e

pub no_call : (cs rs : List ℕ) (m i : ℕ) → m ≤ i → calls_from cs rs i (m - i) ≡ []
unfolding calls_from
no_call cs rs m i h = let e : m - i ≡ 0 = omega arith in rw e

module _ {n k : ℕ} {c : Codeword} {old oldKept : List ℕ} {calls : List Call} (cs rs : List ℕ) (m i : ℕ) {l from : ℕ} {levels coordinates kept levels' coordinates' kept' : List ℕ} {l' from' : ℕ}
    (s : Reached n k c old oldKept calls (calls_from cs rs i (m - i)) l from levels coordinates kept) (h : i < m) (below : l < n)
    (el : length levels' ≡ length levels) (ek : length kept' ≡ length kept) (call : Called n k l from (call_at cs rs i) levels coordinates kept levels' coordinates' kept' l' from') where
  abbrev Q : ℕ
  Q = number_on n k l levels coordinates (call_at cs rs i)

  abbrev rest : List Call
  rest = calls_from cs rs (suc i) (m - suc i)

  stands : Reached n k c old oldKept calls (call_at cs rs i ∷ rest) l from levels coordinates kept
  stands = rw (next_call cs rs m i h) at s

  refused : (Q ≡ 0 → ⊥) → Reached n k c old oldKept calls rest l' from' levels' coordinates' kept'
  refused z =
      let none = ne_eqb Q 0 z in
      let a : l' ≡ l = rw none at call.count in
      let b : from' ≡ from = rw none at call.start in
      rw (a, b)
      (reached_refused n k c old oldKept calls rest (call_at cs rs i) l from levels coordinates kept stands levels' coordinates' kept' el ek
      (rw none at call.level) (rw none at call.list) (rw none at call.challenge) z)

  done : Q ≡ 0 → Reached n k c old oldKept calls rest l' from' levels' coordinates' kept'
  done z =
      let all = eq-eqb Q 0 z in
      let a : l' ≡ suc l = rw all at call.count in
      let b : from' ≡ from + 2 * level_length n k l = (rw all at call.start) ∙ omega (arith, s.from=, next_start n k l) in
      rw (a, b)
      (reached_done n k c old oldKept calls rest (call_at cs rs i) l from levels coordinates kept stands z below levels' coordinates' kept' el ek
      (rw all at call.level) (rw all at call.list) (rw all at call.challenge))

  pub turned : Reached n k c old oldKept calls (calls_from cs rs (i + 1) (m - (i + 1))) l' from' levels' coordinates' kept'
  turned = rw add-one (go (eqb Q 0) refl)
    where
      go : (b : Bool) → eqb Q 0 ≡ b → Reached n k c old oldKept calls rest l' from' levels' coordinates' kept'
      go true e = done (eqb-true Q 0 e)
      go false e = refused (eqb-false Q 0 e)

-- ---- as the loop asks for them

pub same_call : {n k l from : ℕ} {x y : Call} {levels coordinates kept levels' coordinates' kept' : List ℕ} {l' from' : ℕ}
    → Called n k l from x levels coordinates kept levels' coordinates' kept' l' from' → x ≡ y → Called n k l from y levels coordinates kept levels' coordinates' kept' l' from'
same_call {n} {k} {l} {from} {x} {y} {levels} {coordinates} {kept} {levels'} {coordinates'} {kept'} {l'} {from'} h e =
    subst (λ (v : Call). Called n k l from v levels coordinates kept levels' coordinates' kept' l' from') e h

pub reached_begin : (n k : ℕ) (cs rs levels coordinates kept : List ℕ) → length levels ≡ 2 * levels_length n k → length coordinates ≡ n → length kept ≡ 2 * n
    → Reached n k (record { values = level_values n k (words levels) 0; coordinates = coordinates }) (words levels) (words kept) (lent_calls cs rs)
    (calls_from cs rs 0 (length cs / 5 - 0)) 0 0 levels coordinates kept
reached_begin n k cs rs levels coordinates kept el ec ek =
    let z : length cs / 5 - 0 ≡ length cs / 5 = omega arith in
    rw z (reached_none n k (lent_calls cs rs) levels coordinates kept el ec ek)

-- no call is left, or n are done
pub ended : {n k : ℕ} {c : Codeword} {old oldKept : List ℕ} {calls : List Call} (cs rs : List ℕ) (m i : ℕ) {l from : ℕ} {levels coordinates kept : List ℕ}
    → Reached n k c old oldKept calls (calls_from cs rs i (m - i)) l from levels coordinates kept → (m ≤ i) ⊎ (n ≤ l)
    → Left n k c old oldKept calls l levels coordinates kept
ended {n} {k} {c} {old} {oldKept} {calls} cs rs m i {l} {from} {levels} {coordinates} {kept} s end =
    all_left n k c old oldKept calls (calls_from cs rs i (m - i)) l from levels coordinates kept s
    (⊎_elim (λ (h : m ≤ i). inl (no_call cs rs m i h)) (λ (h : n ≤ l). inr (omega (arith, h, s.within))) end)

pub same_by : (x : Call) {by : ℕ} → x.by ≡ by
    → x ≡ record { n = x.n; k = x.k; original = x.original; var = x.var; by = by; room = x.room }
same_by x e = ap (λ (r : ℕ). record { n = x.n; k = x.k; original = x.original; var = x.var; by = r; room = x.room }) e
