-- `claim_whole_run::made` meets its contract.
use Rattle.claim_whole_run.proofs.Claims.{last-room, room-same, claimed_by}
use borrow.Author.Rules.{rules}
use Rattle.claim_whole_run.proofs.made.Goals as goal

-- the places of the code, from its end to its start

pub tail_record-claimed-requires : goal.tail_record-claimed-requires
tail_record-claimed-requires c =
    let kept = c.deposit-done.auto in last-room
    (room-same c.requires.0 kept.levels kept.coordinates kept.kept
    kept.trees kept.roots)

pub shape_of-gammas : goal.shape_of-gammas
shape_of-gammas c = c.deposit-done.auto.gammas

pub shape_of-levels : goal.shape_of-levels
shape_of-levels c = c.deposit-done.auto.levels

pub shape_of-coordinates : goal.shape_of-coordinates
shape_of-coordinates c = c.deposit-done.auto.coordinates

pub shape_of-half : goal.shape_of-half
shape_of-half c = c.deposit-done.auto.half

pub shape_of-kept : goal.shape_of-kept
shape_of-kept c = c.deposit-done.auto.kept

pub shape_of-trees : goal.shape_of-trees
shape_of-trees c = c.deposit-done.auto.trees

pub shape_of-roots : goal.shape_of-roots
shape_of-roots c = c.deposit-done.auto.roots

pub returns : goal.returns
returns c =
    let kept = c.deposit-done.auto in let room =
    room-same c.requires.0 kept.levels kept.coordinates kept.kept
    kept.trees kept.roots in
    let d = c.deposit-done.ensures in let q = c.query_record-checked.ensures in let t = c.tail_record-claimed.ensures in let e = c.two_records-compared.ensures in let claimed =
    claimed_by _ _ _ _ _ room c.requires.0.commit.list_long d.deposit_left c.requires.1 q.out_after t.out_after q.result_value t.value e.result_value e.one_after e.two_after (λ j. (c.type_inv.query j).fits)
    (λ j. (c.type_inv.tail j).fits) (λ j. (c.type_inv.first j).fits) (λ j. (c.type_inv.second j).fits) in
    record {
      deposited = d.deposit_left;
      half_cleared = d.half_after;
      query_is = q.out_after;
      tail_is = t.out_after;
      answer_is = q.result_value;
      number_is = t.value;
      compared_is = e.result_value;
      one_is = e.one_after;
      two_is = e.two_after;
      claimed = claimed;
    }
