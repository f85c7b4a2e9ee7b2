-- What the get, the choice, the rotation and the addition did, as one promise.
use Rattle.std.proofs.Common.{ap, arith}
use Rattle.memory.proofs.Words.{length_over}
use Rattle.rows.proofs.Loops.{words_of, size}
use Rattle.rows.proofs.Steps.{turnable, length_chosen, row_apart, row_within, step_did, step_left}
use Rattle.rows.proofs.sum.step.Goals as goal

pub rotate-next-requires : goal.rotate-next-requires
rotate-next-requires g c = record {
  fits = turnable g.L.Lanes.depth c.args.plan _ _ _ c.get_within-word.result _ _ _ c.requires.fits (ap words_of c.get_within-word.ensures.did) (ap words_of c.choose-from.ensures.did) c.choose-from.ensures.from c.choose-from.ensures.position c.turn-by.ensures;
  next = c.requires.next;
}

pub add_row-requires : goal.add_row-requires
add_row-requires g c =
    let got = ap size c.get_within-word.ensures.did in
    let chose = simp length_chosen at (ap size c.choose-from.ensures.did) in
    let turned = simp length_over at (ap size c.rotate-next.ensures.did) in
    let row = row_within g.L.Lanes.depth c.args.plan _ c.requires.fits in
    record { source = omega arith; space = rw c.width.ensures (omega arith); apart = rw c.width.ensures (row_apart g.L.Lanes.depth c.args.plan _ c.requires.fits) }

pub returns : goal.returns
returns g c = record {
  count = c.rotate-next.ensures.count;
  words = step_left g.L.Lanes.add g.L.Lanes.depth c.args.plan c.args.i _ _ _ _ _ c.get_within-word.result _ _ _ c.get_within-word.ensures.did c.get_within-word.ensures.value c.choose-from.ensures.did c.choose-from.ensures.from c.choose-from.ensures.position c.turn-by.ensures c.rotate-next.ensures.did (rw c.width.ensures at c.add_row.ensures.did) c.requires.fits;
  did = step_did g.L.Lanes.add g.L.Lanes.depth c.args.plan c.args.i _ _ _ _ _ c.get_within-word.result _ _ _ c.get_within-word.ensures.did c.get_within-word.ensures.value c.choose-from.ensures.did c.choose-from.ensures.from c.choose-from.ensures.position c.turn-by.ensures c.rotate-next.ensures.did (rw c.width.ensures at c.add_row.ensures.did);
}
