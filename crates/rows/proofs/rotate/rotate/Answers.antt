-- The row is laid twice, shifted down stage by stage and then within the words, and its second half is zeroed.
use Rattle.std.proofs.Common.{ℕ, ◌-◌, refl, ap, arith}
use Rattle.std.proofs.lemmas.Nat.{one_shl}
use Rattle.rows.proofs.Loops.{size}
use Rattle.rows.proofs.Filling.{length_filled}
use Rattle.rows.proofs.Stages.{ahead_less}
use Rattle.rows.proofs.Turning.{row_tail, digits_needed, turned_all}
use Rattle.rows.proofs.rotate.rotate.Goals as goal

pub lay_twice-requires : goal.lay_twice-requires
lay_twice-requires g c = record {
  long = omega arith;
  size = c.width-n.ensures;
  source = omega arith;
  space = omega arith;
  apart = rw c.width-n.ensures c.requires.fits.apart;
  tail = rw c.width-n.ensures (row_tail _ _ _ (omega arith) c.requires.fits.tail);
}

pub stage-requires : goal.stage-requires
stage-requires g c =
    let long = simp length_filled at (ap size c.lay_twice.ensures.did) in
    let e : ℕ = c.loop-e.e - 1 in
    record {
      space = omega (arith, c.loop-e.invariant.long);
      by = omega (arith, one_shl e 32 (omega arith), digits_needed c.width-n.result e (omega arith) (omega arith) (omega arith));
    }

pub loop-e-preserved : goal.loop-e-preserved
loop-e-preserved g c =
    ahead_less _ _ _ _ _ _ _ _ _ _ _ (omega arith) (one_shl (c.loop-e.e - 1) 32 (omega arith)) c.digit.ensures c.loop-e.invariant c.stage.ensures.did

pub finish-requires : goal.finish-requires
finish-requires g c =
    let long = simp length_filled at (ap size c.lay_twice.ensures.did) in
    record {
      long = omega arith;
      size = c.width-n.ensures;
      space = omega (arith, c.loop-e.invariant.long);
    }

pub zero-requires : goal.zero-requires
zero-requires g c =
    let long = simp length_filled at (ap size c.lay_twice.ensures.did) in
    let last = simp length_filled at (ap size c.finish.ensures.did) in
    record {
      space = omega (arith, c.loop-e.invariant.long);
    }

pub returns : goal.returns
returns g c = record {
  count = refl;
  did = turned_all _ _ _ _ _ _ _ _ _ _ _ (omega arith) (omega arith) (row_tail _ _ _ (omega arith) c.requires.fits.tail) c.opposite-down.ensures (omega arith) (omega arith)
      (rw c.width-n.ensures at c.lay_twice.ensures.did) (rw c.width-n.ensures at c.loop-e.invariant) (rw c.width-n.ensures at c.finish.ensures.did) (rw c.width-n.ensures at c.zero.ensures.did);
}
