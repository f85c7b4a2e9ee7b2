-- Each turn is one position more; the room is zeroed at the end.
use Rattle.std.proofs.Common.{arith}
use Rattle.rows.proofs.Summing.{going_none, going_fits, going_more, going_all}
use Rattle.rows.proofs.sum.sum.Goals as goal

pub loop-i-init : goal.loop-i-init
loop-i-init g c = (omega arith, going_none g.L.Lanes.add g.L.Lanes.depth c.args.plan _)

pub step-turned-requires : goal.step-turned-requires
step-turned-requires g c = record {
  fits = going_fits g.L.Lanes.add g.L.Lanes.depth c.args.plan _ _ _ c.requires.fits c.loop-i.invariant.1;
  within = omega arith;
  next = omega (arith, c.loop-i.invariant.0);
}

pub loop-i-preserved : goal.loop-i-preserved
loop-i-preserved g c =
    (omega (arith, c.loop-i.invariant.0, c.step-turned.ensures.count), going_more g.L.Lanes.add g.L.Lanes.depth c.args.plan _ _ _ c.loop-i.i c.requires.fits (omega arith) c.loop-i.invariant.1 c.step-turned.ensures.words c.step-turned.ensures.did)

pub zero-requires : goal.zero-requires
zero-requires g c =
    let fits = going_fits g.L.Lanes.add g.L.Lanes.depth c.args.plan _ _ _ c.requires.fits c.loop-i.invariant.1 in
    record { space = rw c.room.ensures fits.space }

pub returns : goal.returns
returns g c = record {
  count = omega (arith, c.loop-i.invariant.0);
  did = going_all g.L.Lanes.add g.L.Lanes.depth c.args.plan _ _ _ _ g.met.L.Lanes.within c.requires.fits (omega arith) c.loop-i.invariant.1 (rw c.room.ensures at c.zero.ensures.did);
}
