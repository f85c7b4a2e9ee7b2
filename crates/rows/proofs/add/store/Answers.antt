-- Each turn puts one plane more.
use Rattle.std.proofs.Common.{ap, arith, below_more}
use Rattle.rows.proofs.Loops.{size}
use Rattle.rows.proofs.Columns.{length_column_over, stored_none, stored_more}
use Rattle.rows.proofs.add.store.Goals as goal

pub loop-k-init : goal.loop-k-init
loop-k-init g c = (stored_none _ (g.L.Lanes.plane c.args.pack.now) _ _, λ i h. absurd (omega arith))

pub put_within-requires : goal.put_within-requires
put_within-requires g c =
    omega (arith, c.requires.space c.loop-k.k (omega arith), simp length_column_over at (ap size c.loop-k.invariant.0))

pub loop-k-preserved : goal.loop-k-preserved
loop-k-preserved g c =
    let inv = c.loop-k.invariant in
    let read = c.read-word.ensures in (
      stored_more _ _ _ (g.L.Lanes.plane c.args.pack.now) _ _ _ _ inv.0 read c.put_within.ensures.did,
      below_more _ _ inv.1 (omega arith),
    )
