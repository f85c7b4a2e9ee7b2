-- Each turn writes one plane more to the pack.
use Rattle.std.proofs.Common.{ap, arith}
use Rattle.rows.proofs.Loops.{words_of}
use Rattle.rows.proofs.Columns.{loaded_none, loaded_more, planes_more}
use Rattle.rows.proofs.add.load.Goals as goal

pub loop-k-init : goal.loop-k-init
loop-k-init g c = (loaded_none _ _ _, λ i h. absurd (omega arith))

pub loop-k-preserved : goal.loop-k-preserved
loop-k-preserved g c = (
  loaded_more _ _ _ _ _ _ c.loop-k.invariant.0 c.get_within-word.ensures.did,
  planes_more _ _ (g.L.Lanes.plane c.loop-k.pack) (g.L.Lanes.plane c.write.new.self) _ _ g.L.Lanes.depth _ _ (omega arith) (ap words_of c.loop-k.invariant.0) c.loop-k.invariant.1 c.get_within-word.ensures.value c.write.ensures.here c.write.ensures.others,
)
