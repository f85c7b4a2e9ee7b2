-- Turn by turn, the words below are chosen, and those from there on are as they were.
use Rattle.std.proofs.Common.{ap, arith}
use Rattle.rows.proofs.Loops.{size}
use Rattle.rows.proofs.Filling.{length_filled}
use Rattle.rows.proofs.Stages.{stage_none, stage_more}
use Rattle.rows.proofs.rotate.stage.Goals as goal

pub loop-w-init : goal.loop-w-init
loop-w-init g c = stage_none _ _ _ _

pub get_within-far-requires : goal.get_within-far-requires
get_within-far-requires g c = omega (arith, simp length_filled at (ap size c.loop-w.invariant))

pub get_within-near-requires : goal.get_within-near-requires
get_within-near-requires g c = omega (arith, simp length_filled at (ap size c.loop-w.invariant), ap size c.get_within-far.ensures.did)

pub put_within-requires : goal.put_within-requires
put_within-requires g c =
    omega (arith, simp length_filled at (ap size c.loop-w.invariant), ap size c.get_within-far.ensures.did, ap size c.get_within-near.ensures.did)

pub loop-w-preserved : goal.loop-w-preserved
loop-w-preserved g c =
    stage_more _ _ _ _ _ _ _ _ _ _ _ _ c.loop-w.invariant c.get_within-far.ensures.did c.get_within-far.ensures.value
    c.get_within-near.ensures.did c.get_within-near.ensures.value c.select.ensures c.put_within.ensures.did
