-- Each turn is one zero more.
use Rattle.std.proofs.Common.{ap, arith}
use Rattle.memory.proofs.Words.{length_over}
use Rattle.rows.proofs.Loops.{size, zeroed_none, zeroed_more}
use Rattle.rows.proofs.fill.zero.Goals as goal

pub loop-w-init : goal.loop-w-init
loop-w-init g c = zeroed_none _ _

pub put_within-requires : goal.put_within-requires
put_within-requires g c = omega (arith, simp length_over at (ap size c.loop-w.invariant))

pub loop-w-preserved : goal.loop-w-preserved
loop-w-preserved g c = zeroed_more _ _ _ _ _ c.loop-w.invariant c.put_within.ensures.did
