-- Each turn is one word more; what is still to be read lies apart from what was written.
use Rattle.std.proofs.Common.{ap, arith}
use Rattle.memory.proofs.Words.{length_over}
use Rattle.rows.proofs.Loops.{size, copied_none, copied_more}
use Rattle.rows.proofs.fill.copy.Goals as goal

pub loop-w-init : goal.loop-w-init
loop-w-init g c = copied_none _ _ _

pub get_within-word-requires : goal.get_within-word-requires
get_within-word-requires g c = omega (arith, simp length_over at (ap size c.loop-w.invariant))

pub put_within-requires : goal.put_within-requires
put_within-requires g c =
    omega (arith, simp length_over at (ap size c.loop-w.invariant), ap size c.get_within-word.ensures.did)

pub loop-w-preserved : goal.loop-w-preserved
loop-w-preserved g c =
    copied_more _ _ _ _ _ _ _ _ _ c.requires.apart c.loop-w-test.true c.requires.source c.loop-w.invariant c.get_within-word.ensures.did c.get_within-word.ensures.value c.put_within.ensures.did
