-- Each turn is one word more; what is still to be read lies apart from what was written.
use Rattle.std.proofs.Common.{ap, arith}
use Rattle.memory.proofs.Words.{length_over}
use Rattle.rows.proofs.Loops.{size, picked_none, picked_more}
use Rattle.rows.proofs.fill.pick.Goals as goal

pub loop-w-init : goal.loop-w-init
loop-w-init g c = picked_none _ c.args.choice.digit _ _ _

pub get_within-first-requires : goal.get_within-first-requires
get_within-first-requires g c = omega (arith, simp length_over at (ap size c.loop-w.invariant))

pub get_within-second-requires : goal.get_within-second-requires
get_within-second-requires g c =
    omega (arith, simp length_over at (ap size c.loop-w.invariant), ap size c.get_within-first.ensures.did)

pub put_within-requires : goal.put_within-requires
put_within-requires g c =
    omega (arith, simp length_over at (ap size c.loop-w.invariant), ap size c.get_within-first.ensures.did, ap size c.get_within-second.ensures.did)

pub loop-w-preserved : goal.loop-w-preserved
loop-w-preserved g c =
    picked_more _ _ _ _ _ c.args.choice.digit _ _ _ _ _ _ _ _ c.requires.first_apart c.requires.second_apart c.loop-w-test.true c.requires.first c.requires.second c.loop-w.invariant c.get_within-first.ensures.did c.get_within-first.ensures.value c.get_within-second.ensures.did c.get_within-second.ensures.value c.select.ensures c.put_within.ensures.did
