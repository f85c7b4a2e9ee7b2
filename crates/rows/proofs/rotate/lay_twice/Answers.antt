-- The last word is read first, for the second copy begins in its place; then the copies grow by a word a turn.
use Rattle.std.proofs.Common.{ap, arith, length-set}
use Rattle.rows.proofs.Loops.{size}
use Rattle.rows.proofs.Filling.{length_filled}
use Rattle.rows.proofs.Doubling.{twin_none, twin_more, twin_fits, twin_all}
use Rattle.rows.proofs.rotate.lay_twice.Goals as goal

pub loop-w-init : goal.loop-w-init
loop-w-init g c = twin_none _ _ _ _ _ _ _ _ _ (omega arith) (omega arith) c.requires.tail c.get_within-last.ensures.did c.get_within-last.ensures.value c.get_within-last.type_inv

pub get_within-x-requires : goal.get_within-x-requires
get_within-x-requires g c = omega (arith, ap size c.get_within-last.ensures.did, simp length_filled at (ap size c.loop-w.invariant.did))

pub put_within-requires : goal.put_within-requires
put_within-requires g c =
    omega (arith, ap size c.get_within-last.ensures.did, simp length_filled at (ap size c.loop-w.invariant.did), ap size c.get_within-x.ensures.did)

pub put_within-requires-in-loop-w : goal.put_within-requires-in-loop-w
put_within-requires-in-loop-w g c =
    omega (arith, ap size c.get_within-last.ensures.did, simp length_filled at (ap size c.loop-w.invariant.did), ap size c.get_within-x.ensures.did, simp length-set at (ap size c.put_within.ensures.did))

pub loop-w-preserved : goal.loop-w-preserved
loop-w-preserved g c =
    twin_more _ _ _ _ _ _ _ _ _ _ _ _ _ _ (omega arith) c.requires.apart (omega arith) (omega arith) c.loop-w-test.true c.loop-w.invariant
    c.get_within-x.ensures.did c.get_within-x.ensures.value c.get_within-x.type_inv c.put_within.ensures.did c.put_within-in-loop-w.ensures.did

pub put_within-requires-2 : goal.put_within-requires-2
put_within-requires-2 g c = omega (arith, ap size c.get_within-last.ensures.did, simp length_filled at (ap size c.loop-w.invariant.did))

pub overflow_cast-top-4 : goal.overflow_cast-top-4
overflow_cast-top-4 g c = record { fits = twin_fits _ _ _ c.get_within-last.type_inv (omega arith) c.loop-w.invariant.small }

pub put_within-requires-3 : goal.put_within-requires-3
put_within-requires-3 g c =
    omega (arith, ap size c.get_within-last.ensures.did, simp length_filled at (ap size c.loop-w.invariant.did), simp length-set at (ap size c.put_within-2.ensures.did))

pub returns : goal.returns
returns g c = record {
  did = twin_all _ _ _ _ _ _ _ _ _ _ _ _ _ _ (omega arith) (omega arith) (omega arith) (omega arith) c.get_within-last.ensures.did c.get_within-last.ensures.value c.get_within-last.type_inv
      c.loop-w.invariant c.put_within-2.ensures.did c.put_within-3.ensures.did;
}
