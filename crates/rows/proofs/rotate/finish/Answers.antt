-- Each word is written once the next one is at hand, and the last is cut to the row's end.
use Rattle.std.proofs.Common.{ap, ◌∙◌, arith}
use Rattle.rows.proofs.Loops.{size}
use Rattle.rows.proofs.Filling.{length_filled}
use Rattle.rows.proofs.Sliding.{slid_whole, slide_none, slide_more, slide_all}
use Rattle.rows.proofs.rotate.finish.Goals as goal

pub loop-w-init : goal.loop-w-init
loop-w-init g c = slide_none _ _ _ _ _ _ c.get_within-lo.ensures.did c.get_within-lo.ensures.value

pub get_within-hi-requires : goal.get_within-hi-requires
get_within-hi-requires g c = omega (arith, ap size c.get_within-lo.ensures.did, simp length_filled at (ap size c.loop-w.invariant.did))

pub put_within-requires : goal.put_within-requires
put_within-requires g c =
    omega (arith, ap size c.get_within-lo.ensures.did, simp length_filled at (ap size c.loop-w.invariant.did), ap size c.get_within-hi.ensures.did)

pub loop-w-preserved : goal.loop-w-preserved
loop-w-preserved g c =
    slide_more _ _ _ _ _ _ _ _ _ _ _ c.loop-w.invariant c.get_within-hi.ensures.did c.get_within-hi.ensures.value
    (c.slide.ensures.value ∙ slid_whole _ _ _ _ _ (omega arith)) c.put_within.ensures.did

pub get_within-top-requires : goal.get_within-top-requires
get_within-top-requires g c = omega (arith, ap size c.get_within-lo.ensures.did, simp length_filled at (ap size c.loop-w.invariant.did))

pub put_within-requires-2 : goal.put_within-requires-2
put_within-requires-2 g c =
    omega (arith, ap size c.get_within-lo.ensures.did, simp length_filled at (ap size c.loop-w.invariant.did), ap size c.get_within-top.ensures.did)

pub returns : goal.returns
returns g c = record {
  did = slide_all _ _ _ _ _ _ _ _ _ _ _ _ _ _ _ (omega arith) (omega arith) (omega arith) c.get_within-lo.ensures.did c.loop-w.invariant c.get_within-top.ensures.did c.get_within-top.ensures.value
      c.slide-2.ensures.value c.lowest.ensures.value c.put_within-2.ensures.did;
}
