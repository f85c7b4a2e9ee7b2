-- Each turn is one pack more, in a column of its own; with all of them the planes are written whole.
use Rattle.std.proofs.Common.{ap, arith}
use Rattle.rows.proofs.Loops.{size}
use Rattle.rows.proofs.Adding.{length_packs_over, column_within, added_none, added_more, added_all}
use Rattle.rows.proofs.add.add_row.Goals as goal

pub loop-w-init : goal.loop-w-init
loop-w-init g c = added_none g.L.Lanes.add _ _ _ _ _

pub add_pack-requires : goal.add_pack-requires
add_pack-requires g c =
    let long = simp length_packs_over at (ap size c.loop-w.invariant) in
    record { source = omega arith; space = column_within _ _ _ _ _ c.loop-w-test.true (omega arith) }

pub loop-w-preserved : goal.loop-w-preserved
loop-w-preserved g c =
    added_more g.L.Lanes.add _ _ _ _ _ _ _ _ c.loop-w-test.true c.requires.apart c.loop-w.invariant c.add_pack.ensures.did

pub returns : goal.returns
returns g c = record { did = added_all g.L.Lanes.add _ _ _ _ _ _ _ (omega arith) c.requires.space c.loop-w.invariant }
