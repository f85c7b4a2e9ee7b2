-- So far: the packs below w have the row's bits added, and the others are as they were.
use Rattle.rows.proofs.Adding.{Added}
use Rattle.rows.proofs.add.add_row.Given as goal

abbrev pub invariant-loop-w : goal.invariant-loop-w
invariant-loop-w g l =
    Added g.L.Lanes.add (g.M.Memory.seen l.initial.m) (g.M.Memory.seen l.m) l.from l.into l.width g.L.Lanes.depth l.w
