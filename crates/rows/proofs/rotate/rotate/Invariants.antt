-- After some stages, those that are left lead from here to where all of them lead from the start.
use Rattle.std.proofs.Common.{◌/◌}
use Rattle.rows.proofs.Stages.{Ahead}
use Rattle.rows.proofs.rotate.rotate.Given as goal

abbrev pub invariant-loop-e : goal.invariant-loop-e
invariant-loop-e g l = Ahead (g.M.Memory.seen l.initial.m) (g.M.Memory.seen l.m) l.n l.scratch (l.down / 32) l.initial.e l.e
