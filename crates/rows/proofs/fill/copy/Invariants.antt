-- So far: the first w words are copied, and nothing else was touched.
use Rattle.std.proofs.Common.{◌≡◌}
use Rattle.memory.specs.Access.{accessed}
use Rattle.memory.specs.Words.{over}
use Rattle.rows.specs.Fill.{part, copy_accesses}
use Rattle.rows.proofs.fill.copy.Given as goal

abbrev pub invariant-loop-w : goal.invariant-loop-w
invariant-loop-w g l =
    g.M.Memory.seen l.m ≡ accessed (g.M.Memory.seen l.initial.m) (copy_accesses l.from l.to l.w) (over (g.M.Memory.seen l.initial.m).words l.to (part (g.M.Memory.seen l.initial.m).words l.from l.w))
