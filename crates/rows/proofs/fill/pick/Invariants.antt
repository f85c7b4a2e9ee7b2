-- So far: the first w words are those of the row that the digit chooses, and nothing else was touched.
use Rattle.std.proofs.Common.{◌≡◌}
use Rattle.memory.specs.Access.{accessed}
use Rattle.memory.specs.Words.{over}
use Rattle.rows.specs.Fill.{part, pick_accesses}
use Rattle.rows.specs.Masks.{chosen}
use Rattle.rows.proofs.fill.pick.Given as goal

abbrev pub invariant-loop-w : goal.invariant-loop-w
invariant-loop-w g l =
    g.M.Memory.seen l.m ≡ accessed (g.M.Memory.seen l.initial.m) (pick_accesses l.a l.b l.to l.w) (over (g.M.Memory.seen l.initial.m).words l.to (part (g.M.Memory.seen l.initial.m).words (chosen l.choice.digit l.b l.a) l.w))
