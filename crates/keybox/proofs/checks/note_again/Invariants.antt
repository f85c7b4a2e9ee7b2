use Rattle.std.proofs.Common.{◌≡◌}
use Rattle.memory.specs.Access.{accessed}
use Rattle.keybox.specs.Accesses.{pair_accesses}
use Rattle.keybox.specs.Marks.{marked, or_else}
use Rattle.keybox.proofs.Marking.{noted_among}
use Rattle.keybox.proofs.checks.note_again.Given as goal

abbrev pub invariant-loop-i : goal.invariant-loop-i
invariant-loop-i g l =
    (marked l.mark ≡ or_else (marked l.initial.mark) (noted_among (g.M.Memory.seen l.initial.m).words l.at l.n l.i))
    × (g.M.Memory.seen l.m ≡ accessed (g.M.Memory.seen l.initial.m) (pair_accesses l.at l.i) (g.M.Memory.seen l.initial.m).words)
