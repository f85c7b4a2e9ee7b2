use Rattle.std.proofs.Common.{◌≡◌, eqb}
use Rattle.memory.specs.Access.{accessed}
use Rattle.rows.specs.Fill.{part}
use Rattle.keybox.specs.Accesses.{read_accesses}
use Rattle.keybox.specs.Making.{is_unit}
use Rattle.keybox.proofs.Units.{wanted_at}
use Rattle.keybox.proofs.load.is_unit.Given as goal

abbrev pub invariant-loop-w : goal.invariant-loop-w
invariant-loop-w g l =
    (l.wanted ≡ wanted_at l.w)
    × (eqb l.differences 0 ≡ is_unit (part (g.M.Memory.seen l.initial.m).words l.at l.w))
    × (g.M.Memory.seen l.m ≡ accessed (g.M.Memory.seen l.initial.m) (read_accesses l.at l.w) (g.M.Memory.seen l.initial.m).words)
