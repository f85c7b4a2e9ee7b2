use Rattle.std.proofs.Common.{◌≡◌, cond, drop}
use Rattle.memory.specs.Access.{accessed}
use Rattle.keybox.specs.Accesses.{read_accesses}
use Rattle.keybox.specs.Model.{earlier}
use Rattle.keybox.proofs.checks.stands_in.Given as goal

abbrev pub invariant-loop-j : goal.invariant-loop-j
invariant-loop-j g l =
    (l.found.digit ≡ cond (earlier (drop l.at (g.M.Memory.seen l.initial.m).words) l.word l.j) 1 0)
    × (g.M.Memory.seen l.m ≡ accessed (g.M.Memory.seen l.initial.m) (read_accesses l.at l.j) (g.M.Memory.seen l.initial.m).words)
