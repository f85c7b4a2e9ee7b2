-- After w turns the w words below are chosen.
use Rattle.std.proofs.Common.{◌≡◌}
use Rattle.memory.specs.Access.{accessed}
use Rattle.rows.specs.Turn.{stage_accesses}
use Rattle.rows.specs.Number.{filled, staged}
use Rattle.rows.proofs.rotate.stage.Given as goal

abbrev pub invariant-loop-w : goal.invariant-loop-w
invariant-loop-w g l =
    g.M.Memory.seen l.m ≡ accessed (g.M.Memory.seen l.initial.m) (stage_accesses l.base l.v l.w) (filled (g.M.Memory.seen l.initial.m).words l.base (staged (g.M.Memory.seen l.initial.m).words l.base l.v l.choice.digit) l.w)
