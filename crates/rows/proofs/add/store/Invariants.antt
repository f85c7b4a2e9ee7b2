-- So far: the column has the planes below k, each of which is a word.
use Rattle.std.proofs.Common.{◌≡◌, ℕ, ◌^◌, ◌<◌}
use Rattle.memory.specs.Access.{accessed, put}
use Rattle.rows.specs.Lane.{column_over, column_accesses}
use Rattle.rows.proofs.add.store.Given as goal

abbrev pub invariant-loop-k : goal.invariant-loop-k
invariant-loop-k g l =
    (g.M.Memory.seen l.m ≡ accessed (g.M.Memory.seen l.initial.m) (column_accesses put l.at l.width l.k) (column_over (g.M.Memory.seen l.initial.m).words (g.L.Lanes.plane l.pack) l.at l.width l.k))
    × ((i : ℕ) → i < l.k → g.L.Lanes.plane l.pack i < 2 ^ 32)
