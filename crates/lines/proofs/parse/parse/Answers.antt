-- A line of at most 120 bytes has at most 119 after its letter.
use Rattle.std.proofs.Common.{arith}
use Rattle.lines.proofs.parse.parse.Goals as goal

pub asked-requires : goal.asked-requires
asked-requires c = omega arith
