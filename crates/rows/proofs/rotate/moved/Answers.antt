use Rattle.std.proofs.Common.{arith}
use Rattle.std.proofs.lemmas.Nat.{one_shl, pow_below}
use Rattle.rows.proofs.rotate.moved.Goals as goal

pub overflow_shr-y : goal.overflow_shr-y
overflow_shr-y c = omega (arith, one_shl c.args.k 32 (omega arith), pow_below c.args.k 6 c.requires.digit)
