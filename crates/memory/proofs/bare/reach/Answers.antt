use Rattle.std.proofs.Common.{arith, length-take}
use Rattle.memory.proofs.bare.reach.Goals as goal

pub returns-clause-value : goal.returns-clause-value
returns-clause-value c = omega (arith, length-take 65536 c.args.words.now, c.min.ensures)
