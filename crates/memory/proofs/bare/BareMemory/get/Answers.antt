-- A read changes nothing, so that the memory is the one that it was.
use Rattle.std.proofs.Common.{refl}
use Rattle.memory.proofs.bare.BareMemory.get.Goals as goal

pub returns-clause-did : goal.returns-clause-did
returns-clause-did c = refl
