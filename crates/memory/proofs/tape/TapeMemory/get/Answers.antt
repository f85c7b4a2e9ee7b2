-- Past the end the list has nothing, and 0 is answered.
use Rattle.std.proofs.Common.{rules}
use Rattle.std.proofs.lemmas.List.{get_or_past}
use Rattle.memory.proofs.tape.TapeMemory.get.Goals as goal

pub returns-clause-value : goal.returns-clause-value
returns-clause-value c = search (rules, get_or_past)
