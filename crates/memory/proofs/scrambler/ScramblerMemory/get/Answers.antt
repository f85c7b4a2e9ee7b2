use Rattle.std.proofs.Common.{rules}
use Rattle.std.proofs.lemmas.List.{get_or_past}
use Rattle.memory.proofs.Pads.{length_padded}
use Rattle.memory.proofs.scrambler.ScramblerMemory.get.Goals as goal

pub returns-else-a-size-clause-value : goal.returns-else-a-size-clause-value
returns-else-a-size-clause-value g c = search (rules, get_or_past, length_padded)
