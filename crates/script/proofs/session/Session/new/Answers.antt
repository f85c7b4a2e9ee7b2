-- The law holds of every input and every memory, so it holds where a session begins.
use Rattle.std.proofs.Common.{rules}
use Rattle.script.proofs.Speaking.{talks_as}
use Rattle.script.proofs.session.Session.new.Goals as goal

pub returns : goal.returns
returns g c = record { begun = search rules; talks = talks_as g.M.HeardMemory.told (g.M.Memory.seen c.args.memory) }
