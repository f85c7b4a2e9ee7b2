use Rattle.std.proofs.Common.{sym, refl}
use Rattle.memory.proofs.Lent.{reached_in, reached_at}
use Rattle.memory.proofs.bare.BareMemory.get_within.Goals as goal

pub bounds-self-a : goal.bounds-self-a
bounds-self-a c = reached_in _ _ c.requires

pub returns : goal.returns
returns c = record { value = sym (reached_at _ _ c.requires); did = refl }
