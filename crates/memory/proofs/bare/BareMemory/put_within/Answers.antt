use Rattle.std.proofs.Common.{sym, ap, ◌∙◌}
use Rattle.memory.specs.Layers.{bare}
use Rattle.memory.proofs.Lent.{reached_in, written_in, bare_written}
use Rattle.memory.proofs.bare.BareMemory.put_within.Goals as goal

pub bounds-self-a : goal.bounds-self-a
bounds-self-a c = reached_in _ _ c.requires

pub returns : goal.returns
returns c =
    let n = c.args.self.now.words.ghost_name in
    let ws = c.args.self.now.words.now in
    record { did = ap (bare n) (sym (written_in ws c.args.a c.args.w c.requires)) ∙ bare_written n ws c.args.a c.args.w }
