use Rattle.std.proofs.Common.{ap, ◌∙◌}
use Rattle.memory.specs.Layers.{bare}
use Rattle.memory.proofs.Lent.{bare_written}
use Rattle.memory.proofs.bare.BareMemory.put.Goals as goal

pub returns : goal.returns
returns c =
    let n = c.args.self.now.words.ghost_name in
    record { did = ap (bare n) c.write_word.ensures ∙ bare_written n c.args.self.now.words.now c.args.a c.args.w }
