use Rattle.std.proofs.Common.{sym, arith}
use Rattle.memory.proofs.Lent.{reached_in, written_in, written_out}
use Rattle.memory.proofs.bare.write_word.Goals as goal

pub bounds-words-a : goal.bounds-words-a
bounds-words-a c = reached_in _ _ (omega arith)

pub returns-then-a-reach : goal.returns-then-a-reach
returns-then-a-reach c = sym (written_in c.args.words.now c.args.a c.args.w (omega arith))

pub returns-else-a-reach : goal.returns-else-a-reach
returns-else-a-reach c = sym (written_out c.args.words.now c.args.a c.args.w (omega arith))
