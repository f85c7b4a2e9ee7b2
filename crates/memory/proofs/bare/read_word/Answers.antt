use Rattle.std.proofs.Common.{sym, arith}
use Rattle.memory.proofs.Lent.{reached_in, reached_at}
use Rattle.memory.proofs.bare.read_word.Goals as goal

pub bounds-words-a : goal.bounds-words-a
bounds-words-a c = reached_in _ _ (omega arith)

pub returns-then-a-reach : goal.returns-then-a-reach
returns-then-a-reach c = sym (reached_at c.args.words.now c.args.a (omega arith))
