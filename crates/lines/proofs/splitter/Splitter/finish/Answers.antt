-- The line is not empty, so fewer lines than bytes have come.
use Rattle.std.proofs.Common.{arith}
use Rattle.std.proofs.lemmas.Bool.Decides.{nat_tests}
use Rattle.lines.proofs.splitter.Splitter.finish.Goals as goal

pub next_line-requires : goal.next_line-requires
next_line-requires c = let numbered = c.args.self.now.numbered in grind (arith, nat_tests)
