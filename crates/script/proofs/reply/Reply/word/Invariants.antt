-- What is written and the digits that are left are the whole word.
use Rattle.std.proofs.Common.{◌≡◌, ◌+◌, ◌++◌, length}
use Rattle.script.specs.Printing.{said, hexadecimal}
use Rattle.script.proofs.reply.Reply.word.Given as goal

abbrev pub invariant-loop-k : goal.invariant-loop-k
invariant-loop-k l = record {
  digits : said l.self ++ hexadecimal l.k l.w ≡ said l.initial.self ++ hexadecimal 8 l.w;
  room : length (said l.self) + l.k ≡ length (said l.initial.self) + 8;
}
