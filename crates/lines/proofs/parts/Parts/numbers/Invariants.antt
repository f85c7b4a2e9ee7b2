-- What is read and what is left are the numbers of the whole rest. A number takes two bytes at least, so 56 have room.
use Rattle.std.proofs.Common.{◌≡◌, ◌+◌, ◌*◌, ◌≤◌, ◌++◌, length, Some}
use Rattle.lines.specs.Digits.{then}
use Rattle.lines.specs.Commands.{parts, numbers}
use Rattle.lines.proofs.parts.Parts.numbers.Given as goal

abbrev pub invariant-loop-self : goal.invariant-loop-self
invariant-loop-self l = record {
  read : then (then (parts l.self.rest.now) numbers) (λ ns. Some (l.numbers.items ++ ns)) ≡ then (parts l.fn.self.rest.now) numbers;
  room : 2 * length l.numbers.items + length l.self.rest.now ≤ 113;
}

abbrev pub decreases-loop-self : goal.decreases-loop-self
decreases-loop-self l = length l.self.rest.now
