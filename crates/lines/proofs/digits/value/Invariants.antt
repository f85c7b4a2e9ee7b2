-- What is read so far and what is left have the value of the whole text, and it fits.
use Rattle.std.proofs.Common.{◌≡◌, ◌^◌, ◌<◌, drop}
use Rattle.lines.specs.Digits.{value, value_after, radix}
use Rattle.lines.proofs.digits.value.Given as goal

abbrev pub invariant-loop-b : goal.invariant-loop-b
invariant-loop-b l = record {
  read : value_after l.base l.v (drop l.b-index l.text) ≡ value l.base l.text;
  below : l.v < radix l.base ^ l.b-index;
}
