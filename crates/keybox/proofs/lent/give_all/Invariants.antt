-- What the words that are left will do completes what all of them were to do; the next place is a number of the code's, since those before it lay in IN.
use Rattle.std.proofs.Common.{◌≡◌, ◌+◌, ◌<◌, ◌^◌, drop, Ok}
use Rattle.keybox.specs.declared.call.Grant.TheVariants.{Done}
use Rattle.keybox.specs.Lent.{driven, drive, gives_from}
use Rattle.keybox.proofs.lent.give_all.Given as goal

abbrev pub invariant-loop-i : goal.invariant-loop-i
invariant-loop-i g l = record {
  gives : drive (driven g.M.Memory l.initial.keybox (Ok Done)) (gives_from l.at l.words)
      ≡ drive (driven g.M.Memory l.keybox (Ok Done)) (gives_from (l.at + l.i) (drop l.i l.words));
  place : l.at + l.i < 2 ^ 32;
}
