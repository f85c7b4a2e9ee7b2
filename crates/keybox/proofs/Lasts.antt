-- What lasts over the calls to come, put together.
use Rattle.std.proofs.Common.{List, ◌++◌, take}
use Rattle.keybox.specs.declared.call.Call.{Call}
use Rattle.keybox.specs.Model.{State}
use Rattle.keybox.specs.Runs.{after}
use Rattle.keybox.specs.Lasting.{Lasts}
use Rattle.keybox.proofs.Forgotten.{forgets}
use Rattle.keybox.proofs.Holding.{key_holds}
use Rattle.keybox.proofs.Refusals.{refusals_change_nothing}
use Rattle.keybox.proofs.Resting.{rests}

pub lasts : (s : State) (cs : List Call) → Lasts s cs
lasts s cs = record {
  work_rests = λ p u ws before _ n. rests p u ws (before ++ take n cs);
  key_holds_positions = λ p u ws before _ n. key_holds p u ws (before ++ take n cs);
  refusals_change_nothing = λ p u ws before _ n. refusals_change_nothing p u ws (before ++ take n cs);
  wipe_forgets = λ n. forgets (after s (take n cs));
}
