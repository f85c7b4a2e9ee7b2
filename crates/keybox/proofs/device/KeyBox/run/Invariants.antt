-- What the loop keeps: what the calls that are left will do, on the box as it is now, completes what all of them were to do.
use Rattle.std.proofs.Common.{◌≡◌, ◌+◌, ◌≤◌, ◌++◌, vec_items, vec_len, vec_capacity, deque_items, deque_len}
use Rattle.keybox.specs.Runs.{answers, after, seen_after}
use Rattle.keybox.specs.Device.{state}
use Rattle.keybox.proofs.device.KeyBox.run.Given as goal

abbrev pub invariant-loop-call : goal.invariant-loop-call
invariant-loop-call g l =
    let s = state g.M.Memory l.self in
    let s0 = state g.M.Memory l.initial.self in
    let cs = deque_items l.calls in
    let cs0 = deque_items l.initial.calls in
    record {
      answers : vec_items l.initial.answers ++ answers s0 cs0 ≡ vec_items l.answers ++ answers s cs;
      left : after s0 cs0 ≡ after s cs;
      seen : seen_after (g.M.Memory.seen l.initial.self.memory) s0 cs0 ≡ seen_after (g.M.Memory.seen l.self.memory) s cs;
      room : vec_len l.answers + deque_len l.calls ≤ vec_capacity l.answers;
      room_for_all : vec_len l.initial.answers + deque_len l.initial.calls ≤ vec_capacity l.initial.answers;
    }

abbrev pub decreases-loop-call : goal.decreases-loop-call
decreases-loop-call g l = deque_len l.calls
