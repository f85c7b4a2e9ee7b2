-- A box over any memory as its promises speak of it.
use Rattle.std.specs.Prelude.{◌≡◌, ℕ, ◌≤◌, List, ◌++◌, length, Some, None, Ok, Err, Option, Result}
use Rattle.memory.specs.Access.{accessed}
use Rattle.memory.specs.declared.Memory.{Ghosts}
use Rattle.scheme.specs.declared.profile.Profile.{Profile}
use Rattle.keybox.specs.declared.device.KeyBox.{KeyBox}
use Rattle.scheme.specs.declared.fault.InputFault.{InputFault}
use Rattle.scheme.specs.declared.fault.BoxFault.{BoxFault}
use Rattle.scheme.specs.Faults.{input_told}
use Rattle.keybox.specs.declared.call.Call.{Call}
use Rattle.keybox.specs.declared.call.Grant.{Grant}
use Rattle.keybox.specs.declared.call.Grant.TheVariants.{Done, Word, Rotations}
use Rattle.scheme.specs.Zones.{N}
use Rattle.keybox.specs.Model.{State, Answer, Outcome}
use Rattle.keybox.specs.Runs.{answers as answers_of, after, seen_after}
use Rattle.keybox.specs.Accesses.{public, Shape, verdict, accesses}

abbrev pub state : {X : Type 0} → Ghosts X → KeyBox X → State
state g b = record { profile = b.profile; number = b.unit; loaded = b.loaded; out = b.out; words = (g.seen b.memory).words }

-- the results of the methods as answers
abbrev pub given : {X : Type 0} → (X → Grant) → Result X BoxFault → Answer
given g (Ok x) = Ok (g x)
given g (Err f) = Err f

abbrev pub done : {X : Type 0} → Result X BoxFault → Answer
done = given (λ _. Done)

abbrev pub word : Result ℕ BoxFault → Answer
word = given Word

abbrev pub rotation_count : Result ℕ BoxFault → Answer
rotation_count = given Rotations

-- the result of the checks of a call
abbrev pub granted : Option BoxFault → Result (Unit {0}) BoxFault
granted None = Ok tt
granted (Some f) = Err f

-- the result of a check of IN, and its verdict: 0 where it passes, else the number of the refusal
abbrev pub checked : Option InputFault → Result (Unit {0}) InputFault
checked None = Ok tt
checked (Some f) = Err f

abbrev pub input_verdict : {X : Type 0} → Result X InputFault → ℕ
input_verdict (Ok x) = 0
input_verdict (Err f) = (input_told f).number

-- the words of a memory have room for the zones
abbrev pub Roomy : Profile → List ℕ → Type 0
Roomy p ws = N p ≤ length ws

-- What every call promises. effect: what it answers and the box that it leaves. seen: the accesses that it made, worked out from what is public;
-- with them the trail, and that the step rule and all that no address reaches are as they were.
pub record Does {X : Type 0} (g : Ghosts X) (before now : KeyBox X) (call : Shape) (answer : Answer) (outcome : Outcome) : Type 0 where
  pub effect : record { answer = answer; after = state g now } ≡ outcome
  pub seen : g.seen now.memory ≡ accessed (g.seen before.memory) (accesses (public (state g before)) call (verdict answer)) (state g now).words

-- What a run of calls promises, where there is room for its answers. answers: those of the calls, after the ones that were there.
-- left: the box that the calls lead to. seen: its memory, with the trail that the calls leave.
pub record Ran {X : Type 0} (g : Ghosts X) (before now : KeyBox X) (calls : List Call) (old new : List Answer) : Type 0 where
  pub answers : new ≡ old ++ answers_of (state g before) calls
  pub left : state g now ≡ after (state g before) calls
  pub seen : g.seen now.memory ≡ seen_after (g.seen before.memory) (state g before) calls
