-- What a script does: each line on the desk as the one before left it, and what is printed for a whole input.
use Rattle.std.specs.Prelude.{ℕ, List, length, Some, None, Ok, Err, Option, Result, ◌==◌}
use Rattle.std.specs.Option.{option_map}
use Rattle.memory.specs.Access.{Seen, accessed}
use Rattle.memory.specs.declared.Memory.{Ghosts}
use Rattle.scheme.specs.declared.profile.Profile.{Profile}
use Rattle.keybox.specs.declared.device.KeyBox.{KeyBox}
use Rattle.scheme.specs.declared.fault.ProfileFault.{ProfileFault}
use Rattle.scheme.specs.declared.fault.BoxFault.{BoxFault}
use Rattle.keybox.specs.declared.call.Grant.TheVariants.{Done}
use Rattle.keybox.specs.Model.{State, Answer, opened, next}
use Rattle.keybox.specs.Accesses.{public, shape, verdict, accesses, open_accesses}
use Rattle.keybox.specs.Device.{state}
use Rattle.script.specs.declared.grant.LineGrant.{LineGrant}
use Rattle.script.specs.declared.grant.LineGrant.TheVariants.{Call as of_call, Heard}
use Rattle.script.specs.declared.fault.LineFault.{LineFault}
use Rattle.script.specs.declared.fault.LineFault.TheVariants.{Malformed, NoProfile, Profile as of_profile, Box as of_box}
use Rattle.script.specs.declared.desk.Desk as code
use Rattle.lines.specs.Chosen.{profile_of}
use Rattle.lines.specs.Commands.{Ask, call, hear, Request, set, ask, meaning}
use Rattle.lines.specs.Feeding.{Numbered}

-- a box and the memory that it stands over
pub record Device : Type 0 where
  pub box : State
  pub seen : Seen

-- the memory, until a profile is granted, and the box from then on
pub record Desk : Type 0 where
  pub memory : Option Seen
  pub device : Option Device

abbrev pub device_of : {X : Type 0} → Ghosts X → KeyBox X → Device
device_of g b = record { box = state g b; seen = g.seen b.memory }

abbrev pub desk_of : {X : Type 0} → Ghosts X → code.Desk X → Desk
desk_of g d = record { memory = option_map g.seen d.memory; device = option_map (device_of g) d.device }

-- a memory that waits for its box
abbrev pub waiting : Seen → Desk
waiting m = record { memory = Some m; device = None }

-- what a line is answered, and the desk afterwards
pub record Worked : Type 0 where
  pub answer : Result LineGrant LineFault
  pub after : Desk

abbrev pub refuses : LineFault → Desk → Worked
refuses f d = record { answer = Err f; after = d }

-- a box of unit 1 is opened over the memory that waits for it
abbrev pub opens : Profile → Desk → Option Seen → Worked
opens p d None = refuses Malformed d
opens p d (Some m) = record {
  answer = Ok (of_call Done);
  after = record {
    memory = None;
    device = Some (record { box = opened p 1 m.words; seen = accessed m (open_accesses p (length m.words)) (opened p 1 m.words).words });
  };
}

-- the profile asked for is granted, or refused
abbrev pub sets : Desk → Result Profile ProfileFault → Worked
sets desk (Err f) = refuses (of_profile f) desk
sets desk (Ok p) = opens p desk desk.memory

-- what a box answers, as a line is told; a refusal is passed on
abbrev pub grant_of : Answer → Result LineGrant BoxFault
grant_of (Ok g) = Ok (of_call g)
grant_of (Err f) = Err f

abbrev pub passed_on : Result LineGrant BoxFault → Result LineGrant LineFault
passed_on (Ok g) = Ok g
passed_on (Err f) = Err (of_box f)

-- what an open box answers, and the box afterwards
pub record Obeyed : Type 0 where
  pub answer : Result LineGrant BoxFault
  pub after : Device

-- a call makes its accesses, and to hear is none
abbrev pub obeys : (List ℕ → ℕ) → Device → Ask → Obeyed
obeys told b (call c) = let o = next b.box c in record {
  answer = grant_of o.answer;
  after = record { box = o.after; seen = accessed b.seen (accesses (public b.box) (shape c) (verdict o.answer)) o.after.words };
}
obeys told b hear = record { answer = Ok (Heard (told b.seen.trail)); after = b }

-- what is asked of the box, if there is one
abbrev pub serves : (List ℕ → ℕ) → Desk → Ask → Option Device → Worked
serves told desk a None = refuses NoProfile desk
serves told desk a (Some b) = let o = obeys told b a in record {
  answer = passed_on o.answer;
  after = record { memory = desk.memory; device = Some o.after };
}

-- what is asked for is done; a malformed line asks for nothing
abbrev pub works_off : (List ℕ → ℕ) → Desk → Option Request → Worked
works_off told desk None = refuses Malformed desk
works_off told desk (Some (set r d t ts)) = sets desk (profile_of r d t ts)
works_off told desk (Some (ask a)) = serves told desk a desk.device

-- a line is worked off
abbrev pub works : (List ℕ → ℕ) → Desk → Numbered → Worked
works told desk l = works_off told desk (meaning (l.number == 1) l.bytes)
