-- A box that is driven by a list of calls, each made only where the one before it was granted.
use Rattle.std.specs.Prelude.{ℕ, ◌+◌, cond, List, [], ◌∷◌, ◌++◌, length, take, drop, Ok, ◌==◌}
use Rattle.memory.specs.Access.{Seen, accessed}
use Rattle.memory.specs.declared.Memory.{Ghosts}
use Rattle.keybox.specs.declared.device.KeyBox.{KeyBox}
use Rattle.scheme.specs.declared.profile.Profile.{Profile}
use Rattle.keybox.specs.declared.call.Call.{Call}
use Rattle.keybox.specs.declared.lent.Input.{Input}
use Rattle.keybox.specs.declared.call.Call.TheVariants.{Give, Seal}
use Rattle.keybox.specs.declared.call.Grant.TheVariants.{Done}
use Rattle.scheme.specs.Zones.{B}
use Rattle.keybox.specs.Model.{State, Answer, opened, next}
use Rattle.keybox.specs.Device.{state}
use Rattle.keybox.specs.Accesses.{public, shape, verdict, accesses, open_accesses}

-- how far a box has been driven: the last answer, the box, and its memory
pub record Driven : Type 0 where
  pub answer : Answer
  pub box : State
  pub memory : Seen

abbrev pub driven : {X : Type 0} → Ghosts X → KeyBox X → Answer → Driven
driven g b a = record { answer = a; box = state g b; memory = g.seen b.memory }

-- one call more
abbrev pub called : Driven → Call → Driven
called t c = let o = next t.box c in
    record { answer = o.answer; box = o.after; memory = accessed t.memory (accesses (public t.box) (shape c) (verdict o.answer)) o.after.words }

-- the calls are made in order, up to the first that is refused
abbrev pub drive : Driven → List Call → Driven
drive t [] = t
drive t (c ∷ cs) = cond (verdict t.answer == 0) (drive (called t c) cs) t

-- a box newly opened over a memory
abbrev pub newly_opened : Profile → ℕ → Seen → Driven
newly_opened p u m = let s = opened p u m.words in
    record { answer = Ok Done; box = s; memory = accessed m (open_accesses p (length m.words)) s.words }

-- lent words as a memory: the first 65,536 are reached, and nothing is kept of the accesses
abbrev pub lent_words : List ℕ → Seen
lent_words ws = record { words = take 65536 ws; trail = []; rule = λ _ _ _. []; outside = drop 65536 ws; home = [] }

-- words given to the places of IN from a place on
abbrev pub gives_from : ℕ → List ℕ → List Call
gives_from a [] = []
gives_from a (w ∷ ws) = Give a w ∷ gives_from (a + 1) ws

-- the positions given to place 0 onward and the row to its place
abbrev pub given_calls : Profile → Input → List Call
given_calls p input = gives_from 0 input.positions.now ++ gives_from (B p) input.row.now

-- what a call reads is given, and then the call is made
abbrev pub given_then : Profile → Input → Call → List Call
given_then p input c = given_calls p input ++ (c ∷ [])

-- positions given to place 0 onward and a public row to its place, and then a seal
abbrev pub seal_calls : Profile → List ℕ → List ℕ → List Call
seal_calls p positions row = gives_from 0 positions ++ (gives_from (B p) row ++ (Seal ∷ []))

-- a box newly opened over a memory, given what a call reads, and making the call
abbrev pub called_over : Profile → ℕ → Seen → Input → Call → Driven
called_over p u m input c = drive (newly_opened p u m) (given_then p input c)
