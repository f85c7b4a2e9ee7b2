-- A box driven call by call: the calls that are left complete what all of them were to do.
use Rattle.std.proofs.Common.{◌≡◌, ℕ, ◌+◌, ◌<◌, false, eqb, List, [], ◌∷◌, ◌++◌, length, get_or, drop, Ok, Err, sym, refl, ap, ◌∙◌, inl, inr, arith}
use Rattle.std.proofs.lemmas.List.{at_drop_more}
use Rattle.std.proofs.lemmas.Bool.{cases_Bool, cond-true, ne_eqb}
use Rattle.memory.specs.Access.{Seen}
use Rattle.memory.specs.declared.Memory.{Ghosts}
use Rattle.keybox.specs.declared.device.KeyBox.{KeyBox}
use Rattle.scheme.specs.declared.fault.BoxFault.{BoxFault}
use Rattle.keybox.specs.declared.call.Call.{Call}
use Rattle.keybox.specs.declared.call.Call.TheVariants.{Give}
use Rattle.keybox.specs.declared.call.Grant.TheVariants.{Done}
use Rattle.scheme.specs.Faults.{number}
use Rattle.keybox.specs.Model.{State, Answer, giving, next}
use Rattle.keybox.specs.Accesses.{shape, gives, verdict}
use Rattle.keybox.specs.Device.{state, Does}
use Rattle.keybox.specs.Lent.{Driven, driven, called, drive, gives_from}
use Rattle.keybox.proofs.Verdicts.{refusal_number}

-- after a refusal no call is made
drive_refused : (t : Driven) (cs : List Call) → eqb (verdict t.answer) 0 ≡ false → drive t cs ≡ t
drive_refused t [] h = refl
drive_refused t (c ∷ cs) h = grind arith

pub drive_stopped : (f : BoxFault) (s : State) (m : Seen) (cs : List Call) → drive (record { answer = Err f; box = s; memory = m }) cs ≡ record { answer = Err f; box = s; memory = m }
drive_stopped f s m cs = drive_refused (record { answer = Err f; box = s; memory = m }) cs (ne_eqb (number f) 0 (λ e. omega (arith, refusal_number f)))

-- some calls and then others are one list of them
pub drive_joined : (t : Driven) (cs ds : List Call) → drive t (cs ++ ds) ≡ drive (drive t cs) ds
drive_joined t [] ds = refl
drive_joined t (c ∷ cs) ds =
    let b = eqb (verdict t.answer) 0 in
    elim (cases_Bool b) [
      | inl e ↦ cond-true b (drive (called t c) (cs ++ ds)) t e ∙ drive_joined (called t c) cs ds ∙ ap (λ u. drive u ds) (sym (cond-true b (drive (called t c) cs) t e))
      | inr e ↦ drive_refused t (c ∷ (cs ++ ds)) e ∙ sym (drive_refused t ds e) ∙ ap (λ u. drive u ds) (sym (drive_refused t (c ∷ cs) e))
    ]

-- a call that a box made
pub called_is : {X : Type 0} (g : Ghosts X) (before now : KeyBox X) (c : Call) (x a : Answer) → Does g before now (shape c) a (next (state g before) c)
    → called (driven g before x) c ≡ driven g now a
called_is g before now c x a did = rw (← did.effect, ← did.seen) refl

-- a word given that is refused is the last
pub give_stops : {X : Type 0} (g : Ghosts X) (b b' : KeyBox X) (t : Driven) (place i : ℕ) (ws : List ℕ) (f : BoxFault)
    → t ≡ drive (driven g b (Ok Done)) (gives_from place (drop i ws)) → i < length ws
    → Does g b b' (gives place) (Err f) (giving (state g b) place (get_or ws i 0)) → t ≡ driven g b' (Err f)
give_stops g b b' t place i ws f left l did =
    let rest = gives_from (place + 1) (drop (i + 1) ws) in
    left ∙ at_drop_more (λ us. drive (driven g b (Ok Done)) (gives_from place us)) ws i 0 l
    ∙ ap (λ u. drive u rest) (called_is g b b' (Give place (get_or ws i 0)) (Ok Done) (Err f) did)
    ∙ drive_stopped f _ _ rest

-- a call made after others that were granted is the last of one list
pub drive_ends : {X : Type 0} (g : Ghosts X) (first before now : KeyBox X) (cs : List Call) (c : Call) (a : Answer)
    → driven g before (Ok Done) ≡ drive (driven g first (Ok Done)) cs → Does g before now (shape c) a (next (state g before) c)
    → driven g now a ≡ drive (driven g first (Ok Done)) (cs ++ (c ∷ []))
drive_ends g first before now cs c a given did =
    sym (drive_joined (driven g first (Ok Done)) cs (c ∷ []) ∙ ap (λ (t : Driven). drive t (c ∷ [])) (sym given) ∙ called_is g before now c (Ok Done) a did)
