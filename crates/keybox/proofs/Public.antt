-- What is public after a call, and the rotations it answers, follow from what was public before it, its shape and its verdict.
use Rattle.std.proofs.Common.{◌≡◌, ℕ, zero, suc, ◌*◌, true, false, List, [], ◌∷◌, length, refl, ◌∙◌, arith, length-set}
use Rattle.memory.proofs.Words.{length_over, length_zeros}
use Rattle.keybox.specs.declared.call.Call.{Call}
use Rattle.keybox.specs.declared.call.Call.TheVariants.{Give, Take, Load, Seal, Wipe}
use Rattle.keybox.specs.Model.{State, Outcome, next}
use Rattle.keybox.specs.Accesses.{Public, public, Shape, shape, gives, takes, loads, seals, wipes, verdict}
use Rattle.keybox.specs.Runs.{after, rotations}
use Rattle.keybox.proofs.Granted.{each_way}
use Rattle.keybox.proofs.Verdicts.{refusal_number}

-- what a call leaves of the public part, and the rotations that it answers
pub record Move : Type 0 where
  pub left : Public
  pub turns : ℕ

abbrev granted_move : Public → Shape → Move
granted_move p (gives i) = record { left = p; turns = 0 }
granted_move p (takes i) = record { left = p; turns = 0 }
granted_move p loads = record { left = record { profile = p.profile; number = p.number; loaded = true; out = p.out; size = p.size }; turns = 2 * p.profile.d }
granted_move p seals = record { left = p; turns = p.profile.t }
granted_move p wipes = record { left = record { profile = p.profile; number = p.number; loaded = false; out = p.out; size = p.size }; turns = 0 }

abbrev pub move : Public → Shape → ℕ → Move
move p c zero = granted_move p c
move p c (suc n) = record { left = p; turns = 0 }

-- what an outcome shows
abbrev pub shown : Outcome → Move
shown o = record { left = public o.after; turns = rotations o.answer }

abbrev Moves : State → Shape → Outcome → Type 0
Moves s c o = shown o ≡ move (public s) c (verdict o.answer)

pub moves : (s : State) (c : Call) → shown (next s c) ≡ move (public s) (shape c) (verdict (next s c).answer)
moves s (Give i w) = grind (arith, length-set, refusal_number)
moves s (Take i) = grind (arith, refusal_number)
moves s Load =
    each_way (Moves s loads) s (λ f. grind (arith, refusal_number f)) (λ _. grind (arith, length_zeros)) (λ _ _. grind (arith, length_zeros, length_over))
moves s Seal = grind (arith, length_zeros, length_over, refusal_number)
moves s Wipe = grind (arith, length_zeros, refusal_number)

-- profile and size stay
pub keeps : (s : State) (c : Call) → ((next s c).after.profile ≡ s.profile) × (length (next s c).after.words ≡ length s.words)
keeps s c = grind (arith, length-set, length_zeros, length_over)

pub keeps_after : (s : State) (cs : List Call) → ((after s cs).profile ≡ s.profile) × (length (after s cs).words ≡ length s.words)
keeps_after s [] = (refl, refl)
keeps_after s (c ∷ cs) = let rest = keeps_after (next s c).after cs in let one = keeps s c in (rest.0 ∙ one.0, rest.1 ∙ one.1)
