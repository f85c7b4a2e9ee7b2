-- WORK is zero after any calls on a box that was opened: no call writes there but to zero it.
use Rattle.std.proofs.Common.{◌≡◌, ℕ, ◌≤◌, List, [], ◌∷◌, length, take, drop, replicate, sym, refl, subst, arith}
use Rattle.memory.proofs.Words.{length_over, length_zeros, part_out}
use Rattle.scheme.specs.declared.profile.Profile.{Profile}
use Rattle.keybox.specs.declared.call.Call.{Call}
use Rattle.keybox.specs.declared.call.Call.TheVariants.{Give, Take, Load, Seal, Wipe}
use Rattle.scheme.specs.Zones.{work_at, work_size, N}
use Rattle.keybox.specs.Model.{State, opened, rested, next}
use Rattle.keybox.specs.Runs.{after, Rests}
use Rattle.keybox.proofs.Public.{keeps}
use Rattle.keybox.proofs.Parts.{part_zeroed}

-- a box with the words of its zones, and WORK zero
pub record Resting (p : Profile) (s : State) : Type 0 where
  pub profile : s.profile ≡ p
  pub room : N p ≤ length s.words
  pub rest : take (work_size p) (drop (work_at p) s.words) ≡ replicate (work_size p) 0

rest_rested : (p : Profile) (ws : List ℕ) → N p ≤ length ws → take (work_size p) (drop (work_at p) (rested p ws)) ≡ replicate (work_size p) 0
rest_rested p ws h = part_zeroed ws (work_at p) (work_size p) (work_at p) (work_size p) (omega arith) (omega arith) (omega arith)

module _ (s : State) (h : Resting s.profile s) where
  rest_next : (c : Call) → take (work_size s.profile) (drop (work_at s.profile) (next s c).after.words) ≡ replicate (work_size s.profile) 0
  rest_next (Give i w) = grind (arith, h.rest, part_out s.words (work_at s.profile) (work_size s.profile) i (w ∷ []))
  rest_next (Take i) = grind (arith, h.rest)
  rest_next Load = grind (arith, h.rest, h.room, length_over, length_zeros, rest_rested)
  rest_next Seal = grind (arith, h.rest, h.room, length_over, length_zeros, rest_rested)
  rest_next Wipe = grind (arith, h.rest, h.room, part_zeroed s.words (work_at s.profile) (work_size s.profile) 0 (N s.profile))

  rests_next : (c : Call) → Resting s.profile (next s c).after
  rests_next c = let kept = keeps s c in record { profile = kept.0; room = rw kept.1 h.room; rest = rest_next c }

rests_after : (p : Profile) (s : State) (cs : List Call) → Resting p s → Resting p (after s cs)
rests_after p s [] h = h
rests_after p s (c ∷ cs) h =
    rests_after p (next s c).after cs (subst (λ q. Resting q (next s c).after) h.profile (rests_next s (subst (λ q. Resting q s) (sym h.profile) h) c))

rests_opened : (p : Profile) (u : ℕ) (ws : List ℕ) → N p ≤ length ws → Resting p (opened p u ws)
rests_opened p u ws h = record { profile = refl; room = grind (arith, length_zeros); rest = grind (arith, part_zeroed ws (work_at p) (work_size p) 0 (N p)) }

pub rests : (p : Profile) (u : ℕ) (ws : List ℕ) (cs : List Call) → Rests p u ws cs
rests p u ws cs h = (rests_after p (opened p u ws) cs (rests_opened p u ws h)).rest
