-- A refused call leaves a box that was opened and called as it was.
-- A load that finds no inverse has zeroed WORK, which was zero before.
use Rattle.std.proofs.Common.{◌≡◌, ℕ, ◌≤◌, List, length, replicate, refl, ap, arith}
use Rattle.memory.proofs.Words.{length_zeros}
use Rattle.rows.specs.Fill.{part}
use Rattle.scheme.specs.declared.profile.Profile.{Profile}
use Rattle.keybox.specs.declared.call.Call.{Call}
use Rattle.keybox.specs.declared.call.Call.TheVariants.{Give, Take, Load, Seal, Wipe}
use Rattle.scheme.specs.Zones.{work_at, work_size, N}
use Rattle.keybox.specs.Model.{State, Outcome, with_words, opened, next}
use Rattle.keybox.specs.Accesses.{verdict}
use Rattle.keybox.specs.Runs.{after, RefusalsChangeNothing}
use Rattle.keybox.proofs.Granted.{each_way, load_room}
use Rattle.keybox.proofs.Parts.{zeros_same}
use Rattle.keybox.proofs.Public.{keeps_after}
use Rattle.keybox.proofs.Resting.{rests}

-- WORK is zero, if the memory has it
abbrev ZeroWork : State → Type 0
ZeroWork s = N s.profile ≤ length s.words → part s.words (work_at s.profile) (work_size s.profile) ≡ replicate (work_size s.profile) 0

abbrev Kept : State → Outcome → Type 0
Kept s o = (verdict o.answer ≡ 0 → ⊥) → o.after ≡ s

changes_nothing : (s : State) → ZeroWork s → (c : Call) → Kept s (next s c)
changes_nothing s h (Give i w) = grind arith
changes_nothing s h (Take i) = grind arith
changes_nothing s h Load =
    each_way (Kept s) s (λ _ _. refl) (λ e _. ap (with_words s) (zeros_same s.words (work_at s.profile) (work_size s.profile) (h (load_room s e)))) (λ _ _ no. absurd (no refl))
changes_nothing s h Seal = grind arith
changes_nothing s h Wipe = grind arith

zero_work : (p : Profile) (u : ℕ) (ws : List ℕ) (cs : List Call) → ZeroWork (after (opened p u ws) cs)
zero_work p u ws cs room =
    let kept = keeps_after (opened p u ws) cs in
    let same : length (opened p u ws).words ≡ length ws = grind (arith, length_zeros) in
    let room' : N p ≤ length ws = rw (kept.0, kept.1, same) at room in
    rw kept.0 (rests p u ws cs room')

pub refusals_change_nothing : (p : Profile) (u : ℕ) (ws : List ℕ) (cs : List Call) → RefusalsChangeNothing p u ws cs
refusals_change_nothing p u ws cs c refused = changes_nothing (after (opened p u ws) cs) (zero_work p u ws cs) c refused
