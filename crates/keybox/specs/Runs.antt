-- Whole runs of a box: what a list of calls answers and leaves, and what no run may show.
use Rattle.std.specs.Prelude.{◌≡◌, ℕ, ◌*◌, ◌<◌, ◌≤◌, true, false, List, [], ◌∷◌, map, length, take, drop, replicate, Ok, Err, ◌≢◌}
use Rattle.std.specs.List.{AllByRecursion}
use Rattle.memory.specs.Access.{Rule, Seen, traced}
use Rattle.rows.specs.Fill.{part}
use Rattle.scheme.specs.declared.profile.Profile.{Profile}
use Rattle.keybox.specs.declared.call.Call.{Call}
use Rattle.keybox.specs.declared.call.Call.TheVariants.{Wipe}
use Rattle.keybox.specs.declared.call.Grant.TheVariants.{Done, Word, Rotations}
use Rattle.keybox.specs.Model.{State, Answer, again, opened, next}
use Rattle.scheme.specs.Zones.{key_at, work_at, work_size, N}
use Rattle.keybox.specs.Accesses.{public, shape, verdict, accesses}

-- what a box answers to a list of calls, each on the box as the last one left it, and the box in the end
abbrev pub answers : State → List Call → List Answer
answers s [] = []
answers s (c ∷ cs) = (next s c).answer ∷ answers (next s c).after cs

abbrev pub after : State → List Call → State
after s [] = s
after s (c ∷ cs) = after (next s c).after cs

-- the rotations that a granted call answers, and 0 else
abbrev pub rotations : Answer → ℕ
rotations (Ok Done) = 0
rotations (Ok (Word w)) = 0
rotations (Ok (Rotations n)) = n
rotations (Err f) = 0

-- the trail after a list of calls
abbrev pub trail_after : Rule → List ℕ → State → List Call → List ℕ
trail_after rule tr s [] = tr
trail_after rule tr s (c ∷ cs) =
    trail_after rule (traced rule tr (accesses (public s) (shape c) (verdict (next s c).answer))) (next s c).after cs

-- a memory after a list of calls: its trail moved by their accesses, and nothing else of it changed but its words
abbrev pub seen_after : Seen → State → List Call → Seen
seen_after m s cs = record {
  words = (after s cs).words;
  trail = trail_after m.rule m.trail s cs;
  rule = m.rule;
  outside = m.outside;
  home = m.home;
}

-- Trails and rotations do not depend on words: two boxes alike in all but the words of their memories, given the same calls with other words,
-- have equal trails and rotations, under any step rule, as long as they agree in grant or refusal number; and they stay alike.
abbrev pub Hides : State → List Call → Type 0
Hides s cs =
    (rule : Rule) (tr : List ℕ) (t : State) (ds : List Call)
    → public t ≡ public s → map shape ds ≡ map shape cs
    → (n : ℕ) → map verdict (take n (answers t ds)) ≡ map verdict (take n (answers s cs))
    → (trail_after rule tr t (take n ds) ≡ trail_after rule tr s (take n cs))
    × (map rotations (take n (answers t ds)) ≡ map rotations (take n (answers s cs)))
    × (public (after t (take n ds)) ≡ public (after s (take n cs)))

-- after a granted wipe every answer is that of a newly opened box that gets only the calls since
abbrev pub Forgets : State → Type 0
Forgets s =
    verdict (next s Wipe).answer ≡ 0 → (ws : List ℕ) → length ws ≡ length s.words → (cs : List Call)
    → answers (next s Wipe).after cs ≡ answers (opened s.profile s.number ws) cs

-- WORK is all zero after any calls on a box that was opened
abbrev pub Rests : Profile → ℕ → List ℕ → List Call → Type 0
Rests p u ws cs =
    N p ≤ length ws → take (work_size p) (drop (work_at p) (after (opened p u ws) cs).words) ≡ replicate (work_size p) 0

-- a refused call leaves a box that was opened and called as it was
abbrev pub RefusalsChangeNothing : Profile → ℕ → List ℕ → List Call → Type 0
RefusalsChangeNothing p u ws cs =
    (c : Call) → (verdict (next (after (opened p u ws) cs) c).answer ≢ 0)
    → (next (after (opened p u ws) cs) c).after ≡ after (opened p u ws) cs

-- the words of a key are positions of a row of r bits, and none stands twice in its half of d
pub record Positions (r d : ℕ) (qs : List ℕ) : Type 0 where
  pub below : AllByRecursion (λ q. q < r) qs
  pub first_once : (i : ℕ) → i < d → again (take d qs) i ≡ false
  pub second_once : (i : ℕ) → i < d → again (drop d qs) i ≡ false

-- KEY holds positions after any calls on a box that was opened, where a key is loaded
abbrev pub KeyHolds : Profile → ℕ → List ℕ → List Call → Type 0
KeyHolds p u ws cs =
    (after (opened p u ws) cs).loaded ≡ true → Positions p.r p.d (part (after (opened p u ws) cs).words (key_at p) (2 * p.d))
