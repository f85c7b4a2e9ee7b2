-- The accesses of one rotation, and what a rotation needs.
-- They are told by public numbers alone, the row's length and the two places, and not by the amount.
use Rattle.std.specs.Prelude.{◌≡◌, ℕ, zero, suc, ◌+◌, ◌-◌, ◌*◌, ◌^◌, ◌<◌, ◌≤◌, min, false, List, [], ◌∷◌, ◌++◌, length}
use Rattle.std.specs.Int.Count.{count_leading_zeros}
use Rattle.memory.specs.Access.{Access, get, put}
use Rattle.memory.specs.Words.{Apart}
use Rattle.rows.specs.Rows.{width, has_tail}
use Rattle.rows.specs.Fill.{looped, zero_accesses}

-- the first w turns of laying a row twice: a word, where it goes and, q places up, where the second copy has its bits
unfoldable pub twin_accesses : ℕ → ℕ → ℕ → ℕ → List Access
twin_accesses from to q w = looped (λ v. get (from + v) ∷ put (to + v) ∷ put (to + q + v) ∷ []) w

-- a row of q + 1 words laid twice, one copy after the other: the last word is read first, since the second copy begins in it
unfoldable pub twice_accesses : ℕ → ℕ → ℕ → List Access
twice_accesses from to q = get (from + q) ∷ (twin_accesses from to q q ++ put (to + q + q) ∷ put (to + q + q + 1) ∷ [])

-- a stage: each of n words is chosen between the one v places up and itself
unfoldable pub stage_accesses : ℕ → ℕ → ℕ → List Access
stage_accesses base v n = looped (λ w. get (base + w + v) ∷ get (base + w) ∷ put (base + w) ∷ []) n

-- how many words a stage by v words writes, of a row of n words laid twice: as many as what follows can read
abbrev pub reach : ℕ → ℕ → ℕ
reach n v = min (n + v) (2 * n - v)

-- the stages by the powers of two below 2 ^ e, the highest first
unfoldable pub stages_accesses : ℕ → ℕ → ℕ → List Access
stages_accesses n base zero = []
stages_accesses n base (suc e) = stage_accesses base (2 ^ e) (reach n (2 ^ e)) ++ stages_accesses n base e

-- the shift by less than a word: each of n words is made of itself and the next
unfoldable pub slide_accesses : ℕ → ℕ → List Access
slide_accesses base n = looped (λ w. get (base + w + 1) ∷ put (base + w) ∷ []) n

-- how many binary digits the numbers below n have
abbrev pub digits : ℕ → ℕ
digits n = 32 - count_leading_zeros 32 (n - 1)

-- a whole rotation
unfoldable pub rotate_accesses : ℕ → ℕ → ℕ → List Access
rotate_accesses r from scratch =
    twice_accesses from scratch (width r - 1)
    ++ (stages_accesses (width r) scratch (digits (width r)) ++ ((get scratch ∷ slide_accesses scratch (width r)) ++ zero_accesses (scratch + width r) (width r)))

-- a row of r bits at `from`, with no bit past its end, can be rotated by i in the two rows at `scratch`
pub record Turnable (r from scratch i : ℕ) (ws : List ℕ) : Type 0 where
  pub long : 2 ≤ r
  pub by : i < r
  pub source : from + width r ≤ length ws
  pub space : scratch + 2 * width r ≤ length ws
  pub apart : Apart from (width r) scratch (2 * width r)
  pub tail : has_tail r ws from ≡ false
