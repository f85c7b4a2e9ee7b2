-- Rows of r bits are the ring F2[x]/(x^r - 1), and a product of positions and a row is a product in it.
use Rattle.std.specs.Prelude.{◌≡◌, ℕ, ◌+◌, ◌-◌, ◌*◌, ◌%◌, ◌<◌, ◌≤◌, cond, List, sum_by, ◌==◌}
use Rattle.std.specs.List.{range_with_len, AllByRecursion}
use Rattle.rows.specs.Rows.{Row, unit, plus, product}

-- bit j of x·y: the sum of x_q · y_(j - q) over all q, the indices modulo r and the bits modulo 2
abbrev pub times : ℕ → Row → Row → Row
times r x y = λ j. sum_by (λ q. x q * y ((j + (r - q)) % r)) (range_with_len 0 r) % 2

-- two rows of r bits are the same row
abbrev pub Same : ℕ → Row → Row → Type 0
Same r x y = (j : ℕ) → j < r → x j ≡ y j

-- every bit of a row is 0 or 1
abbrev pub Bits : ℕ → Row → Type 0
Bits r x = (j : ℕ) → j < r → x j < 2

-- the row of some positions, each counted modulo 2
abbrev pub marks : List ℕ → Row
marks ps = λ j. sum_by (λ p. cond (p == j) 1 0) ps % 2

pub record RingLaws (r : ℕ) : Type 0 where
  pub commutes : (x y : Row) → Same r (times r x y) (times r y x)
  pub associates : (x y z : Row) → Same r (times r (times r x y) z) (times r x (times r y z))
  pub distributes : (x y z : Row) → Same r (times r x (plus y z)) (plus (times r x y) (times r x z))
  pub unit_left : (x : Row) → Bits r x → Same r (times r unit x) x
  pub products : (ps : List ℕ) (x : Row) → AllByRecursion (λ p. p < r) ps → Same r (product r ps x) (times r (marks ps) x)

-- for every length of a row
abbrev pub RowsAreTheRing : Type 0
RowsAreTheRing = (r : ℕ) → 1 ≤ r → RingLaws r
