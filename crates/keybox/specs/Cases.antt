-- Worked examples with a key of seven bits, as one table.
use Rattle.std.specs.Prelude.{◌≡◌, ℕ, Bool, false, cond, ◌||◌, List, [], ◌∷◌, map, ◌==◌}
use Rattle.rows.specs.Rows.{Row, rotated, product, support}
use Rattle.keybox.specs.Model.{public_syndrome}

-- the row with bits set at some places
abbrev pub member : List ℕ → ℕ → Bool
member [] j = false
member (x ∷ xs) j = x == j || member xs j

abbrev pub row : List ℕ → Row
row xs = λ j. cond (member xs j) 1 0

-- the two halves of a key, and the inverse of the first
abbrev pub h0 : List ℕ
h0 = 0 ∷ 1 ∷ 2 ∷ []

abbrev pub h1 : List ℕ
h1 = 0 ∷ 1 ∷ 3 ∷ []

abbrev pub f : List ℕ
f = 0 ∷ 2 ∷ 3 ∷ 5 ∷ 6 ∷ []

-- the public row of that key
abbrev pub g : Row
g = product 7 h1 (row f)

-- each line: the set bits of a row that is worked out, and what they come to
pub record Line : Type 0 where
  pub worked : List ℕ
  pub expected : List ℕ

abbrev pub line : Row → List ℕ → Line
line x b = record { worked = support 7 x; expected = b }

abbrev pub table : List Line
table =
    line (rotated 7 1 (row f)) (0 ∷ 1 ∷ 3 ∷ 4 ∷ 6 ∷ [])
    ∷ line (rotated 7 0 (row f)) f
    ∷ line (product 7 h0 (row f)) (0 ∷ [])
    ∷ line g (3 ∷ 4 ∷ 6 ∷ [])
    ∷ line (public_syndrome 7 (2 ∷ []) g) (2 ∷ [])
    ∷ line (public_syndrome 7 (8 ∷ []) g) (0 ∷ 4 ∷ 5 ∷ [])
    ∷ []

-- every line of the table holds
abbrev pub TheExamplesHold : Type 0
TheExamplesHold = map (λ (l : Line). l.worked) table ≡ map (λ (l : Line). l.expected) table
