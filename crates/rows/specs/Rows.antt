-- Rows of r bits, their rotations, products and counts, and the words that they lie in.
-- A row is told by its bits, as everything above speaks of them; how it lies in words is said once, here.
use Rattle.std.specs.Prelude.{ℕ, ◌+◌, ◌-◌, ◌*◌, ◌/◌, ◌%◌, ◌^◌, Bool, false, cond, List, [], ◌∷◌, map, sum_by, ◌==◌, nat_eq, nat_le, nat_lt, slice_index}
use Rattle.std.specs.List.{range_with_len}

-- a row is told by its bits, each 0 or 1; of a row of r bits only those below r count
abbrev pub Row : Type 0
Row = ℕ → ℕ

-- the row with no bit set, and the one with bit 0 alone
abbrev pub none : Row
none = λ j. 0

abbrev pub unit : Row
unit = λ j. cond (j == 0) 1 0

-- the sum of two rows, modulo 2
abbrev pub plus : Row → Row → Row
plus x y = λ j. (x j + y j) % 2

-- bit j of a row rotated by i is the old bit (j - i) mod r
abbrev pub rotated : ℕ → ℕ → Row → Row
rotated r i x = λ j. x ((j + (r - i % r)) % r)

-- the product of positions and a row: the sum of the row's rotations by them
abbrev pub product : ℕ → List ℕ → Row → Row
product r ps x = λ j. sum_by (λ p. rotated r p x j) ps % 2

-- how many of the positions p have bit (i + p) mod r of s set
abbrev pub count : ℕ → List ℕ → Row → ℕ → ℕ
count r ps s i = sum_by (λ p. s ((i + p) % r)) ps

-- how many of the r bits are set, and whether none is
abbrev pub weight : ℕ → Row → ℕ
weight r x = sum_by x (range_with_len 0 r)

abbrev pub is_none : ℕ → Row → Bool
is_none r x = weight r x == 0

-- the places of the bits that are set
abbrev pub kept : (ℕ → Bool) → List ℕ → List ℕ
kept p [] = []
kept p (x ∷ xs) = cond (p x) (x ∷ kept p xs) (kept p xs)

abbrev pub support : ℕ → Row → List ℕ
support r x = kept (λ j. nat_eq (x j) 1) (range_with_len 0 r)

-- bit j of a word
abbrev pub bit_of : ℕ → ℕ → ℕ
bit_of w j = w / 2 ^ j % 2

-- the word whose bit j is b j
abbrev pub packed : (ℕ → ℕ) → ℕ
packed b = sum_by (λ j. b j * 2 ^ j) (range_with_len 0 32)

-- how many words a row of r bits takes
abbrev pub width : ℕ → ℕ
width r = (r + 31) / 32

-- the row whose words begin at a place of a list
abbrev pub row_at : List ℕ → ℕ → Row
row_at ws base = λ j. bit_of (slice_index ws (base + j / 32)) (j % 32)

-- the row with the bits past its end as 0
abbrev pub cut : ℕ → Row → Row
cut r x = λ j. cond (nat_lt j r) (x j) 0

-- the words of a row: bit j is bit j mod 32 of word j / 32, and the bits past the end are 0
abbrev pub word_of : ℕ → Row → ℕ → ℕ
word_of r x w = packed (λ j. cut r x (32 * w + j))

abbrev pub words_of : ℕ → Row → List ℕ
words_of r x = map (word_of r x) (range_with_len 0 (width r))

-- whether the last word of a row has a bit set past the row's end
abbrev pub has_tail : ℕ → List ℕ → ℕ → Bool
has_tail r ws base = cond (r % 32 == 0) false (nat_le (2 ^ (r % 32)) (slice_index ws (base + (width r - 1))))
