-- Numbers that lie across planes of words, bit-sliced: bit k of the number in lane j is bit j of plane k.
use Rattle.std.specs.Prelude.{ℕ, zero, suc, ◌+◌, ◌*◌, ◌/◌, ◌%◌, ◌^◌, ◌<◌, List, [], ◌∷◌, ◌++◌, map, length, slice_index, slice_set}
use Rattle.std.specs.List.{range_with_len}
use Rattle.memory.specs.Access.{Access, get, put}
use Rattle.rows.specs.Rows.{bit_of, packed}
use Rattle.rows.specs.Fill.{looped}

-- the number in lane j of n planes, of which plane k is the word p k
unfoldable pub number : (ℕ → ℕ) → ℕ → ℕ → ℕ
number p zero j = 0
number p (suc n) j = number p n j + 2 ^ n * bit_of (p n) j

-- the number in lane j of a zone of planes at a place of the words, each plane `width` words long, one after the other
abbrev pub lane : List ℕ → ℕ → ℕ → ℕ → ℕ → ℕ
lane ws a width depth j = number (λ k. slice_index ws (a + k * width + j / 32)) depth (j % 32)

-- the word of plane k of 32 numbers; the words of plane k, and of all planes, of more of them
abbrev pub plane_word : (ℕ → ℕ) → ℕ → ℕ
plane_word n k = packed (λ j. bit_of (n j) k)

abbrev pub plane_words : ℕ → (ℕ → ℕ) → ℕ → List ℕ
plane_words width n k = map (λ w. plane_word (λ j. n (32 * w + j)) k) (range_with_len 0 width)

abbrev pub planes : ℕ → (ℕ → ℕ) → ℕ → List ℕ
planes width n zero = []
planes width n (suc k) = planes width n k ++ plane_words width n k

-- one pack of 32 lanes lies in a column of the words, a word of each plane: what is there, that all of it is, and the words with p k written there
abbrev pub column : List ℕ → ℕ → ℕ → ℕ → ℕ
column ws a width k = slice_index ws (a + k * width)

abbrev pub ColumnWithin : ℕ → ℕ → ℕ → List ℕ → Type 0
ColumnWithin depth a width ws = (k : ℕ) → k < depth → a + k * width < length ws

unfoldable pub column_over : List ℕ → (ℕ → ℕ) → ℕ → ℕ → ℕ → List ℕ
column_over ws p a width zero = ws
column_over ws p a width (suc k) = slice_set (column_over ws p a width k) (a + k * width) (p k)

-- an access to each word of a column
unfoldable pub column_accesses : (ℕ → Access) → ℕ → ℕ → ℕ → List Access
column_accesses kind a width depth = looped (λ k. kind (a + k * width) ∷ []) depth

-- a word added to a pack: the word, then the planes out and back
unfoldable pub pack_accesses : ℕ → ℕ → ℕ → ℕ → List Access
pack_accesses from into width depth = get from ∷ (column_accesses get into width depth ++ column_accesses put into width depth)

-- a row added, pack by pack
unfoldable pub add_accesses : ℕ → ℕ → ℕ → ℕ → List Access
add_accesses from into width depth = looped (λ w. pack_accesses (from + w) (into + w) width depth) width
