-- Parts of a list of words written over. A place past the end of the list is passed over, as a put there changes no word.
use Rattle.std.specs.Prelude.{ℕ, ◌+◌, ◌≤◌, ◌⊎◌, List, [], ◌∷◌, replicate, slice_set}

-- the words with xs written from the place a on
abbrev pub over : List ℕ → ℕ → List ℕ → List ℕ
over ws a [] = ws
over ws a (x ∷ xs) = over (slice_set ws a x) (a + 1) xs

-- the words with 0 at the n places from a on
abbrev pub zeros : List ℕ → ℕ → ℕ → List ℕ
zeros ws a n = over ws a (replicate n 0)

-- no place of the n from a on is one of the m from b on
abbrev pub Apart : ℕ → ℕ → ℕ → ℕ → Type 0
Apart a n b m = (a + n ≤ b) ⊎ (b + m ≤ a)
