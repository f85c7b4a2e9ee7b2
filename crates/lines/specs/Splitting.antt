-- Bytes taken apart at a separator: the lines of an input, and the parts of a line.
use Rattle.std.specs.Prelude.{ℕ, cond, List, [], ◌∷◌, length, take, ◌==◌}
use Rattle.std.specs.List.{slice_split}

-- the pieces between the separators, one more than there are separators
abbrev pub split : ℕ → List ℕ → List (List ℕ)
split s xs = slice_split (λ x. x == s) xs

-- some pieces without an empty last one
abbrev pub ended : List (List ℕ) → List (List ℕ)
ended [] = []
ended (p ∷ []) = cond (length p == 0) [] (p ∷ [])
ended (p ∷ q ∷ ps) = p ∷ ended (q ∷ ps)

-- the lines of an input: its first 65,536 bytes, split at line feeds. Nothing after a last line feed is no line
abbrev pub lines : List ℕ → List (List ℕ)
lines input = ended (split 10 (take 65536 input))
