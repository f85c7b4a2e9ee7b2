-- One byte more of a line that keeps the first n: it is taken in while there is room, and passed over after that.
use Rattle.std.proofs.Common.{◌≡◌, ℕ, ◌+◌, ◌<◌, ◌≤◌, List, [], ◌∷◌, ◌++◌, length, take, set, sym, ◌∙◌, arith, length-append, length-take}
use Rattle.std.proofs.lemmas.List.{take_more_set, take_all, take_at}

pub kept_more : (n : ℕ) (xs : List ℕ) (i b : ℕ) → length xs ≡ n → i < n → take (i + 1) (set xs i b) ≡ take n (take i xs ++ b ∷ [])
kept_more n xs i b e h =
    let k : i < length xs = omega arith in
    let s : length (take i xs ++ b ∷ []) ≤ n = simp (length-append, length-take) (omega arith) in
    take_more_set xs i b k ∙ sym (take_all n (take i xs ++ b ∷ []) s)

pub kept_full : (n : ℕ) (xs : List ℕ) (i b : ℕ) → length xs ≡ n → n ≤ i → i ≤ n → take i xs ≡ take n (take i xs ++ b ∷ [])
kept_full n xs i b e h k =
    let s : length (take i xs) ≡ n = simp length-take (omega arith) in
    sym (take_at (take i xs) (b ∷ []) n s)
