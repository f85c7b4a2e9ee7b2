-- What a window over a memory is after an access of the memory below.
-- An address that it shows is the access below at that address from the base on; any other leaves both as they were.
use Rattle.std.proofs.Common.{◌≡◌, ℕ, ◌+◌, ◌<◌, ◌≤◌, leb, List, [], ◌∷◌, length, drop, set, refl, inl, inr, arith, length-drop, length-set, length-take, drop-set-lt}
use lib.Seq.{drop-set-add, take-set-lt, take-set-le}
use Rattle.std.proofs.lemmas.Bool.{cases_Bool, leb-true, lt-ltb}
use Rattle.memory.specs.Access.{Seen, put, accessed}
use Rattle.memory.specs.Layers.{spanned, window}

-- a window has as many words as it spans
pub length_window : (b n : ℕ) (s : Seen) → length (window b n s).words ≡ spanned b n (length s.words)
length_window b n s =
    elim (cases_Bool (leb (b + n) (length s.words))) [
      | inl e ↦ let k : b + n ≤ length s.words = leb-true (b + n) (length s.words) e in rw e (simp (length-take, length-drop) (omega arith))
      | inr e ↦ rw e refl
    ]

-- the place p below of an address a that a window shows
module _ (b n : ℕ) (s : Seen) (a p : ℕ) (h : a < length (window b n s).words) (e : p ≡ b + a) where
  within : a < spanned b n (length s.words)
  within = omega (arith, length_window b n s)

  -- a put there is a put of the window, and leaves the hidden words
  pub place_put : (t : Seen) (w : ℕ) → t ≡ accessed s (put p ∷ []) (set s.words p w) → window b n t ≡ accessed (window b n s) (put a ∷ []) (set (window b n s).words a w)
  place_put t w d =
      let ws : List ℕ = s.words in
      let m : ℕ = spanned b n (length ws) in
      let k = lt-ltb a m within in
      let l = length-set ws (b + a) w in
      let shown = drop-set-add b ws a w in
      let front = take-set-lt m (drop b ws) a w within in
      let before = take-set-le b ws (b + a) w (omega arith) in
      let after = drop-set-lt (b + m) ws (b + a) w (omega (arith, within)) in
      cc
