-- What stands where after a part of a list of words is written over, and which such writes may change places or be left out.
-- All rest on one place at a time: a write elsewhere leaves it, and the last write to it stands.
use Rattle.std.proofs.Common.{◌≡◌, ℕ, zero, suc, ◌+◌, ◌<◌, ◌≤◌, ◌≢◌, ◌⊎◌, List, [], ◌∷◌, ◌++◌, length, get_or, take, drop, set, replicate, sym, refl, ap, ◌∙◌, inl, inr, add-zero, arith, length-drop, length-set, length-take, get_or-drop, get_or-set_other, get_or-take, get_or-set_same, ext_get_or, set-set}
use lib.ListN.{length-replicate}
use lib.Seq.{set_comm}
use Rattle.std.proofs.lemmas.List.{get_or_past, replicate_more}
use Rattle.std.proofs.lemmas.Bool.{cases_lt, cases_eq}
use Rattle.memory.specs.Words.{over, zeros, Apart}

-- a write over a part keeps the length
pub length_over : (ws : List ℕ) (a : ℕ) (xs : List ℕ) → length (over ws a xs) ≡ length ws
length_over ws a [] = refl
length_over ws a (x ∷ xs) = length_over (set ws a x) (a + 1) xs ∙ length-set ws a x

-- a place outside the part keeps its word
pub over_out : (ws : List ℕ) (a : ℕ) (xs : List ℕ) (i : ℕ) → (i < a) ⊎ (a + length xs ≤ i) → get_or (over ws a xs) i 0 ≡ get_or ws i 0
over_out ws a [] i h = refl
over_out ws a (x ∷ xs) i h =
    let ne : i ≢ a = λ e. elim h [ inl l ↦ omega arith | inr l ↦ omega arith ] in
    let k : (i < a + 1) ⊎ (a + 1 + length xs ≤ i) = elim h [ inl l ↦ inl (omega arith) | inr l ↦ inr (omega arith) ] in
    over_out (set ws a x) (a + 1) xs i k ∙ get_or-set_other ws a i x 0 ne

-- a place inside has the word that was written there
pub over_in : (ws : List ℕ) (a : ℕ) (xs : List ℕ) (v : ℕ) → a + length xs ≤ length ws → v < length xs → get_or (over ws a xs) (a + v) 0 ≡ get_or xs v 0
over_in ws a [] v h l = absurd (omega arith)
over_in ws a (x ∷ xs) zero h l =
    rw add-zero (over_out (set ws a x) (a + 1) xs a (inl (omega arith)) ∙ get_or-set_same ws a x 0 (omega arith))
over_in ws a (x ∷ xs) (suc v) h l =
    let e : a + suc v ≡ a + 1 + v = omega arith in
    rw e (over_in (set ws a x) (a + 1) xs v (omega (arith, length-set ws a x)) (omega arith))

-- one list after another is the two joined
pub over-++ : (ws : List ℕ) (a : ℕ) (xs ys : List ℕ) → over ws a (xs ++ ys) ≡ over (over ws a xs) (a + length xs) ys
over-++ ws a [] ys = rw add-zero refl
over-++ ws a (x ∷ xs) ys =
    let e : a + 1 + length xs ≡ a + suc (length xs) = omega arith in
    over-++ (set ws a x) (a + 1) xs ys ∙ ap (λ b. over (over (set ws a x) (a + 1) xs) b ys) e

-- a loop's step: one word more
pub over_more : (ws : List ℕ) (a : ℕ) (xs : List ℕ) (x : ℕ) → over ws a (xs ++ x ∷ []) ≡ set (over ws a xs) (a + length xs) x
over_more ws a xs x = over-++ ws a xs (x ∷ [])

-- a put outside the part may come before it
pub set_over : (ws : List ℕ) (a : ℕ) (xs : List ℕ) (i w : ℕ) → (i < a) ⊎ (a + length xs ≤ i) → set (over ws a xs) i w ≡ over (set ws i w) a xs
set_over ws a [] i w h = refl
set_over ws a (x ∷ xs) i w h =
    let ne : a ≢ i = λ e. elim h [ inl l ↦ omega arith | inr l ↦ omega arith ] in
    let k : (i < a + 1) ⊎ (a + 1 + length xs ≤ i) = elim h [ inl l ↦ inl (omega arith) | inr l ↦ inr (omega arith) ] in
    set_over (set ws a x) (a + 1) xs i w k ∙ ap (λ z. over z (a + 1) xs) (set_comm ws a i x w ne)

-- a put inside the part is lost when the part is written over
pub over_set : (ws : List ℕ) (i w b : ℕ) (ys : List ℕ) → b ≤ i → i < b + length ys → over (set ws i w) b ys ≡ over ws b ys
over_set ws i w b [] h l = absurd (omega arith)
over_set ws i w b (y ∷ ys) h l =
    elim (cases_eq i b) [
      | inl e ↦ rw e (ap (λ z. over z (b + 1) ys) (set-set ws b w y))
      | inr ne ↦
          ap (λ z. over z (b + 1) ys) (set_comm ws i b w y ne) ∙ over_set (set ws b y) i w (b + 1) ys (omega arith) (omega arith)
    ]

-- whatever was written inside the part is lost when the part is written over
pub over_inside : (ws : List ℕ) (a : ℕ) (xs : List ℕ) (b : ℕ) (ys : List ℕ) → b ≤ a → a + length xs ≤ b + length ys → over (over ws a xs) b ys ≡ over ws b ys
over_inside ws a [] b ys h l = refl
over_inside ws a (x ∷ xs) b ys h l =
    over_inside (set ws a x) (a + 1) xs b ys (omega arith) (omega arith) ∙ over_set ws a x b ys h (omega arith)

-- of two writes over the same part the later one stands
pub over_over : (ws : List ℕ) (a : ℕ) (xs ys : List ℕ) → length xs ≡ length ys → over (over ws a xs) a ys ≡ over ws a ys
over_over ws a xs ys e = over_inside ws a xs a ys (omega arith) (omega arith)

-- parts that lie apart may be written in either order
pub over_comm : (ws : List ℕ) (a : ℕ) (xs : List ℕ) (b : ℕ) (ys : List ℕ) → Apart a (length xs) b (length ys) → over (over ws a xs) b ys ≡ over (over ws b ys) a xs
over_comm ws a [] b ys h = refl
over_comm ws a (x ∷ xs) b ys h =
    let k : Apart (a + 1) (length xs) b (length ys) = elim h [ inl l ↦ inl (omega arith) | inr l ↦ inr (omega arith) ] in
    let o : (a < b) ⊎ (b + length ys ≤ a) = elim h [ inl l ↦ inl (omega arith) | inr l ↦ inr (omega arith) ] in
    over_comm (set ws a x) (a + 1) xs b ys k ∙ ap (λ z. over z (a + 1) xs) (sym (set_over ws b ys a x o))

-- a word of a part
pub part_at : (ws : List ℕ) (a n i : ℕ) → i < n → get_or (take n (drop a ws)) i 0 ≡ get_or ws (a + i) 0
part_at ws a n i h = get_or-take n (drop a ws) i 0 h ∙ get_or-drop a ws i 0

-- the words of a part that lies apart stay
pub part_out : (ws : List ℕ) (a n b : ℕ) (ys : List ℕ) → Apart a n b (length ys) → take n (drop a (over ws b ys)) ≡ take n (drop a ws)
part_out ws a n b ys h =
    let e : length (take n (drop a (over ws b ys))) ≡ length (take n (drop a ws)) = simp (length-take, length-drop, length_over) in
    ext_get_or 0 (take n (drop a (over ws b ys))) (take n (drop a ws)) e (λ i l.
    let k : i < n = omega (arith, length-take n (drop a (over ws b ys))) in
    let o : (a + i < b) ⊎ (b + length ys ≤ a + i) = elim h [ inl l ↦ inl (omega arith) | inr l ↦ inr (omega arith) ] in
    part_at (over ws b ys) a n i k ∙ over_out ws b ys (a + i) o ∙ sym (part_at ws a n i k))

-- the words of the part are those that were written
pub part_over : (ws : List ℕ) (a : ℕ) (xs : List ℕ) → a + length xs ≤ length ws → take (length xs) (drop a (over ws a xs)) ≡ xs
part_over ws a xs h =
    let e : length (take (length xs) (drop a (over ws a xs))) ≡ length xs = simp (length-take, length-drop, length_over) (omega arith) in
    ext_get_or 0 (take (length xs) (drop a (over ws a xs))) xs e (λ i l.
    let k : i < length xs = omega arith in
    part_at (over ws a xs) a (length xs) i k ∙ over_in ws a xs i h k)

-- zeros keep the length
pub length_zeros : (ws : List ℕ) (a n : ℕ) → length (zeros ws a n) ≡ length ws
length_zeros ws a n = length_over ws a (replicate n 0)

-- a place outside the zeros keeps its word
pub zeros_out : (ws : List ℕ) (a n i : ℕ) → (i < a) ⊎ (a + n ≤ i) → get_or (zeros ws a n) i 0 ≡ get_or ws i 0
zeros_out ws a n i h = over_out ws a (replicate n 0) i (rw length-replicate h)

-- a place inside holds 0, also past the end
pub zeros_in : (ws : List ℕ) (a n v : ℕ) → v < n → get_or (zeros ws a n) (a + v) 0 ≡ 0
zeros_in ws a zero v h = absurd (omega arith)
zeros_in ws a (suc n) zero h =
    rw add-zero (over_out (set ws a 0) (a + 1) (replicate n 0) a (inl (omega arith)) ∙ elim (cases_lt a (length ws)) [
      | inl l ↦ get_or-set_same ws a 0 0 l
      | inr l ↦ get_or_past (set ws a 0) a 0 (rw length-set l)
    ])
zeros_in ws a (suc n) (suc v) h =
    let e : a + suc v ≡ a + 1 + v = omega arith in
    rw e (zeros_in (set ws a 0) (a + 1) n v (omega arith))

-- a loop's step: one 0 more
pub zeros_more : (ws : List ℕ) (a n : ℕ) → zeros ws a (n + 1) ≡ set (zeros ws a n) (a + n) 0
zeros_more ws a n =
    rw (← replicate_more) (over_more ws a (replicate n 0) 0 ∙ ap (λ k. set (zeros ws a n) (a + k) 0) (length-replicate n 0))

-- whatever was written inside the part is lost under zeros
pub zeros_inside : (ws : List ℕ) (a : ℕ) (xs : List ℕ) (b n : ℕ) → b ≤ a → a + length xs ≤ b + n → zeros (over ws a xs) b n ≡ zeros ws b n
zeros_inside ws a xs b n h l = over_inside ws a xs b (replicate n 0) h (rw length-replicate l)

-- zeros inside the part are lost under zeros
pub zeros_zeros : (ws : List ℕ) (a m b n : ℕ) → b ≤ a → a + m ≤ b + n → zeros (zeros ws a m) b n ≡ zeros ws b n
zeros_zeros ws a m b n h l = zeros_inside ws a (replicate m 0) b n h (rw length-replicate l)

-- zeros and a part that lies apart may be written in either order
pub zeros_comm : (ws : List ℕ) (a : ℕ) (xs : List ℕ) (b n : ℕ) → Apart a (length xs) b n → zeros (over ws a xs) b n ≡ over (zeros ws b n) a xs
zeros_comm ws a xs b n h = over_comm ws a xs b (replicate n 0) (rw length-replicate h)

-- the words of a part that lies apart from the zeros stay
pub part_zeros : (ws : List ℕ) (a n b m : ℕ) → Apart a n b m → take n (drop a (zeros ws b m)) ≡ take n (drop a ws)
part_zeros ws a n b m h = part_out ws a n b (replicate m 0) (rw length-replicate h)
