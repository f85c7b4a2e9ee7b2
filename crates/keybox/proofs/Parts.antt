-- Parts of a list of words. What is read in the first n words, and what is written there, does not depend on the words after them.
use Rattle.std.proofs.Common.{◌≡◌, ℕ, zero, suc, ◌+◌, ◌-◌, ◌/◌, ◌%◌, ◌<◌, ◌≤◌, Bool, List, [], ◌∷◌, length, get_or, take, drop, set, replicate, sum_by, sym, refl, ap, ◌∙◌, inl, inr, mod-lt, arith, length-drop, length-take}
use mathlib.Core.Path.{fun_ext}
use lib.ListN.{length-replicate}
use Rattle.std.specs.List.{range_with_len}
use Rattle.std.proofs.lemmas.List.{get_or-take, get_or-replicate, ext_get_or}
use Rattle.std.proofs.lemmas.Bool.{cases_lt}
use Rattle.memory.specs.Words.{over, zeros}
use Rattle.memory.proofs.Words.{length_zeros, part_at, zeros_in, zeros_out}
use Rattle.rows.specs.Rows.{Row, rotated, product, bit_of, width, row_at, has_tail}
use Rattle.rows.specs.Ring.{Same}
use Rattle.rows.specs.Fill.{part}
use Rattle.keybox.specs.Model.{first_place}

-- the words of a part that lies inside the zeros
pub part_zeroed : (ws : List ℕ) (a n b m : ℕ) → b ≤ a → a + n ≤ b + m → a + n ≤ length ws → take n (drop a (zeros ws b m)) ≡ replicate n 0
part_zeroed ws a n b m low high room =
    ext_get_or 0 _ _ (simp (length-take, length-drop, length_zeros, length-replicate) (omega arith)) (λ i l.
    let k : i < n = omega (arith, length-take n (drop a (zeros ws b m))) in
    grind (arith, part_at (zeros ws b m) a n i k, zeros_in ws b m (a + i - b), get_or-replicate))

-- zeros written where zeros stood
zeros_same_at : (ws : List ℕ) (a n v : ℕ) → v < n → part ws a n ≡ replicate n 0 → get_or (zeros ws a n) (a + v) 0 ≡ get_or ws (a + v) 0
zeros_same_at ws a n v l e =
    zeros_in ws a n v l ∙ sym (get_or-replicate n v 0 0 l) ∙ ap (λ xs. get_or xs v 0) (sym e) ∙ part_at ws a n v l

pub zeros_same : (ws : List ℕ) (a n : ℕ) → part ws a n ≡ replicate n 0 → zeros ws a n ≡ ws
zeros_same ws a n e = ext_get_or 0 (zeros ws a n) ws (length_zeros ws a n) (λ i _. elim (cases_lt i a) [
  | inl l ↦ zeros_out ws a n i (inl l)
  | inr l ↦ elim (cases_lt i (a + n)) [
    | inl m ↦ let at : i ≡ a + (i - a) = omega arith in rw at (zeros_same_at ws a n (i - a) (omega arith) e)
    | inr m ↦ zeros_out ws a n i (inr m)
  ]
])

-- a put
take_set_in : (n : ℕ) (ws : List ℕ) (i w : ℕ) → take n (set ws i w) ≡ set (take n ws) i w
take_set_in zero ws i w = refl
take_set_in (suc n) [] i w = refl
take_set_in (suc n) (x ∷ ws) zero w = refl
take_set_in (suc n) (x ∷ ws) (suc i) w = ap (λ t. x ∷ t) (take_set_in n ws i w)

-- a write over a part
pub take_over : (n : ℕ) (ws : List ℕ) (a : ℕ) (xs : List ℕ) → take n (over ws a xs) ≡ over (take n ws) a xs
take_over n ws a [] = refl
take_over n ws a (x ∷ xs) = take_over n (set ws a x) (a + 1) xs ∙ ap (λ t. over t (a + 1) xs) (take_set_in n ws a x)

-- a part
pub front_part : (n : ℕ) (ws : List ℕ) (a m : ℕ) → a + m ≤ n → part (take n ws) a m ≡ part ws a m
front_part n ws a m h =
    ext_get_or 0 _ _ (simp (length-take, length-drop, length-take) (omega arith)) (λ i l.
    let k : i < m = omega (arith, length-take m (drop a (take n ws))) in
    grind (arith, part_at (take n ws) a m i k, part_at ws a m i k, get_or-take))

-- a row
pub front_row : (r n : ℕ) (ws : List ℕ) (a : ℕ) → a + width r ≤ n → Same r (row_at (take n ws) a) (row_at ws a)
front_row r n ws a h j l = ap (λ w. bit_of w (j % 32)) (get_or-take n ws (a + j / 32) 0 (omega arith))

pub front_tail : (r n : ℕ) (ws : List ℕ) (a : ℕ) → 1 ≤ r → a + width r ≤ n → has_tail r (take n ws) a ≡ has_tail r ws a
front_tail r n ws a l h = simp (get_or-take n ws (a + (width r - 1)) 0 (omega arith))

-- a rotation of a row of r bits looks at these bits alone, and so does a product
rotated_same : (r : ℕ) (x y : Row) → 1 ≤ r → Same r x y → (p : ℕ) → rotated r p x ≡ rotated r p y
rotated_same r x y l h p = fun_ext (λ j. h _ (mod-lt (j + (r - p % r)) l))

pub product_same : (r : ℕ) (ps : List ℕ) (x y : Row) → 1 ≤ r → Same r x y → product r ps x ≡ product r ps y
product_same r ps x y l h = fun_ext (λ j. ap (λ (f : ℕ → Row). sum_by (λ p. f p j) ps % 2) (fun_ext (rotated_same r x y l h)))

-- the first place where a test holds
pub first_place_same : (p q : ℕ → Bool) (a n : ℕ) → ((i : ℕ) → i < a + n → p i ≡ q i) → first_place p (range_with_len a n) ≡ first_place q (range_with_len a n)
first_place_same p q a zero h = refl
first_place_same p q a (suc n) h = grind (arith, h a (omega arith), first_place_same p q (a + 1) n (λ i l. h i (omega arith)))
