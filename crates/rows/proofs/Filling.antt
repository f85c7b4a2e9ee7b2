-- Words written one after another from a place on, each told by a function of its index:
-- the form that each loop of a rotation leaves the words in, so that a turn more is one word more.
use Rattle.std.proofs.Common.{◌≡◌, ℕ, zero, suc, ◌+◌, ◌<◌, ◌≤◌, ◌⊎◌, List, map, length, get_or, set, sym, refl, ap, ◌∙◌, add-zero, arith}
use Rattle.std.specs.List.{range_with_len}
use Rattle.std.proofs.lemmas.List.FromFn.{length-map-range_with_len, get_or-map-range_with_len, map-range_with_len_more, fill_by_all}
use Rattle.memory.specs.Words.{over}
use Rattle.memory.proofs.Words.{length_over, over_in, over_out, over_more, set_over}
use Rattle.rows.specs.Number.{filled}

pub length_filled : (ws : List ℕ) (b : ℕ) (f : ℕ → ℕ) (n : ℕ) → length (filled ws b f n) ≡ length ws
unfolding filled
length_filled ws b f n = length_over ws b (map f (range_with_len 0 n))

filled_none : (ws : List ℕ) (b : ℕ) (f : ℕ → ℕ) → ws ≡ filled ws b f 0
unfolding filled
filled_none ws b f = refl

-- one word more
pub filled_more : (ws : List ℕ) (b : ℕ) (f : ℕ → ℕ) (n : ℕ) → set (filled ws b f n) (b + n) (f n) ≡ filled ws b f (n + 1)
unfolding filled
filled_more ws b f n =
    ap (λ k. set (over ws b (map f (range_with_len 0 n))) (b + k) (f n)) (sym (length-map-range_with_len f 0 n))
    ∙ (sym (over_more ws b (map f (range_with_len 0 n)) (f n)) ∙ ap (over ws b) (sym (map-range_with_len_more f 0 n n (omega arith))))

-- a word outside stays
pub filled_out : (ws : List ℕ) (b : ℕ) (f : ℕ → ℕ) (n i : ℕ) → (i < b) ⊎ (b + n ≤ i) → get_or (filled ws b f n) i 0 ≡ get_or ws i 0
unfolding filled
filled_out ws b f n i h = over_out ws b (map f (range_with_len 0 n)) i (rw length-map-range_with_len h)

-- a word inside is the one written there
pub filled_in : (ws : List ℕ) (b : ℕ) (f : ℕ → ℕ) (n v : ℕ) → b + n ≤ length ws → v < n → get_or (filled ws b f n) (b + v) 0 ≡ f v
unfolding filled
filled_in ws b f n v h l =
    let k = length-map-range_with_len f 0 n in
    over_in ws b (map f (range_with_len 0 n)) v (omega arith) (omega arith) ∙ get_or-map-range_with_len f 0 n v v 0 l (omega arith)

-- a put outside may come first
pub set_filled : (ws : List ℕ) (b : ℕ) (f : ℕ → ℕ) (n i x : ℕ) → (i < b) ⊎ (b + n ≤ i) → set (filled ws b f n) i x ≡ filled (set ws i x) b f n
unfolding filled
set_filled ws b f n i x h = set_over ws b (map f (range_with_len 0 n)) i x (rw length-map-range_with_len h)

-- two neighbouring parts are one
pub filled_join : (ws : List ℕ) (b : ℕ) (f : ℕ → ℕ) (n m : ℕ) → filled (filled ws b f n) (b + n) (λ v. f (n + v)) m ≡ filled ws b f (n + m)
filled_join ws b f n zero = sym (filled_none (filled ws b f n) (b + n) (λ v. f (n + v))) ∙ ap (filled ws b f) (sym (add-zero n))
filled_join ws b f n (suc m) =
    let one : suc m ≡ m + 1 = omega arith in
    let sum : n + suc m ≡ n + m + 1 = omega arith in
    let place : b + n + m ≡ b + (n + m) = omega arith in
    let before = filled_join ws b f n m in
    let upper = filled_more (filled ws b f n) (b + n) (λ v. f (n + v)) m in
    let whole = filled_more ws b f (n + m) in
    cc

-- the words written depend on the function at their indices alone
pub filled_same : (ws : List ℕ) (b : ℕ) (f g : ℕ → ℕ) (n : ℕ) → ((w : ℕ) → w < n → f w ≡ g w) → filled ws b f n ≡ filled ws b g n
unfolding filled
filled_same ws b f g n h =
    ap (over ws b) (fill_by_all g (map f (range_with_len 0 n)) n 0 (length-map-range_with_len f 0 n) (λ w l. get_or-map-range_with_len f 0 n w w 0 l (omega arith) ∙ h w l))
