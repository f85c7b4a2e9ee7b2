-- Sums of numbers over lists, and over all numbers below n.
-- Bits of rows count modulo 2, so the summands of two sums have to agree modulo 2 only.
use Rattle.std.proofs.Common.{◌≡◌, ℕ, zero, suc, ◌+◌, ◌*◌, ◌%◌, ◌<◌, cond, eqb, ltb, leb, List, [], ◌∷◌, get_or, sum_by, sym, refl, ap, ◌∙◌, arith}
use mathlib.Core.Path.{fun_ext}
use native.Mathlib.Nat.{div-add-mod}
use Rattle.std.specs.List.{range_with_len, AllByRecursion}
use Rattle.std.proofs.lemmas.List.Sums.{sum_by-cons}
use Rattle.std.proofs.ByRecursion.{All-from_get_or}
use Rattle.std.proofs.lemmas.List.FromFn.{length-range_with_len, get_or-range_with_len}

pub parity : {a b : ℕ} → a ≡ b → a % 2 ≡ b % 2
parity e = ap (λ n. n % 2) e

pub times_parity : (c a : ℕ) → c * (a % 2) % 2 ≡ c * a % 2
times_parity c a = let e = ap (λ n. c * n) (div-add-mod a 2) in omega arith

-- 1 at k, and 0 elsewhere
abbrev pub at : ℕ → ℕ → ℕ
at k q = cond (eqb k q) 1 0

module _ {X : Type 0} where
  -- sums agree modulo 2 where their summands do
  pub sum_alike : (f g : X → ℕ) (xs : List X) → AllByRecursion (λ x. f x % 2 ≡ g x % 2) xs → sum_by f xs % 2 ≡ sum_by g xs % 2
  sum_alike f g [] h = refl
  sum_alike f g (x ∷ xs) h = let rest = sum_alike f g xs h.1 in omega (arith, sum_by-cons f x xs, sum_by-cons g x xs, h.0)

  pub sum_plus : (f g : X → ℕ) (xs : List X) → sum_by (λ x. f x + g x) xs ≡ sum_by f xs + sum_by g xs
  sum_plus f g [] = refl
  sum_plus f g (x ∷ xs) =
      let rest = sum_plus f g xs in
      omega (arith, sum_by-cons (λ y. f y + g y) x xs, sum_by-cons f x xs, sum_by-cons g x xs)

  -- a factor goes into a sum
  sum_scaled : (c : ℕ) (f : X → ℕ) (xs : List X) → c * sum_by f xs ≡ sum_by (λ x. c * f x) xs
  sum_scaled c f [] = omega arith
  sum_scaled c f (x ∷ xs) =
      let rest = sum_scaled c f xs in
      omega (arith, sum_by-cons (λ y. c * f y) x xs, ap (λ n. c * n) (sum_by-cons f x xs))

  pub sum_times : (c : ℕ) (f : X → ℕ) (xs : List X) → c * (sum_by f xs % 2) % 2 ≡ sum_by (λ x. c * f x) xs % 2
  sum_times c f xs = times_parity c (sum_by f xs) ∙ parity (sum_scaled c f xs)

-- two sums exchange
pub sum_sum : {X Y : Type 0} (f : X → Y → ℕ) (xs : List X) (ys : List Y) → sum_by (λ x. sum_by (f x) ys) xs ≡ sum_by (λ y. sum_by (λ x. f x y) xs) ys
sum_sum f [] ys = omega (arith, sum_scaled 0 (λ y. 0) ys)
sum_sum f (x ∷ xs) ys =
    let rest = sum_sum f xs ys in
    let more = ap (λ g. sum_by g ys) (fun_ext (λ y. sum_by-cons (λ z. f z y) x xs)) in
    omega (arith, more, sum_by-cons (λ z. sum_by (f z) ys) x xs, sum_plus (f x) (λ y. sum_by (λ z. f z y) xs) ys)

pub all_below : (P : ℕ → Type 0) (n : ℕ) → ((q : ℕ) → q < n → P q) → AllByRecursion P (range_with_len 0 n)
all_below P n h = All-from_get_or P (range_with_len 0 n) 0 (λ i l. here i (omega (arith, length-range_with_len 0 n)))
  where
    here : (i : ℕ) → i < n → P (get_or (range_with_len 0 n) i 0)
    here i l = let e : get_or (range_with_len 0 n) i 0 ≡ i = omega (arith, get_or-range_with_len 0 n i 0 l) in rw e (h i l)

pub below_alike : (f g : ℕ → ℕ) (n : ℕ) → ((q : ℕ) → q < n → f q % 2 ≡ g q % 2) → sum_by f (range_with_len 0 n) % 2 ≡ sum_by g (range_with_len 0 n) % 2
below_alike f g n h = sum_alike f g (range_with_len 0 n) (all_below _ n h)

-- a sum in which only the summand at k counts
sum_at_from : (f : ℕ → ℕ) (a n k : ℕ) → sum_by (λ q. f q * at k q) (range_with_len a n) ≡ cond (leb a k) (cond (ltb k (a + n)) (f k) 0) 0
sum_at_from f a zero k = grind arith
sum_at_from f a (suc n) k =
    let rest = sum_at_from f (a + 1) n k in
    let more = sum_by-cons (λ q. f q * at k q) a (range_with_len (a + 1) n) in
    grind arith

pub sum_at : (f : ℕ → ℕ) (n k : ℕ) → k < n → sum_by (λ q. f q * at k q) (range_with_len 0 n) ≡ f k
sum_at f n k l = let e = sum_at_from f 0 n k in grind arith

-- a map that is its own inverse only reorders the numbers below n: f (σ q) is the sum of f k over the one k that is σ q, and q is then σ k
pub sum_turned : (f σ : ℕ → ℕ) (n : ℕ) → ((q : ℕ) → q < n → (σ q < n) × (σ (σ q) ≡ q)) → sum_by (λ q. f (σ q)) (range_with_len 0 n) % 2 ≡ sum_by f (range_with_len 0 n) % 2
sum_turned f σ n inverse =
    below_alike _ _ n (λ q l. parity (sym (sum_at f n (σ q) (inverse q l).0)))
    ∙ parity (sum_sum (λ q k. f k * at (σ q) k) (range_with_len 0 n) (range_with_len 0 n))
    ∙ below_alike _ _ n once
  where
    either : (q k : ℕ) → σ (σ q) ≡ q → σ (σ k) ≡ k → at (σ q) k ≡ at (σ k) q
    either q k a b = grind arith

    once : (k : ℕ) → k < n → sum_by (λ q. f k * at (σ q) k) (range_with_len 0 n) % 2 ≡ f k % 2
    once k l =
        below_alike _ _ n (λ q m. ap (λ t. f k * t % 2) (either q k (inverse q m).1 (inverse k l).1))
        ∙ parity (sum_at (λ q. f k) n (σ k) (inverse k l).0)
