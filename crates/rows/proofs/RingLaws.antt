-- Rows of r bits are the ring F2[x]/(x^r - 1).
-- A product commutes since q and j - q exchange; x·(y·z) is a sum over pairs, in which x and y exchange; associativity follows from the two.
use Rattle.std.proofs.Common.{◌≡◌, ℕ, ◌+◌, ◌-◌, ◌*◌, ◌%◌, ◌<◌, ◌≤◌, ◌⊎◌, List, sum_by, sym, ap, ◌∙◌, inl, inr, ⊎_elim, mod-lt, mod-eq_of_lt, mul_comm, mul-add, mul_left_comm, arith}
use mathlib.Core.Path.{fun_ext}
use native.Mathlib.Nat.{mod-add-mod, add-mod_right}
use Rattle.std.specs.List.{range_with_len, AllByRecursion}
use Rattle.std.proofs.ByRecursion.{All-weaker}
use Rattle.std.proofs.lemmas.Bool.{cases_lt}
use Rattle.rows.specs.Rows.{Row, unit, plus, product}
use Rattle.rows.specs.Ring.{times, Same, Bits, marks, RowsAreTheRing}
use Rattle.rows.proofs.Sums.{at, parity, times_parity, sum_alike, sum_plus, sum_times, sum_sum, below_alike, sum_at, sum_turned}

module _ (r : ℕ) where
  -- j - q modulo r
  abbrev before : ℕ → ℕ → ℕ
  before j q = (j + (r - q)) % r

  module _ (long : 1 ≤ r) where
    before_below : (j q : ℕ) → before j q < r
    before_below j q = mod-lt (j + (r - q)) long

    -- what m, or m and one r more, leaves modulo r
    rest_is : (n m : ℕ) → m < r → (n ≡ m) ⊎ (n ≡ m + r) → n % r ≡ m
    rest_is n m l c = ⊎_elim (λ e. ap (λ k. k % r) e) (λ e. ap (λ k. k % r) e ∙ add-mod_right m r) c ∙ mod-eq_of_lt l

    -- j - (j - q) is q
    before_before : (j q : ℕ) → j < r → q < r → before j (before j q) ≡ q
    before_before j q l m =
        ⊎_elim
        (λ (c : j < q). let e : before j q ≡ j + (r - q) = rest_is _ _ (omega arith) (inl (omega arith)) in rest_is _ q m (inl (omega arith)))
        (λ (c : q ≤ j). let e : before j q ≡ j - q = rest_is _ _ (omega arith) (inr (omega arith)) in rest_is _ q m (inr (omega arith)))
        (cases_lt j q)

    before_order : (j q p : ℕ) → before (before j q) p ≡ before (before j p) q
    before_order j q p = mod-add-mod (j + (r - q)) r (r - p) ∙ ap (λ n. n % r) (omega arith) ∙ sym (mod-add-mod (j + (r - p)) r (r - q))

    pub times_same : (x : Row) {y z : Row} → Same r y z → Same r (times r x y) (times r x z)
    times_same x e j l = below_alike _ _ r (λ q m. ap (λ n. x q * n % 2) (e (before j q) (before_below j q)))

    pub times_comm : (x y : Row) → Same r (times r x y) (times r y x)
    times_comm x y j l =
        below_alike _ _ r (λ q m. parity (mul_comm (x q) (y (before j q)) ∙ ap (λ n. y (before j q) * x n) (sym (before_before j q l m))))
        ∙ sum_turned (λ q. y q * x (before j q)) (before j) r (λ q m. (before_below j q, before_before j q l m))

    -- a bit of x·(y·z), as a sum over pairs
    spread : (x y z : Row) (j : ℕ) → times r x (times r y z) j ≡ sum_by (λ q. sum_by (λ p. x q * (y p * z (before (before j q) p))) (range_with_len 0 r)) (range_with_len 0 r) % 2
    spread x y z j = below_alike _ _ r (λ q l. sum_times (x q) (λ p. y p * z (before (before j q) p)) (range_with_len 0 r))

    -- x and y exchange in it
    pub times_order : (x y z : Row) → Same r (times r x (times r y z)) (times r y (times r x z))
    times_order x y z j l =
        spread x y z j
        ∙ parity (sum_sum (λ q p. x q * (y p * z (before (before j q) p))) (range_with_len 0 r) (range_with_len 0 r))
        ∙ ap (λ (f : ℕ → ℕ → ℕ). sum_by (λ p. sum_by (f p) (range_with_len 0 r)) (range_with_len 0 r) % 2)
        (fun_ext (λ p. fun_ext (λ q. mul_left_comm (x q) (y p) (z (before (before j q) p)) ∙ ap (λ n. y p * (x q * z n)) (before_order j q p))))
        ∙ sym (spread y x z j)

    times_assoc : (x y z : Row) → Same r (times r (times r x y) z) (times r x (times r y z))
    times_assoc x y z j l = times_comm (times r x y) z j l ∙ times_order z x y j l ∙ times_same x (times_comm z y) j l

    times_plus : (x y z : Row) → Same r (times r x (plus y z)) (plus (times r x y) (times r x z))
    times_plus x y z j l =
        below_alike _ _ r (λ q m. times_parity (x q) (y (before j q) + z (before j q)) ∙ parity (mul-add (x q) (y (before j q)) (z (before j q))))
        ∙ omega (arith, sum_plus (λ q. x q * y (before j q)) (λ q. x q * z (before j q)) (range_with_len 0 r))

    pub times_unit : (x : Row) → Bits r x → Same r (times r unit x) x
    times_unit x bits j l =
        below_alike _ _ r (λ q m. parity (turned q (x (before j q))))
        ∙ parity (sum_at (λ q. x (before j q)) r 0 long ∙ ap x (rest_is (j + (r - 0)) j l (inr (omega arith))))
        ∙ mod-eq_of_lt (bits j l)
      where
        turned : (q n : ℕ) → unit q * n ≡ n * at 0 q
        turned q n = grind arith

    pub product_marks : (ps : List ℕ) (x : Row) → AllByRecursion (λ p. p < r) ps → Same r (product r ps x) (times r (marks ps) x)
    product_marks ps x below j l =
        sum_alike _ _ ps (All-weaker _ _ (λ p m. parity (ap (λ n. x (before j n)) (mod-eq_of_lt m) ∙ sym (sum_at (λ q. x (before j q)) r p m))) ps below)
        ∙ parity (sum_sum (λ p q. x (before j q) * at p q) ps (range_with_len 0 r))
        ∙ below_alike _ _ r (λ q m. sym (sum_times (x (before j q)) (λ p. at p q) ps) ∙ parity (mul_comm (x (before j q)) (marks ps q)))

pub rows_are_the_ring : RowsAreTheRing
rows_are_the_ring r long =
    record {
      commutes = times_comm r long;
      associates = times_assoc r long;
      distributes = times_plus r long;
      unit_left = times_unit r long;
      products = product_marks r long;
    }
