-- Numbers by their binary digits: the bits of a word, a word packed from bits, the number in a lane of planes.
-- All of these are sums of digits times powers of two, so the laws stand once, for `value`.
use Rattle.std.proofs.Common.{◌≡◌, ℕ, zero, suc, ◌+◌, ◌-◌, ◌*◌, ◌/◌, ◌%◌, ◌^◌, ◌<◌, ◌⊎◌, [], ◌∷◌, ◌++◌, sum_by, sym, refl, ap, ◌∙◌, ap₂, inl, inr, mod-eq_of_lt, mul_comm, pow-suc, add-one, arith}
use lib.Bits.{bit_xor}
use lib.Pow.{mod-mod-pow}
use Rattle.std.specs.List.{range_with_len}
use Rattle.std.proofs.lemmas.Nat.{xor_shr, xor_mod, mod-pow-add, field_of, shr_high, mod_low}
use Rattle.std.proofs.lemmas.List.Sums.{sum_by_push}
use Rattle.std.proofs.lemmas.Bool.{cases_eq}
use Rattle.rows.specs.Rows.{bit_of, packed}
use Rattle.rows.specs.Lane.{number}
use Rattle.rows.proofs.Loops.{counting_more}

pub bit_cases : (x : ℕ) → x < 2 → (x ≡ 0) ⊎ (x ≡ 1)
bit_cases x h = grind arith

pub bit_lt : (w j : ℕ) → bit_of w j < 2
bit_lt w j = omega arith

-- the bits below n are those of the remainder by 2 ^ n
pub bit_mod : (w n k : ℕ) → k < n → bit_of (w % 2 ^ n) k ≡ bit_of w k
bit_mod w n k h =
    let e : n ≡ n - k - 1 + 1 + k = omega arith in
    ap (λ (m : ℕ). bit_of (w % 2 ^ m) k) e ∙ ap (λ (x : ℕ). x % 2) (field_of w (n - k - 1 + 1) k) ∙ mod-mod-pow (w / 2 ^ k) (n - k - 1) 1

-- ---- a number by its digits

-- the number whose binary digits below 2 ^ n are b 0, b 1, ..
value : ℕ → (ℕ → ℕ) → ℕ
value zero b = 0
value (suc n) b = value n b + 2 ^ n * b n

times_bit : (m x : ℕ) → x < 2 → (m * x ≡ 0) ⊎ (m * x ≡ m)
times_bit m x h = elim (bit_cases x h) [ inl e ↦ inl (rw e (omega arith)) | inr e ↦ inr (rw e (omega arith)) ]

value_lt : (n : ℕ) (b : ℕ → ℕ) → ((k : ℕ) → k < n → b k < 2) → value n b < 2 ^ n
unfolding value
value_lt zero b h = omega arith
value_lt (suc n) b h =
    let low = value_lt n b (λ k l. h k (omega arith)) in
    elim (times_bit (2 ^ n) (b n) (h n (omega arith))) [ inl e ↦ omega (arith, e, pow-suc 2 n) | inr e ↦ omega (arith, e, pow-suc 2 n) ]

value_bit : (n : ℕ) (b : ℕ → ℕ) (k : ℕ) → ((i : ℕ) → i < n → b i < 2) → k < n → bit_of (value n b) k ≡ b k
unfolding value
value_bit zero b k h l = absurd (omega arith)
value_bit (suc n) b k h l =
    let low = value_lt n b (λ i u. h i (omega arith)) in
    let e : value n b + 2 ^ n * b n ≡ b n * 2 ^ n + value n b = omega (arith, mul_comm (2 ^ n) (b n)) in
    ap (λ (x : ℕ). bit_of x k) e ∙ elim (cases_eq k n) [
      | inl s ↦ rw s (ap (λ (x : ℕ). x % 2) (shr_high (b n) n (value n b) low) ∙ mod-eq_of_lt (h n (omega arith)))
      | inr s ↦ let u : k < n = omega (arith, s) in
          sym (bit_mod (b n * 2 ^ n + value n b) n k u) ∙ ap (λ (x : ℕ). bit_of x k) (mod_low (b n) n (value n b) low) ∙ value_bit n b k (λ i u. h i (omega arith)) u
    ]

value_of : (n w : ℕ) → value n (bit_of w) ≡ w % 2 ^ n
unfolding value
value_of zero w = omega arith
value_of (suc n) w =
    let e : 1 + n ≡ suc n = omega arith in
    ap (λ (x : ℕ). x + 2 ^ n * bit_of w n) (value_of n w) ∙ omega (arith, mod-pow-add w 1 n, mul_comm (2 ^ n) (bit_of w n), ap (λ (m : ℕ). w % 2 ^ m) e)

value_same : (n : ℕ) (b c : ℕ → ℕ) → ((k : ℕ) → k < n → b k ≡ c k) → value n b ≡ value n c
unfolding value
value_same zero b c h = refl
value_same (suc n) b c h =
    ap₂ (λ (x y : ℕ). x + 2 ^ n * y) (value_same n b c (λ k l. h k (omega arith))) (h n (omega arith))

-- ---- a word packed from bits

sum_value : (b : ℕ → ℕ) (n : ℕ) → sum_by (λ j. b j * 2 ^ j) (range_with_len 0 n) ≡ value n b
unfolding value
sum_value b zero = refl
sum_value b (suc n) =
    let e : range_with_len 0 (suc n) ≡ range_with_len 0 n ++ n ∷ [] = ap (range_with_len 0) (sym (add-one n)) ∙ counting_more n in
    ap (sum_by (λ j. b j * 2 ^ j)) e ∙ sum_by_push (λ j. b j * 2 ^ j) (range_with_len 0 n) n ∙ ap₂ (λ (x y : ℕ). x + y) (sum_value b n) (mul_comm (b n) (2 ^ n))

pub packed_bit : (b : ℕ → ℕ) (j : ℕ) → ((i : ℕ) → i < 32 → b i < 2) → j < 32 → bit_of (packed b) j ≡ b j
packed_bit b j h l = ap (λ (x : ℕ). bit_of x j) (sum_value b 32) ∙ value_bit 32 b j h l

pub packed_same : (b c : ℕ → ℕ) → ((j : ℕ) → j < 32 → b j ≡ c j) → packed b ≡ packed c
packed_same b c h = sum_value b 32 ∙ value_same 32 b c h ∙ sym (sum_value c 32)

pub packed_of : (w : ℕ) → w < 2 ^ 32 → packed (bit_of w) ≡ w
packed_of w h = sum_value (bit_of w) 32 ∙ value_of 32 w ∙ mod-eq_of_lt h

-- ---- the number in a lane

number_value : (p : ℕ → ℕ) (n j : ℕ) → number p n j ≡ value n (λ k. bit_of (p k) j)
unfolding number value
number_value p zero j = refl
number_value p (suc n) j = ap (λ (x : ℕ). x + 2 ^ n * bit_of (p n) j) (number_value p n j)

-- bit k of the number is bit j of plane k
pub number_bit : (p : ℕ → ℕ) (n j k : ℕ) → k < n → bit_of (number p n j) k ≡ bit_of (p k) j
number_bit p n j k h =
    ap (λ (x : ℕ). bit_of x k) (number_value p n j) ∙ value_bit n (λ i. bit_of (p i) j) k (λ i l. bit_lt (p i) j) h

-- the number depends on the bits of its lane alone
pub number_bits : (p q : ℕ → ℕ) (n i j : ℕ) → ((k : ℕ) → k < n → bit_of (p k) i ≡ bit_of (q k) j) → number p n i ≡ number q n j
number_bits p q n i j h =
    number_value p n i ∙ value_same n (λ k. bit_of (p k) i) (λ k. bit_of (q k) j) h ∙ sym (number_value q n j)

pub number_same : (p q : ℕ → ℕ) (n j : ℕ) → ((k : ℕ) → k < n → p k ≡ q k) → number p n j ≡ number q n j
number_same p q n j h = number_bits p q n j j (λ k l. ap (λ (x : ℕ). bit_of x j) (h k l))

-- a number that fits the planes is the one whose bits they hold
pub number_of : (p : ℕ → ℕ) (n j x : ℕ) → x < 2 ^ n → ((k : ℕ) → k < n → bit_of (p k) j ≡ bit_of x k) → number p n j ≡ x
number_of p n j x l h = number_value p n j ∙ value_same n (λ k. bit_of (p k) j) (bit_of x) h ∙ value_of n x ∙ mod-eq_of_lt l

-- one plane holds bits
pub number_one : (p : ℕ → ℕ) (j : ℕ) → number p 1 j ≡ bit_of (p 0) j
unfolding number
number_one p j = omega arith

-- ---- the sum modulo 2 of two words

-- an operation on bits, from its four values
four : (f g : ℕ → ℕ → ℕ) → f 0 0 ≡ g 0 0 → f 0 1 ≡ g 0 1 → f 1 0 ≡ g 1 0 → f 1 1 ≡ g 1 1
    → (x y : ℕ) → x < 2 → y < 2 → f x y ≡ g x y
four f g a b c d x y hx hy =
    elim (bit_cases x hx) [
      | inl e ↦ elim (bit_cases y hy) [ inl e' ↦ rw (e, e') a | inr e' ↦ rw (e, e') b ]
      | inr e ↦ elim (bit_cases y hy) [ inl e' ↦ rw (e, e') c | inr e' ↦ rw (e, e') d ]
    ]

pub bit_of_xor : (a b j : ℕ) → bit_of (bit_xor a b) j ≡ (bit_of a j + bit_of b j) % 2
bit_of_xor a b j =
    ap (λ (x : ℕ). x % 2) (xor_shr a b j) ∙ xor_mod (a / 2 ^ j) (b / 2 ^ j) 1
    ∙ four bit_xor (λ x y. (x + y) % 2) refl refl refl refl (bit_of a j) (bit_of b j) (bit_lt a j) (bit_lt b j)
