-- Digits and the masks made of them. A mask is all ones or all zeros, and leaves the first or the second of two numbers:
-- the one law that each choice without a branch rests on, over any width.
use Rattle.std.proofs.Common.{◌≡◌, ℕ, ◌-◌, ◌^◌, ◌<◌, sym, ap, ◌∙◌, mod-eq_of_lt}
use lib.Bits.{bit_and, bit_xor, and_comm, and_mask, xor_lt, xor_comm, xor_assoc, xor_self, xor_zero_r}

-- a mask of ones takes the first number, and one of zeros the second
pub masked_all : (k a b mask : ℕ) → a < 2 ^ k → b < 2 ^ k → mask ≡ 2 ^ k - 1 → bit_xor b (bit_and mask (bit_xor a b)) ≡ a
masked_all k a b mask ha hb e =
    let x : bit_and mask (bit_xor a b) ≡ bit_xor a b =
    ap (λ m. bit_and m (bit_xor a b)) e ∙ (and_comm (2 ^ k - 1) (bit_xor a b) ∙ (and_mask (bit_xor a b) k ∙ mod-eq_of_lt (xor_lt k a b ha hb))) in
    ap (bit_xor b) (x ∙ xor_comm a b) ∙ (sym (xor_assoc b b a) ∙ ap (λ z. bit_xor z a) (xor_self b))

pub masked_none : (a b mask : ℕ) → mask ≡ 0 → bit_xor b (bit_and mask (bit_xor a b)) ≡ b
masked_none a b mask e = ap (λ m. bit_xor b (bit_and m (bit_xor a b))) e ∙ xor_zero_r b
