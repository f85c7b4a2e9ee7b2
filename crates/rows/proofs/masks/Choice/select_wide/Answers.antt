-- The negated digit is a mask of zeros or of ones.
use Rattle.std.proofs.Common.{◌≡◌, ℕ, zero, suc, ◌+◌, ◌%◌, ◌^◌, ◌<◌, arith}
use lib.Bits.{bit_and, bit_xor}
use Rattle.rows.specs.Masks.{chosen}
use Rattle.rows.proofs.Masking.{masked_all, masked_none}
use Rattle.rows.proofs.masks.Choice.select_wide.Goals as goal

is_chosen : (d a b mask : ℕ) → d < 2 → a < 2 ^ 64 → b < 2 ^ 64 → mask < 2 ^ 64 → (mask + d) % 2 ^ 64 ≡ 0 → bit_xor b (bit_and mask (bit_xor a b)) ≡ chosen d a b
is_chosen zero a b mask hd ha hb hm e = masked_none a b mask (omega arith)
is_chosen (suc d) a b mask hd ha hb hm e = masked_all 64 a b mask ha hb (omega arith)

pub returns : goal.returns
returns c = is_chosen _ _ _ _ c.args.self.binary (omega arith) (omega arith) c.wrapping_neg-mask.type_inv c.wrapping_neg-mask.ensures
