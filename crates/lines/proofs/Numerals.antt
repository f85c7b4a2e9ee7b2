-- One more digit of a number: it is below the base, so ten digits fit 64 bits.
use Rattle.std.proofs.Common.{◌≡◌, ℕ, ◌+◌, ◌*◌, ◌^◌, ◌<◌, ◌≤◌, Some, arith}
use native.Mathlib.Nat.{pow-le-pow_right}
use Rattle.std.proofs.lemmas.Bool.Decides.{nat_tests}
use Rattle.lines.specs.declared.digits.Base.{Base}
use Rattle.lines.specs.declared.digits.Base.TheVariants.{Decimal, Hexadecimal}
use Rattle.lines.specs.Digits.{digit, radix}

pub digit_below : (base : Base) (x d : ℕ) → Some d ≡ digit base x → d < radix base
digit_below Decimal x d e = grind (arith, nat_tests)
digit_below Hexadecimal x d e = grind (arith, nat_tests)

-- the value v of fewer than ten digits, and then the digit d
pub fits_more : (base : Base) (v d i : ℕ) → v < radix base ^ i → d < radix base → i < 10 → v * radix base + d < 2 ^ 64
fits_more Decimal v d i h k l =
    let z : 0 < 10 = omega arith in
    let y : i ≤ 9 = omega arith in
    let p : 10 ^ i ≤ 10 ^ 9 = pow-le-pow_right z y in omega arith
fits_more Hexadecimal v d i h k l =
    let z : 0 < 16 = omega arith in
    let y : i ≤ 9 = omega arith in
    let p : 16 ^ i ≤ 16 ^ 9 = pow-le-pow_right z y in omega arith
