-- Digit by digit, the two words are shifted by the amount's lowest digits.
use Rattle.std.proofs.Common.{◌≡◌, ℕ, ◌+◌, ◌*◌, ◌/◌, ◌%◌, ◌^◌, sym, ap, ◌∙◌, arith}
use Rattle.std.proofs.lemmas.Nat.{and_mask, mod-pow-add, shr-shr}
use Rattle.rows.proofs.rotate.slide.Goals as goal

-- the lowest k digits of s, and one more
further : (y s k : ℕ) → y / 2 ^ (s % 2 ^ k) / 2 ^ (s / 2 ^ k % 2 * 2 ^ k) ≡ y / 2 ^ (s % 2 ^ (k + 1))
further y s k =
    let e : s % 2 ^ (k + 1) ≡ s % 2 ^ k + s / 2 ^ k % 2 * 2 ^ k = ap (λ z. s % 2 ^ z) (omega arith) ∙ (mod-pow-add s 1 k ∙ omega arith) in
    shr-shr y (s % 2 ^ k) (s / 2 ^ k % 2 * 2 ^ k) ∙ ap (λ z. y / 2 ^ z) (sym e)

pub loop-k-preserved : goal.loop-k-preserved
loop-k-preserved c = let e = further (c.args.hi * 2 ^ 32 + c.args.lo) c.args.s c.loop-k.k in cc

pub returns : goal.returns
returns c =
    let y = c.args.hi * 2 ^ 32 + c.args.lo in
    let all : c.loop-k.k ≡ 5 = omega arith in
    record { value = and_mask c.loop-k.both 32 ∙ ap (λ (z : ℕ). z % 2 ^ 32) (c.loop-k.invariant ∙ ap (λ (k : ℕ). y / 2 ^ (c.args.s % 2 ^ k)) all) }
