-- 0 is its own opposite, and any other amount falls short of r by itself.
use Rattle.std.proofs.Common.{◌≡◌, ℕ, zero, suc, ◌-◌, ◌%◌, ◌<◌, cond, ltb, sym, ap, ◌∙◌, mod-eq_of_lt, arith}
use native.Mathlib.Nat.{sub-zero, mod_self}
use Rattle.std.proofs.lemmas.Bool.{lt-ltb}
use Rattle.rows.specs.Masks.{chosen}
use Rattle.rows.proofs.masks.One.opposite.Goals as goal

is_opposite : (r by : ℕ) → by < r → chosen (cond (ltb 0 by) 1 0) (r - by) 0 ≡ (r - by) % r
is_opposite r zero h = sym (ap (λ x. x % r) (sub-zero r) ∙ mod_self r)
is_opposite r (suc by) h = ap (λ t. chosen (cond t 1 0) (r - suc by) 0) (lt-ltb 0 (suc by) (omega arith)) ∙ sym (mod-eq_of_lt (omega arith))

pub returns : goal.returns
returns c = let e = is_opposite c.args.r c.args.by c.requires in cc
