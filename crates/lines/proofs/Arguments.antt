-- A rest that is not empty has a part, or begins with no space.
use Rattle.std.proofs.Common.{◌≡◌, ℕ, ◌<◌, Bool, true, false, cond, eqb, List, [], ◌∷◌, length, Some, None, refl, arith, ne_eqb}
use Rattle.std.specs.Bool.{◌==◌, then_some}
use Rattle.std.specs.Option.{option_map}
use Rattle.lines.specs.Digits.{then}
use Rattle.lines.specs.Splitting.{split}
use Rattle.lines.specs.Commands.{Ask, parts, numbered, numbers, ordered, request, alone}
use Rattle.lines.specs.declared.command.Order.{Order}
use Rattle.lines.specs.declared.command.Command.TheVariants.{Order as Ordered}
use Rattle.lines.proofs.Pieces.{split_some}

-- a first part that is no number leaves no numbers
stuck : (b : Bool) (ps : List (List ℕ)) → 0 < length ps → None ≡ numbered (cond b (Some ps) None) → None ≡ then (cond b (Some ps) None) numbers
stuck false ps h e = refl
stuck true [] h e = absurd (omega arith)
stuck true (p ∷ ps) h e = grind arith

pub numbers_none : (xs : List ℕ) → 0 < length xs → None ≡ numbered (parts xs) → None ≡ then (parts xs) numbers
numbers_none [] h e = absurd (omega arith)
numbers_none (x ∷ xs) h e = stuck (eqb x 32) (split 32 xs) (split_some 32 xs) e

-- where there is a part, it is not the end
ends : (q : Ask) (b : Bool) (ps : List (List ℕ)) → 0 < length ps → None ≡ then (cond b (Some ps) None) (alone q)
ends q false ps h = refl
ends q true [] h = absurd (omega arith)
ends q true (p ∷ ps) h = refl

pub alone_at : (order : Order) (xs : List ℕ) → option_map request (then_some (length xs == 0) (Ordered order)) ≡ then (parts xs) (alone (ordered order))
alone_at order [] = refl
alone_at order (x ∷ xs) = simp (ne_eqb (length (x ∷ xs)) 0 (λ e. omega arith)) (ends (ordered order) (eqb x 32) (split 32 xs) (split_some 32 xs))
