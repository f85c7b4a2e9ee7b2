-- One hexadecimal digit more of a word that is written.
use Rattle.std.proofs.Common.{◌≡◌, ℕ, zero, suc, ◌-◌, ◌*◌, ◌/◌, ◌%◌, ◌^◌, ◌<◌, List, [], ◌∷◌, ◌++◌, arith}
use Rattle.std.proofs.lemmas.Grind.{common_steps}
use Rattle.std.specs.Char.{digit_char}
use Rattle.script.specs.Printing.{hexadecimal}

pub digit_more : (bs cs : List ℕ) (k w : ℕ) → 0 < k → cs ≡ bs ++ digit_char (w / 2 ^ (4 * (k - 1)) % 16) ∷ []
    → cs ++ hexadecimal (k - 1) w ≡ bs ++ hexadecimal k w
digit_more bs cs zero w h e = absurd (omega arith)
digit_more bs cs (suc k) w h e = grind (arith, common_steps)
