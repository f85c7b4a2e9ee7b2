-- What a load that is granted has found out: the row f in IN is the inverse of the key's first half, and the public row takes the first half to the second.
use Rattle.std.specs.Prelude.{◌≡◌}
use Rattle.rows.specs.Rows.{unit, product, row_at}
use Rattle.rows.specs.Ring.{times, Same, marks}
use Rattle.keybox.specs.declared.call.Call.TheVariants.{Load}
use Rattle.scheme.specs.Zones.{B}
use Rattle.keybox.specs.Model.{State, next, first_half, second_half, public_row}
use Rattle.keybox.specs.Accesses.{verdict}

-- h0·f = 1 in the ring, and h0·g = h1, for the halves h0 and h1 and the public row g
abbrev pub LoadInverts : Type 0
LoadInverts = (s : State) → verdict (next s Load).answer ≡ 0 → let p = s.profile in let ws = s.words in
    Same p.r (times p.r (marks (first_half p ws)) (row_at ws (B p))) unit
    × Same p.r (product p.r (first_half p ws) (public_row p ws)) (marks (second_half p ws))
