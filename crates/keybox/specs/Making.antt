-- The steps of a load that passed its checks: both products are made in WORK, the first is looked at, and the key is kept.
use Rattle.std.specs.Prelude.{ℕ, ◌*◌, Bool, true, ◌&&◌, List, [], ◌∷◌, ◌==◌}
use Rattle.memory.specs.Words.{over}
use Rattle.rows.specs.Rows.{product, row_at, words_of}
use Rattle.rows.specs.Fill.{part}
use Rattle.scheme.specs.declared.profile.Profile.{Profile}
use Rattle.scheme.specs.Zones.{W, B, key_at, work_row}
use Rattle.keybox.specs.Model.{rested, published, first_half, public_row}

-- the words with h0·f in the first row of WORK, h1·f in the second, and zeros in the others
abbrev pub products_made : Profile → List ℕ → List ℕ
products_made p ws =
    over (over (rested p ws) (work_row p 0) (words_of p.r (product p.r (first_half p ws) (row_at ws (B p)))))
    (work_row p 1) (words_of p.r (public_row p ws))

-- whether no word differs from w, at the first place, or from 0, at the others
abbrev pub and_zeros : ℕ → List ℕ → Bool
and_zeros w [] = true
and_zeros w (x ∷ xs) = x == w && and_zeros 0 xs

-- whether the words are those of the row of bit 0 alone
abbrev pub is_unit : List ℕ → Bool
is_unit xs = and_zeros 1 xs

-- the words with the positions of IN in KEY and the second row of WORK published
abbrev pub key_kept : Profile → List ℕ → List ℕ
key_kept p ws = rested p (published p (part ws (work_row p 1) (W p)) (over ws (key_at p) (part ws 0 (2 * p.d))))
