-- The bytes of a printed line.
use Rattle.std.specs.Prelude.{ℕ, zero, suc, ◌*◌, ◌/◌, ◌%◌, ◌^◌, List, [], ◌∷◌, ◌++◌, Ok, Err, codes, decimal, Result}
use Rattle.std.specs.Char.{digit_char}
use Rattle.scheme.specs.declared.fault.Layer.{Layer}
use Rattle.scheme.specs.declared.fault.Layer.TheVariants.{Profile, Input, Box, Line}
use Rattle.scheme.specs.declared.fault.Told.{Told}
use Rattle.keybox.specs.declared.call.Grant.TheVariants.{Done, Word, Rotations}
use Rattle.script.specs.declared.grant.LineGrant.{LineGrant}
use Rattle.script.specs.declared.grant.LineGrant.TheVariants.{Call, Heard}
use Rattle.script.specs.declared.fault.LineFault.{LineFault}
use Rattle.script.specs.declared.reply.Reply.{Reply}
use Rattle.script.specs.Faults.{line_told}

-- the bytes that a reply holds
abbrev pub said : Reply → List ℕ
said r = r.text.bytes

-- the k lowest hexadecimal digits of a word, the highest of them first
abbrev pub hexadecimal : ℕ → ℕ → List ℕ
hexadecimal zero w = []
hexadecimal (suc k) w = digit_char (w / 2 ^ (4 * k) % 16) ∷ hexadecimal k w

-- a part behind a space
abbrev pub spaced : List ℕ → List ℕ
spaced xs = 32 ∷ xs

-- what stands behind ok
abbrev pub granted : LineGrant → List ℕ
granted (Call Done) = []
granted (Call (Word w)) = spaced (hexadecimal 8 w)
granted (Call (Rotations n)) = spaced (decimal n)
granted (Heard n) = spaced (decimal n)

abbrev pub name : Layer → List ℕ
name Profile = codes "profile"
name Input = codes "input"
name Box = codes "box"
name Line = codes "line"

-- number, layer and place of a refusal, and the number of its line
abbrev pub refused : Told → ℕ → List ℕ
refused t n = codes "no" ++ spaced (decimal t.number) ++ spaced (name t.layer) ++ spaced (decimal t.place) ++ spaced (decimal n)

-- what is printed for the line numbered n, with its line feed
abbrev pub printed : ℕ → Result LineGrant LineFault → List ℕ
printed n (Ok g) = codes "ok" ++ granted g ++ 10 ∷ []
printed n (Err f) = refused (line_told f) n ++ 10 ∷ []
