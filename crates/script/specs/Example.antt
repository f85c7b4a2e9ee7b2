-- A whole script with rows of seven bits, and what is printed for it, byte for byte: a seal under a public row, and the key of that row loaded.
use Rattle.std.specs.Prelude.{◌≡◌, ℕ, List, [], ◌∷◌, ◌++◌, map, replicate, codes}
use Rattle.std.specs.List.{flat_map}
use Rattle.memory.specs.Access.{Seen}
use Rattle.memory.specs.Layers.{tape, scrambler, window, first}
use Rattle.lines.specs.Splitting.{lines}
use Rattle.script.specs.Sessions.{waiting}
use Rattle.script.specs.Talking.{replies}

-- a window over a scrambler over a tape, newly made
abbrev pub layers : Seen
layers = window 64 8128 (scrambler 305419896 (tape (replicate 8192 0) 0))

-- a text as a line, with its line feed
abbrev pub fed : List ℕ → List ℕ
fed xs = xs ++ 10 ∷ []

abbrev pub input : List ℕ
input = flat_map fed (
    codes "P 7 3 1 3" ∷ codes "H" ∷ codes "G 0 00000008" ∷ codes "G 6 00000058" ∷ codes "G 7 00000000" ∷ codes "G 1 0000000A"
    ∷ codes "S" ∷ codes "T 0" ∷ codes "T 2" ∷ codes "L" ∷ codes "G 1 00000001" ∷ codes "G 2 00000002" ∷ codes "G 4 00000001" ∷ codes "G 5 00000003"
    ∷ codes "L" ∷ codes "G 6 0000006d" ∷ codes "L" ∷ codes "T 0" ∷ codes "P 7 3 1 3" ∷ codes "W" ∷ codes "T 0" ∷ [])

abbrev pub expected : List (List ℕ)
expected = map fed (
    codes "ok" ∷ codes "ok 4115293755" ∷ codes "ok" ∷ codes "ok" ∷ codes "no 3 box 7 5" ∷ codes "no 20 line 0 6"
    ∷ codes "ok 1" ∷ codes "ok 00000031" ∷ codes "no 3 box 2 9" ∷ codes "no 7 input 1 10" ∷ codes "ok" ∷ codes "ok" ∷ codes "ok" ∷ codes "ok"
    ∷ codes "no 9 input 6 15" ∷ codes "ok" ∷ codes "ok 6" ∷ codes "ok 00000058" ∷ codes "no 20 line 0 19" ∷ codes "ok" ∷ codes "ok 00000000" ∷ [])

abbrev pub TheExampleHolds : Type 0
TheExampleHolds = replies first (waiting layers) 1 (lines input) ≡ expected
