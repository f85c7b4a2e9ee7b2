-- Input that comes byte by byte, and the lines that it comes to.
use Rattle.std.specs.Prelude.{◌≡◌, ℕ, ◌+◌, cond, List, [], ◌∷◌, ◌++◌, length, take, Some, None, Option, ◌==◌, nat_le}
use Rattle.std.specs.Option.{option_to_list}
use Rattle.lines.specs.declared.line.Line.{Line}
use Rattle.lines.specs.declared.splitter.Splitter.{Splitter}
use Rattle.lines.specs.Splitting.{lines}

-- a line with its number
pub record Numbered : Type 0 where
  pub number : ℕ
  pub bytes : List ℕ

-- a splitter: how many bytes have come, and the line that they are at
pub record Cut : Type 0 where
  pub count : ℕ
  pub line : Numbered

abbrev pub line_of : Line → Numbered
line_of l = record { number = l.number; bytes = take l.len l.bytes }

abbrev pub cut_of : Splitter → Cut
cut_of s = record { count = s.count; line = line_of s.line }

-- a line that is complete, if there is one, and the splitter afterwards
pub record Taken : Type 0 where
  pub line : Option Numbered
  pub after : Cut

abbrev pub fresh : ℕ → Numbered
fresh n = record { number = n; bytes = [] }

-- the line is complete, and the next one begins
abbrev pub completed : ℕ → Numbered → Taken
completed count l = record { line = Some l; after = record { count = count; line = fresh (l.number + 1) } }

-- a byte more of a line, of which the first 121 are kept
abbrev pub longer : Numbered → ℕ → Numbered
longer l b = record { number = l.number; bytes = take 121 (l.bytes ++ b ∷ []) }

-- one more byte: past the limit it does not count, a line feed completes the line, and any other byte belongs to it
abbrev pub pushed : Cut → ℕ → Taken
pushed s b =
    cond (nat_le 65536 s.count) (record { line = None; after = s })
    (cond (b == 10) (completed (s.count + 1) s.line)
    (record { line = None; after = record { count = s.count + 1; line = longer s.line b } }))

-- no more bytes: what has come of a line is one
abbrev pub closed : Cut → Taken
closed s = cond (length s.line.bytes == 0) (record { line = None; after = s }) (completed s.count s.line)

abbrev pub start : Cut
start = record { count = 0; line = fresh 1 }

-- the lines that some bytes and then the end bring
abbrev pub brought : Cut → List ℕ → List Numbered
brought s [] = option_to_list (closed s).line
brought s (b ∷ bs) = option_to_list (pushed s b).line ++ brought (pushed s b).after bs

-- some lines numbered from n on, of each the first 121 bytes
abbrev pub numbered_from : ℕ → List (List ℕ) → List Numbered
numbered_from n [] = []
numbered_from n (l ∷ ls) = record { number = n; bytes = take 121 l } ∷ numbered_from (n + 1) ls

-- byte by byte, every input comes to its lines
abbrev pub ComesToItsLines : Type 0
ComesToItsLines = (input : List ℕ) → brought start input ≡ numbered_from 1 (lines input)
