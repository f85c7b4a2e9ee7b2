-- A whole script: its input byte by byte, and the lines that are printed for it.
use Rattle.std.specs.Prelude.{◌≡◌, ℕ, ◌+◌, List, [], ◌∷◌, ◌++◌, Some, None, Option}
use Rattle.std.specs.Option.{option_to_list}
use Rattle.memory.specs.Access.{Seen}
use Rattle.memory.specs.declared.Memory.{Ghosts}
use Rattle.script.specs.declared.session.Session as code
use Rattle.lines.specs.Splitting.{lines}
use Rattle.lines.specs.Feeding.{Numbered, Cut, cut_of, pushed, closed, start}
use Rattle.script.specs.Printing.{printed}
use Rattle.script.specs.Sessions.{Desk, desk_of, waiting, works}

-- a session: where its input stands, and its desk
pub record Talk : Type 0 where
  pub cut : Cut
  pub desk : Desk

abbrev pub talk_of : {X : Type 0} → Ghosts X → code.Session X → Talk
talk_of g s = record { cut = cut_of s.splitter; desk = desk_of g s.desk }

-- a session before its first byte
abbrev pub begun : Seen → Talk
begun m = record { cut = start; desk = waiting m }

-- the line that is printed, if one is, and the session afterwards
pub record Replied : Type 0 where
  pub reply : Option (List ℕ)
  pub after : Talk

-- a line that is complete is worked off at once
abbrev pub replied : (List ℕ → ℕ) → Desk → Option Numbered → Cut → Replied
replied told desk None cut = record { reply = None; after = record { cut = cut; desk = desk } }
replied told desk (Some l) cut = let w = works told desk l in record { reply = Some (printed l.number w.answer); after = record { cut = cut; desk = w.after } }

-- one more byte, and the end of the input
abbrev pub fed : (List ℕ → ℕ) → Talk → ℕ → Replied
fed told t b = replied told t.desk (pushed t.cut b).line (pushed t.cut b).after

abbrev pub finished : (List ℕ → ℕ) → Talk → Replied
finished told t = replied told t.desk (closed t.cut).line (closed t.cut).after

-- all that is printed where some bytes are fed one after the other, and then the end
abbrev pub output : (List ℕ → ℕ) → Talk → List ℕ → List (List ℕ)
output told t [] = option_to_list (finished told t).reply
output told t (b ∷ bs) = option_to_list (fed told t b).reply ++ output told (fed told t b).after bs

-- what is printed for some lines, the first of them line n: each is worked off on the desk as the one before left it
abbrev pub replies : (List ℕ → ℕ) → Desk → ℕ → List (List ℕ) → List (List ℕ)
replies told desk n [] = []
replies told desk n (l ∷ ls) = let w = works told desk (record { number = n; bytes = l }) in printed n w.answer ∷ replies told w.after (n + 1) ls

-- For every input, what a session over a memory prints are the replies to the input's lines, one for each and in their order.
abbrev pub TalksAs : (List ℕ → ℕ) → Seen → Type 0
TalksAs told m = (input : List ℕ) → output told (begun m) input ≡ replies told (waiting m) 1 (lines input)
