-- What a line of a script asks for. A line is a letter and the rest after it, with single spaces between parts.
use Rattle.std.specs.Prelude.{ℕ, Bool, cond, List, [], ◌∷◌, length, take, drop, Some, None, Option, ◌==◌, nat_lt, slice_index}
use Rattle.keybox.specs.declared.call.Call.{Call}
use Rattle.keybox.specs.declared.call.Call.TheVariants as calls
use Rattle.lines.specs.declared.command.Setting.{Setting}
use Rattle.lines.specs.declared.command.Thresholds.{Thresholds}
use Rattle.lines.specs.declared.command.Command.{Command}
use Rattle.lines.specs.declared.command.Command.TheVariants.{Set, Order as Ordered}
use Rattle.lines.specs.declared.command.Order.{Order}
use Rattle.lines.specs.declared.command.Order.TheVariants.{Call as OnBox, Hear}
use Rattle.lines.specs.Digits.{then, number, word}
use Rattle.lines.specs.Splitting.{split}

-- what an open box is asked for. call: a call. hear: the number that its memory tells
pub data Ask : Type 0 where
  call : Call → Ask
  hear : Ask

-- what a line asks for. set: a box with the profile r, d, t and these thresholds. ask: something of the box
pub data Request : Type 0 where
  set : ℕ → ℕ → ℕ → List ℕ → Request
  ask : Ask → Request

-- r, d and t, and any number of thresholds
abbrev pub setting : List ℕ → Request
setting ns = set (slice_index ns 0) (slice_index ns 1) (slice_index ns 2) (drop 3 ns)

-- the thresholds of a line
abbrev pub kept : Thresholds → List ℕ
kept t = take t.count t.numbers

-- the numbers of a line
abbrev pub listed : Setting → List ℕ
listed s = s.r ∷ s.d ∷ s.t ∷ kept s.thresholds

-- what an order asks for, and a command
abbrev pub ordered : Order → Ask
ordered (OnBox c) = call c
ordered Hear = hear

abbrev pub request : Command → Request
request (Set s) = setting (listed s)
request (Ordered o) = ask (ordered o)

-- the parts of the rest after a letter: each stands behind one space
abbrev pub parts : List ℕ → Option (List (List ℕ))
parts [] = Some []
parts (x ∷ xs) = cond (x == 32) (Some (split 32 xs)) None

-- the first part, and the others
abbrev pub headed : Option (List (List ℕ)) → Option (List ℕ × Option (List (List ℕ)))
headed None = None
headed (Some []) = None
headed (Some (p ∷ ps)) = Some (p, Some ps)

-- a number as the first part, and the others
abbrev pub numbered : Option (List (List ℕ)) → Option (ℕ × Option (List (List ℕ)))
numbered o = then (headed o) (λ x. then (number x.0) (λ n. Some (n, x.1)))

-- a word as the first part, and the others
abbrev pub worded : Option (List (List ℕ)) → Option (ℕ × Option (List (List ℕ)))
worded o = then (headed o) (λ x. then (word x.0) (λ w. Some (w, x.1)))

-- the numbers that some parts are, if all of them are numbers
abbrev pub numbers : List (List ℕ) → Option (List ℕ)
numbers [] = Some []
numbers (p ∷ ps) = then (number p) (λ n. then (numbers ps) (λ ns. Some (n ∷ ns)))

-- at least three numbers
abbrev pub if_three : List ℕ → Option Request
if_three ns = cond (nat_lt (length ns) 3) None (Some (setting ns))

-- something asked for with no part after it
abbrev pub alone : Ask → List (List ℕ) → Option Request
alone a [] = Some (ask a)
alone a (p ∷ ps) = None

-- a place and a word
abbrev pub giving : List (List ℕ) → Option Request
giving [] = None
giving (i ∷ []) = None
giving (i ∷ w ∷ ps) = then (number i) (λ n. then (word w) (λ v. alone (call (calls.Give n v)) ps))

-- a place
abbrev pub taking : List (List ℕ) → Option Request
taking [] = None
taking (i ∷ ps) = then (number i) (λ n. alone (call (calls.Take n)) ps)

-- what a letter asks for with the parts after it; a P counts in the first line alone
abbrev pub asked : Bool → ℕ → List (List ℕ) → Option Request
asked first x ps =
    cond (x == 80) (cond first (then (numbers ps) if_three) None)  -- P
    (cond (x == 71) (giving ps)  -- G
    (cond (x == 84) (taking ps)  -- T
    (cond (x == 76) (alone (call calls.Load) ps)  -- L
    (cond (x == 83) (alone (call calls.Seal) ps)  -- S
    (cond (x == 87) (alone (call calls.Wipe) ps)  -- W
    (cond (x == 72) (alone hear ps)  -- H
    None))))))

-- what a line asks for. None: it is malformed, as every line of more than 120 bytes is
abbrev pub meaning : Bool → List ℕ → Option Request
meaning first [] = None
meaning first (x ∷ xs) = cond (nat_lt 120 (length (x ∷ xs))) None (then (parts xs) (asked first x))
