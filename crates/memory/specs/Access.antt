-- Accesses to a memory of words, the trail that they leave, and what a promise says of a memory.
-- A step rule cannot read a word, so a trail can tell nothing that the addresses and kinds do not tell.
use Rattle.std.specs.Prelude.{ℕ, List, fold}

-- an access: its kind, 0 for a get and 1 for a put, and the address
pub record Access : Type 0 where
  pub kind : ℕ
  pub address : ℕ

abbrev pub get : ℕ → Access
get a = record { kind = 0; address = a }

abbrev pub put : ℕ → Access
put a = record { kind = 1; address = a }

-- a step rule: the next trail from the old one, the kind of an access and its address
abbrev pub Rule : Type 0
Rule = List ℕ → ℕ → ℕ → List ℕ

-- the trail after some accesses, the first of the list first
abbrev pub traced : Rule → List ℕ → List Access → List ℕ
traced rule = fold (λ tr a. rule tr a.kind a.address)

-- What promises say of a memory.
-- words: what the addresses reach. trail: what the accesses so far left, by the rule.
-- outside: what was lent and no address reaches. home: which loans the words lie behind, and the numbers that the layers between were made with.
pub record Seen : Type 0 where
  pub words : List ℕ
  pub trail : List ℕ
  pub rule : Rule
  pub outside : List ℕ
  pub home : List ℕ

-- a memory after some accesses that left it with the words ws; nothing else of it ever changes
abbrev pub accessed : Seen → List Access → List ℕ → Seen
accessed s as' ws = record { words = ws; trail = traced s.rule s.trail as'; rule = s.rule; outside = s.outside; home = s.home }
