-- What each memory of this crate is: its words, and the trail that its accesses leave.
-- A layer is told by what it makes of the memory below, so that a stack of layers is known from its parts.
use Rattle.std.specs.Prelude.{ℕ, ◌+◌, ◌*◌, ◌%◌, ◌^◌, cond, List, [], ◌∷◌, ◌++◌, length, take, drop, bit_xor, nat_le, nat_lt, slice_set}
use Rattle.memory.specs.Access.{Rule, Seen}

-- the words of a lent list that addresses reach: the first 65,536
abbrev pub reached : List ℕ → List ℕ
reached ws = take 65536 ws

-- the words of a lent list that no address reaches
abbrev pub unreached : List ℕ → List ℕ
unreached ws = drop 65536 ws

-- a lent list after a put of w at a
abbrev pub written : List ℕ → ℕ → ℕ → List ℕ
written ws a w = slice_set (reached ws) a w ++ unreached ws

-- the memory over a lent list, behind the loan of that name
abbrev pub bare : ℕ → List ℕ → Seen
bare name ws = record { words = reached ws; trail = []; rule = λ _ _ _. []; outside = unreached ws; home = name ∷ [] }

-- the step rule of a tape: its trail is one number, and the next one is made from it, the address and the kind
abbrev pub mixed : Rule
mixed [] kind a = []
mixed (x ∷ xs) kind a = (x * 31 + 2 * a + kind) % 2 ^ 32 ∷ []

-- what a tape tells of its trail: the number itself
abbrev pub first : List ℕ → ℕ
first [] = 0
first (x ∷ xs) = x

-- a tape with the words ws and the trail x
abbrev pub tape : List ℕ → ℕ → Seen
tape ws x = record { words = ws; trail = x ∷ []; rule = mixed; outside = []; home = [] }

-- how many words a window of n words from b on has over s words: none where they do not all lie there
abbrev pub spanned : ℕ → ℕ → ℕ → ℕ
spanned b n s = cond (nat_le (b + n) s) n 0

-- the words that a window of m words from b on shows
abbrev pub shown : ℕ → ℕ → List ℕ → List ℕ
shown b m ws = take m (drop b ws)

-- the words that it hides
abbrev pub hidden : ℕ → ℕ → List ℕ → List ℕ
hidden b m ws = take b ws ++ drop (b + m) ws

-- its step rule: an address a below m is an access below at b + a, and any other is none
abbrev pub shifted : ℕ → ℕ → Rule → Rule
shifted b m rule tr kind a = cond (nat_lt a m) (rule tr kind (b + a)) tr

-- a window of n words from b on over a memory
abbrev pub window : ℕ → ℕ → Seen → Seen
window b n s =
    let m = spanned b n (length s.words) in
    record { words = shown b m s.words; trail = s.trail; rule = shifted b m s.rule; outside = hidden b m s.words ++ s.outside; home = b ∷ n ∷ s.home }

-- the pad of an address a under a seed
abbrev pub pad : ℕ → ℕ → ℕ
pad seed a = bit_xor seed (a * 2654435761 % 2 ^ 32)

-- words under their pads, the first of them at the address i
abbrev pub padded : ℕ → ℕ → List ℕ → List ℕ
padded seed i [] = []
padded seed i (w ∷ ws) = bit_xor w (pad seed i) ∷ padded seed (i + 1) ws

-- a scrambler over a memory
abbrev pub scrambler : ℕ → Seen → Seen
scrambler seed s = record { words = padded seed 0 s.words; trail = s.trail; rule = s.rule; outside = s.outside; home = seed ∷ s.home }
