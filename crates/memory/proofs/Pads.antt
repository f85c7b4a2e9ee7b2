-- Words under their pads, and a scrambler after an access of the memory below.
-- A pad taken twice is none, so a word put through its pad is read back as it was.
use Rattle.std.proofs.Common.{◌≡◌, ℕ, zero, suc, ◌+◌, ◌<◌, List, [], ◌∷◌, length, get_or, set, sym, refl, ap, ◌∙◌, add-zero, zero-add, arith}
use lib.Bits.{bit_xor, xor_assoc, xor_self, xor_zero_r}
use Rattle.memory.specs.Access.{Seen, get, put, accessed}
use Rattle.memory.specs.Layers.{pad, padded, scrambler}

-- pads keep the length
pub length_padded : (seed i : ℕ) (ws : List ℕ) → length (padded seed i ws) ≡ length ws
length_padded seed i [] = refl
length_padded seed i (w ∷ ws) = ap suc (length_padded seed (i + 1) ws)

-- a word and the pad of its address j, in words that begin at the address i
at_from : (seed i : ℕ) (ws : List ℕ) (a j : ℕ) → i + a ≡ j → a < length ws → get_or (padded seed i ws) a 0 ≡ bit_xor (get_or ws a 0) (pad seed j)
at_from seed i [] a j e h = absurd (omega arith)
at_from seed i (w ∷ ws) zero j e h = ap (λ k. bit_xor w (pad seed k)) (sym (add-zero i) ∙ e)
at_from seed i (w ∷ ws) (suc a) j e h = at_from seed (i + 1) ws a j (omega arith) (omega arith)

-- a word below and its pad p are the word of the scrambler
pub padded_at : (seed : ℕ) (ws : List ℕ) (a w p : ℕ) → a < length ws → w ≡ get_or ws a 0 → p ≡ pad seed a → bit_xor w p ≡ get_or (padded seed 0 ws) a 0
padded_at seed ws a w p h d e = let k = at_from seed 0 ws a a (zero-add a) h in cc

-- a pad taken twice is none
twice : (x p : ℕ) → bit_xor (bit_xor x p) p ≡ x
twice x p = xor_assoc x p p ∙ ap (bit_xor x) (xor_self p) ∙ xor_zero_r x

-- a word put through the pad of its address j, in words that begin at the address i
set_from : (seed i : ℕ) (ws : List ℕ) (a j w : ℕ) → i + a ≡ j → padded seed i (set ws a (bit_xor w (pad seed j))) ≡ set (padded seed i ws) a w
set_from seed i [] a j w e = refl
set_from seed i (x ∷ ws) zero j w e =
    let k : i ≡ j = sym (add-zero i) ∙ e in
    rw k (ap (λ y. y ∷ padded seed (j + 1) ws) (twice w (pad seed j)))
set_from seed i (x ∷ ws) (suc a) j w e = ap (λ t. bit_xor x (pad seed i) ∷ t) (set_from seed (i + 1) ws a j w (omega arith))

-- the same in all the words
pub padded_set : (seed : ℕ) (ws : List ℕ) (a w : ℕ) → padded seed 0 (set ws a (bit_xor w (pad seed a))) ≡ set (padded seed 0 ws) a w
padded_set seed ws a w = set_from seed 0 ws a a w (zero-add a)

-- a get below is a get of the scrambler
pub scrambler_get : (seed : ℕ) (s t : Seen) (a : ℕ) → t ≡ accessed s (get a ∷ []) s.words → scrambler seed t ≡ accessed (scrambler seed s) (get a ∷ []) (scrambler seed s).words
scrambler_get seed s t a e = ap (scrambler seed) e

-- a put below of a word under its pad p is a put of the scrambler
pub scrambler_put : (seed : ℕ) (s t : Seen) (a w p : ℕ) → p ≡ pad seed a → t ≡ accessed s (put a ∷ []) (set s.words a (bit_xor w p)) → scrambler seed t ≡ accessed (scrambler seed s) (put a ∷ []) (set (scrambler seed s).words a w)
scrambler_put seed s t a w p e d = let k = padded_set seed s.words a w in cc
