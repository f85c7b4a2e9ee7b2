-- A loop over words, turn by turn: the accesses made so far and the words written so far.
use Rattle.std.proofs.Common.{◌≡◌, ℕ, zero, suc, ◌+◌, ◌<◌, ◌≤◌, List, [], ◌∷◌, ◌++◌, length, get_or, drop, set, sym, refl, ap, ◌∙◌, inl, inr, arith, length-drop, length-take}
use Rattle.std.specs.List.{range_with_len, flat_map}
use Rattle.std.proofs.lemmas.List.FromFn.{map-range_with_len_more}
use Rattle.std.proofs.lemmas.List.{flat_map_more, map-id, take_more, get_or-drop}
use Rattle.memory.specs.Access.{Access, Seen, accessed, get, put}
use Rattle.memory.specs.Words.{over, zeros, Apart}
use Rattle.memory.proofs.Traces.{accessed_then}
use Rattle.memory.proofs.Words.{over_out, over_more, zeros_more}
use Rattle.rows.specs.Masks.{chosen}
use Rattle.rows.specs.Fill.{part, looped, zero_accesses, copy_accesses, pick_accesses}

pub counting_more : (w : ℕ) → range_with_len 0 (w + 1) ≡ range_with_len 0 w ++ w ∷ []
counting_more w =
    sym (map-id (range_with_len 0 (w + 1))) ∙ map-range_with_len_more (λ (x : ℕ). x) 0 w w (omega arith) ∙ ap (λ l. l ++ w ∷ []) (map-id (range_with_len 0 w))

-- the accesses of one turn more
pub looped_more : (f : ℕ → List Access) (w : ℕ) → looped f (w + 1) ≡ looped f w ++ f w
looped_more f w = ap (flat_map f) (counting_more w) ∙ sym (flat_map_more f [] (range_with_len 0 w) w)

-- a memory after one turn more
pub turned : (s t u : Seen) (f : ℕ → List Access) (w : ℕ) (vs ws : List ℕ) → t ≡ accessed s (looped f w) vs → u ≡ accessed t (f w) ws → u ≡ accessed s (looped f (w + 1)) ws
turned s t u f w vs ws p q =
    accessed_then s t u (looped f w) (f w) vs ws p q ∙ ap (λ xs. accessed s xs ws) (sym (looped_more f w))

-- the words of a memory, and how many there are
abbrev pub words_of : Seen → List ℕ
words_of s = s.words

abbrev pub size : Seen → ℕ
size s = length s.words

-- ---- a part of the words

pub length_part : (ws : List ℕ) (a n : ℕ) → a + n ≤ length ws → length (part ws a n) ≡ n
length_part ws a n h = simp (length-take, length-drop) (omega arith)

pub part_more : (ws : List ℕ) (a n : ℕ) → a + n < length ws → part ws a (n + 1) ≡ part ws a n ++ get_or ws (a + n) 0 ∷ []
part_more ws a n h =
    take_more (drop a ws) n 0 (rw length-drop (omega arith)) ∙ ap (λ (x : ℕ). part ws a n ++ x ∷ []) (get_or-drop a ws n 0)

-- ---- words zeroed

pub zeroed_none : (s : Seen) (a : ℕ) → s ≡ accessed s (zero_accesses a 0) (zeros s.words a 0)
unfolding zero_accesses
zeroed_none s a = refl

pub zeroed_more : (s t u : Seen) (a w : ℕ) → t ≡ accessed s (zero_accesses a w) (zeros s.words a w) → u ≡ accessed t (put (a + w) ∷ []) (set t.words (a + w) 0)
    → u ≡ accessed s (zero_accesses a (w + 1)) (zeros s.words a (w + 1))
unfolding zero_accesses
zeroed_more s t u a w p q =
    let e : set t.words (a + w) 0 ≡ zeros s.words a (w + 1)
    = ap (λ z. set z.words (a + w) 0) p ∙ sym (zeros_more s.words a w) in
    turned s t u (λ v. put (a + v) ∷ []) w (zeros s.words a w) (zeros s.words a (w + 1)) p (q ∙ ap (accessed t (put (a + w) ∷ [])) e)

-- ---- words copied from one part to another, that of b, chosen or not

-- a word that is apart from the part written to is still there
pub part_kept : (ws : List ℕ) (a b to n w : ℕ) → Apart a n to n → w < n → b + n ≤ length ws → get_or (over ws to (part ws b w)) (a + w) 0 ≡ get_or ws (a + w) 0
part_kept ws a b to n w o h l =
    let e : length (part ws b w) ≡ w = length_part ws b w (omega arith) in
    over_out ws to (part ws b w) (a + w) (elim o [ inl k ↦ inl (omega arith) | inr k ↦ inr (omega arith) ])

pub over_part_more : (ws : List ℕ) (b to w x : ℕ) → b + w < length ws → x ≡ get_or ws (b + w) 0 → set (over ws to (part ws b w)) (to + w) x ≡ over ws to (part ws b (w + 1))
over_part_more ws b to w x h e =
    let long : length (part ws b w) ≡ w = length_part ws b w (omega arith) in
    ap (λ (y : ℕ). set (over ws to (part ws b w)) (to + w) y) e
    ∙ ap (λ (k : ℕ). set (over ws to (part ws b w)) (to + k) (get_or ws (b + w) 0)) (sym long)
    ∙ sym (over_more ws to (part ws b w) (get_or ws (b + w) 0))
    ∙ ap (over ws to) (sym (part_more ws b w h))

pub copied_none : (s : Seen) (from to : ℕ) → s ≡ accessed s (copy_accesses from to 0) (over s.words to (part s.words from 0))
unfolding copy_accesses
copied_none s from to = refl

pub copied_more : (s t v u : Seen) (from to n w x : ℕ) → Apart from n to n → w < n → from + n ≤ length s.words
    → t ≡ accessed s (copy_accesses from to w) (over s.words to (part s.words from w))
    → v ≡ accessed t (get (from + w) ∷ []) t.words → x ≡ get_or t.words (from + w) 0
    → u ≡ accessed v (put (to + w) ∷ []) (set v.words (to + w) x)
    → u ≡ accessed s (copy_accesses from to (w + 1)) (over s.words to (part s.words from (w + 1)))
unfolding copy_accesses
copied_more s t v u from to n w x o h l p q e r =
    let ws = s.words in
    let same : x ≡ get_or ws (from + w) 0 = e ∙ ap (λ (z : Seen). get_or z.words (from + w) 0) p ∙ part_kept ws from from to n w o h l in
    let next : set v.words (to + w) x ≡ over ws to (part ws from (w + 1))
    = ap (λ (z : Seen). set z.words (to + w) x) (q ∙ ap (λ (z : Seen). accessed z (get (from + w) ∷ []) z.words) p) ∙ over_part_more ws from to w x (omega arith) same in
    turned s t u (λ k. get (from + k) ∷ put (to + k) ∷ []) w _ (over ws to (part ws from (w + 1))) p
    (accessed_then t v u (get (from + w) ∷ []) (put (to + w) ∷ []) t.words (over ws to (part ws from (w + 1))) q (r ∙ ap (accessed v (put (to + w) ∷ [])) next))

-- ---- words chosen by a digit

chosen_word : (ws : List ℕ) (digit a b w : ℕ) → chosen digit (get_or ws (b + w) 0) (get_or ws (a + w) 0) ≡ get_or ws (chosen digit b a + w) 0
chosen_word ws zero a b w = refl
chosen_word ws (suc digit) a b w = refl

chosen_within : (digit a b n m : ℕ) → a + n ≤ m → b + n ≤ m → chosen digit b a + n ≤ m
chosen_within zero a b n m h l = h
chosen_within (suc digit) a b n m h l = l

pub picked_none : (s : Seen) (digit a b to : ℕ) → s ≡ accessed s (pick_accesses a b to 0) (over s.words to (part s.words (chosen digit b a) 0))
unfolding pick_accesses
picked_none s digit a b to = refl

pub picked_more : (s t v v' u : Seen) (digit a b to n w x y z : ℕ) → Apart a n to n → Apart b n to n → w < n → a + n ≤ length s.words → b + n ≤ length s.words
    → t ≡ accessed s (pick_accesses a b to w) (over s.words to (part s.words (chosen digit b a) w))
    → v ≡ accessed t (get (a + w) ∷ []) t.words → x ≡ get_or t.words (a + w) 0
    → v' ≡ accessed v (get (b + w) ∷ []) v.words → y ≡ get_or v.words (b + w) 0
    → z ≡ chosen digit y x
    → u ≡ accessed v' (put (to + w) ∷ []) (set v'.words (to + w) z)
    → u ≡ accessed s (pick_accesses a b to (w + 1)) (over s.words to (part s.words (chosen digit b a) (w + 1)))
unfolding pick_accesses
picked_more s t v v' u digit a b to n w x y z o o' h l l' p q e q' e' d r =
    let ws = s.words in
    let c = chosen digit b a in
    let in' : c + n ≤ length ws = chosen_within digit a b n (length ws) l l' in
    let old : t.words ≡ over ws to (part ws c w) = ap (λ (k : Seen). k.words) p in
    let same_v : v.words ≡ t.words = ap (λ (k : Seen). k.words) q in
    let same_v' : v'.words ≡ v.words = ap (λ (k : Seen). k.words) q' in
    let first = part_kept ws a c to n w o h in' in
    let second = part_kept ws b c to n w o' h in' in
    let word = chosen_word ws digit a b w in
    let z_is : z ≡ get_or ws (c + w) 0 = cc in
    let next = over_part_more ws c to w z (omega arith) z_is in
    let after : set v'.words (to + w) z ≡ over ws to (part ws c (w + 1)) = cc in
    turned s t u (λ k. get (a + k) ∷ get (b + k) ∷ put (to + k) ∷ []) w _ (over ws to (part ws c (w + 1))) p
    (accessed_then t v u (get (a + w) ∷ []) (get (b + w) ∷ put (to + w) ∷ []) t.words (over ws to (part ws c (w + 1))) q
    (accessed_then v v' u (get (b + w) ∷ []) (put (to + w) ∷ []) v.words (over ws to (part ws c (w + 1))) q' (r ∙ ap (accessed v' (put (to + w) ∷ [])) after)))
