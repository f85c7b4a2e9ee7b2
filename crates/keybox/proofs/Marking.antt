-- A mark, and the first place at which a test holds, taken one place further.
use Rattle.std.proofs.Common.{◌≡◌, ℕ, zero, suc, ◌+◌, ◌-◌, ◌<◌, ◌≤◌, Bool, true, false, cond, ◌||◌, eqb, ltb, leb, List, [], ◌∷◌, ◌++◌, length, get_or, take, drop, Some, None, Option, sym, refl, ap, ◌∙◌, arith, length-drop, get_or-drop}
use Rattle.std.proofs.lemmas.Bool.Decides.{nat_tests}
use lib.Bits.{bit_or}
use Rattle.std.specs.List.{range_with_len}
use Rattle.std.specs.Option.{option_map}
use Rattle.memory.specs.Access.{Seen, accessed, get}
use Rattle.memory.proofs.Traces.{accessed_then}
use Rattle.memory.proofs.Words.{part_at}
use Rattle.rows.specs.Masks.{chosen}
use Rattle.keybox.specs.Accesses.{read_accesses, pair_accesses}
use Rattle.keybox.specs.Marks.{or_else}
use Rattle.rows.specs.Fill.{part}
use Rattle.rows.proofs.Loops.{counting_more, turned}
use Rattle.keybox.specs.Model.{first_place, earlier, again, when}

or_false : (a : Bool) → (a || false) ≡ a
or_false true = refl
or_false false = refl

or_assoc : (a b c : Bool) → (a || (b || c)) ≡ ((a || b) || c)
or_assoc true b c = refl
or_assoc false b c = refl

-- the place that was noted first stays
pub noted : (f p d q x : ℕ) → f < 2 → d < 2 → x ≡ chosen f p q
    → cond (eqb (bit_or f d) 1) (Some x) None ≡ or_else (cond (eqb f 1) (Some p) None) (when (eqb d 1) q)
noted zero p zero q x hf hd e = refl
noted zero p (suc zero) q x hf hd e = ap Some e
noted zero p (suc (suc d)) q x hf hd e = absurd (omega arith)
noted (suc zero) p zero q x hf hd e = ap Some e
noted (suc zero) p (suc zero) q x hf hd e = ap Some e
noted (suc zero) p (suc (suc d)) q x hf hd e = absurd (omega arith)
noted (suc (suc f)) p d q x hf hd e = absurd (omega arith)

-- the first place in two lists of places, one after the other
first-++ : (p : ℕ → Bool) (xs : List ℕ) (i : ℕ) → first_place p (xs ++ i ∷ []) ≡ or_else (first_place p xs) (when (p i) i)
first-++ p [] i = alone (p i)
  where
    alone : (b : Bool) → cond b (Some i) None ≡ when b i
    alone true = refl
    alone false = refl
first-++ p (x ∷ xs) i = either (p x) (first-++ p xs i)
  where
    either : (b : Bool) → first_place p (xs ++ i ∷ []) ≡ or_else (first_place p xs) (when (p i) i)
        → cond b (Some x) (first_place p (xs ++ i ∷ [])) ≡ or_else (cond b (Some x) (first_place p xs)) (when (p i) i)
    either true e = refl
    either false e = e

pub first_more : (p : ℕ → Bool) (n : ℕ) → first_place p (range_with_len 0 (n + 1)) ≡ or_else (first_place p (range_with_len 0 n)) (when (p n) n)
first_more p n = ap (first_place p) (counting_more n) ∙ first-++ p (range_with_len 0 n) n

-- a test as a digit
pub digit_of : (b : Bool) → eqb (cond b 1 0) 1 ≡ b
digit_of true = refl
digit_of false = refl

-- not below a limit is at least the limit
pub beyond : (w limit : ℕ) → eqb (1 - cond (ltb w limit) 1 0) 1 ≡ leb limit w
beyond w limit = grind (arith, nat_tests)

-- nothing stands among no words
pub earlier_none : (xs : List ℕ) (w : ℕ) → earlier xs w 0 ≡ false
earlier_none [] w = refl
earlier_none (x ∷ xs) w = refl

-- whether a word stands among one word more
pub earlier_more : (xs : List ℕ) (w i : ℕ) → i < length xs → earlier xs w (i + 1) ≡ (earlier xs w i || eqb (get_or xs i 0) w)
earlier_more xs w i h = let s : i + 1 ≡ suc i = omega arith in ap (earlier xs w) s ∙ step xs i h
  where
    step : (xs : List ℕ) (i : ℕ) → i < length xs → earlier xs w (suc i) ≡ (earlier xs w i || eqb (get_or xs i 0) w)
    step [] i h = absurd (omega arith)
    step (x ∷ xs) zero h = ap (λ b. eqb x w || b) (earlier_none xs w) ∙ or_false (eqb x w)
    step (x ∷ xs) (suc i) h = ap (λ b. eqb x w || b) (step xs i (omega arith)) ∙ or_assoc (eqb x w) (earlier xs w i) (eqb (get_or xs i 0) w)

-- two tests as digits joined
pub digits_or : (a b : Bool) → bit_or (cond a 1 0) (cond b 1 0) ≡ cond (a || b) 1 0
digits_or true true = refl
digits_or true false = refl
digits_or false b = refl

-- a loop's step: one word more is read
pub read_step : (s t u : Seen) (a i b : ℕ) → b ≡ a + i → t ≡ accessed s (read_accesses a i) s.words → u ≡ accessed t (get b ∷ []) t.words
    → u ≡ accessed s (read_accesses a (i + 1)) s.words
unfolding read_accesses
read_step s t u a i b at p q =
    let same : t.words ≡ s.words = ap (λ z. z.words) p in
    turned s t u (λ w. get (a + w) ∷ []) i s.words s.words p (q ∙ (ap (λ z. accessed t (get z ∷ []) t.words) at ∙ ap (accessed t (get (a + i) ∷ [])) same))

-- a loop's step: one word more is compared with all before it
pub pair_step : (s t u v : Seen) (a i : ℕ) → t ≡ accessed s (pair_accesses a i) s.words → u ≡ accessed t (get (a + i) ∷ []) t.words
    → v ≡ accessed u (read_accesses a i) u.words → v ≡ accessed s (pair_accesses a (i + 1)) s.words
unfolding pair_accesses
pair_step s t u v a i p q r =
    let same : u.words ≡ s.words = ap (λ z. z.words) q ∙ ap (λ z. z.words) p in
    let one = accessed_then t u v (get (a + i) ∷ []) (read_accesses a i) t.words u.words q r in
    turned s t v (λ w. get (a + w) ∷ read_accesses a w) i s.words s.words p (one ∙ ap (accessed t (get (a + i) ∷ read_accesses a i)) same)

-- what a test finds among one place more
pub first_step : (p : ℕ → Bool) (n d : ℕ) (m m' : Option ℕ) → m ≡ first_place p (range_with_len 0 n) → eqb d 1 ≡ p n → m' ≡ or_else m (when (eqb d 1) n)
    → m' ≡ first_place p (range_with_len 0 (n + 1))
first_step p n d m m' e t f = let a = first_more p n in cc

-- nothing noted later
pub or_none : (o : Option ℕ) → or_else o None ≡ o
or_none None = refl
or_none (Some i) = refl

-- the place in IN of the first of the i words from a on that stands among those before it, where n are looked at
abbrev pub noted_among : List ℕ → ℕ → ℕ → ℕ → Option ℕ
noted_among ws a n i = option_map (λ j. a + j) (first_place (again (part ws a n)) (range_with_len 0 i))

-- a loop's step: one place more is noted, by its place in IN
pub noted_step : (ws : List ℕ) (a n i d : ℕ) (m0 m m' : Option ℕ) → m ≡ or_else m0 (noted_among ws a n i) → eqb d 1 ≡ again (part ws a n) i
    → m' ≡ or_else m (when (eqb d 1) (a + i)) → m' ≡ or_else m0 (noted_among ws a n (i + 1))
noted_step ws a n i d m0 m m' e t f =
    let more = first_more (again (part ws a n)) i in
    f ∙ ap (λ o. or_else o (when (eqb d 1) (a + i))) e ∙ ap (λ b. or_else (or_else m0 (noted_among ws a n i)) (when b (a + i))) t
    ∙ joined m0 (first_place (again (part ws a n)) (range_with_len 0 i)) (again (part ws a n) i)
    ∙ ap (λ o. or_else m0 (option_map (λ j. a + j) o)) (sym more)
  where
    joined : (m0 o : Option ℕ) (b : Bool) → or_else (or_else m0 (option_map (λ j. a + j) o)) (when b (a + i)) ≡ or_else m0 (option_map (λ j. a + j) (or_else o (when b i)))
    joined (Some x) o b = refl
    joined None (Some x) b = refl
    joined None None true = refl
    joined None None false = refl

-- a loop's step: whether a word stands among one word more, as a digit
pub found_step : (ws : List ℕ) (a w i f x e : ℕ) → a + i < length ws → f ≡ cond (earlier (drop a ws) w i) 1 0 → x ≡ get_or ws (a + i) 0 → e ≡ cond (eqb x w) 1 0
    → bit_or f e ≡ cond (earlier (drop a ws) w (i + 1)) 1 0
found_step ws a w i f x e h p q s =
    let inside : i < length (drop a ws) = simp length-drop (omega arith) in
    let more = earlier_more (drop a ws) w i inside in
    let here = get_or-drop a ws i 0 in
    let both = digits_or (earlier (drop a ws) w i) (eqb (get_or (drop a ws) i 0) w) in
    cc

-- what stands among the first words of a list is decided by them
earlier_take : (n : ℕ) (xs : List ℕ) (w i : ℕ) → i ≤ n → earlier (take n xs) w i ≡ earlier xs w i
earlier_take zero xs w zero h = sym (earlier_none xs w)
earlier_take zero xs w (suc i) h = absurd (omega arith)
earlier_take (suc n) [] w i h = refl
earlier_take (suc n) (x ∷ xs) w zero h = refl
earlier_take (suc n) (x ∷ xs) w (suc i) h = ap (λ b. eqb x w || b) (earlier_take n xs w i (omega arith))

-- whether the word at a place stands before it, as the digit that was worked out
pub again_test : (ws vs : List ℕ) (a n i w d : ℕ) → i < n → vs ≡ ws → w ≡ get_or ws (a + i) 0 → d ≡ cond (earlier (drop a vs) w i) 1 0
    → eqb d 1 ≡ again (part ws a n) i
again_test ws vs a n i w d h e p q =
    let same : get_or (part ws a n) i 0 ≡ w = part_at ws a n i h ∙ sym p in
    let cut = earlier_take n (drop a ws) w i (omega arith) in
    let is = digit_of (earlier (drop a ws) w i) in
    let swap : again (part ws a n) i ≡ earlier (part ws a n) w i = ap (λ z. earlier (part ws a n) z i) same in
    cc
