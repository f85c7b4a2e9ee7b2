-- The row of bit 0 alone, looked at word by word: the differences from its words are gathered, and there is none exactly where no bit differs.
use Rattle.std.proofs.Common.{◌≡◌, ℕ, zero, suc, ◌+◌, ◌*◌, ◌/◌, ◌%◌, ◌^◌, ◌<◌, ◌≤◌, Bool, true, false, cond, ◌&&◌, eqb, List, [], ◌∷◌, ◌++◌, length, get_or, sum_by, sym, refl, ap, ◌∙◌, ap₂, inl, inr, arith}
use lib.Bits.{bit_or, bit_xor, or_add_and, xor_self, xor_zero_r, xor_assoc, and_le_r}
use Rattle.std.specs.List.{range_with_len}
use Rattle.std.proofs.lemmas.List.FromFn.{length-map-range_with_len, get_or-map-range_with_len}
use Rattle.std.proofs.lemmas.List.Sums.{sum_by-cons}
use Rattle.std.proofs.lemmas.Bool.{cases_eq, cases_lt, eq-eqb, ne_eqb, eqb-true, and_parts, and_from, lt-ltb, le-ltb, both_ways}
use Rattle.rows.specs.Rows.{Row, bit_of, unit, plus, weight, is_none, cut, row_at, width, word_of, words_of}
use Rattle.rows.proofs.Bits.{packed_bit, packed_same, packed_of}
use Rattle.rows.proofs.Products.{OneAt, one_bit, none_bit, unit_row, words_same}
use Rattle.keybox.proofs.Inverting.{none_set, unit_bit}
use Rattle.rows.specs.Fill.{part}
use Rattle.rows.proofs.Loops.{part_more, length_part}
use Rattle.memory.specs.Access.{Seen, accessed}
use Rattle.keybox.specs.Accesses.{read_accesses}
use Rattle.keybox.specs.Making.{and_zeros, is_unit}

-- two words joined are 0 where both are
or_none : (a b : ℕ) → eqb (bit_or a b) 0 ≡ (eqb a 0 && eqb b 0)
or_none zero b = ap (λ c. c && eqb b 0) (sym (eq-eqb 0 0 refl))
or_none (suc a) b =
    ne_eqb (bit_or (suc a) b) 0 (λ e. omega (arith, e, or_add_and (suc a) b, and_le_r (suc a) b)) ∙ ap (λ c. c && eqb b 0) (sym (ne_eqb (suc a) 0 (λ e. omega arith)))

-- two words differ nowhere where they are the same
xor_none : (w v : ℕ) → eqb (bit_xor w v) 0 ≡ eqb w v
xor_none w v = elim (cases_eq w v) [
  | inl e ↦ eq-eqb (bit_xor w v) 0 (ap (λ (x : ℕ). bit_xor x v) e ∙ xor_self v) ∙ sym (eq-eqb w v e)
  | inr n ↦ ne_eqb (bit_xor w v) 0 (λ e. n (same e)) ∙ sym (ne_eqb w v n)
]
  where
    same : bit_xor w v ≡ 0 → w ≡ v
    same e = sym (xor_zero_r w) ∙ ap (bit_xor w) (sym (xor_self v)) ∙ sym (xor_assoc w v v) ∙ ap (λ (x : ℕ). bit_xor x v) e

and_true : (a : Bool) → (a && true) ≡ a
and_true true = refl
and_true false = refl

and_assoc : (a b c : Bool) → (a && (b && c)) ≡ ((a && b) && c)
and_assoc true b c = refl
and_assoc false b c = refl

-- the word wanted at a place
abbrev pub wanted_at : ℕ → ℕ
wanted_at i = cond (eqb i 0) 1 0

pub none_wanted : (i : ℕ) → 0 ≡ wanted_at (i + 1)
none_wanted i = ap (λ b. cond b 1 0) (sym (ne_eqb (i + 1) 0 (λ e. omega arith)))

-- one word more
zeros_more : (w : ℕ) (xs : List ℕ) (y x : ℕ) → and_zeros w (y ∷ xs ++ x ∷ []) ≡ (and_zeros w (y ∷ xs) && eqb x 0)
zeros_more w [] y x = ap (λ b. eqb y w && b) (and_true (eqb x 0)) ∙ ap (λ b. b && eqb x 0) (sym (and_true (eqb y w)))
zeros_more w (z ∷ xs) y x = ap (λ b. eqb y w && b) (zeros_more 0 xs z x) ∙ and_assoc (eqb y w) (and_zeros 0 (z ∷ xs)) (eqb x 0)

unit_more : (xs : List ℕ) (x : ℕ) → is_unit (xs ++ x ∷ []) ≡ (is_unit xs && eqb x (wanted_at (length xs)))
unit_more [] x = and_true (eqb x 1)
unit_more (y ∷ xs) x = zeros_more 1 xs y x ∙ ap (λ (v : ℕ). is_unit (y ∷ xs) && eqb x v) (ap (λ b. cond b 1 0) (sym (ne_eqb (length (y ∷ xs)) 0 (λ e. omega arith))))

-- a loop's step: one word more
pub unit_step : (ws : List ℕ) (a w d x v : ℕ) → a + w < length ws → eqb d 0 ≡ is_unit (part ws a w) → v ≡ wanted_at w → x ≡ get_or ws (a + w) 0
    → eqb (bit_or d (bit_xor x v)) 0 ≡ is_unit (part ws a (w + 1))
unit_step ws a w d x v h so_far wanted e =
    let long : length (part ws a w) ≡ w = length_part ws a w (omega arith) in
    let right : v ≡ wanted_at (length (part ws a w)) = wanted ∙ ap wanted_at (sym long) in
    or_none d (bit_xor x v) ∙ ap₂ (λ b c. b && c) so_far (xor_none x v ∙ ap₂ eqb e right)
    ∙ sym (unit_more (part ws a w) (get_or ws (a + w) 0)) ∙ ap is_unit (sym (part_more ws a w h))

-- all words are read
pub all_unit : (ws : List ℕ) (a b w n d : ℕ) → a ≡ b → w ≡ n → eqb d 0 ≡ is_unit (part ws a w) → eqb d 0 ≡ is_unit (part ws b n)
all_unit ws a b w n d at all e = e ∙ ap (λ (i : ℕ). is_unit (part ws i w)) at ∙ ap (λ (i : ℕ). is_unit (part ws b i)) all

pub all_read : (s t : Seen) (a b w n : ℕ) → a ≡ b → w ≡ n → t ≡ accessed s (read_accesses a w) s.words → t ≡ accessed s (read_accesses b n) s.words
all_read s t a b w n at all e = e ∙ ap (λ (i : ℕ). accessed s (read_accesses i w) s.words) at ∙ ap (λ (i : ℕ). accessed s (read_accesses b i) s.words) all

-- ---- the words of a row

-- the words of a list, told by places
zeros_at : (xs : List ℕ) → and_zeros 0 xs ≡ true → (i : ℕ) → get_or xs i 0 ≡ 0
zeros_at [] e i = refl
zeros_at (x ∷ xs) e zero = eqb-true x 0 (and_parts (eqb x 0) (and_zeros 0 xs) e).0
zeros_at (x ∷ xs) e (suc i) = zeros_at xs (and_parts (eqb x 0) (and_zeros 0 xs) e).1 i

zeros_from : (xs : List ℕ) → ((i : ℕ) → i < length xs → get_or xs i 0 ≡ 0) → and_zeros 0 xs ≡ true
zeros_from [] h = refl
zeros_from (x ∷ xs) h = and_from (eqb x 0) (and_zeros 0 xs) (eq-eqb x 0 (h 0 (omega arith))) (zeros_from xs (λ i l. h (suc i) (omega arith)))

unit_at : (r : ℕ) (xs : List ℕ) → 1 ≤ length xs → is_unit xs ≡ true → OneAt r xs 0
unit_at r [] some e = absurd (omega arith)
unit_at r (x ∷ xs) some e =
    let both = and_parts (eqb x 1) (and_zeros 0 xs) e in
    (eqb-true x 1 both.0, λ i some few. let e : 0 + i ≡ i = omega arith in ap (λ (k : ℕ). get_or (x ∷ xs) k 0) e ∙ later xs both.1 i some)
  where
    later : (xs : List ℕ) → and_zeros 0 xs ≡ true → (i : ℕ) → 0 < i → get_or (x ∷ xs) i 0 ≡ 0
    later xs z zero some = absurd (omega arith)
    later xs z (suc i) some = zeros_at xs z i

unit_from : (xs : List ℕ) → 1 ≤ length xs → get_or xs 0 0 ≡ 1 → ((i : ℕ) → 0 < i → i < length xs → get_or xs i 0 ≡ 0) → is_unit xs ≡ true
unit_from [] some one zeros = absurd (omega arith)
unit_from (x ∷ xs) some one zeros = and_from (eqb x 1) (and_zeros 0 xs) (eq-eqb x 1 one) (zeros_from xs (λ i l. zeros (suc i) (omega arith) (omega arith)))

-- the words of a row hold its bits
words_row : (r : ℕ) (x : Row) → ((j : ℕ) → j < r → x j < 2) → (j : ℕ) → j < r → row_at (words_of r x) 0 j ≡ x j
words_row r x bits j h =
    let word : get_or (words_of r x) (0 + j / 32) 0 ≡ word_of r x (j / 32) = get_or-map-range_with_len (word_of r x) 0 (width r) (0 + j / 32) (j / 32) 0 (omega arith) (omega arith) in
    let small : (i : ℕ) → i < 32 → cut r x (32 * (j / 32) + i) < 2 = λ i _. elim (cases_lt (32 * (j / 32) + i) r) [
      | inl l ↦ rw (lt-ltb (32 * (j / 32) + i) r l) (bits (32 * (j / 32) + i) l)
      | inr l ↦ rw (le-ltb (32 * (j / 32) + i) r l) (omega arith)
    ] in
    let place : 32 * (j / 32) + j % 32 ≡ j = omega arith in
    ap (λ (w : ℕ). bit_of w (j % 32)) word ∙ packed_bit (λ i. cut r x (32 * (j / 32) + i)) (j % 32) small (omega arith)
    ∙ ap (cut r x) place ∙ rw (lt-ltb j r h) refl

-- the word of the row of bit 0 alone at a place
unit_word : (r w v : ℕ) → 1 ≤ r → v < 2 ^ 32 → ((j : ℕ) → j < 32 → bit_of v j ≡ unit (32 * w + j)) → word_of r unit w ≡ v
unit_word r w v some fits same =
    packed_same (λ j. cut r unit (32 * w + j)) (bit_of v) (λ j h. elim (cases_lt (32 * w + j) r) [
      | inl l ↦ rw (lt-ltb (32 * w + j) r l) (sym (same j h))
      | inr l ↦ rw (le-ltb (32 * w + j) r l) (sym (same j h ∙ ap (λ b. cond b 1 0) (ne_eqb (32 * w + j) 0 (λ e. omega arith))))
    ]) ∙ packed_of v fits

unit_words_are : (r : ℕ) → 1 ≤ r → is_unit (words_of r unit) ≡ true
unit_words_are r some =
    let long = length-map-range_with_len (word_of r unit) 0 (width r) in
    unit_from (words_of r unit) (omega (arith, long))
    (get_or-map-range_with_len (word_of r unit) 0 (width r) 0 0 0 (omega arith) (omega arith)
    ∙ unit_word r 0 1 some (omega arith) (λ j h. one_bit j ∙ ap unit (omega arith)))
    (λ i later few.
    get_or-map-range_with_len (word_of r unit) 0 (width r) i i 0 (omega (arith, long)) (omega arith)
    ∙ unit_word r i 0 some (omega arith) (λ j h. none_bit j ∙ sym (ap (λ b. cond b 1 0) (ne_eqb (32 * i + j) 0 (λ e. omega arith)))))

-- the sum of bits that are all 0
none_sum : (x : Row) (a n : ℕ) → ((j : ℕ) → a ≤ j → j < a + n → x j ≡ 0) → sum_by x (range_with_len a n) ≡ 0
none_sum x a zero h = refl
none_sum x a (suc n) h =
    omega (arith, sum_by-cons x a (range_with_len (a + 1) n), h a (omega arith) (omega arith), none_sum x (a + 1) n (λ j l k. h j (omega arith) (omega arith)))

-- the words of a row are those of the row of bit 0 alone exactly where no bit differs from it
pub unit_words : (r : ℕ) (x : Row) → 1 ≤ r → ((j : ℕ) → j < r → x j < 2) → is_unit (words_of r x) ≡ is_none r (plus unit x)
unit_words r x some bits = either (is_none r (plus unit x)) (is_unit (words_of r x)) forward back
  where
    forward : is_none r (plus unit x) ≡ true → is_unit (words_of r x) ≡ true
    forward e = ap is_unit (words_same r x unit (λ j l. omega (arith, none_set r (plus unit x) e j l, unit_bit j, bits j l))) ∙ unit_words_are r some

    back : is_unit (words_of r x) ≡ true → is_none r (plus unit x) ≡ true
    back e =
        let bit : (j : ℕ) → j < r → x j ≡ unit j = λ j l. sym (words_row r x bits j l) ∙ unit_row r (words_of r x) 0 j (unit_at r (words_of r x) (omega (arith, length-map-range_with_len (word_of r x) 0 (width r))) e) l in
        eq-eqb (weight r (plus unit x)) 0 (none_sum (plus unit x) 0 r (λ j _ l. omega (arith, bit j (omega arith))))

    either : (a b : Bool) → (a ≡ true → b ≡ true) → (b ≡ true → a ≡ true) → b ≡ a
    either true b f g = f refl
    either false true f g = absurd (both_ways false refl (g refl))
    either false false f g = refl
