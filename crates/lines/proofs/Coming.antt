-- Every input comes to its lines: at each byte, what has come of the line and what is still to come split to the same lines.
use Rattle.std.proofs.Common.{◌≡◌, ℕ, zero, suc, ◌+◌, ◌-◌, ◌<◌, ◌≤◌, true, false, eqb, leb, List, [], ◌∷◌, ◌++◌, length, take, sym, refl, ap, ◌∙◌, ⊎_elim, arith}
use Rattle.std.proofs.Math.Seq.{take-nil}
use Rattle.std.specs.Option.{option_to_list}
use Rattle.std.proofs.lemmas.List.{append-nil}
use Rattle.std.proofs.lemmas.Bool.{cases_Bool, leb-true, leb-false, ne_eqb}
use Rattle.lines.specs.Splitting.{split, ended}
use Rattle.lines.specs.Feeding.{Numbered, Cut, closed, brought, numbered_from, ComesToItsLines}
use Rattle.std.proofs.lemmas.List.Splits.{slice_split-cons_yes, slice_split-cons_no}
use Rattle.lines.proofs.Pieces.{glued, glued_onto, glued_none, split_some}

-- a splitter that c bytes have come to, at the line n with the bytes bs so far
abbrev at_line : ℕ → ℕ → List ℕ → Cut
at_line c n bs = record { count = c; line = record { number = n; bytes = take 121 bs } }

-- the lines of what is to come
abbrev rest_of : ℕ → ℕ → List ℕ → List ℕ → List Numbered
rest_of c n bs input = numbered_from n (ended (glued bs (split 10 (take (65536 - c) input))))

at_end : (c n : ℕ) (bs : List ℕ) → option_to_list (closed (at_line c n bs)).line ≡ numbered_from n (ended (glued bs ([] ∷ [])))
at_end c n [] = refl
at_end c n (x ∷ xs) =
    let e : eqb (suc (length (take 120 xs))) 0 ≡ false = ne_eqb (suc (length (take 120 xs))) 0 (λ h. omega arith) in
    let f : eqb (suc (length xs)) 0 ≡ false = ne_eqb (suc (length xs)) 0 (λ h. omega arith) in
    simp (e, f, append-nil xs)

-- the first bytes of a line with one more
take_push : (k : ℕ) (xs : List ℕ) (b : ℕ) → take k (take k xs ++ b ∷ []) ≡ take k (xs ++ b ∷ [])
take_push zero xs b = refl
take_push (suc k) [] b = refl
take_push (suc k) (x ∷ xs) b = ap (λ t. x ∷ t) (take_push k xs b)

ended_more : (p : List ℕ) (ps : List (List ℕ)) → 0 < length ps → ended (p ∷ ps) ≡ p ∷ ended ps
ended_more p [] h = absurd (omega arith)
ended_more p (q ∷ ps) h = refl

-- one more byte counts
next_byte : (c b : ℕ) (input : List ℕ) → c < 65536 → take (65536 - c) (b ∷ input) ≡ b ∷ take (65536 - (c + 1)) input
next_byte c b input h = let e : 65536 - c ≡ suc (65536 - (c + 1)) = omega arith in ap (λ k. take k (b ∷ input)) e

-- a line feed ends the line
feed_here : (c n : ℕ) (bs : List ℕ) (b : ℕ) (input : List ℕ) → c < 65536 → eqb b 10 ≡ true
    → rest_of c n bs (b ∷ input) ≡ record { number = n; bytes = take 121 bs } ∷ rest_of (c + 1) (n + 1) [] input
feed_here c n bs b input h f =
    let t = take (65536 - (c + 1)) input in
    let s = slice_split-cons_yes (λ x. eqb x 10) b t f in
    ap (λ xs. numbered_from n (ended (glued bs (split 10 xs)))) (next_byte c b input h)
    ∙ ap (λ ps. numbered_from n (ended (glued bs ps))) s
    ∙ ap (numbered_from n) (ended_more (bs ++ []) (split 10 t) (split_some 10 t))
    ∙ ap (λ xs. record { number = n; bytes = take 121 xs } ∷ numbered_from (n + 1) (ended (split 10 t))) (append-nil bs)
    ∙ ap (λ ps. record { number = n; bytes = take 121 bs } ∷ numbered_from (n + 1) (ended ps)) (sym (glued_none 10 t))

-- any other byte belongs to it
byte_here : (c n : ℕ) (bs : List ℕ) (b : ℕ) (input : List ℕ) → c < 65536 → eqb b 10 ≡ false
    → rest_of c n bs (b ∷ input) ≡ rest_of (c + 1) n (bs ++ b ∷ []) input
byte_here c n bs b input h f =
    let t = take (65536 - (c + 1)) input in
    ap (λ xs. numbered_from n (ended (glued bs (split 10 xs)))) (next_byte c b input h)
    ∙ ap (λ ps. numbered_from n (ended (glued bs ps))) (slice_split-cons_no (λ x. eqb x 10) b t f)
    ∙ ap (λ ps. numbered_from n (ended ps)) (glued_onto bs b (split 10 t))

-- past the limit no byte counts
none_counts : (c n : ℕ) (bs input more : List ℕ) → 65536 ≤ c → rest_of c n bs input ≡ rest_of c n bs more
none_counts c n bs input more h =
    let z : 65536 - c ≡ 0 = omega arith in
    ap (λ m. numbered_from n (ended (glued bs (split 10 (take m input))))) z
    ∙ sym (ap (λ m. numbered_from n (ended (glued bs (split 10 (take m more))))) z)

comes : (c n : ℕ) (bs input : List ℕ) → brought (at_line c n bs) input ≡ rest_of c n bs input
comes c n bs [] = at_end c n bs ∙ ap (λ t. numbered_from n (ended (glued bs (split 10 t)))) (sym (take-nil (65536 - c)))
comes c n bs (b ∷ input) =
    ⊎_elim
    (λ (e : leb 65536 c ≡ true). simp e (comes c n bs input ∙ none_counts c n bs input (b ∷ input) (leb-true 65536 c e)))
    (λ (e : leb 65536 c ≡ false). ⊎_elim
    (λ (f : eqb b 10 ≡ true). simp (e, f) (ap (λ ls. record { number = n; bytes = take 121 bs } ∷ ls) (comes (c + 1) (n + 1) [] input)
    ∙ sym (feed_here c n bs b input (leb-false 65536 c e) f)))
    (λ (f : eqb b 10 ≡ false). simp (e, f, take_push) (comes (c + 1) n (bs ++ b ∷ []) input ∙ sym (byte_here c n bs b input (leb-false 65536 c e) f)))
    (cases_Bool (eqb b 10)))
    (cases_Bool (leb 65536 c))

pub comes_to_its_lines : ComesToItsLines
comes_to_its_lines input = comes 0 1 [] input ∙ ap (λ ps. numbered_from 1 (ended ps)) (glued_none 10 (take 65536 input))
