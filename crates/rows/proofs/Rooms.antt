-- What a sum reads stays where it is: only the result and the room are written to, and no row or position lies there.
-- Two lists of words that differ in the room alone give the same rows, positions and numbers.
use Rattle.std.proofs.Common.{◌≡◌, ℕ, zero, suc, ◌+◌, ◌-◌, ◌*◌, ◌/◌, ◌%◌, ◌^◌, ◌<◌, ◌≤◌, Bool, true, false, cond, eqb, ltb, leb, ◌⊎◌, List, ◌++◌, map, length, get_or, sym, refl, ap, ◌∙◌, ap₂, inl, inr, arith, ext_get_or}
use Rattle.std.specs.List.{range_with_len}
use Rattle.std.proofs.lemmas.Nat.{mul-add-lt, mod_below}
use Rattle.std.proofs.lemmas.List.FromFn.{length-map-range_with_len, get_or-map-range_with_len}
use Rattle.std.proofs.lemmas.Bool.{cases_lt, lt-ltb, le-ltb}
use Rattle.memory.specs.Words.{over, Apart}
use Rattle.memory.proofs.Words.{length_over, over_out, length_zeros, zeros_out, zeros_comm}
use Rattle.rows.specs.declared.plan.Direction.{Direction}
use Rattle.rows.specs.declared.plan.Source.{Source}
use Rattle.rows.specs.declared.plan.Source.TheVariants.{One, Either}
use Rattle.rows.specs.declared.plan.Plan.{Plan}
use Rattle.rows.specs.Rows.{Row, bit_of, rotated, cut, row_at, width, has_tail}
use Rattle.rows.specs.Lane.{lane, plane_word, plane_words, planes}
use Rattle.rows.specs.Sum.{as_position, index, turn, added, room, but_room, step_words, RowApart, RowsApart, Fits}
use Rattle.rows.proofs.Bits.{packed_same, number_same}
use Rattle.rows.proofs.Adding.{length_planes}

-- ---- places apart

pub apart_at : (a n b m v : ℕ) → Apart a n b m → v < n → (a + v < b) ⊎ (b + m ≤ a + v)
apart_at a n b m v o h = elim o [ inl u ↦ inl (omega arith) | inr u ↦ inr (omega arith) ]

-- ---- words with the same rows

-- the words of a row are the same
abbrev pub RowKept : ℕ → ℕ → List ℕ → List ℕ → Type 0
RowKept r a vs us = (i : ℕ) → i < width r → get_or vs (a + i) 0 ≡ get_or us (a + i) 0

abbrev pub RowsKept : ℕ → Source → List ℕ → List ℕ → Type 0
RowsKept r (One a) vs us = RowKept r a vs us
RowsKept r (Either a b) vs us = RowKept r a vs us × RowKept r b vs us

pub row_kept : (r a : ℕ) (vs us : List ℕ) (j : ℕ) → RowKept r a vs us → j < r → row_at vs a j ≡ row_at us a j
row_kept r a vs us j h l = ap (λ (w : ℕ). bit_of w (j % 32)) (h (j / 32) (omega arith))

-- a row cut to r bits depends on those alone, also once it was rotated
pub cut_same : (r : ℕ) (x y : Row) (j : ℕ) → (j < r → x j ≡ y j) → cut r x j ≡ cut r y j
cut_same r x y j h =
    elim (cases_lt j r) [
      | inl l ↦ rw (lt-ltb j r l) (h l)
      | inr l ↦ rw (le-ltb j r l) refl
    ]

pub rotated_same : (r i : ℕ) (x y : Row) (j : ℕ) → 0 < r → ((k : ℕ) → k < r → x k ≡ y k) → cut r (rotated r i x) j ≡ cut r (rotated r i y) j
rotated_same r i x y j some h =
    cut_same r (rotated r i x) (rotated r i y) j (λ l. h ((j + (r - i % r)) % r) (mod_below (j + (r - i % r)) r some))

pub either_same : (t : Bool) (x y u v : Row) (k : ℕ) → x k ≡ u k → y k ≡ v k → cond t x y k ≡ cond t u v k
either_same true x y u v k p q = p
either_same false x y u v k p q = q

pub added_same : (r : ℕ) (way : Direction) (source : Source) (vs us : List ℕ) (q j : ℕ) → 0 < r → RowsKept r source vs us → added r way source vs q j ≡ added r way source us q j
added_same r way (One a) vs us q j some h =
    rotated_same r (turn r way (as_position r q)) (row_at vs a) (row_at us a) j some (λ k l. row_kept r a vs us k h l)
added_same r way (Either a b) vs us q j some h =
    rotated_same r (turn r way (as_position r (index r q))) (cond (ltb q r) (row_at vs a) (row_at vs b)) (cond (ltb q r) (row_at us a) (row_at us b)) j some (λ k l. either_same (ltb q r) (row_at vs a) (row_at vs b) (row_at us a) (row_at us b) k (row_kept r a vs us k h.0 l) (row_kept r b vs us k h.1 l))

-- rows that lie apart from what was written are kept, and so are their tails
pub rows_apart_kept : (r : ℕ) (source : Source) (ws vs us : List ℕ) (b n : ℕ) → RowsApart r source ws b n → ((i : ℕ) → (i < b) ⊎ (b + n ≤ i) → get_or vs i 0 ≡ get_or us i 0) → RowsKept r source vs us
rows_apart_kept r (One a) ws vs us b n o h = λ i l. h (a + i) (apart_at a (width r) b n i o.1 l)
rows_apart_kept r (Either a c) ws vs us b n o h =
    (λ i l. h (a + i) (apart_at a (width r) b n i o.0.1 l), λ i l. h (c + i) (apart_at c (width r) b n i o.1.1 l))

pub tail_same : (r : ℕ) (vs us : List ℕ) (a b : ℕ) → get_or vs (a + (width r - 1)) 0 ≡ get_or us (b + (width r - 1)) 0 → has_tail r vs a ≡ has_tail r us b
tail_same r vs us a b e = ap (λ (w : ℕ). cond (eqb (r % 32) 0) false (leb (2 ^ (r % 32)) w)) e

row_still : (r a : ℕ) (vs us : List ℕ) (b n : ℕ) → 0 < r → length vs ≡ length us → RowKept r a vs us → RowApart r a us b n → RowApart r a vs b n
row_still r a vs us b n some long h o =
    (omega (arith, o.0), o.1, tail_same r vs us a a (h (width r - 1) (omega arith)) ∙ o.2)

rows_still : (r : ℕ) (source : Source) (vs us : List ℕ) (b n : ℕ) → 0 < r → length vs ≡ length us → RowsKept r source vs us → RowsApart r source us b n → RowsApart r source vs b n
rows_still r (One a) vs us b n some long h o = row_still r a vs us b n some long h o
rows_still r (Either a c) vs us b n some long h o = (row_still r a vs us b n some long h.0 o.0, row_still r c vs us b n some long h.1 o.1)

-- ---- the numbers that lie across the planes

pub lane_same : (vs us : List ℕ) (a width n j : ℕ) → j < 32 * width → ((i : ℕ) → i < n * width → get_or vs (a + i) 0 ≡ get_or us (a + i) 0) → lane vs a width n j ≡ lane us a width n j
lane_same vs us a width n j h same =
    number_same (λ k. get_or vs (a + k * width + j / 32) 0) (λ k. get_or us (a + k * width + j / 32) 0) n (j % 32) (λ k l.
    let e : a + k * width + j / 32 ≡ a + (k * width + j / 32) = omega arith in
    rw e (same (k * width + j / 32) (omega (arith, mul-add-lt k width (j / 32) n l (omega arith)))))

plane_same : (width : ℕ) (m l : ℕ → ℕ) (k : ℕ) → ((j : ℕ) → j < 32 * width → m j ≡ l j) → plane_words width m k ≡ plane_words width l k
plane_same width m l k h =
    let f : ℕ → ℕ = λ w. plane_word (λ j. m (32 * w + j)) k in
    let g : ℕ → ℕ = λ w. plane_word (λ j. l (32 * w + j)) k in
    let long = length-map-range_with_len f 0 width in
    ext_get_or 0 (map f (range_with_len 0 width)) (map g (range_with_len 0 width)) (long ∙ sym (length-map-range_with_len g 0 width)) (λ w u.
    let in' : w < width = omega (arith, long) in
    get_or-map-range_with_len f 0 width w w 0 in' (omega arith)
    ∙ packed_same (λ j. bit_of (m (32 * w + j)) k) (λ j. bit_of (l (32 * w + j)) k) (λ j d. ap (λ (x : ℕ). bit_of x k) (h (32 * w + j) (omega arith)))
    ∙ sym (get_or-map-range_with_len g 0 width w w 0 in' (omega arith)))

pub planes_same : (width : ℕ) (m l : ℕ → ℕ) (n : ℕ) → ((j : ℕ) → j < 32 * width → m j ≡ l j) → planes width m n ≡ planes width l n
planes_same width m l zero h = refl
planes_same width m l (suc n) h = ap₂ (λ (x y : List ℕ). x ++ y) (planes_same width m l n h) (plane_same width m l n h)

-- ---- words that differ in the room alone

pub length_same : (p : Plan) (vs us : List ℕ) → but_room p vs ≡ but_room p us → length vs ≡ length us
length_same p vs us e =
    let rows : ℕ = room p.source * width p.r in
    sym (length_zeros vs p.scratch rows) ∙ ap length e ∙ length_zeros us p.scratch rows

pub get_or_same : (p : Plan) (vs us : List ℕ) (i : ℕ) → but_room p vs ≡ but_room p us → (i < p.scratch) ⊎ (p.scratch + room p.source * width p.r ≤ i) → get_or vs i 0 ≡ get_or us i 0
get_or_same p vs us i e o =
    let rows : ℕ = room p.source * width p.r in
    sym (zeros_out vs p.scratch rows i o) ∙ ap (λ (ws : List ℕ). get_or ws i 0) e ∙ zeros_out us p.scratch rows i o

fits_kept : (n : ℕ) (p : Plan) (vs us : List ℕ) → length vs ≡ length us → RowsKept p.r p.source vs us → Fits n p us → Fits n p vs
fits_kept n p vs us long h f =
    let some : 0 < p.r = omega (arith, f.long) in
    record {
      long = f.long;
      some = f.some;
      positions = omega (arith, f.positions);
      result = omega (arith, f.result);
      space = omega (arith, f.space);
      positions_result = f.positions_result;
      positions_space = f.positions_space;
      result_space = f.result_space;
      rows_result = rows_still p.r p.source vs us p.into (n * width p.r) some long h f.rows_result;
      rows_space = rows_still p.r p.source vs us p.scratch (room p.source * width p.r) some long h f.rows_space;
    }

rows_same : (n : ℕ) (p : Plan) (vs us : List ℕ) → Fits n p us → but_room p vs ≡ but_room p us → RowsKept p.r p.source vs us
rows_same n p vs us f e =
    rows_apart_kept p.r p.source us vs us p.scratch (room p.source * width p.r) f.rows_space (λ i o. get_or_same p vs us i e o)

pub fits_same : (n : ℕ) (p : Plan) (vs us : List ℕ) → Fits n p us → but_room p vs ≡ but_room p us → Fits n p vs
fits_same n p vs us f e = fits_kept n p vs us (length_same p vs us e) (rows_same n p vs us f e) f

pub fits_over : (n : ℕ) (p : Plan) (us xs : List ℕ) → Fits n p us → length xs ≡ n * width p.r → Fits n p (over us p.into xs)
fits_over n p us xs f e =
    fits_kept n p (over us p.into xs) us (length_over us p.into xs)
    (rows_apart_kept p.r p.source us (over us p.into xs) us p.into (n * width p.r) f.rows_result (λ i o. over_out us p.into xs i (rw e o)))
    f

-- rows added to both leave them so
pub planes_over_same : (add : ℕ → ℕ → ℕ) (n : ℕ) (p : Plan) (vs us : List ℕ) (x y : Row) → Fits n p us → but_room p vs ≡ but_room p us → ((j : ℕ) → j < 32 * width p.r → x j ≡ y j)
    → but_room p (over vs p.into (planes (width p.r) (λ j. add (lane vs p.into (width p.r) n j) (x j)) n))
    ≡ but_room p (over us p.into (planes (width p.r) (λ j. add (lane us p.into (width p.r) n j) (y j)) n))
planes_over_same add n p vs us x y f e h =
    let W : ℕ = width p.r in
    let rows : ℕ = room p.source * W in
    let m : ℕ → ℕ = λ j. add (lane vs p.into W n j) (x j) in
    let l : ℕ → ℕ = λ j. add (lane us p.into W n j) (y j) in
    let at : (i : ℕ) → i < n * W → get_or vs (p.into + i) 0 ≡ get_or us (p.into + i) 0
    = λ i d. get_or_same p vs us (p.into + i) e (apart_at p.into (n * W) p.scratch rows i f.result_space d) in
    let o : (k : ℕ → ℕ) → Apart p.into (length (planes W k n)) p.scratch rows = λ k. rw length_planes f.result_space in
    zeros_comm vs p.into (planes W m n) p.scratch rows (o m)
    ∙ ap₂ (λ (ws : List ℕ) (xs : List ℕ). over ws p.into xs) e (planes_same W m l n (λ j d. ap₂ add (lane_same vs us p.into W n j d at) (h j d)))
    ∙ sym (zeros_comm us p.into (planes W l n) p.scratch rows (o l))

-- a step depends on the words outside the room alone
pub step_same : (add : ℕ → ℕ → ℕ) (n : ℕ) (p : Plan) (i : ℕ) (vs us : List ℕ) → Fits n p us → i < p.count → but_room p vs ≡ but_room p us
    → but_room p (step_words add n p i vs) ≡ but_room p (step_words add n p i us)
step_same add n p i vs us f h e =
    let word : get_or vs (p.at + i) 0 ≡ get_or us (p.at + i) 0
    = get_or_same p vs us (p.at + i) e (apart_at p.at p.count p.scratch (room p.source * width p.r) i f.positions_space h) in
    planes_over_same add n p vs us (added p.r p.direction p.source vs (get_or vs (p.at + i) 0)) (added p.r p.direction p.source us (get_or us (p.at + i) 0)) f e (λ j l.
    ap (λ (q : ℕ). added p.r p.direction p.source vs q j) word
    ∙ added_same p.r p.direction p.source vs us (get_or us (p.at + i) 0) j (omega (arith, f.long)) (rows_same n p vs us f e))
