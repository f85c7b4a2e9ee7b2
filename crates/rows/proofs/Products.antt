-- What a sum with parity lanes leaves in a plane that was zero: the words of a product, or of a sum of two rows' rotations.
use Rattle.std.proofs.Common.{◌≡◌, ℕ, zero, suc, ◌+◌, ◌-◌, ◌*◌, ◌/◌, ◌%◌, ◌^◌, ◌<◌, ◌≤◌, Bool, false, cond, ltb, List, [], ◌∷◌, map, get_or, sum_by, sym, refl, ap, ◌∙◌, ap₂, inl, inr, arith, ext_get_or}
use native.Mathlib.Nat.{zero-div, div-eq_of_lt}
use Rattle.std.specs.List.{range_with_len, AllByRecursion}
use Rattle.std.proofs.lemmas.List.FromFn.{length-map-range_with_len, get_or-map-range_with_len}
use Rattle.std.proofs.lemmas.Nat.{mod_below, pow_below}
use Rattle.std.proofs.ByRecursion.{All-weaker}
use Rattle.std.proofs.lemmas.List.Sums.{sum_by-cons}
use Rattle.std.proofs.lemmas.Bool.{cases_lt, cases_eq, lt-ltb, le-ltb, lt-leb, eq-eqb, ne_eqb}
use Rattle.memory.specs.Words.{over, zeros}
use Rattle.rows.specs.declared.plan.Direction.{Direction}
use Rattle.rows.specs.declared.plan.Direction.TheVariants.{Up}
use Rattle.rows.specs.declared.plan.Source.{Source}
use Rattle.rows.specs.declared.plan.Source.TheVariants.{One, Either}
use Rattle.rows.specs.declared.plan.Plan.{Plan}
use Rattle.rows.specs.Rows.{Row, bit_of, packed, unit, rotated, product, cut, row_at, width, word_of, words_of, has_tail}
use Rattle.rows.specs.Lane.{lane, planes}
use Rattle.rows.specs.Fill.{part}
use Rattle.rows.specs.Sum.{as_position, index, added, summed, room, sum_words}
use Rattle.rows.proofs.Bits.{packed_same, number_one}
use Rattle.rows.proofs.Rooms.{cut_same, either_same}

-- how parity lanes add
abbrev pub parity : ℕ → ℕ → ℕ
parity n b = (n + b) % 2

-- bits added one by one modulo 2 are their sum modulo 2
summed_parity : (xs : List Row) (n j : ℕ) → summed parity n xs j % 2 ≡ (n + sum_by (λ x. x j) xs) % 2
summed_parity [] n j = ap (λ (m : ℕ). m % 2) (omega arith)
summed_parity (x ∷ xs) n j = summed_parity xs ((n + x j) % 2) j ∙ omega (arith, sum_by-cons (λ y. y j) x xs)

sum_map : (f : ℕ → Row) (ps : List ℕ) (j : ℕ) → sum_by (λ x. x j) (map f ps) ≡ sum_by (λ q. f q j) ps
sum_map f [] j = refl
sum_map f (q ∷ qs) j =
    sum_by-cons (λ (x : Row). x j) (f q) (map f qs) ∙ ap (λ (m : ℕ). f q j + m) (sum_map f qs j) ∙ sym (sum_by-cons (λ q. f q j) q qs)

sum_same : (f g : ℕ → ℕ) (ps : List ℕ) → AllByRecursion (λ q. f q ≡ g q) ps → sum_by f ps ≡ sum_by g ps
sum_same f g [] h = refl
sum_same f g (q ∷ qs) h = sum_by-cons f q qs ∙ ap₂ (λ (m n : ℕ). m + n) h.0 (sum_same f g qs h.1) ∙ sym (sum_by-cons g q qs)

sum_none : (f : ℕ → ℕ) (ps : List ℕ) → ((q : ℕ) → f q ≡ 0) → sum_by f ps ≡ 0
sum_none f [] h = refl
sum_none f (q ∷ qs) h = sum_by-cons f q qs ∙ ap₂ (λ (m n : ℕ). m + n) (h q) (sum_none f qs h)

-- the words of a row depend on its r bits alone
pub words_same : (r : ℕ) (x y : Row) → ((j : ℕ) → j < r → x j ≡ y j) → words_of r x ≡ words_of r y
words_same r x y h =
    let long = length-map-range_with_len (word_of r x) 0 (width r) in
    ext_get_or 0 (words_of r x) (words_of r y) (long ∙ sym (length-map-range_with_len (word_of r y) 0 (width r))) (λ w l.
    let in' : w < width r = omega (arith, long) in
    get_or-map-range_with_len (word_of r x) 0 (width r) w w 0 in' (omega arith)
    ∙ packed_same (λ j. cut r x (32 * w + j)) (λ j. cut r y (32 * w + j)) (λ j d. cut_same r x y (32 * w + j) (h (32 * w + j)))
    ∙ sym (get_or-map-range_with_len (word_of r y) 0 (width r) w w 0 in' (omega arith)))

-- one plane of numbers is the row of their lowest bits
plane_row : (r : ℕ) (m : ℕ → ℕ) (x : Row) → ((j : ℕ) → j < 32 * width r → m j % 2 ≡ cut r x j) → planes (width r) m 1 ≡ words_of r x
plane_row r m x h =
    let f : ℕ → ℕ = λ w. packed (λ j. bit_of (m (32 * w + j)) 0) in
    let long = length-map-range_with_len f 0 (width r) in
    ext_get_or 0 (map f (range_with_len 0 (width r))) (words_of r x) (long ∙ sym (length-map-range_with_len (word_of r x) 0 (width r))) (λ w l.
    let in' : w < width r = omega (arith, long) in
    get_or-map-range_with_len f 0 (width r) w w 0 in' (omega arith)
    ∙ packed_same (λ j. bit_of (m (32 * w + j)) 0) (λ j. cut r x (32 * w + j)) (λ j d. omega (arith, h (32 * w + j) (omega arith)))
    ∙ sym (get_or-map-range_with_len (word_of r x) 0 (width r) w w 0 in' (omega arith)))

-- ---- a sum of rows

pub none_bit : (j : ℕ) → bit_of 0 j ≡ 0
none_bit j = ap (λ (x : ℕ). x % 2) (zero-div (2 ^ j))

-- a row with no bit past its end is the same when it is cut
uncut : (r : ℕ) (x : Row) (j : ℕ) → (r ≤ j → x j ≡ 0) → x j ≡ cut r x j
uncut r x j h = elim (cases_lt j r) [ inl l ↦ rw (lt-ltb j r l) refl | inr l ↦ rw (le-ltb j r l) (h l) ]

-- a plane of zeros holds zeros
lane_none : (ws : List ℕ) (a width j : ℕ) → j < 32 * width → ((i : ℕ) → i < width → get_or ws (a + i) 0 ≡ 0) → lane ws a width 1 j ≡ 0
lane_none ws a width j h z =
    let e : a + 0 * width + j / 32 ≡ a + j / 32 = omega arith in
    number_one (λ k. get_or ws (a + k * width + j / 32) 0) (j % 32)
    ∙ ap (λ (w : ℕ). bit_of w (j % 32)) (ap (λ (k : ℕ). get_or ws k 0) e ∙ z (j / 32) (omega arith)) ∙ none_bit (j % 32)

added_past : (r : ℕ) (way : Direction) (source : Source) (ws : List ℕ) (q j : ℕ) → r ≤ j → added r way source ws q j ≡ 0
added_past r way (One a) ws q j h = rw (le-ltb j r h) refl
added_past r way (Either a b) ws q j h = rw (le-ltb j r h) refl

-- the plane holds the row whose bits are the sums, modulo 2, of those that the positions add
pub parity_words : (p : Plan) (ws : List ℕ) → ((i : ℕ) → i < width p.r → get_or ws (p.into + i) 0 ≡ 0)
    → sum_words parity 1 p ws
    ≡ zeros (over ws p.into (words_of p.r (λ j. sum_by (λ q. added p.r p.direction p.source ws q j) (part ws p.at p.count) % 2))) p.scratch (room p.source * width p.r)
parity_words p ws z =
    let r = p.r in
    let row : ℕ → Row = added r p.direction p.source ws in
    let ps : List ℕ = part ws p.at p.count in
    let x : Row = λ j. sum_by (λ q. row q j) ps % 2 in
    let m : ℕ → ℕ = λ j. summed parity (lane ws p.into (width r) 1 j) (map row ps) j in
    let bits : (j : ℕ) → j < 32 * width r → m j % 2 ≡ x j = λ j l.
    summed_parity (map row ps) (lane ws p.into (width r) 1 j) j
    ∙ omega (arith, lane_none ws p.into (width r) j l z, sum_map row ps j) in
    let past : (j : ℕ) → r ≤ j → x j ≡ 0 = λ j h. ap (λ (k : ℕ). k % 2) (sum_none (λ q. row q j) ps (λ q. added_past r p.direction p.source ws q j h)) in
    let rows : planes (width r) m 1 ≡ words_of r x = plane_row r m x (λ j l. bits j l ∙ uncut r x j (past j)) in
    ap (λ (ys : List ℕ). zeros (over ws p.into ys) p.scratch (room p.source * width r)) rows

-- ---- what the positions add

below_two : (r q : ℕ) → q < 2 * r → index r q < r
below_two r q h = elim (cases_lt q r) [ inl l ↦ rw (lt-ltb q r l) l | inr l ↦ rw (le-ltb q r l) (omega arith) ]

turned_below : (r p : ℕ) (x y : Row) (j : ℕ) → p < r → j < r → ((k : ℕ) → k < r → x k ≡ y k) → cut r (rotated r (as_position r p) x) j ≡ rotated r p y j
turned_below r p x y j h l same =
    rw (lt-ltb j r l, lt-ltb p r h) (same ((j + (r - p % r)) % r) (mod_below (j + (r - p % r)) r (omega arith)))

module _ (r at count into scratch : ℕ) (ws : List ℕ) (z : (i : ℕ) → i < width r → get_or ws (into + i) 0 ≡ 0) where
  -- positions below r rotate the row x that lies at a: the plane is their product
  pub product_words : (a : ℕ) (x : Row) → ((j : ℕ) → j < r → row_at ws a j ≡ x j) → AllByRecursion (λ q. q < r) (part ws at count)
      → sum_words parity 1 (record { r = r; at = at; count = count; source = One a; direction = Up; into = into; scratch = scratch }) ws
      ≡ zeros (over ws into (words_of r (product r (part ws at count) x))) scratch (2 * width r)
  product_words a x row below =
      let ps : List ℕ = part ws at count in
      parity_words (record { r = r; at = at; count = count; source = One a; direction = Up; into = into; scratch = scratch }) ws z
      ∙ ap (λ (ys : List ℕ). zeros (over ws into ys) scratch (2 * width r)) (words_same r (λ j. sum_by (λ q. added r Up (One a) ws q j) ps % 2) (product r ps x) (λ j l.
      ap (λ (m : ℕ). m % 2) (sum_same (λ q. added r Up (One a) ws q j) (λ q. rotated r q x j) ps (All-weaker (λ q. q < r) (λ q. added r Up (One a) ws q j ≡ rotated r q x j) (λ q h. turned_below r q (row_at ws a) x j h l row) ps below))))

  -- positions below 2 r choose between the row x, at a, and the row y, at b
  pub either_words : (a b : ℕ) (x y : Row) → ((j : ℕ) → j < r → row_at ws a j ≡ x j) → ((j : ℕ) → j < r → row_at ws b j ≡ y j) → AllByRecursion (λ q. q < 2 * r) (part ws at count)
      → sum_words parity 1 (record { r = r; at = at; count = count; source = Either a b; direction = Up; into = into; scratch = scratch }) ws
      ≡ zeros (over ws into (words_of r (λ j. sum_by (λ q. rotated r (index r q) (cond (ltb q r) x y) j) (part ws at count) % 2))) scratch (3 * width r)
  either_words a b x y first second below =
      let ps : List ℕ = part ws at count in
      let row : ℕ → Row = λ q. rotated r (index r q) (cond (ltb q r) x y) in
      let same : (q j : ℕ) → j < r → q < 2 * r → added r Up (Either a b) ws q j ≡ row q j = λ q j l h.
      turned_below r (index r q) (cond (ltb q r) (row_at ws a) (row_at ws b)) (cond (ltb q r) x y) j (below_two r q h) l (λ k d. either_same (ltb q r) (row_at ws a) (row_at ws b) x y k (first k d) (second k d)) in
      parity_words (record { r = r; at = at; count = count; source = Either a b; direction = Up; into = into; scratch = scratch }) ws z
      ∙ ap (λ (ys : List ℕ). zeros (over ws into ys) scratch (3 * width r)) (words_same r (λ j. sum_by (λ q. added r Up (Either a b) ws q j) ps % 2) (λ j. sum_by (λ q. row q j) ps % 2) (λ j l.
      ap (λ (m : ℕ). m % 2) (sum_same (λ q. added r Up (Either a b) ws q j) (λ q. row q j) ps (All-weaker (λ q. q < 2 * r) (λ q. added r Up (Either a b) ws q j ≡ row q j) (λ q h. same q j l h) ps below))))

-- ---- the row of bit 0 alone

-- the word 1, and zeros after it
abbrev pub OneAt : ℕ → List ℕ → ℕ → Type 0
OneAt r ws a = (get_or ws a 0 ≡ 1) × ((i : ℕ) → 0 < i → i < width r → get_or ws (a + i) 0 ≡ 0)

pub one_bit : (j : ℕ) → bit_of 1 j ≡ unit j
one_bit zero = refl
one_bit (suc j) =
    let small : 1 < 2 ^ suc j = pow_below 0 (suc j) (omega arith) in
    ap (λ (x : ℕ). x % 2) (div-eq_of_lt small) ∙ sym (ap (λ (b : Bool). cond b 1 0) (ne_eqb (suc j) 0 (λ e. omega (arith, e))))

pub unit_row : (r : ℕ) (ws : List ℕ) (a j : ℕ) → OneAt r ws a → j < r → row_at ws a j ≡ unit j
unit_row r ws a j h l =
    elim (cases_lt j 32) [
      | inl d ↦
          let place : a + j / 32 ≡ a = omega arith in
          let lane_of : j % 32 ≡ j = omega arith in
          ap₂ bit_of (ap (λ (k : ℕ). get_or ws k 0) place ∙ h.0) lane_of ∙ one_bit j
      | inr d ↦
          ap (λ (w : ℕ). bit_of w (j % 32)) (h.1 (j / 32) (omega arith) (omega arith)) ∙ none_bit (j % 32)
          ∙ sym (ap (λ (b : Bool). cond b 1 0) (ne_eqb j 0 (λ e. omega (arith, e))))
    ]

one_last : (r : ℕ) (ws : List ℕ) (a : ℕ) → OneAt r ws a → get_or ws (a + (width r - 1)) 0 ≤ 1
one_last r ws a h =
    elim (cases_lt 0 (width r - 1)) [
      | inl d ↦ omega (arith, h.1 (width r - 1) d (omega arith))
      | inr d ↦ let place : a + (width r - 1) ≡ a = omega arith in rw place (omega (arith, h.0))
    ]

pub unit_tail : (r : ℕ) (ws : List ℕ) (a : ℕ) → OneAt r ws a → has_tail r ws a ≡ false
unit_tail r ws a h =
    elim (cases_eq (r % 32) 0) [
      | inl e ↦ rw (eq-eqb (r % 32) 0 e) refl
      | inr n ↦
          let past : get_or ws (a + (width r - 1)) 0 < 2 ^ (r % 32) = omega (arith, one_last r ws a h, pow_below 0 (r % 32) (omega (arith, n))) in
          rw (ne_eqb (r % 32) 0 n) (lt-leb (2 ^ (r % 32)) (get_or ws (a + (width r - 1)) 0) past)
    ]
