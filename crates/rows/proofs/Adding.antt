-- A row added to numbers across planes: pack by pack the words of the columns, and at the end those of the planes.
use Rattle.std.proofs.Common.{◌≡◌, ℕ, zero, suc, ◌+◌, ◌-◌, ◌*◌, ◌/◌, ◌%◌, ◌^◌, ◌<◌, ◌≤◌, ◌≢◌, List, [], ◌∷◌, ◌++◌, length, get_or, sym, refl, ap, ◌∙◌, subst, ap₂, inl, inr, suc-mul, add-one, arith, ext_get_or}
use Rattle.std.proofs.lemmas.Nat.{mul-add-lt, mod-mul-add, mod_below, div_below, div-add-mod'}
use Rattle.std.proofs.lemmas.List.FromFn.{length-map-range_with_len, get_or-map-range_with_len}
use Rattle.std.proofs.lemmas.List.{length-append, get_or_append_left, get_or-append-add}
use Rattle.std.proofs.lemmas.Bool.{cases_eq, cases_lt}
use Rattle.memory.specs.Access.{Seen, accessed, get, put}
use Rattle.memory.specs.Words.{over, Apart}
use Rattle.memory.proofs.Traces.{accessed_then}
use Rattle.memory.proofs.Words.{length_over, over_out, over_in}
use Rattle.rows.specs.Rows.{bit_of, row_at}
use Rattle.rows.specs.Fill.{looped}
use Rattle.rows.specs.Lane.{number, lane, plane_word, plane_words, planes, column, column_over, column_accesses, pack_accesses, add_accesses}
use Rattle.rows.proofs.Bits.{bit_lt, packed_bit, packed_same, packed_of, number_bit, number_bits, number_same, number_of}
use Rattle.rows.proofs.Loops.{turned}
use Rattle.rows.proofs.Columns.{length_column_over, column_over_same, column_over_out, column_over_in}

-- ---- one pack

-- the planes of a pack are the words of their numbers
plane_is : (p : ℕ → ℕ) (n k : ℕ) → k < n → p k < 2 ^ 32 → p k ≡ plane_word (number p n) k
plane_is p n k h l =
    sym (packed_of (p k) l) ∙ packed_same (bit_of (p k)) (λ j. bit_of (number p n j) k) (λ j u. sym (number_bit p n j k h))

pub pack_added : (s t u v : Seen) (add : ℕ → ℕ → ℕ) (p q : ℕ → ℕ) (from a width n w : ℕ)
    → t ≡ accessed s (get from ∷ []) s.words → w ≡ get_or s.words from 0
    → u ≡ accessed t (column_accesses get a width n) t.words → ((k : ℕ) → k < n → q k ≡ column t.words a width k)
    → ((j : ℕ) → j < 32 → number p n j ≡ add (number q n j) (bit_of w j))
    → v ≡ accessed u (column_accesses put a width n) (column_over u.words p a width n) → ((k : ℕ) → k < n → p k < 2 ^ 32)
    → v ≡ accessed s (pack_accesses from a width n) (column_over s.words (plane_word (λ j. add (number (column s.words a width) n j) (bit_of (get_or s.words from 0) j))) a width n)
unfolding pack_accesses
pack_added s t u v add p q from a width n w d₁ e d₂ planes joined d₃ small =
    let ws = s.words in
    let m : ℕ → ℕ = λ j. add (number (column ws a width) n j) (bit_of (get_or ws from 0) j) in
    let t_words : t.words ≡ ws = ap (λ (z : Seen). z.words) d₁ in
    let u_words : u.words ≡ ws = ap (λ (z : Seen). z.words) d₂ ∙ t_words in
    let numbers : (j : ℕ) → j < 32 → number p n j ≡ m j = λ j h. joined j h ∙ ap₂ (λ (x y : ℕ). add x (bit_of y j))
    (number_same q (column ws a width) n j (λ k l. planes k l ∙ ap (λ (vs : List ℕ). column vs a width k) t_words)) e in
    let next : column_over u.words p a width n ≡ column_over ws (plane_word m) a width n
    = ap (λ (vs : List ℕ). column_over vs p a width n) u_words
    ∙ column_over_same ws p (plane_word m) a width n (λ k h. plane_is p n k h (small k h) ∙ packed_same (λ j. bit_of (number p n j) k) (λ j. bit_of (m j) k) (λ j l. ap (λ (x : ℕ). bit_of x k) (numbers j l))) in
    let d₂₃ = accessed_then t u v (column_accesses get a width n) (column_accesses put a width n) t.words (column_over ws (plane_word m) a width n) d₂ (d₃ ∙ ap (accessed u (column_accesses put a width n)) next) in
    accessed_then s t v (get from ∷ []) (column_accesses get a width n ++ column_accesses put a width n) ws (column_over ws (plane_word m) a width n) d₁ d₂₃

-- ---- a row, pack by pack

-- the words with the columns of the first w packs written, column v with the words p v
unfoldable pub packs_over : List ℕ → (ℕ → ℕ → ℕ) → ℕ → ℕ → ℕ → ℕ → List ℕ
packs_over ws p a width n zero = ws
packs_over ws p a width n (suc w) = column_over (packs_over ws p a width n w) (p w) (a + w) width n

packs_over_more : (ws : List ℕ) (p : ℕ → ℕ → ℕ) (a width n w : ℕ) → packs_over ws p a width n (w + 1) ≡ column_over (packs_over ws p a width n w) (p w) (a + w) width n
unfolding packs_over
packs_over_more ws p a width n w = rw add-one

pub length_packs_over : (ws : List ℕ) (p : ℕ → ℕ → ℕ) (a width n w : ℕ) → length (packs_over ws p a width n w) ≡ length ws
unfolding packs_over
length_packs_over ws p a width n zero = refl
length_packs_over ws p a width n (suc w) =
    length_column_over (packs_over ws p a width n w) (p w) (a + w) width n ∙ length_packs_over ws p a width n w

-- a place off the columns keeps its word
packs_over_out : (ws : List ℕ) (p : ℕ → ℕ → ℕ) (a width n w b : ℕ) → ((v k : ℕ) → v < w → k < n → b ≡ a + v + k * width → ⊥)
    → get_or (packs_over ws p a width n w) b 0 ≡ get_or ws b 0
unfolding packs_over
packs_over_out ws p a width n zero b h = refl
packs_over_out ws p a width n (suc w) b h =
    column_over_out (packs_over ws p a width n w) (p w) (a + w) width n b (λ k l. h w k (omega arith) l)
    ∙ packs_over_out ws p a width n w b (λ v k l. h v k (omega arith))

-- two columns have no place in common
columns_differ : (a width v w i k : ℕ) → v < width → w < width → v ≢ w → a + v + i * width ≡ a + w + k * width → ⊥
columns_differ a width v w i k hv hw ne e =
    let same : i * width + v ≡ k * width + w = omega (arith, e) in
    ne (sym (mod-mul-add i width v hv) ∙ ap (λ (x : ℕ). x % width) same ∙ mod-mul-add k width w hw)

pub column_within : (a width n w m : ℕ) → w < width → a + n * width ≤ m → (k : ℕ) → k < n → a + w + k * width < m
column_within a width n w m h l k d = omega (arith, mul-add-lt k width w n d h, l)

packs_over_in : (ws : List ℕ) (p : ℕ → ℕ → ℕ) (a width n w v k : ℕ) → w ≤ width → a + n * width ≤ length ws → v < w → k < n
    → get_or (packs_over ws p a width n w) (a + v + k * width) 0 ≡ p v k
unfolding packs_over
packs_over_in ws p a width n zero v k h l d u = absurd (omega arith)
packs_over_in ws p a width n (suc w) v k h l d u =
    let long = length_packs_over ws p a width n w in
    elim (cases_eq v w) [
      | inl e ↦ rw e (column_over_in (packs_over ws p a width n w) (p w) (a + w) width n k (omega arith) (column_within a width n w (length (packs_over ws p a width n w)) (omega arith) (omega (arith, long))) u)
      | inr ne ↦ column_over_out (packs_over ws p a width n w) (p w) (a + w) width n (a + v + k * width) (λ i t. columns_differ a width v w k i (omega arith) (omega arith) ne)
          ∙ packs_over_in ws p a width n w v k (omega arith) l (omega (arith, ne)) u
    ]

-- ---- all packs: the planes

pub length_planes : (width : ℕ) (m : ℕ → ℕ) (n : ℕ) → length (planes width m n) ≡ n * width
length_planes width m zero = omega arith
length_planes width m (suc n) =
    length-append (planes width m n) (plane_words width m n) ∙ ap₂ (λ (x y : ℕ). x + y) (length_planes width m n) (length-map-range_with_len (λ w. plane_word (λ j. m (32 * w + j)) n) 0 width) ∙ omega (arith, suc-mul n width)

pub planes_at : (width : ℕ) (m : ℕ → ℕ) (n k v : ℕ) → k < n → v < width → get_or (planes width m n) (k * width + v) 0 ≡ plane_word (λ j. m (32 * v + j)) k
planes_at width m zero k v h l = absurd (omega arith)
planes_at width m (suc n) k v h l =
    let long = length_planes width m n in
    let here = get_or-map-range_with_len (λ w. plane_word (λ j. m (32 * w + j)) n) 0 width v v 0 l (omega arith) in
    elim (cases_eq k n) [
      | inl e ↦ rw e (ap (λ (i : ℕ). get_or (planes width m n ++ plane_words width m n) (i + v) 0) (sym long) ∙ get_or-append-add (planes width m n) (plane_words width m n) v 0 ∙ here)
      | inr ne ↦ let below : k < n = omega (arith, ne) in
          get_or_append_left (planes width m n) (plane_words width m n) 0 (k * width + v) (omega (arith, long, mul-add-lt k width v n below l)) ∙ planes_at width m n k v below l
    ]

-- planes hold the numbers that they were written for
pub planes_lane : (ws : List ℕ) (a width : ℕ) (m : ℕ → ℕ) (n j : ℕ) → a + n * width ≤ length ws → j < 32 * width → m j < 2 ^ n → lane (over ws a (planes width m n)) a width n j ≡ m j
planes_lane ws a width m n j h l small =
    let long = length_planes width m n in
    let v : j / 32 < width = omega arith in
    let e : 32 * (j / 32) + j % 32 ≡ j = omega arith in
    number_of (λ k. get_or (over ws a (planes width m n)) (a + k * width + j / 32) 0) n (j % 32) (m j) small (λ k d.
    let place : a + k * width + j / 32 ≡ a + (k * width + j / 32) = omega arith in
    let word : get_or (over ws a (planes width m n)) (a + k * width + j / 32) 0 ≡ plane_word (λ i. m (32 * (j / 32) + i)) k
    = ap (λ (x : ℕ). get_or (over ws a (planes width m n)) x 0) place
    ∙ over_in ws a (planes width m n) (k * width + j / 32) (omega (arith, long)) (omega (arith, long, mul-add-lt k width (j / 32) n d v))
    ∙ planes_at width m n k (j / 32) d v in
    ap (λ (w : ℕ). bit_of w (j % 32)) word
    ∙ packed_bit (λ i. bit_of (m (32 * (j / 32) + i)) k) (j % 32) (λ i u. bit_lt (m (32 * (j / 32) + i)) k) (omega arith)
    ∙ ap (λ (i : ℕ). bit_of (m i) k) e)

row_some : (width i n : ℕ) → i < n * width → 0 < width
row_some zero i n h = absurd (omega arith)
row_some (suc width) i n h = omega arith

-- with every column of the planes written, the planes are
planes_over : (ws : List ℕ) (m : ℕ → ℕ) (a width n : ℕ) → a + n * width ≤ length ws
    → packs_over ws (λ w. plane_word (λ j. m (32 * w + j))) a width n width ≡ over ws a (planes width m n)
planes_over ws m a width n h =
    let p : ℕ → ℕ → ℕ = λ w. plane_word (λ j. m (32 * w + j)) in
    let long = length_planes width m n in
    ext_get_or 0 (packs_over ws p a width n width) (over ws a (planes width m n)) (length_packs_over ws p a width n width ∙ sym (length_over ws a (planes width m n))) (λ i l.
    elim (cases_lt i a) [
      | inl u ↦ packs_over_out ws p a width n width i (λ v k hv hk e. omega (arith, e, u)) ∙ sym (over_out ws a (planes width m n) i (inl u))
      | inr u ↦ elim (cases_lt i (a + n * width)) [
        | inr d ↦ packs_over_out ws p a width n width i (λ v k hv hk e. omega (arith, e, d, mul-add-lt k width v n hk hv)) ∙ sym (over_out ws a (planes width m n) i (inr (omega (arith, long))))
        | inl d ↦
            let some : 0 < width = row_some width (i - a) n (omega arith) in
            let v : (i - a) % width < width = mod_below (i - a) width some in
            let k : (i - a) / width < n = div_below (i - a) width n some (omega arith) in
            let split : i ≡ a + (i - a) % width + (i - a) / width * width = omega (arith, div-add-mod' (i - a) width) in
            let joined : a + (i - a) % width + (i - a) / width * width ≡ a + ((i - a) / width * width + (i - a) % width) = omega arith in
            ap (λ (x : ℕ). get_or (packs_over ws p a width n width) x 0) split
            ∙ packs_over_in ws p a width n width ((i - a) % width) ((i - a) / width) (omega arith) h v k
            ∙ sym (planes_at width m n ((i - a) / width) ((i - a) % width) k v)
            ∙ sym (over_in ws a (planes width m n) ((i - a) / width * width + (i - a) % width) (omega (arith, long)) (omega (arith, long, mul-add-lt ((i - a) / width) width ((i - a) % width) n k v)))
            ∙ ap (λ (x : ℕ). get_or (over ws a (planes width m n)) x 0) (sym (split ∙ joined))
      ]
    ])

-- ---- the loop over the packs of a row

-- a memory once the first w packs of the row at `from` were added
abbrev pub Added : (ℕ → ℕ → ℕ) → Seen → Seen → ℕ → ℕ → ℕ → ℕ → ℕ → Type 0
Added add s t from a width n w =
    t ≡ accessed s (looped (λ v. pack_accesses (from + v) (a + v) width n) w) (packs_over s.words (λ v. plane_word (λ j. add (lane s.words a width n (32 * v + j)) (row_at s.words from (32 * v + j)))) a width n w)

pub added_none : (add : ℕ → ℕ → ℕ) (s : Seen) (from a width n : ℕ) → Added add s s from a width n 0
unfolding packs_over
added_none add s from a width n = refl

pub added_more : (add : ℕ → ℕ → ℕ) (s t u : Seen) (from a width n w : ℕ) → w < width → Apart from width a (n * width)
    → Added add s t from a width n w
    → u ≡ accessed t (pack_accesses (from + w) (a + w) width n) (column_over t.words (plane_word (λ j. add (number (column t.words (a + w) width) n j) (bit_of (get_or t.words (from + w) 0) j))) (a + w) width n)
    → Added add s u from a width n (w + 1)
added_more add s t u from a width n w h o inv did =
    let ws = s.words in
    let m : ℕ → ℕ = λ j. add (lane ws a width n j) (row_at ws from j) in
    let p : ℕ → ℕ → ℕ = λ v. plane_word (λ j. m (32 * v + j)) in
    let old : List ℕ = packs_over ws p a width n w in
    let t_words : t.words ≡ old = ap (λ (z : Seen). z.words) inv in
    let row : get_or old (from + w) 0 ≡ get_or ws (from + w) 0
    = packs_over_out ws p a width n w (from + w) (λ v k hv hk e. elim o [ inl u ↦ omega (arith, e, u) | inr u ↦ omega (arith, e, u, mul-add-lt k width v n hk (omega arith)) ]) in
    let lanes : (k : ℕ) → k < n → column old (a + w) width k ≡ get_or ws (a + k * width + w) 0
    = λ k l. packs_over_out ws p a width n w (a + w + k * width) (λ v i hv hi e. columns_differ a width w v k i h (omega arith) (omega arith) e) ∙ ap (λ (x : ℕ). get_or ws x 0) (omega arith) in
    let numbers : (j : ℕ) → j < 32 → add (number (column old (a + w) width) n j) (bit_of (get_or old (from + w) 0) j) ≡ m (32 * w + j)
    = λ j l.
    let place : (32 * w + j) / 32 ≡ w = omega arith in
    let lane_of : (32 * w + j) % 32 ≡ j = omega arith in
    ap₂ add
    (number_bits (column old (a + w) width) (λ k. get_or ws (a + k * width + (32 * w + j) / 32) 0) n j ((32 * w + j) % 32) (λ k d. ap₂ (λ (x i : ℕ). bit_of x i) (lanes k d ∙ ap (λ (v : ℕ). get_or ws (a + k * width + v) 0) (sym place)) (sym lane_of)))
    (ap₂ (λ (x i : ℕ). bit_of x i) (row ∙ ap (λ (v : ℕ). get_or ws (from + v) 0) (sym place)) (sym lane_of)) in
    let next : column_over t.words (plane_word (λ j. add (number (column t.words (a + w) width) n j) (bit_of (get_or t.words (from + w) 0) j))) (a + w) width n ≡ packs_over ws p a width n (w + 1)
    = ap (λ (vs : List ℕ). column_over vs (plane_word (λ j. add (number (column vs (a + w) width) n j) (bit_of (get_or vs (from + w) 0) j))) (a + w) width n) t_words
    ∙ column_over_same old (plane_word (λ j. add (number (column old (a + w) width) n j) (bit_of (get_or old (from + w) 0) j))) (p w) (a + w) width n (λ k d. packed_same (λ j. bit_of (add (number (column old (a + w) width) n j) (bit_of (get_or old (from + w) 0) j)) k) (λ j. bit_of (m (32 * w + j)) k) (λ j l. ap (λ (x : ℕ). bit_of x k) (numbers j l)))
    ∙ sym (packs_over_more ws p a width n w) in
    turned s t u (λ v. pack_accesses (from + v) (a + v) width n) w old (packs_over ws p a width n (w + 1)) inv (did ∙ ap (accessed t (pack_accesses (from + w) (a + w) width n)) next)

pub added_all : (add : ℕ → ℕ → ℕ) (s t : Seen) (from a width n w : ℕ) → w ≡ width → a + n * width ≤ length s.words
    → Added add s t from a width n w
    → t ≡ accessed s (add_accesses from a width n) (over s.words a (planes width (λ j. add (lane s.words a width n j) (row_at s.words from j)) n))
unfolding add_accesses
added_all add s t from a width n w e h inv =
    let all : Added add s t from a width n width = subst (λ (x : ℕ). Added add s t from a width n x) e inv in
    all ∙ ap (accessed s (looped (λ v. pack_accesses (from + v) (a + v) width n) width)) (planes_over s.words (λ j. add (lane s.words a width n j) (row_at s.words from j)) a width n h)
