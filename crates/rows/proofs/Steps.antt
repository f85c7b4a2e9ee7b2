-- One position of a sum: its row is chosen, rotated in the room, and added. What the parts did, joined into one promise.
use Rattle.std.proofs.Common.{◌≡◌, ℕ, ◌+◌, ◌-◌, ◌*◌, ◌/◌, ◌%◌, ◌<◌, ◌≤◌, Bool, true, false, cond, ltb, List, [], ◌∷◌, ◌++◌, length, get_or, replicate, sym, refl, ap, ◌∙◌, ap₂, inl, inr, arith, length-take}
use lib.ListN.{length-replicate}
use Rattle.std.proofs.lemmas.Nat.{mod_below}
use Rattle.std.proofs.lemmas.List.FromFn.{length-map-range_with_len, get_or-map-range_with_len}
use Rattle.std.proofs.lemmas.List.{length-append, get_or_append_left}
use Rattle.std.proofs.lemmas.Bool.{cond_both, ltb-true}
use Rattle.memory.specs.Access.{Access, Seen, accessed, get}
use Rattle.memory.specs.Words.{over, zeros, Apart}
use Rattle.memory.proofs.Traces.{accessed_then}
use Rattle.memory.proofs.Words.{length_over, over_in, part_at, zeros_inside}
use Rattle.rows.specs.declared.plan.Direction.{Direction}
use Rattle.rows.specs.declared.plan.Direction.TheVariants.{Up, Down}
use Rattle.rows.specs.declared.plan.Source.{Source}
use Rattle.rows.specs.declared.plan.Source.TheVariants.{One, Either}
use Rattle.rows.specs.declared.plan.Plan.{Plan}
use Rattle.rows.specs.Rows.{Row, bit_of, rotated, cut, row_at, width, word_of, words_of, has_tail}
use Rattle.rows.specs.Masks.{chosen}
use Rattle.rows.specs.Lane.{lane, planes, add_accesses}
use Rattle.rows.specs.Fill.{part}
use Rattle.rows.specs.Turn.{Turnable, rotate_accesses}
use Rattle.rows.specs.Sum.{as_position, half, index, turn, added, room, but_room, chosen_at, chosen_words, position_in, choice_accesses, step_words, step_accesses, RowsApart, Fits}
use Rattle.rows.proofs.Bits.{packed_bit, bit_lt}
use Rattle.rows.proofs.Loops.{length_part}
use Rattle.rows.proofs.Rooms.{rotated_same, tail_same, planes_over_same}

-- ---- the position

as_position_lt : (r w : ℕ) → 0 < r → as_position r w < r
as_position_lt r w some = cond_both (ltb w r) w 0 (λ x. x < r) (λ e. ltb-true w r e) (λ e. some)

pub position_lt : (r : ℕ) (source : Source) (q : ℕ) → 0 < r → position_in r source q < r
position_lt r (One a) q some = as_position_lt r q some
position_lt r (Either a b) q some = as_position_lt r (index r q) some

turn_lt : (r : ℕ) (way : Direction) (p : ℕ) → p < r → turn r way p < r
turn_lt r Up p h = h
turn_lt r Down p h = mod_below (r - p) r (omega arith)

-- ---- the row chosen

-- a copy of a row has its bits
copied_row : (r : ℕ) (ws : List ℕ) (a to j : ℕ) → a + width r ≤ length ws → to + width r ≤ length ws → j < r → row_at (over ws to (part ws a (width r))) to j ≡ row_at ws a j
copied_row r ws a to j h l d =
    let long = length_part ws a (width r) h in
    let in' : j / 32 < width r = omega arith in
    ap (λ (w : ℕ). bit_of w (j % 32)) (over_in ws to (part ws a (width r)) (j / 32) (omega (arith, long)) (omega (arith, long)) ∙ part_at ws a (width r) (j / 32) in')

either_row : (r i : ℕ) (ws : List ℕ) (a b to j : ℕ) (t : Bool) → 0 < r → a + width r ≤ length ws → b + width r ≤ length ws → to + width r ≤ length ws
    → cut r (rotated r i (row_at (over ws to (part ws (chosen (cond t 0 1) b a) (width r))) to)) j ≡ cut r (rotated r i (cond t (row_at ws a) (row_at ws b))) j
either_row r i ws a b to j true some ha hb ht = rotated_same r i (row_at (over ws to (part ws a (width r))) to) (row_at ws a) j some (λ k l. copied_row r ws a to k ha ht l)
either_row r i ws a b to j false some ha hb ht = rotated_same r i (row_at (over ws to (part ws b (width r))) to) (row_at ws b) j some (λ k l. copied_row r ws b to k hb ht l)

-- rotated by its position, the row chosen is the row that the position adds
chosen_row : (r : ℕ) (way : Direction) (source : Source) (scratch q : ℕ) (ws : List ℕ) (j : ℕ) → 0 < r
    → scratch + room source * width r ≤ length ws → RowsApart r source ws scratch (room source * width r)
    → cut r (rotated r (turn r way (position_in r source q)) (row_at (chosen_words r source scratch q ws) (chosen_at r source scratch))) j ≡ added r way source ws q j
chosen_row r way (One a) scratch q ws j some h o = refl
chosen_row r way (Either a b) scratch q ws j some h o =
    either_row r (turn r way (as_position r (index r q))) ws a b (scratch + 2 * width r) j (ltb q r) some o.0.0 o.1.0 (omega (arith, h))

part_le : (ws : List ℕ) (c n : ℕ) → length (part ws c n) ≤ n
part_le ws c n = simp length-take (omega arith)

-- the choice writes to the room alone
chosen_same : (r : ℕ) (source : Source) (scratch q : ℕ) (ws : List ℕ) → RowsApart r source ws scratch (room source * width r)
    → zeros (chosen_words r source scratch q ws) scratch (room source * width r) ≡ zeros ws scratch (room source * width r)
chosen_same r (One a) scratch q ws o = refl
chosen_same r (Either a b) scratch q ws o =
    zeros_inside ws (scratch + 2 * width r) (part ws (chosen (half r q) b a) (width r)) scratch (3 * width r) (omega arith) (omega (arith, part_le ws (chosen (half r q) b a) (width r)))

pub length_chosen : (r : ℕ) (source : Source) (scratch q : ℕ) (ws : List ℕ) → length (chosen_words r source scratch q ws) ≡ length ws
length_chosen r (One a) scratch q ws = refl
length_chosen r (Either a b) scratch q ws = length_over ws (scratch + 2 * width r) (part ws (chosen (half r q) b a) (width r))

-- ---- the row rotated

copied_tail : (r : ℕ) (ws : List ℕ) (a to : ℕ) → 0 < r → a + width r ≤ length ws → to + width r ≤ length ws → has_tail r (over ws to (part ws a (width r))) to ≡ has_tail r ws a
copied_tail r ws a to some h l =
    let long = length_part ws a (width r) h in
    let in' : width r - 1 < width r = omega arith in
    tail_same r (over ws to (part ws a (width r))) ws to a (over_in ws to (part ws a (width r)) (width r - 1) (omega (arith, long)) (omega (arith, long)) ∙ part_at ws a (width r) (width r - 1) in')

either_tail : (r : ℕ) (ws : List ℕ) (a b to : ℕ) (t : Bool) → 0 < r → a + width r ≤ length ws → b + width r ≤ length ws → to + width r ≤ length ws → has_tail r ws a ≡ false → has_tail r ws b ≡ false
    → has_tail r (over ws to (part ws (chosen (cond t 0 1) b a) (width r))) to ≡ false
either_tail r ws a b to true some ha hb ht ea eb = copied_tail r ws a to some ha ht ∙ ea
either_tail r ws a b to false some ha hb ht ea eb = copied_tail r ws b to some hb ht ∙ eb

-- the row chosen can be rotated in the room
chosen_turnable : (r : ℕ) (source : Source) (scratch q by : ℕ) (ws : List ℕ) → 2 ≤ r → by < r
    → scratch + room source * width r ≤ length ws → RowsApart r source ws scratch (room source * width r)
    → Turnable r (chosen_at r source scratch) scratch by (chosen_words r source scratch q ws)
chosen_turnable r (One a) scratch q by ws long lt space o =
    record { long = long; by = lt; source = o.0; space = space; apart = o.1; tail = o.2 }
chosen_turnable r (Either a b) scratch q by ws long lt space o =
    let size = length_chosen r (Either a b) scratch q ws in
    record {
      long = long;
      by = lt;
      source = omega (arith, size, space);
      space = omega (arith, size, space);
      apart = inr (omega arith);
      tail = either_tail r ws a b (scratch + 2 * width r) (ltb q r) (omega arith) o.0.0 o.1.0 (omega (arith, space)) o.0.2 o.1.2;
    }

pub turnable : (n : ℕ) (p : Plan) (ws vs us : List ℕ) (q from pos by : ℕ) → Fits n p ws → vs ≡ ws → us ≡ chosen_words p.r p.source p.scratch q vs
    → from ≡ chosen_at p.r p.source p.scratch → pos ≡ position_in p.r p.source q → by ≡ turn p.r p.direction pos
    → Turnable p.r from p.scratch by us
turnable n p ws vs us q from pos by f ev eu ef ep eb =
    let some : 0 < p.r = omega (arith, f.long) in
    let lt : turn p.r p.direction pos < p.r = turn_lt p.r p.direction pos (rw ep (position_lt p.r p.source q some)) in
    rw (eu, ev, ef, eb) (chosen_turnable p.r p.source p.scratch q (turn p.r p.direction pos) ws f.long lt f.space f.rows_space)

cut_lt : (r : ℕ) (x : Row) (j : ℕ) → x j < 2 → cut r x j < 2
cut_lt r x j h = cond_both (ltb j r) (x j) 0 (λ b. b < 2) (λ e. h) (λ e. omega arith)

length_laid : (r : ℕ) (x : Row) → length (words_of r x ++ replicate (width r) 0) ≡ 2 * width r
length_laid r x =
    length-append (words_of r x) (replicate (width r) 0)
    ∙ omega (arith, length-map-range_with_len (word_of r x) 0 (width r), length-replicate {A = ℕ} (width r) 0)

-- the bits of a row that was laid in the room
laid_row : (r : ℕ) (x : Row) (us : List ℕ) (to j : ℕ) → ((i : ℕ) → x i < 2) → to + 2 * width r ≤ length us → j < 32 * width r
    → row_at (over us to (words_of r x ++ replicate (width r) 0)) to j ≡ cut r x j
laid_row r x us to j bits h l =
    let ys : List ℕ = words_of r x ++ replicate (width r) 0 in
    let short : length (words_of r x) ≡ width r = length-map-range_with_len (word_of r x) 0 (width r) in
    let long : length ys ≡ 2 * width r = length_laid r x in
    let in' : j / 32 < width r = omega arith in
    let word : get_or (over us to ys) (to + j / 32) 0 ≡ word_of r x (j / 32)
    = over_in us to ys (j / 32) (omega (arith, long)) (omega (arith, long))
    ∙ get_or_append_left (words_of r x) (replicate (width r) 0) 0 (j / 32) (omega (arith, short))
    ∙ get_or-map-range_with_len (word_of r x) 0 (width r) (j / 32) (j / 32) 0 in' (omega arith) in
    let e : 32 * (j / 32) + j % 32 ≡ j = omega arith in
    ap (λ (w : ℕ). bit_of w (j % 32)) word
    ∙ packed_bit (λ i. cut r x (32 * (j / 32) + i)) (j % 32) (λ i d. cut_lt r x (32 * (j / 32) + i) (bits (32 * (j / 32) + i))) (omega arith)
    ∙ ap (cut r x) e

-- ---- the row added

room_two : (source : Source) (n : ℕ) → 2 * n ≤ room source * n
room_two (One a) n = omega arith
room_two (Either a b) n = omega arith

room_holds : (source : Source) (n : ℕ) → n ≤ room source * n
room_holds source n = omega (arith, room_two source n)

-- the result lies apart from the row that is added
pub row_apart : (n : ℕ) (p : Plan) (ws : List ℕ) → Fits n p ws → Apart p.scratch (width p.r) p.into (n * width p.r)
row_apart n p ws f =
    let holds = room_holds p.source (width p.r) in
    elim f.result_space [ inl u ↦ inr u | inr u ↦ inl (omega arith) ]

pub row_within : (n : ℕ) (p : Plan) (ws : List ℕ) → Fits n p ws → p.scratch + width p.r ≤ length ws
row_within n p ws f = omega (arith, f.space, room_holds p.source (width p.r))

-- what was rotated in the room is added, and the words outside the room are those with the position's row added
laid_added : (add : ℕ → ℕ → ℕ) (n : ℕ) (p : Plan) (ws : List ℕ) (q : ℕ) → Fits n p ws
    → let r = p.r in let us = chosen_words r p.source p.scratch q ws in
    let x = rotated r (turn r p.direction (position_in r p.source q)) (row_at us (chosen_at r p.source p.scratch)) in
    let vs = over us p.scratch (words_of r x ++ replicate (width r) 0) in
    but_room p (over vs p.into (planes (width r) (λ j. add (lane vs p.into (width r) n j) (row_at vs p.scratch j)) n))
    ≡ but_room p (over ws p.into (planes (width r) (λ j. add (lane ws p.into (width r) n j) (added r p.direction p.source ws q j)) n))
laid_added add n p ws q f =
    let r = p.r in
    let some : 0 < r = omega (arith, f.long) in
    let us : List ℕ = chosen_words r p.source p.scratch q ws in
    let by : ℕ = turn r p.direction (position_in r p.source q) in
    let x : Row = rotated r by (row_at us (chosen_at r p.source p.scratch)) in
    let ys : List ℕ = words_of r x ++ replicate (width r) 0 in
    let rows : ℕ = room p.source * width r in
    let two = room_two p.source (width r) in
    let long = length_chosen r p.source p.scratch q ws in
    let space : p.scratch + 2 * width r ≤ length us = omega (arith, long, f.space) in
    let same : but_room p (over us p.scratch ys) ≡ but_room p ws
    = zeros_inside us p.scratch ys p.scratch rows (omega arith) (omega (arith, length_laid r x)) ∙ chosen_same r p.source p.scratch q ws f.rows_space in
    planes_over_same add n p (over us p.scratch ys) ws (row_at (over us p.scratch ys) p.scratch) (added r p.direction p.source ws q) f same (λ j l.
    laid_row r x us p.scratch j (λ i. bit_lt (get_or us (chosen_at r p.source p.scratch + ((i + (r - by % r)) % r) / 32) 0) (((i + (r - by % r)) % r) % 32)) space l
    ∙ chosen_row r p.direction p.source p.scratch q ws j some f.space f.rows_space)

-- ---- what the parts of a step did, one after another: s at first, t after the get, u after the choice, v after the rotation, w after the addition
module _ (add : ℕ → ℕ → ℕ) (n : ℕ) (p : Plan) (i : ℕ) (s t u v w : Seen) (q from pos by : ℕ)
    (got : t ≡ accessed s (get (p.at + i) ∷ []) s.words) (word : q ≡ get_or s.words (p.at + i) 0)
    (chose : u ≡ accessed t (choice_accesses p.r p.source p.scratch) (chosen_words p.r p.source p.scratch q t.words))
    (place : from ≡ chosen_at p.r p.source p.scratch) (position : pos ≡ position_in p.r p.source q) (amount : by ≡ turn p.r p.direction pos)
    (turned : v ≡ accessed u (rotate_accesses p.r from p.scratch) (over u.words p.scratch (words_of p.r (rotated p.r by (row_at u.words from)) ++ replicate (width p.r) 0)))
    (summed : w ≡ accessed v (add_accesses p.scratch p.into (width p.r) n) (over v.words p.into (planes (width p.r) (λ j. add (lane v.words p.into (width p.r) n j) (row_at v.words p.scratch j)) n))) where
  pub step_did : w ≡ accessed s (step_accesses n p i) w.words
  unfolding step_accesses
  step_did =
      let a₂ : List Access = choice_accesses p.r p.source p.scratch in
      let a₃ : List Access = rotate_accesses p.r (chosen_at p.r p.source p.scratch) p.scratch in
      let a₄ : List Access = add_accesses p.scratch p.into (width p.r) n in
      let d₃ : v ≡ accessed u a₃ v.words = turned ∙ ap₂ (λ (f : ℕ) (ws : List ℕ). accessed u (rotate_accesses p.r f p.scratch) ws) place (sym (ap (λ (z : Seen). z.words) turned)) in
      let d₄ : w ≡ accessed v a₄ w.words = summed ∙ ap (accessed v a₄) (sym (ap (λ (z : Seen). z.words) summed)) in
      let d₃₄ = accessed_then u v w a₃ a₄ v.words w.words d₃ d₄ in
      let d₂₄ = accessed_then t u w a₂ (a₃ ++ a₄) (chosen_words p.r p.source p.scratch q t.words) w.words chose d₃₄ in
      accessed_then s t w (get (p.at + i) ∷ []) (a₂ ++ (a₃ ++ a₄)) s.words w.words got d₂₄

  pub step_left : Fits n p s.words → but_room p w.words ≡ but_room p (step_words add n p i s.words)
  step_left f =
      let r = p.r in
      let ws = s.words in
      let x : ℕ = get_or ws (p.at + i) 0 in
      let us : List ℕ = chosen_words r p.source p.scratch x ws in
      let k : ℕ = turn r p.direction (position_in r p.source x) in
      let laid : ℕ → ℕ → List ℕ → List ℕ = λ b a zs. over zs p.scratch (words_of r (rotated r b (row_at zs a)) ++ replicate (width r) 0) in
      let sums : List ℕ → List ℕ = λ zs. over zs p.into (planes (width r) (λ j. add (lane zs p.into (width r) n j) (row_at zs p.scratch j)) n) in
      let u_words : u.words ≡ us
      = ap (λ (z : Seen). z.words) chose ∙ ap₂ (λ (y : ℕ) (zs : List ℕ). chosen_words r p.source p.scratch y zs) word (ap (λ (z : Seen). z.words) got) in
      let k_is : by ≡ k = amount ∙ ap (turn r p.direction) (position ∙ ap (position_in r p.source) word) in
      let v_words : v.words ≡ laid k (chosen_at r p.source p.scratch) us
      = ap (λ (z : Seen). z.words) turned ∙ ap₂ (λ (b a : ℕ). laid b a u.words) k_is place ∙ ap (laid k (chosen_at r p.source p.scratch)) u_words in
      ap (λ (z : Seen). but_room p z.words) summed ∙ ap (λ (zs : List ℕ). but_room p (sums zs)) v_words ∙ laid_added add n p ws x f
