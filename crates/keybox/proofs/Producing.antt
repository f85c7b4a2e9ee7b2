-- Both products of a load, made one after the other in rows of WORK that are zero before.
use Rattle.std.proofs.Common.{◌≡◌, ℕ, ◌+◌, ◌-◌, ◌*◌, ◌/◌, ◌%◌, ◌^◌, ◌<◌, ◌≤◌, min, false, cond, eqb, leb, List, ◌++◌, length, get_or, drop, replicate, None, sym, ap, ◌∙◌, subst, inl, inr, arith, length-drop, length-take, ext_get_or}
use lib.ListN.{length-replicate}
use Rattle.std.specs.List.{AllByRecursion}
use Rattle.std.proofs.lemmas.List.FromFn.{length-map-range_with_len}
use Rattle.std.proofs.lemmas.List.{get_or-replicate}
use Rattle.memory.specs.Words.{over, zeros}
use Rattle.memory.proofs.Words.{length_over, over_out, length_zeros, zeros_in, zeros_out, part_at}
use Rattle.rows.specs.Rows.{bit_of, product, row_at, word_of, words_of, has_tail}
use Rattle.rows.specs.Fill.{part}
use Rattle.rows.specs.Sum.{Fits, sum_words, sum_accesses}
use Rattle.rows.proofs.Products.{parity, product_words}
use Rattle.scheme.specs.declared.profile.Profile.{Profile}
use Rattle.scheme.specs.Zones.{W, B, work_at, work_row, N}
use Rattle.memory.specs.Access.{Seen, accessed}
use Rattle.memory.proofs.Traces.{accessed_then}
use Rattle.rows.specs.declared.plan.Plan.{Plan}
use Rattle.keybox.specs.Model.{rested, first_half, second_half, load_input_fault}
use Rattle.keybox.specs.Making.{products_made}
use Rattle.keybox.specs.Device.{Roomy}
use Rattle.keybox.specs.Accesses.{load_plan, rest_accesses, products_accesses}
use Rattle.keybox.proofs.Keys.{load_passes, load_positions, first_below, second_below}
use Rattle.keybox.proofs.Parts.{zeros_same}
use Rattle.keybox.proofs.Passing.{unset}

-- the words of a load's work so far: below WORK they are as they were, and WORK is zero from its word n on
record Fresh (p : Profile) (ws vs : List ℕ) (n : ℕ) : Type 0 where
  pub size : length vs ≡ length ws
  pub below : (j : ℕ) → j < work_at p → get_or vs j 0 ≡ get_or ws j 0
  pub clear : (j : ℕ) → n ≤ j → j < 12 * W p → get_or vs (work_at p + j) 0 ≡ 0

-- at first all of WORK is zero
fresh_first : (p : Profile) (ws : List ℕ) (n : ℕ) → Fresh p ws (rested p ws) n
fresh_first p ws n = record {
  size = length_zeros ws (work_at p) (12 * W p);
  below = λ j h. zeros_out ws (work_at p) (12 * W p) j (inl h);
  clear = λ j _ h. zeros_in ws (work_at p) (12 * W p) j h;
}

-- then a row of it is written
fresh_next : (p : Profile) (ws vs row : List ℕ) (n m : ℕ) → length row ≡ W p → n + W p ≤ m → Fresh p ws vs n → Fresh p ws (over vs (work_at p + n) row) m
fresh_next p ws vs row n m long after f = record {
  size = length_over vs (work_at p + n) row ∙ f.size;
  below = λ j h. over_out vs (work_at p + n) row j (inl (omega arith)) ∙ f.below j h;
  clear = λ j l h. over_out vs (work_at p + n) row (work_at p + j) (inr (omega (arith, long))) ∙ f.clear j (omega arith) h;
}

module _ (p : Profile) (ws vs : List ℕ) (at i : ℕ) (fresh : Fresh p ws vs (i * W p)) (here : at + p.d ≤ 2 * p.d) (early : i * W p + W p ≤ 3 * W p) (room : N p ≤ length ws) where
  positions_there : part vs at p.d ≡ part ws at p.d
  positions_there =
      let e : length (part vs at p.d) ≡ length (part ws at p.d) = simp (length-take, length-drop) (ap (λ (n : ℕ). min p.d (n - at)) fresh.size) in
      ext_get_or 0 (part vs at p.d) (part ws at p.d) e (λ j l.
      let k : j < p.d = omega (arith, length-take p.d (drop at vs)) in
      part_at vs at p.d j k ∙ fresh.below (at + j) (omega arith) ∙ sym (part_at ws at p.d j k))

  row_there : (j : ℕ) → j < p.r → row_at vs (B p) j ≡ row_at ws (B p) j
  row_there j h = ap (λ w. bit_of w (j % 32)) (fresh.below (B p + j / 32) (omega arith))

  -- the room of the sum is zero before it, and after it
  room_zero : (row : List ℕ) → length row ≡ W p → zeros (over vs (work_row p i) row) (work_row p 3) (2 * W p) ≡ over vs (work_row p i) row
  room_zero row long =
      let us = over vs (work_row p i) row in
      let size : length us ≡ length ws = length_over vs (work_row p i) row ∙ fresh.size in
      zeros_same us (work_row p 3) (2 * W p) (
      ext_get_or 0 (part us (work_row p 3) (2 * W p)) (replicate (2 * W p) 0) (simp (length-take, length-drop, length-replicate) (omega (arith, size))) (λ j l.
      let k : j < 2 * W p = omega (arith, length-take (2 * W p) (drop (work_row p 3) us)) in
      let place : work_row p 3 + j ≡ work_at p + (3 * W p + j) = omega arith in
      part_at us (work_row p 3) (2 * W p) j k
      ∙ over_out vs (work_row p i) row (work_row p 3 + j) (inr (omega (arith, long)))
      ∙ ap (λ (a : ℕ). get_or vs a 0) place ∙ fresh.clear (3 * W p + j) (omega arith) (omega arith)
      ∙ sym (get_or-replicate (2 * W p) j 0 0 k)))

  -- what the sum leaves: the product in its row
  product_made : AllByRecursion (λ q. q < p.r) (part ws at p.d)
      → sum_words parity 1 (load_plan p at i) vs ≡ over vs (work_row p i) (words_of p.r (product p.r (part ws at p.d) (row_at ws (B p))))
  product_made inside =
      let x = product p.r (part ws at p.d) (row_at ws (B p)) in
      let empty : (j : ℕ) → j < W p → get_or vs (work_row p i + j) 0 ≡ 0 = λ j h.
      let place : work_row p i + j ≡ work_at p + (i * W p + j) = omega arith in
      ap (λ (a : ℕ). get_or vs a 0) place ∙ fresh.clear (i * W p + j) (omega arith) (omega arith) in
      product_words p.r at p.d (work_row p i) (work_row p 3) vs empty (B p) (row_at ws (B p)) row_there (rw positions_there inside)
      ∙ ap (λ qs. zeros (over vs (work_row p i) (words_of p.r (product p.r qs (row_at ws (B p))))) (work_row p 3) (2 * W p)) positions_there
      ∙ room_zero (words_of p.r x) (length-map-range_with_len (word_of p.r x) 0 (W p))

  -- the sum has what it needs
  plan_fits : has_tail p.r ws (B p) ≡ false → Fits 1 (load_plan p at i) vs
  plan_fits whole =
      let long = fresh.size in
      let tail : has_tail p.r vs (B p) ≡ false = ap (λ w. cond (eqb (p.r % 32) 0) false (leb (2 ^ (p.r % 32)) w)) (fresh.below (B p + (W p - 1)) (omega arith)) ∙ whole in
      record {
        long = omega arith;
        some = omega arith;
        positions = omega arith;
        result = omega arith;
        space = omega arith;
        positions_result = inl (omega arith);
        positions_space = inl (omega arith);
        result_space = inl (omega arith);
        rows_result = (omega arith, inl (omega arith), tail);
        rows_space = (omega arith, inl (omega arith), tail);
      }

-- the row of a load that passed its checks has no bit past its end
whole : (p : Profile) (ws : List ℕ) → load_input_fault p ws ≡ None → has_tail p.r ws (B p) ≡ false
whole p ws e = unset _ _ (load_passes p ws e).tail

-- the three steps, one after the other
module _ (p : Profile) (s a : Seen) (room : Roomy p s.words) (passed : load_input_fault p s.words ≡ None)
    (rests : a ≡ accessed s (rest_accesses p) (rested p s.words)) where
  begun : Fresh p s.words a.words (0 * W p)
  begun = subst (λ vs. Fresh p s.words vs (0 * W p)) (sym (ap (λ z. z.words) rests)) (fresh_first p s.words (0 * W p))

  pub first_fits : (plan : Plan) → plan ≡ load_plan p 0 0 → Fits 1 plan a.words
  first_fits plan is_plan =
      subst (λ q. Fits 1 q a.words) (sym is_plan) (plan_fits p s.words a.words 0 0 begun (omega arith) (omega arith) room (whole p s.words passed))

  abbrev first_row : List ℕ
  first_row = words_of p.r (product p.r (first_half p s.words) (row_at s.words (B p)))

  module _ (plan : Plan) (b : Seen) (is_plan : plan ≡ load_plan p 0 0) (sums : b ≡ accessed a (sum_accesses 1 plan) (sum_words parity 1 plan a.words)) where
    first_made : b ≡ accessed a (sum_accesses 1 (load_plan p 0 0)) (over a.words (work_row p 0) first_row)
    first_made =
        sums ∙ ap (λ q. accessed a (sum_accesses 1 q) (sum_words parity 1 q a.words)) is_plan
        ∙ ap (accessed a (sum_accesses 1 (load_plan p 0 0)))
        (product_made p s.words a.words 0 0 begun (omega arith) (omega arith) room (first_below p s.words (load_positions p s.words passed)))

    begun_again : Fresh p s.words b.words (1 * W p)
    begun_again =
        let long = length-map-range_with_len (word_of p.r (product p.r (first_half p s.words) (row_at s.words (B p)))) 0 (W p) in
        subst (λ vs. Fresh p s.words vs (1 * W p)) (sym (ap (λ z. z.words) first_made)) (fresh_next p s.words a.words first_row (0 * W p) (1 * W p) long (omega arith) begun)

    pub second_fits : (plan : Plan) → plan ≡ load_plan p p.d 1 → Fits 1 plan b.words
    second_fits plan is_plan =
        subst (λ q. Fits 1 q b.words) (sym is_plan) (plan_fits p s.words b.words p.d 1 begun_again (omega arith) (omega arith) room (whole p s.words passed))

    module _ (next : Plan) (c : Seen) (is_next : next ≡ load_plan p p.d 1) (sums_again : c ≡ accessed b (sum_accesses 1 next) (sum_words parity 1 next b.words)) where
      pub made_is : c ≡ accessed s (products_accesses p) (products_made p s.words)
      unfolding products_accesses
      made_is =
          let second_row = words_of p.r (product p.r (second_half p s.words) (row_at s.words (B p))) in
          let words : b.words ≡ over (rested p s.words) (work_row p 0) first_row = ap (λ z. z.words) first_made ∙ ap (λ z. over z.words (work_row p 0) first_row) rests in
          let second_made : c ≡ accessed b (sum_accesses 1 (load_plan p p.d 1)) (products_made p s.words) =
          sums_again ∙ ap (λ q. accessed b (sum_accesses 1 q) (sum_words parity 1 q b.words)) is_next
          ∙ ap (accessed b (sum_accesses 1 (load_plan p p.d 1)))
          (product_made p s.words b.words p.d 1 begun_again (omega arith) (omega arith) room (second_below p s.words (load_positions p s.words passed))
          ∙ ap (λ z. over z (work_row p 1) second_row) words) in
          accessed_then s a c (rest_accesses p) (sum_accesses 1 (load_plan p 0 0) ++ sum_accesses 1 (load_plan p p.d 1)) _ _ rests
          (accessed_then a b c (sum_accesses 1 (load_plan p 0 0)) (sum_accesses 1 (load_plan p p.d 1)) _ _ first_made second_made)
