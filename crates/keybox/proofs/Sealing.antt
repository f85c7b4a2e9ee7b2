-- What a seal does once its checks passed: the sum that it makes is e0 + g·e1, and its work in WORK is lost under the zeros that it ends with.
use Rattle.std.proofs.Common.{◌≡◌, ℕ, ◌+◌, ◌-◌, ◌*◌, ◌/◌, ◌%◌, ◌^◌, ◌<◌, ◌≤◌, true, false, cond, eqb, ltb, leb, List, [], ◌∷◌, ◌++◌, map, length, get_or, drop, set, replicate, None, Ok, sum_by, sym, refl, ap, ◌∙◌, subst, inl, inr, mod-eq_of_lt, arith, length-set, length-take, get_or-set_other, get_or-set_same}
use native.Mathlib.Nat.{mod_self, add-mod_right}
use lib.ListN.{length-replicate}
use Rattle.std.specs.List.{AllByRecursion, range_with_len}
use Rattle.std.proofs.lemmas.List.Sums.{sum_by-cons}
use Rattle.std.proofs.ByRecursion.{All-from_get_or}
use Rattle.std.proofs.lemmas.Bool.{cases_lt, cases_order, leb-false, lt-ltb, le-ltb, le-leb, lt-leb, eq-eqb, ne_eqb}
use Rattle.memory.specs.Words.{over, zeros}
use Rattle.memory.specs.Access.{Seen, accessed, put}
use Rattle.memory.proofs.Traces.{accessed_then}
use Rattle.memory.proofs.Words.{over_set, zeros_inside, zeros_zeros, part_over, length_zeros, zeros_in, zeros_out, part_at, part_out, part_zeros}
use Rattle.rows.specs.Rows.{Row, bit_of, unit, rotated, kept, row_at, word_of, words_of, has_tail}
use Rattle.std.proofs.lemmas.List.FromFn.{length-map-range_with_len}
use Rattle.scheme.specs.declared.fault.BoxFault.TheVariants.{MemorySmall, SlipOut}
use Rattle.keybox.specs.declared.call.Grant.TheVariants.{Rotations}
use Rattle.keybox.specs.Device.{Roomy, granted, checked}
use Rattle.keybox.proofs.Passing.{none_found, all_passed, unset, all_clear}
use Rattle.keybox.proofs.Working.{work_lost}
use Rattle.rows.specs.Sum.{index}
use Rattle.scheme.specs.declared.profile.Profile.{Profile}
use Rattle.std.specs.Option.{option_map}
use Rattle.scheme.specs.declared.fault.InputFault.TheVariants.{ErrorRange, ErrorTwice, PublicTail}
use Rattle.rows.specs.Fill.{part}
use Rattle.rows.specs.Sum.{Fits, sum_words, sum_accesses}
use Rattle.rows.proofs.Products.{parity, OneAt, unit_row, unit_tail, either_words, words_same}
use Rattle.rows.specs.declared.plan.Plan.{Plan}
use Rattle.keybox.specs.Accesses.{seal_plan, rest_accesses, publish_accesses, sealed_accesses, seal_check_accesses, seal_accesses}
use Rattle.keybox.specs.Model.{State, first, when, grants, small, with_words, seal_fault, sealing, first_place, again_place, tail_place, seal_input_fault, left_half, right_half, public_syndrome, rested, published, sealed_words}
use Rattle.scheme.specs.Zones.{W, B, work_at, work_size, work_row, N}

-- the row of bit 0 alone rotated by q has bit q alone
unit_rotated : (r q j : ℕ) → q < r → j < r → rotated r q unit j ≡ cond (eqb q j) 1 0
unit_rotated r q j h k =
    let small : q % r ≡ q = mod-eq_of_lt h in
    let here : rotated r q unit j ≡ unit ((j + (r - q)) % r) = ap (λ z. unit ((j + (r - z)) % r)) small in
    elim (cases_order q j) [
      | inl e ↦
          let round : (j + (r - q)) % r ≡ 0 = ap (λ z. z % r) (omega arith) ∙ mod_self r in
          here ∙ (ap unit round ∙ ap (λ b. cond b 1 0) (sym (eq-eqb q j e)))
      | inr (inl l) ↦
          let more : (j + (r - q)) % r ≡ j - q = ap (λ z. z % r) (omega arith) ∙ (add-mod_right (j - q) r ∙ mod-eq_of_lt (omega arith)) in
          here ∙ (ap unit more ∙ (ap (λ b. cond b 1 0) (ne_eqb (j - q) 0 (λ z. omega arith) ∙ sym (ne_eqb q j (λ z. omega arith)))))
      | inr (inr l) ↦
          let more : (j + (r - q)) % r ≡ j + (r - q) = mod-eq_of_lt (omega arith) in
          here ∙ (ap unit more ∙ (ap (λ b. cond b 1 0) (ne_eqb (j + (r - q)) 0 (λ z. omega arith) ∙ sym (ne_eqb q j (λ z. omega arith)))))
    ]

-- the rotations by all positions, each of the row of its half, add up to e0 and g·e1
both_halves : (r : ℕ) (qs : List ℕ) (g : Row) (j : ℕ) → j < r
    → sum_by (λ q. rotated r (index r q) (cond (ltb q r) unit g) j) qs ≡ sum_by (λ q. cond (eqb q j) 1 0) (left_half r qs) + sum_by (λ q. rotated r q g j) (right_half r qs)
both_halves r [] g j k = refl
both_halves r (q ∷ qs) g j k =
    let F : ℕ → ℕ = λ x. rotated r (index r x) (cond (ltb x r) unit g) j in
    let E : ℕ → ℕ = λ x. cond (eqb x j) 1 0 in
    let G : ℕ → ℕ = λ x. rotated r x g j in
    let ih = both_halves r qs g j k in
    let one = sum_by-cons F q qs in
    elim (cases_lt q r) [
      | inl h ↦
          let low : ltb q r ≡ true = lt-ltb q r h in
          let first : F q ≡ E q = ap (λ b. rotated r (cond b q (q - r)) (cond b unit g) j) low ∙ unit_rotated r q j h k in
          let left : sum_by E (left_half r (q ∷ qs)) ≡ E q + sum_by E (left_half r qs) = ap (λ b. sum_by E (cond b (q ∷ left_half r qs) (left_half r qs))) low ∙ sum_by-cons E q (left_half r qs) in
          let right : sum_by G (right_half r (q ∷ qs)) ≡ sum_by G (right_half r qs) =
          ap (λ b. sum_by G (map (λ x. x - r) (cond b (q ∷ kept (λ x. leb r x) qs) (kept (λ x. leb r x) qs)))) (lt-leb r q h) in
          omega (arith, one, first, left, right, ih)
      | inr h ↦
          let high : ltb q r ≡ false = le-ltb q r h in
          let first : F q ≡ G (q - r) = ap (λ b. rotated r (cond b q (q - r)) (cond b unit g) j) high in
          let left : sum_by E (left_half r (q ∷ qs)) ≡ sum_by E (left_half r qs) = ap (λ b. sum_by E (cond b (q ∷ left_half r qs) (left_half r qs))) high in
          let right : sum_by G (right_half r (q ∷ qs)) ≡ G (q - r) + sum_by G (right_half r qs) =
          ap (λ b. sum_by G (map (λ x. x - r) (cond b (q ∷ kept (λ x. leb r x) qs) (kept (λ x. leb r x) qs)))) (le-leb r q h) ∙ sum_by-cons G (q - r) (right_half r qs) in
          omega (arith, one, first, left, right, ih)
    ]

-- the public syndrome of an error row, as the sum of one rotation for each of its positions
pub syndrome_is : (r : ℕ) (qs : List ℕ) (g : Row) (j : ℕ) → j < r
    → sum_by (λ q. rotated r (index r q) (cond (ltb q r) unit g) j) qs % 2 ≡ public_syndrome r qs g j
syndrome_is r qs g j k =
    let e = both_halves r qs g j k in
    omega (arith, e)

module _ (p : Profile) (ws : List ℕ) (room : N p ≤ length ws) where
  -- the words that the sum begins with: WORK zero but for the row of bit 0 alone
  abbrev prepared : List ℕ
  prepared = set (rested p ws) (work_row p 0) 1

  length_prepared : length prepared ≡ length ws
  length_prepared = length-set (rested p ws) (work_row p 0) 1 ∙ length_zeros ws (work_at p) (work_size p)

  -- the zones below WORK are as they were
  below_work : (i : ℕ) → i < work_at p → get_or prepared i 0 ≡ get_or ws i 0
  below_work i h = get_or-set_other (rested p ws) (work_row p 0) i 1 0 (λ e. omega arith) ∙ zeros_out ws (work_at p) (work_size p) i (inl h)

  unit_there : OneAt p.r prepared (work_row p 0)
  unit_there = (
    get_or-set_same (rested p ws) (work_row p 0) 1 0 (rw length_zeros (omega arith)),
    λ i some few.
        let at : work_row p 0 + i ≡ work_at p + i = omega arith in
        get_or-set_other (rested p ws) (work_row p 0) (work_row p 0 + i) 1 0 (λ e. omega arith)
        ∙ (ap (λ j. get_or (rested p ws) j 0) at ∙ zeros_in ws (work_at p) (work_size p) i (omega arith)),
  )

  -- the row that the sum is made in is zero
  sum_empty : (i : ℕ) → i < W p → get_or prepared (work_row p 2 + i) 0 ≡ 0
  sum_empty i h =
      let at : work_row p 2 + i ≡ work_at p + (2 * W p + i) = omega arith in
      get_or-set_other (rested p ws) (work_row p 0) (work_row p 2 + i) 1 0 (λ e. omega arith)
      ∙ (ap (λ j. get_or (rested p ws) j 0) at ∙ zeros_in ws (work_at p) (work_size p) (2 * W p + i) (omega arith))

  positions_there : part prepared 0 p.t ≡ part ws 0 p.t
  positions_there =
      part_out (rested p ws) 0 p.t (work_row p 0) (1 ∷ []) (inl (omega arith)) ∙ part_zeros ws 0 p.t (work_at p) (work_size p) (inl (omega arith))

  row_there : (j : ℕ) → j < p.r → row_at prepared (B p) j ≡ row_at ws (B p) j
  row_there j h = ap (λ w. bit_of w (j % 32)) (below_work (B p + j / 32) (omega arith))

  module _ (passed : seal_input_fault p ws ≡ None) where
    in_range : AllByRecursion (λ q. q < 2 * p.r) (part prepared 0 p.t)
    in_range =
        let found : first_place (λ i. leb (2 * p.r) (get_or ws i 0)) (range_with_len 0 p.t) ≡ None = (all_passed ErrorRange _ _ passed).0 in
        All-from_get_or (λ q. q < 2 * p.r) (part prepared 0 p.t) 0 (λ i h.
        let few : i < p.t = omega (arith, length-take p.t (drop 0 prepared)) in
        let word : get_or (part prepared 0 p.t) i 0 ≡ get_or ws i 0 =
        part_at prepared 0 p.t i few ∙ (ap (λ j. get_or prepared j 0) (omega arith) ∙ below_work i (omega arith)) in
        rw word (leb-false (2 * p.r) (get_or ws i 0) (none_found _ 0 p.t found i (omega arith) (omega arith))))

    whole : has_tail p.r ws (B p) ≡ false
    whole =
        let range = first_place (λ i. leb (2 * p.r) (get_or ws i 0)) (range_with_len 0 p.t) in
        let twice = again_place ws 0 p.t in
        let tail = option_map PublicTail (tail_place p ws) ∷ [] in
        unset _ _ (all_passed PublicTail (tail_place p ws) [] (all_passed ErrorTwice twice tail (all_passed ErrorRange range (option_map ErrorTwice twice ∷ tail) passed).1).1).0

    -- what the sum leaves
    pub summed_up : sum_words parity 1 (seal_plan p) prepared
        ≡ zeros (over prepared (work_row p 2) (words_of p.r (public_syndrome p.r (part ws 0 p.t) (row_at ws (B p))))) (work_row p 3) (3 * W p)
    summed_up =
        let r = p.r in
        let g = row_at ws (B p) in
        either_words r 0 p.t (work_row p 2) (work_row p 3) prepared sum_empty (work_row p 0) (B p) unit g (λ j h. unit_row r prepared (work_row p 0) j unit_there h) row_there in_range
        ∙ ap (λ ys. zeros (over prepared (work_row p 2) ys) (work_row p 3) (3 * W p))
        (words_same r _ (public_syndrome r (part ws 0 p.t) g) (λ j h. syndrome_is r (part prepared 0 p.t) g j h ∙ ap (λ qs. public_syndrome r qs g j) positions_there))

    pub fits : Fits 1 (seal_plan p) prepared
    fits =
        let long = length_prepared in
        let tail : has_tail p.r prepared (B p) ≡ false = ap (λ w. cond (eqb (p.r % 32) 0) false (leb (2 ^ (p.r % 32)) w)) (below_work (B p + (W p - 1)) (omega arith)) ∙ whole in
        let one = unit_tail p.r prepared (work_row p 0) unit_there in
        record {
          long = omega arith;
          some = omega arith;
          positions = omega arith;
          result = omega arith;
          space = omega arith;
          positions_result = inl (omega arith);
          positions_space = inl (omega arith);
          result_space = inl (omega arith);
          rows_result = ((omega arith, inl (omega arith), one), (omega arith, inl (omega arith), tail));
          rows_space = ((omega arith, inl (omega arith), one), (omega arith, inl (omega arith), tail));
        }

  -- nothing of the sum is left in WORK in the end
  rest_after : (acc : List ℕ) → length acc ≡ W p → rested p (zeros (over prepared (work_row p 2) acc) (work_row p 3) (3 * W p)) ≡ rested p ws
  rest_after acc long =
      let inside : work_row p 0 < work_at p + length {A = ℕ} (replicate (work_size p) 0) = simp length-replicate (omega arith) in
      zeros_zeros (over prepared (work_row p 2) acc) (work_row p 3) (3 * W p) (work_at p) (work_size p) (omega arith) (omega arith)
      ∙ (zeros_inside prepared (work_row p 2) acc (work_at p) (work_size p) (omega arith) (omega arith)
      ∙ (over_set (rested p ws) (work_row p 0) 1 (work_at p) (replicate (work_size p) 0) (omega arith) inside
      ∙ zeros_zeros ws (work_at p) (work_size p) (work_at p) (work_size p) (omega arith) (omega arith)))

-- the five steps of a seal, one after the other
module _ (p : Profile) (s a b : Seen) (plan : Plan) (at : ℕ) (is_plan : plan ≡ seal_plan p) (is_at : at ≡ work_row p 0)
    (room : Roomy p s.words) (passed : seal_input_fault p s.words ≡ None)
    (rests : a ≡ accessed s (rest_accesses p) (rested p s.words))
    (Puts-one : b ≡ accessed a (put at ∷ []) (set a.words at 1)) where
  one_put : b ≡ accessed a (put (work_row p 0) ∷ []) (prepared p s.words room)
  one_put =
      Puts-one ∙ (ap (λ i. accessed a (put i ∷ []) (set a.words i 1)) is_at ∙ ap (λ z. accessed a (put (work_row p 0) ∷ []) (set z.words (work_row p 0) 1)) rests)

  -- the sum has what it needs
  pub sum_fits : Fits 1 plan b.words
  sum_fits =
      let words : prepared p s.words room ≡ b.words = sym (ap (λ z. z.words) one_put) in
      subst (λ q. Fits 1 q b.words) (sym is_plan) (subst (Fits 1 (seal_plan p)) words (fits p s.words room passed))

  module _ (c d e : Seen)
      (sums : c ≡ accessed b (sum_accesses 1 plan) (sum_words parity 1 plan b.words))
      (publishes : d ≡ accessed c (publish_accesses p 2) (published p (part c.words (work_row p 2) (W p)) c.words))
      (rests_again : e ≡ accessed d (rest_accesses p) (rested p d.words)) where
    pub sealed_is : e ≡ accessed s (sealed_accesses p) (sealed_words p s.words)
    unfolding sealed_accesses
    sealed_is =
        let ws = s.words in
        let row = words_of p.r (public_syndrome p.r (part ws 0 p.t) (row_at ws (B p))) in
        let long : length row ≡ W p = length-map-range_with_len (word_of p.r (public_syndrome p.r (part ws 0 p.t) (row_at ws (B p)))) 0 (W p) in
        let left = zeros (over (prepared p ws room) (work_row p 2) row) (work_row p 3) (3 * W p) in
        let two : c ≡ accessed b (sum_accesses 1 (seal_plan p)) left =
        sums ∙ (ap (λ q. accessed b (sum_accesses 1 q) (sum_words parity 1 q b.words)) is_plan
        ∙ ap (accessed b (sum_accesses 1 (seal_plan p))) (ap (λ z. sum_words parity 1 (seal_plan p) z.words) one_put ∙ summed_up p ws room passed)) in
        let kept : c.words ≡ left = ap (λ z. z.words) two in
        let there : part left (work_row p 2) (W p) ≡ row =
        part_zeros (over (prepared p ws room) (work_row p 2) row) (work_row p 2) (W p) (work_row p 3) (3 * W p) (inl (omega arith))
        ∙ (ap (λ n. part (over (prepared p ws room) (work_row p 2) row) (work_row p 2) n) (sym long)
        ∙ part_over (prepared p ws room) (work_row p 2) row (omega (arith, length_prepared p ws room, long))) in
        let three : d ≡ accessed c (publish_accesses p 2) (published p row left) =
        publishes ∙ ap (accessed c (publish_accesses p 2)) (ap (λ z. published p (part z (work_row p 2) (W p)) z) kept ∙ ap (λ z. published p z left) there) in
        let four : e ≡ accessed d (rest_accesses p) (sealed_words p ws) =
        rests_again ∙ ap (accessed d (rest_accesses p)) (ap (λ z. rested p z.words) three ∙ work_lost p row left ws long (rest_after p ws room row long)) in
        let last = publish_accesses p 2 ++ rest_accesses p in
        let later = sum_accesses 1 (seal_plan p) ++ last in
        accessed_then s a e (rest_accesses p) (put (work_row p 0) ∷ later) _ _ rests
        (accessed_then a b e (put (work_row p 0) ∷ []) later _ _ one_put (accessed_then b c e (sum_accesses 1 (seal_plan p)) last _ _ two (accessed_then c d e (publish_accesses p 2) (rest_accesses p) _ _ three four)))

-- a seal: its checks, which passed, and its work
module _ (s : State) (m t u : Seen) (n : ℕ) (same : m.words ≡ s.words) (x y : Unit {0})
    (ready : Ok x ≡ granted (first (when (small s) MemorySmall ∷ when s.out SlipOut ∷ [])))
    (clean : Ok y ≡ checked (seal_input_fault s.profile m.words))
    (checks : t ≡ accessed m (seal_check_accesses s.profile 0) m.words)
    (turns : n ≡ s.profile.t)
    (works : u ≡ accessed t (sealed_accesses s.profile) (sealed_words s.profile t.words)) where
  left : u.words ≡ sealed_words s.profile s.words
  left = ap (λ z. z.words) works ∙ ap (sealed_words s.profile) (ap (λ z. z.words) checks ∙ same)

  pub seal_effect : record { answer = Ok (Rotations n); after = with_words s u.words } ≡ sealing s
  seal_effect =
      let clean' : Ok y ≡ checked (seal_input_fault s.profile s.words) = clean ∙ ap (λ ws. checked (seal_input_fault s.profile ws)) same in
      let fine : seal_fault s ≡ None = all_clear (small s) s.out (seal_input_fault s.profile s.words) x y ready clean' in
      (λ k. record { answer = Ok (Rotations (turns k)); after = with_words s (left k) })
      ∙ ap (λ f. grants f s (record { answer = Ok (Rotations s.profile.t); after = with_words s (sealed_words s.profile s.words) })) (sym fine)

  pub seal_seen : u ≡ accessed m (seal_accesses s.profile 0) u.words
  seal_seen =
      accessed_then m t u (seal_check_accesses s.profile 0) (sealed_accesses s.profile) m.words u.words checks
      (works ∙ ap (accessed t (sealed_accesses s.profile)) (sym (ap (λ z. z.words) works)))
