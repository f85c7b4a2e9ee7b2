-- A key is kept: its positions go to KEY, its row to OUT, and all that a load did in WORK is lost.
use Rattle.std.proofs.Common.{◌≡◌, ℕ, ◌*◌, ◌≤◌, Bool, true, false, cond, List, [], ◌∷◌, ◌++◌, length, None, Ok, Err, sym, ap, ◌∙◌, inl, inr, arith}
use Rattle.std.proofs.lemmas.List.FromFn.{length-map-range_with_len}
use Rattle.memory.specs.Words.{over}
use Rattle.memory.specs.Access.{Access, Seen, accessed}
use Rattle.memory.proofs.Traces.{accessed_then}
use Rattle.memory.proofs.Words.{length_over, length_zeros, zeros_inside, zeros_zeros, zeros_comm, part_out, part_over, part_zeros}
use Rattle.rows.specs.Rows.{product, row_at, word_of, words_of}
use Rattle.rows.specs.Fill.{part, copy_accesses}
use Rattle.rows.proofs.Loops.{size, length_part}
use Rattle.scheme.specs.declared.profile.Profile.{Profile}
use Rattle.scheme.specs.declared.fault.InputFault.{InputFault}
use Rattle.scheme.specs.declared.fault.InputFault.TheVariants.{NotInverse}
use Rattle.scheme.specs.declared.fault.BoxFault.TheVariants.{MemorySmall, SlipOut, Input}
use Rattle.scheme.specs.Faults.{input_told}
use Rattle.scheme.specs.Zones.{W, B, key_at, work_at, work_size, work_row, N}
use Rattle.keybox.specs.declared.call.Grant.TheVariants.{Rotations}
use Rattle.keybox.specs.Model.{State, Outcome, first, when, grants, small, with_words, rested, published, first_half, public_row, is_inverse, load_input_fault, load_fault, loaded_words, loading}
use Rattle.keybox.specs.Making.{products_made, is_unit, key_kept}
use Rattle.keybox.specs.Device.{Roomy, granted, checked}
use Rattle.keybox.specs.Accesses.{rest_accesses, publish_accesses, load_check_accesses, products_accesses, read_accesses, loaded_accesses, load_accesses}
use Rattle.keybox.proofs.Passing.{all_clear}
use Rattle.keybox.proofs.Units.{unit_words}
use Rattle.keybox.proofs.Working.{work_lost}

module _ (p : Profile) (s t u v : Seen) (at : ℕ) (is_at : at ≡ key_at p) (room : N p ≤ length s.words)
    (copies : t ≡ accessed s (copy_accesses 0 at (2 * p.d)) (over s.words at (part s.words 0 (2 * p.d))))
    (publishes : u ≡ accessed t (publish_accesses p 1) (published p (part t.words (work_row p 1) (W p)) t.words))
    (rests : v ≡ accessed u (rest_accesses p) (rested p u.words)) where
  pub kept_is : v ≡ accessed s (loaded_accesses p) (key_kept p s.words)
  unfolding loaded_accesses
  kept_is =
      let ws = s.words in
      let key = part ws 0 (2 * p.d) in
      let long : length key ≡ 2 * p.d = length_part ws 0 (2 * p.d) (omega arith) in
      let one : t ≡ accessed s (copy_accesses 0 (key_at p) (2 * p.d)) (over ws (key_at p) key) = copies ∙ ap (λ a. accessed s (copy_accesses 0 a (2 * p.d)) (over ws a key)) is_at in
      let held : t.words ≡ over ws (key_at p) key = ap (λ z. z.words) one in
      let row : part (over ws (key_at p) key) (work_row p 1) (W p) ≡ part ws (work_row p 1) (W p) = part_out ws (work_row p 1) (W p) (key_at p) key (inr (omega (arith, long))) in
      let two : u ≡ accessed t (publish_accesses p 1) (published p (part ws (work_row p 1) (W p)) (over ws (key_at p) key)) =
      publishes ∙ ap (accessed t (publish_accesses p 1)) (ap (λ z. published p (part z (work_row p 1) (W p)) z) held ∙ ap (λ z. published p z (over ws (key_at p) key)) row) in
      let three : v ≡ accessed u (rest_accesses p) (key_kept p ws) = rests ∙ ap (λ z. accessed u (rest_accesses p) (rested p z.words)) two in
      accessed_then s t v (copy_accesses 0 (key_at p) (2 * p.d)) (publish_accesses p 1 ++ rest_accesses p) _ _ one
      (accessed_then t u v (publish_accesses p 1) (rest_accesses p) _ _ two three)

-- what lies in the words once both products are made
module _ (p : Profile) (ws : List ℕ) (room : N p ≤ length ws) where
  abbrev first_row : List ℕ
  first_row = words_of p.r (product p.r (first_half p ws) (row_at ws (B p)))

  abbrev second_row : List ℕ
  second_row = words_of p.r (public_row p ws)

  first_long : length first_row ≡ W p
  first_long = length-map-range_with_len (word_of p.r (product p.r (first_half p ws) (row_at ws (B p)))) 0 (W p)

  second_long : length second_row ≡ W p
  second_long = length-map-range_with_len (word_of p.r (public_row p ws)) 0 (W p)

  abbrev one_made : List ℕ
  one_made = over (rested p ws) (work_row p 0) first_row

  first_there : part (products_made p ws) (work_row p 0) (W p) ≡ first_row
  first_there =
      part_out one_made (work_row p 0) (W p) (work_row p 1) second_row (inl (omega arith))
      ∙ ap (λ n. part one_made (work_row p 0) n) (sym first_long)
      ∙ part_over (rested p ws) (work_row p 0) first_row (omega (arith, length_zeros ws (work_at p) (work_size p), first_long))

  second_there : part (products_made p ws) (work_row p 1) (W p) ≡ second_row
  second_there =
      ap (λ n. part (products_made p ws) (work_row p 1) n) (sym second_long)
      ∙ part_over one_made (work_row p 1) second_row (omega (arith, length_over (rested p ws) (work_row p 0) first_row, length_zeros ws (work_at p) (work_size p), second_long))

  positions_there : part (products_made p ws) 0 (2 * p.d) ≡ part ws 0 (2 * p.d)
  positions_there =
      part_out one_made 0 (2 * p.d) (work_row p 1) second_row (inl (omega arith))
      ∙ part_out (rested p ws) 0 (2 * p.d) (work_row p 0) first_row (inl (omega arith))
      ∙ part_zeros ws 0 (2 * p.d) (work_at p) (work_size p) (inl (omega arith))

  -- the products are lost when WORK is zeroed
  pub products_lost : rested p (products_made p ws) ≡ rested p ws
  products_lost =
      zeros_inside one_made (work_row p 1) second_row (work_at p) (work_size p) (omega arith) (omega (arith, second_long))
      ∙ zeros_inside (rested p ws) (work_row p 0) first_row (work_at p) (work_size p) (omega arith) (omega (arith, first_long))
      ∙ zeros_zeros ws (work_at p) (work_size p) (work_at p) (work_size p) (omega arith) (omega arith)

  -- the first product is the row of bit 0 alone exactly where f is the inverse
  pub judged : is_unit (part (products_made p ws) (work_row p 0) (W p)) ≡ is_inverse p ws
  judged = ap is_unit first_there ∙ unit_words p.r (product p.r (first_half p ws) (row_at ws (B p))) (omega arith) (λ j _. omega arith)

  pub kept_words : key_kept p (products_made p ws) ≡ loaded_words p ws
  kept_words =
      let pm = products_made p ws in
      let key = part ws 0 (2 * p.d) in
      let long : length key ≡ 2 * p.d = length_part ws 0 (2 * p.d) (omega arith) in
      ap (λ row. rested p (published p row (over pm (key_at p) (part pm 0 (2 * p.d))))) second_there
      ∙ ap (λ qs. rested p (published p second_row (over pm (key_at p) qs))) positions_there
      ∙ work_lost p second_row (over pm (key_at p) key) (over ws (key_at p) key) second_long
      (zeros_comm pm (key_at p) key (work_at p) (work_size p) (inl (omega (arith, long))) ∙ ap (λ z. over z (key_at p) key) products_lost
      ∙ sym (zeros_comm ws (key_at p) key (work_at p) (work_size p) (inl (omega (arith, long)))))

-- none of the steps changes how many words there are
module _ (p : Profile) (m t u : Seen) (room : Roomy p m.words) (checks : t ≡ accessed m (load_check_accesses p 0) m.words)
    (makes : u ≡ accessed t (products_accesses p) (products_made p t.words)) where
  made_size : length u.words ≡ length m.words
  made_size =
      let ws = t.words in
      ap size makes
      ∙ length_over (one_made p ws (rw (ap size checks) room)) (work_row p 1) (words_of p.r (public_row p ws))
      ∙ length_over (rested p ws) (work_row p 0) (words_of p.r (product p.r (first_half p ws) (row_at ws (B p))))
      ∙ length_zeros ws (work_at p) (work_size p) ∙ ap size checks

  pub made_room : Roomy p u.words
  made_room = omega (arith, made_size, room)

  pub looked_room : (v : Seen) → v ≡ accessed u (read_accesses (work_row p 0) (W p)) u.words → Roomy p v.words
  looked_room v looks =
      let same : length v.words ≡ length u.words = ap size looks in
      omega (arith, same, made_size, room)

-- a load whose checks passed: both products, the look at the first one, and then one of two ways
module _ (s : State) (m t u v w : Seen) (b : Bool) (same : m.words ≡ s.words) (room : N s.profile ≤ length s.words) (x y : Unit {0})
    (ready : Ok x ≡ granted (first (when (small s) MemorySmall ∷ when s.out SlipOut ∷ [])))
    (clean : Ok y ≡ checked (load_input_fault s.profile m.words))
    (checks : t ≡ accessed m (load_check_accesses s.profile 0) m.words)
    (makes : u ≡ accessed t (products_accesses s.profile) (products_made s.profile t.words))
    (tests : b ≡ is_unit (part u.words (work_row s.profile 0) (W s.profile)))
    (looks : v ≡ accessed u (read_accesses (work_row s.profile 0) (W s.profile)) u.words) where
  made : u.words ≡ products_made s.profile s.words
  made = ap (λ z. z.words) makes ∙ ap (products_made s.profile) (ap (λ z. z.words) checks ∙ same)

  seen_made : v.words ≡ products_made s.profile s.words
  seen_made = ap (λ z. z.words) looks ∙ made

  outcome : b ≡ is_inverse s.profile s.words
  outcome = tests ∙ ap (λ ws. is_unit (part ws (work_row s.profile 0) (W s.profile))) made ∙ judged s.profile s.words room

  fine : load_fault s ≡ None
  fine =
      all_clear (small s) s.out (load_input_fault s.profile s.words) x y ready (clean ∙ ap (λ ws. checked (load_input_fault s.profile ws)) same)

  -- the accesses up to the branch, and those after it
  then_seen : (more : List Access) (ws : List ℕ) → w ≡ accessed v more ws
      → w ≡ accessed m (load_check_accesses s.profile 0 ++ (products_accesses s.profile ++ (read_accesses (work_row s.profile 0) (W s.profile) ++ more))) w.words
  then_seen more ws did =
      let p = s.profile in
      let look = read_accesses (work_row p 0) (W p) in
      accessed_then m t w (load_check_accesses p 0) (products_accesses p ++ (look ++ more)) m.words w.words checks
      (accessed_then t u w (products_accesses p) (look ++ more) _ w.words makes
      (accessed_then u v w look more u.words w.words looks (did ∙ ap (accessed v more) (sym (ap (λ z. z.words) did)))))

  module _ (n : ℕ) (turns : n ≡ 2 * s.profile.d) (is : b ≡ true) (keeps : w ≡ accessed v (loaded_accesses s.profile) (key_kept s.profile v.words)) where
    pub load_effect : record { answer = Ok (Rotations n); after = record { profile = s.profile; number = s.number; loaded = true; out = s.out; words = w.words } } ≡ loading s
    load_effect =
        let p = s.profile in
        let yes : Outcome = record { answer = Ok (Rotations (2 * p.d)); after = record { profile = p; number = s.number; loaded = true; out = s.out; words = loaded_words p s.words } } in
        let no : Outcome = record { answer = Err (Input (NotInverse (B p))); after = with_words s (rested p s.words) } in
        let left : w.words ≡ loaded_words p s.words = ap (λ z. z.words) keeps ∙ ap (key_kept p) seen_made ∙ kept_words p s.words room in
        (λ k. record { answer = Ok (Rotations (turns k)); after = record { profile = p; number = s.number; loaded = true; out = s.out; words = left k } })
        ∙ ap (λ c. cond c yes no) (sym is ∙ outcome) ∙ ap (λ f. grants f s (cond (is_inverse p s.words) yes no)) (sym fine)

    pub load_seen : w ≡ accessed m (load_accesses s.profile 0) w.words
    load_seen = then_seen (loaded_accesses s.profile) (key_kept s.profile v.words) keeps

  module _ (f : InputFault) (at : f ≡ NotInverse (B s.profile)) (is : b ≡ false) (rests : w ≡ accessed v (rest_accesses s.profile) (rested s.profile v.words)) where
    pub refused_effect : record { answer = Err (Input f); after = with_words s w.words } ≡ loading s
    refused_effect =
        let p = s.profile in
        let yes : Outcome = record { answer = Ok (Rotations (2 * p.d)); after = record { profile = p; number = s.number; loaded = true; out = s.out; words = loaded_words p s.words } } in
        let no : Outcome = record { answer = Err (Input (NotInverse (B p))); after = with_words s (rested p s.words) } in
        let left : w.words ≡ rested p s.words = ap (λ z. z.words) rests ∙ ap (rested p) seen_made ∙ products_lost p s.words room in
        (λ k. record { answer = Err (Input (at k)); after = with_words s (left k) })
        ∙ ap (λ c. cond c yes no) (sym is ∙ outcome) ∙ ap (λ f. grants f s (cond (is_inverse p s.words) yes no)) (sym fine)

    pub refused_seen : w ≡ accessed m (load_accesses s.profile (input_told f).number) w.words
    refused_seen =
        then_seen (rest_accesses s.profile) (rested s.profile v.words) rests ∙ ap (λ e. accessed m (load_accesses s.profile (input_told e).number) w.words) (sym at)
