-- The checks of a load, one after the other: which fault they come to, and the accesses up to there.
use Rattle.std.proofs.Common.{◌≡◌, ℕ, ◌+◌, ◌-◌, ◌*◌, leb, List, [], ◌∷◌, ◌++◌, get_or, Some, None, Option, Result, refl, ap, ◌∙◌}
use Rattle.std.specs.List.{range_with_len}
use Rattle.std.specs.Option.{option_map}
use Rattle.memory.specs.Access.{Access, Seen, accessed, get}
use Rattle.memory.proofs.Traces.{accessed_then}
use Rattle.scheme.specs.declared.profile.Profile.{Profile}
use Rattle.scheme.specs.declared.fault.InputFault.{InputFault}
use Rattle.scheme.specs.declared.fault.InputFault.TheVariants.{PositionRange, PositionTwice, InverseTail}
use Rattle.keybox.specs.Accesses.{read_accesses, pair_accesses, load_check_accesses}
use Rattle.keybox.specs.Device.{checked}
use Rattle.keybox.specs.Marks.{or_else}
use Rattle.keybox.specs.Model.{first, first_place, again_place, tail_place, load_input_fault}
use Rattle.scheme.specs.Zones.{W, B}

-- what the checks come to, where those of both halves are one
abbrev verdicts : Option ℕ → Option ℕ → Option ℕ → Result (Unit {0}) InputFault
verdicts range twice tail = checked (first (option_map PositionRange range ∷ option_map PositionTwice twice ∷ option_map InverseTail tail ∷ []))

-- and where they are two
abbrev each_half : Option ℕ → Option ℕ → Option ℕ → Option ℕ → Result (Unit {0}) InputFault
each_half range one two tail =
    checked (first (option_map PositionRange range ∷ option_map PositionTwice one ∷ option_map PositionTwice two ∷ option_map InverseTail tail ∷ []))

either_half : (range one two tail : Option ℕ) → verdicts range (or_else one two) tail ≡ each_half range one two tail
either_half (Some i) one two tail = refl
either_half None (Some i) two tail = refl
either_half None None (Some i) tail = refl
either_half None None None tail = refl

module _ (p : Profile) (s t u v : Seen)
    (in_range : None ≡ first_place (λ i. leb p.r (get_or s.words i 0)) (range_with_len 0 (2 * p.d)))
    (positions_read : t ≡ accessed s (read_accesses 0 (2 * p.d)) s.words)
    (first_read : u ≡ accessed t (pair_accesses 0 p.d) t.words)
    (second_read : v ≡ accessed u (pair_accesses p.d p.d) u.words) where
  -- all positions are in range: the next checks decide
  pub key_value : (start one twice tail : Option ℕ) → start ≡ None → one ≡ or_else start (again_place t.words 0 p.d) → twice ≡ or_else one (again_place u.words p.d p.d)
      → tail ≡ tail_place p v.words → verdicts None twice tail ≡ checked (load_input_fault p s.words)
  key_value start one twice tail none in_first in_second last =
      let same_t : t.words ≡ s.words = ap (λ z. z.words) positions_read in
      let same_u : u.words ≡ s.words = ap (λ z. z.words) first_read ∙ same_t in
      let same_v : v.words ≡ s.words = ap (λ z. z.words) second_read ∙ same_u in
      let left : one ≡ again_place s.words 0 p.d = in_first ∙ ap (λ o. or_else o (again_place t.words 0 p.d)) none ∙ ap (λ ws. again_place ws 0 p.d) same_t in
      let right : twice ≡ or_else one (again_place s.words p.d p.d) = in_second ∙ ap (λ ws. or_else one (again_place ws p.d p.d)) same_u in
      ap (λ o. verdicts None o tail) (right ∙ ap (λ o. or_else o (again_place s.words p.d p.d)) left)
      ∙ either_half None (again_place s.words 0 p.d) (again_place s.words p.d p.d) tail
      ∙ ap (each_half None (again_place s.words 0 p.d) (again_place s.words p.d p.d)) (last ∙ ap (tail_place p) same_v)
      ∙ ap (λ o. each_half o (again_place s.words 0 p.d) (again_place s.words p.d p.d) (tail_place p s.words)) in_range

  -- some accesses more, after those of the checks of both halves
  then_accesses : (w : Seen) (more : List Access) → w ≡ accessed v more v.words
      → w ≡ accessed s (read_accesses 0 (2 * p.d) ++ (pair_accesses 0 p.d ++ (pair_accesses p.d p.d ++ more))) s.words
  then_accesses w more did =
      let same_t : t.words ≡ s.words = ap (λ z. z.words) positions_read in
      let same_u : u.words ≡ s.words = ap (λ z. z.words) first_read ∙ same_t in
      let same_v : v.words ≡ s.words = ap (λ z. z.words) second_read ∙ same_u in
      accessed_then s t w (read_accesses 0 (2 * p.d)) (pair_accesses 0 p.d ++ (pair_accesses p.d p.d ++ more)) s.words s.words positions_read
      (accessed_then t u w (pair_accesses 0 p.d) (pair_accesses p.d p.d ++ more) t.words s.words first_read
      (accessed_then u v w (pair_accesses p.d p.d) more u.words s.words second_read (did ∙ ap (accessed v more) same_v)))

  pub pairs_did : v ≡ accessed s (load_check_accesses p 7) s.words
  pairs_did = then_accesses v [] refl

  pub key_did : (w : Seen) → w ≡ accessed v (get (B p + (W p - 1)) ∷ []) v.words → w ≡ accessed s (load_check_accesses p 0) s.words
  key_did w did = then_accesses w (get (B p + (W p - 1)) ∷ []) did
