-- What the checks of a load say of the key that it reads: its words are positions of a row, and none stands twice in its half.
use Rattle.std.proofs.Common.{List, None, Option, Some, [], ap, arith, drop, false, get_or, leb, length-take, refl, take, ℕ, ◌*◌, ◌+◌, ◌<◌, ◌∙◌, ◌≡◌}
use Rattle.std.specs.Option.{option_map}
use Rattle.std.specs.List.{range_with_len, AllByRecursion}
use Rattle.std.proofs.ByRecursion.{All-from_get_or, All-take, All-drop}
use Rattle.std.proofs.lemmas.List.{get_or-take, take-take, drop-take}
use Rattle.std.proofs.lemmas.Bool.{leb-false}
use Rattle.rows.specs.Fill.{part}
use Rattle.scheme.specs.declared.profile.Profile.{Profile}
use Rattle.scheme.specs.declared.fault.InputFault.TheVariants.{PositionRange, PositionTwice, InverseTail}
use Rattle.keybox.specs.Model.{first_place, again, again_place, tail_place, load_input_fault, first_half, second_half}
use Rattle.keybox.specs.Runs.{Positions}
use Rattle.keybox.proofs.Passing.{none_found, all_passed}

-- the two halves of the first 2n words
first_of : (n : ℕ) (xs : List ℕ) → take n (take (2 * n) xs) ≡ take n xs
first_of n xs = take-take n (2 * n) xs (omega arith)

second_of : (n : ℕ) (xs : List ℕ) → drop n (take (2 * n) xs) ≡ take n (drop n xs)
second_of n xs = let e : 2 * n ≡ n + n = omega arith in ap (λ m. drop n (take m xs)) e ∙ drop-take n n xs

-- each of the four checks found nothing
pub record Passes (p : Profile) (ws : List ℕ) : Type 0 where
  pub range : first_place (λ i. leb p.r (get_or ws i 0)) (range_with_len 0 (2 * p.d)) ≡ None
  pub one : again_place ws 0 p.d ≡ None
  pub two : again_place ws p.d p.d ≡ None
  pub tail : tail_place p ws ≡ None

pub load_passes : (p : Profile) (ws : List ℕ) → load_input_fault p ws ≡ None → Passes p ws
load_passes p ws e =
    let range = all_passed PositionRange (first_place (λ i. leb p.r (get_or ws i 0)) (range_with_len 0 (2 * p.d))) _ e in
    let one = all_passed PositionTwice (again_place ws 0 p.d) _ range.1 in
    let two = all_passed PositionTwice (again_place ws p.d p.d) _ one.1 in
    record { range = range.0; one = one.0; two = two.0; tail = (all_passed InverseTail (tail_place p ws) [] two.1).0 }

none_again : (ws : List ℕ) (a n : ℕ) → again_place ws a n ≡ None → (i : ℕ) → i < n → again (part ws a n) i ≡ false
none_again ws a n e i l = none_found _ 0 n (unmapped _ e) i (omega arith) (omega arith)
  where
    unmapped : (o : Option ℕ) → option_map (λ j. a + j) o ≡ None → o ≡ None
    unmapped None e = refl
    unmapped (Some j) e = let z : ◌≡◌ {A = ℕ} 0 1 = cc in absurd (omega arith)

-- the words of the key are positions
pub load_positions : (p : Profile) (ws : List ℕ) → load_input_fault p ws ≡ None → Positions p.r p.d (take (2 * p.d) ws)
load_positions p ws e =
    let passed = load_passes p ws e in
    record {
      below = All-from_get_or (λ q. q < p.r) (take (2 * p.d) ws) 0 (λ i l.
          let k : i < 2 * p.d = omega (arith, length-take (2 * p.d) ws) in
          rw (get_or-take (2 * p.d) ws i 0 k) (leb-false p.r (get_or ws i 0) (none_found _ 0 (2 * p.d) passed.range i (omega arith) (omega arith))));
      first_once = λ i l. rw (first_of p.d ws) (none_again ws 0 p.d passed.one i l);
      second_once = λ i l. rw (second_of p.d ws) (none_again ws p.d p.d passed.two i l);
    }

-- each half of a key
module _ (p : Profile) (key : List ℕ) (positions : Positions p.r p.d (take (2 * p.d) key)) where
  pub first_below : AllByRecursion (λ q. q < p.r) (first_half p key)
  first_below = rw (first_of p.d key) at (All-take (λ q. q < p.r) p.d (take (2 * p.d) key) positions.below)

  pub second_below : AllByRecursion (λ q. q < p.r) (second_half p key)
  second_below = rw (second_of p.d key) at (All-drop (λ q. q < p.r) p.d (take (2 * p.d) key) positions.below)
