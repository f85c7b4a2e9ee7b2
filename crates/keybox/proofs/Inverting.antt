-- A load is granted only where f is the inverse of the first half, h0·f = 1.
-- The public row g = h1·f then takes the first half to the second: h0·(h1·f) = h1·(h0·f) = h1.
use Rattle.std.proofs.Common.{◌≡◌, ℕ, ◌<◌, ◌≤◌, true, eqb, List, get_or, None, sym, ◌∙◌, arith}
use Rattle.std.specs.List.{range_with_len, AllByRecursion}
use Rattle.std.proofs.lemmas.List.FromFn.{length-range_with_len, get_or-range_with_len}
use Rattle.std.proofs.lemmas.List.Sums.{get_or-le-sum_by}
use Rattle.std.proofs.lemmas.Bool.{eqb-true, cond_both}
use Rattle.rows.specs.Rows.{Row, unit, product, weight, is_none, row_at}
use Rattle.rows.specs.Ring.{times, Same, marks}
use Rattle.rows.proofs.RingLaws.{times_same, times_comm, times_order, times_unit, product_marks}
use Rattle.scheme.specs.declared.profile.Profile.{Profile}
use Rattle.scheme.specs.Zones.{B}
use Rattle.keybox.specs.Model.{State, load_fault, load_input_fault, is_inverse, first_half, second_half}
use Rattle.keybox.specs.Loading.{LoadInverts}
use Rattle.keybox.proofs.Granted.{load_granted}
use Rattle.keybox.proofs.Keys.{load_positions, first_below, second_below}

-- no bit of a row is set
pub none_set : (r : ℕ) (x : Row) → is_none r x ≡ true → (j : ℕ) → j < r → x j ≡ 0
none_set r x e j l =
    let here : get_or (range_with_len 0 r) j 0 ≡ j = omega (arith, get_or-range_with_len 0 r j 0 l) in
    let most : x j ≤ weight r x = rw here at (get_or-le-sum_by x (range_with_len 0 r) j 0 (omega (arith, length-range_with_len 0 r))) in
    omega (arith, eqb-true (weight r x) 0 e)

pub unit_bit : (j : ℕ) → unit j < 2
unit_bit j = cond_both (eqb j 0) 1 0 (λ n. n < 2) (λ _. omega arith) (λ _. omega arith)

-- what the check of a load says of f
pub inverse_is : (p : Profile) (ws : List ℕ) → is_inverse p ws ≡ true → Same p.r (product p.r (first_half p ws) (row_at ws (B p))) unit
inverse_is p ws e j l = omega (arith, none_set p.r _ e j l, unit_bit j)

-- the same in the ring
module _ (r : ℕ) (long : 1 ≤ r) (h0 h1 : List ℕ) (f : Row) (below0 : AllByRecursion (λ p. p < r) h0) (below1 : AllByRecursion (λ p. p < r) h1) (inverse : Same r (product r h0 f) unit) where
  times_inverse : Same r (times r (marks h0) f) unit
  times_inverse j l = sym (product_marks r long h0 f below0 j l) ∙ inverse j l

  takes_over : Same r (product r h0 (product r h1 f)) (marks h1)
  takes_over j l =
      product_marks r long h0 (product r h1 f) below0 j l
      ∙ times_same r long (marks h0) (product_marks r long h1 f below1) j l
      ∙ times_order r long (marks h0) (marks h1) f j l
      ∙ times_same r long (marks h1) times_inverse j l
      ∙ times_comm r long (marks h1) unit j l
      ∙ times_unit r long (marks h1) (λ _ _. omega arith) j l

-- the words that it read passed their checks
pub load_input_passed : (s : State) → load_fault s ≡ None → load_input_fault s.profile s.words ≡ None
load_input_passed s e = grind arith

pub load_inverts : LoadInverts
load_inverts s v =
    let p = s.profile in
    let ws = s.words in
    let granted = load_granted s v in
    let positions = load_positions p ws (load_input_passed s granted.0) in
    let below0 = first_below p ws positions in
    let below1 = second_below p ws positions in
    let inverse = inverse_is p ws granted.1 in (
      times_inverse p.r (omega arith) (first_half p ws) (second_half p ws) (row_at ws (B p)) below0 below1 inverse,
      takes_over p.r (omega arith) (first_half p ws) (second_half p ws) (row_at ws (B p)) below0 below1 inverse,
    )
