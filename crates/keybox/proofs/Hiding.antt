-- Nothing secret shows in a trail or in the rotations: both follow, call by call, from what alike boxes share.
use Rattle.std.proofs.Common.{◌≡◌, ℕ, zero, suc, List, [], ◌∷◌, length, map, take, refl, ap, ◌∙◌, arith}
use Rattle.memory.specs.Access.{Rule, Access, traced}
use Rattle.keybox.specs.declared.call.Call.{Call}
use Rattle.keybox.specs.Model.{State, next}
use Rattle.keybox.specs.Accesses.{public, shape, verdict, accesses}
use Rattle.keybox.specs.Runs.{answers, after, rotations, trail_after, Hides}
use Rattle.keybox.proofs.Public.{Move, shown, moves}

-- two boxes that are alike, each with a call, of one shape and with one verdict
module _ (s t : State) (c d : Call) (p : public t ≡ public s) (h : shape d ≡ shape c) (v : verdict (next t d).answer ≡ verdict (next s c).answer) where
  same_accesses : accesses (public t) (shape d) (verdict (next t d).answer) ≡ accesses (public s) (shape c) (verdict (next s c).answer)
  same_accesses = cc

  same_move : shown (next t d) ≡ shown (next s c)
  same_move = cc (moves s c, moves t d)

  stay_alike : public (next t d).after ≡ public (next s c).after
  stay_alike = ap (λ (m : Move). m.left) same_move

  same_rotations : rotations (next t d).answer ≡ rotations (next s c).answer
  same_rotations = ap (λ (m : Move). m.turns) same_move

-- what agrees after the first n of some calls
abbrev Agrees : Rule → List ℕ → State → List Call → State → List Call → ℕ → Type 0
Agrees rule trail t ds s cs n =
    (trail_after rule trail t (take n ds) ≡ trail_after rule trail s (take n cs))
    × (map rotations (take n (answers t ds)) ≡ map rotations (take n (answers s cs)))
    × (public (after t (take n ds)) ≡ public (after s (take n cs)))

agrees_more : (rule : Rule) (trail : List ℕ) (s t : State) (c d : Call) (cs ds : List Call) (n : ℕ)
    → public t ≡ public s → shape d ≡ shape c → verdict (next t d).answer ≡ verdict (next s c).answer
    → ((trail : List ℕ) → Agrees rule trail (next t d).after ds (next s c).after cs n)
    → Agrees rule trail t (d ∷ ds) s (c ∷ cs) (suc n)
agrees_more rule trail s t c d cs ds n p h v rest = (
  ap (λ (xs : List Access). trail_after rule (traced rule trail xs) (next t d).after (take n ds)) (same_accesses s t c d p h v) ∙ (rest _).0,
  cc (same_rotations s t c d p h v, (rest trail).1),
  (rest trail).2,
)

-- equal lists have equal parts
same_head : {X : Type 0} (x y : X) (xs ys : List X) → ◌≡◌ {A = List X} (x ∷ xs) (y ∷ ys) → x ≡ y
same_head x y xs ys e = cc

same_tail : {X : Type 0} (x y : X) (xs ys : List X) → ◌≡◌ {A = List X} (x ∷ xs) (y ∷ ys) → xs ≡ ys
same_tail x y xs ys e = cc

pub hides : (s : State) (cs : List Call) → Hides s cs
hides s cs rule trail t ds p h zero v = (refl, refl, p)
hides s [] rule trail t [] p h (suc n) v = (refl, refl, p)
hides s [] rule trail t (d ∷ ds) p h (suc n) v = absurd (omega (arith, ap length h))
hides s (c ∷ cs) rule trail t [] p h (suc n) v = absurd (omega (arith, ap length h))
hides s (c ∷ cs) rule trail t (d ∷ ds) p h (suc n) v =
    let same_shape = same_head (shape d) (shape c) _ _ h in
    let same_verdict = same_head (verdict (next t d).answer) (verdict (next s c).answer) _ _ v in
    agrees_more rule trail s t c d cs ds n p same_shape same_verdict
    (λ trail'. hides (next s c).after cs rule trail' (next t d).after ds (stay_alike s t c d p same_shape same_verdict) (same_tail _ _ _ _ h) n (same_tail _ _ _ _ v))
