-- The accesses that each call makes, worked out from public numbers, the call without its words, and its verdict.
-- The promise that nothing secret shows in a trail is stated of these very lists.
use Rattle.std.specs.Prelude.{ℕ, zero, suc, ◌+◌, ◌-◌, ◌*◌, Bool, cond, ◌||◌, List, [], ◌∷◌, ◌++◌, length, Ok, Err, ◌==◌, nat_lt}
use Rattle.memory.specs.Access.{Access, get, put}
use Rattle.rows.specs.declared.plan.Direction.TheVariants.{Up}
use Rattle.rows.specs.declared.plan.Source.TheVariants.{One, Either}
use Rattle.rows.specs.declared.plan.Plan.{Plan}
use Rattle.rows.specs.Fill.{looped, zero_accesses, copy_accesses}
use Rattle.rows.specs.Sum.{sum_accesses}
use Rattle.scheme.specs.declared.profile.Profile.{Profile}
use Rattle.keybox.specs.declared.call.Call.{Call}
use Rattle.keybox.specs.declared.call.Call.TheVariants.{Give, Take, Load, Seal, Wipe}
use Rattle.scheme.specs.Faults.{number}
use Rattle.keybox.specs.Model.{State, Answer}
use Rattle.scheme.specs.Zones.{W, B, in_size, key_at, out_at, work_at, work_size, work_row, N}

-- what boxes share that differ at most in the words of their memories
pub record Public : Type 0 where
  pub profile : Profile
  pub number : ℕ
  pub loaded : Bool
  pub out : Bool
  pub size : ℕ

abbrev pub public : State → Public
public s = record { profile = s.profile; number = s.number; loaded = s.loaded; out = s.out; size = length s.words }

-- a call without the words given
pub data Shape : Type 0 where
  gives : ℕ → Shape
  takes : ℕ → Shape
  loads : Shape
  seals : Shape
  wipes : Shape

abbrev pub shape : Call → Shape
shape (Give i w) = gives i
shape (Take i) = takes i
shape Load = loads
shape Seal = seals
shape Wipe = wipes

-- 0 for a grant, else the number of the refusal
abbrev pub verdict : Answer → ℕ
verdict (Ok g) = 0
verdict (Err f) = number f

-- each of n words from a place on is read once, in order
unfoldable pub read_accesses : ℕ → ℕ → List Access
read_accesses a n = looped (λ i. get (a + i) ∷ []) n

-- each of n words from a place on is read, and after it all words before it
unfoldable pub pair_accesses : ℕ → ℕ → List Access
pair_accesses a n = looped (λ i. get (a + i) ∷ read_accesses a i) n

-- how seal sums: the row of bit 0 alone lies in the first row of WORK, the public row in IN
abbrev pub seal_plan : Profile → Plan
seal_plan p = record {
  r = p.r;
  at = 0;
  count = p.t;
  source = Either (work_row p 0) (B p);
  direction = Up;
  into = work_row p 2;
  scratch = work_row p 3;
}

-- WORK is zeroed
abbrev pub rest_accesses : Profile → List Access
rest_accesses p = zero_accesses (work_at p) (work_size p)

-- row i of WORK is published: copied to OUT, and the rest of OUT and IN zeroed
unfoldable pub publish_accesses : Profile → ℕ → List Access
publish_accesses p i = copy_accesses (work_row p i) (out_at p) (W p) ++ (zero_accesses (out_at p + W p) (W p) ++ zero_accesses 0 (in_size p))

-- the work of a seal that passed its checks
unfoldable pub sealed_accesses : Profile → List Access
sealed_accesses p = rest_accesses p ++ (put (work_row p 0) ∷ (sum_accesses 1 (seal_plan p) ++ (publish_accesses p 2 ++ rest_accesses p)))

-- the checks of a seal read all positions before they refuse by 10, all pairs before 11, and the row's last word before 12
abbrev pub seal_check_accesses : Profile → ℕ → List Access
seal_check_accesses p v =
    read_accesses 0 p.t
    ++ cond (v == 10) [] (pair_accesses 0 p.t ++ cond (v == 11) [] (get (B p + (W p - 1)) ∷ []))

abbrev pub seal_accesses : Profile → ℕ → List Access
seal_accesses p v = cond (v == 2 || v == 4) [] (seal_check_accesses p v ++ cond (v == 0) (sealed_accesses p) [])

-- the checks of a load read all positions before they refuse by 6, all pairs of both halves before 7, and the row's last word before 8
abbrev pub load_check_accesses : Profile → ℕ → List Access
load_check_accesses p v =
    read_accesses 0 (2 * p.d)
    ++ cond (v == 6) [] (pair_accesses 0 p.d ++ (pair_accesses p.d p.d ++ cond (v == 7) [] (get (B p + (W p - 1)) ∷ [])))

-- how load makes the product of a half, whose positions begin at a place of IN, and the row there: into row i of WORK
abbrev pub load_plan : Profile → ℕ → ℕ → Plan
load_plan p at i = record {
  r = p.r;
  at = at;
  count = p.d;
  source = One (B p);
  direction = Up;
  into = work_row p i;
  scratch = work_row p 3;
}

-- both products are made, whatever the first comes to
unfoldable pub products_accesses : Profile → List Access
products_accesses p = rest_accesses p ++ (sum_accesses 1 (load_plan p 0 0) ++ sum_accesses 1 (load_plan p p.d 1))

-- the key is kept and its row published
unfoldable pub loaded_accesses : Profile → List Access
loaded_accesses p = copy_accesses 0 (key_at p) (2 * p.d) ++ (publish_accesses p 1 ++ rest_accesses p)

-- a load that passed its checks makes both products and reads the whole first one; then it keeps the key, or zeroes WORK and refuses by 9
abbrev pub load_accesses : Profile → ℕ → List Access
load_accesses p v =
    cond (v == 2 || v == 4) []
    (load_check_accesses p v
    ++ cond (v == 6 || v == 7 || v == 8) [] (products_accesses p ++ (read_accesses (work_row p 0) (W p) ++ cond (v == 9) (rest_accesses p) (loaded_accesses p))))

-- opening puts 0 into the words of the zones, if they are there
abbrev pub open_accesses : Profile → ℕ → List Access
open_accesses p size = cond (nat_lt size (N p)) [] (zero_accesses 0 (N p))

-- some accesses where a call is granted, and none where it is refused
abbrev pub if_granted : ℕ → List Access → List Access
if_granted zero xs = xs
if_granted (suc n) xs = []

abbrev pub accesses : Public → Shape → ℕ → List Access
accesses p (gives i) v = if_granted v (put i ∷ [])
accesses p (takes i) v = if_granted v (get (out_at p.profile + i) ∷ [])
accesses p loads v = load_accesses p.profile v
accesses p seals v = seal_accesses p.profile v
accesses p wipes v = if_granted v (zero_accesses 0 (N p.profile))
