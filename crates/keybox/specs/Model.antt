-- What each call of a box answers, and the box that it leaves: every word of the memory is named, on grant and on refusal.
use Rattle.std.specs.Prelude.{ℕ, zero, suc, ◌+◌, ◌-◌, ◌*◌, Bool, true, false, cond, ◌||◌, ltb, leb, List, [], ◌∷◌, ◌++◌, map, length, replicate, Some, None, Ok, Err, Option, Result, ◌==◌, nat_le, nat_lt, slice_index, slice_set}
use Rattle.std.specs.List.{range_with_len}
use Rattle.std.specs.Option.{option_map}
use Rattle.memory.specs.Words.{over, zeros}
use Rattle.rows.specs.Rows.{Row, unit, plus, product, is_none, kept, row_at, words_of, has_tail}
use Rattle.rows.specs.Ring.{marks}
use Rattle.rows.specs.Fill.{part}
use Rattle.scheme.specs.declared.profile.Profile.{Profile}
use Rattle.scheme.specs.declared.fault.InputFault.{InputFault}
use Rattle.scheme.specs.declared.fault.InputFault.TheVariants.{PositionRange, PositionTwice, InverseTail, NotInverse, ErrorRange, ErrorTwice, PublicTail}
use Rattle.scheme.specs.declared.fault.BoxFault.{BoxFault}
use Rattle.scheme.specs.declared.fault.BoxFault.TheVariants.{MemorySmall, OutsideZone, SlipOut, Input}
use Rattle.keybox.specs.declared.call.Call.{Call}
use Rattle.keybox.specs.declared.call.Call.TheVariants.{Give, Take, Load, Seal, Wipe}
use Rattle.keybox.specs.declared.call.Grant.{Grant}
use Rattle.keybox.specs.declared.call.Grant.TheVariants.{Done, Word, Rotations}
use Rattle.scheme.specs.Zones.{W, B, in_size, key_at, out_at, out_size, work_at, work_size, N}

-- a box: its profile, its unit number, whether a key is loaded, whether a slip is out, and the words of its memory
pub record State : Type 0 where
  pub profile : Profile
  pub number : ℕ
  pub loaded : Bool
  pub out : Bool
  pub words : List ℕ

-- a call is granted, or refused by a fault
abbrev pub Answer : Type 0
Answer = Result Grant BoxFault

-- what a call answers, and the box that it leaves
pub record Outcome : Type 0 where
  pub answer : Answer
  pub after : State

-- the first of some checks that refuses
abbrev pub first : {X : Type 0} → List (Option X) → Option X
first [] = None
first (Some x ∷ os) = Some x
first (None ∷ os) = first os

abbrev pub when : {X : Type 0} → Bool → X → Option X
when true x = Some x
when false x = None

-- the first of some places at which a test holds
abbrev pub first_place : (ℕ → Bool) → List ℕ → Option ℕ
first_place p [] = None
first_place p (i ∷ is) = cond (p i) (Some i) (first_place p is)

-- whether the word w stands among the first i of a list
abbrev pub earlier : List ℕ → ℕ → ℕ → Bool
earlier [] w i = false
earlier (x ∷ xs) w zero = false
earlier (x ∷ xs) w (suc i) = x == w || earlier xs w i

-- whether the word at place i of a list stands at an earlier place too
abbrev pub again : List ℕ → ℕ → Bool
again xs i = earlier xs (slice_index xs i) i

-- the place of the first of the n words from place a on that stands among those before it
abbrev pub again_place : List ℕ → ℕ → ℕ → Option ℕ
again_place ws a n = option_map (λ i. a + i) (first_place (again (part ws a n)) (range_with_len 0 n))

-- a call that is refused leaves the box as it was
abbrev pub grants : Option BoxFault → State → Outcome → Outcome
grants None s o = o
grants (Some f) s o = record { answer = Err f; after = s }

-- the words with WORK zero: how every call that works there leaves it. In a box that was opened and called it is zero before, too
abbrev pub rested : Profile → List ℕ → List ℕ
rested p ws = zeros ws (work_at p) (work_size p)

-- the memory has too few words for the zones
abbrev pub small : State → Bool
small s = nat_lt (length s.words) (N s.profile)

abbrev pub with_words : State → List ℕ → State
with_words s ws = record { profile = s.profile; number = s.number; loaded = s.loaded; out = s.out; words = ws }

-- opening puts 0 into the words of the zones, where the memory has them
abbrev pub opened : Profile → ℕ → List ℕ → State
opened p u ws = record {
  profile = p;
  number = u;
  loaded = false;
  out = false;
  words = cond (nat_lt (length ws) (N p)) ws (zeros ws 0 (N p));
}

-- how a call that names a place of a zone of n words is refused
abbrev pub place_fault : State → ℕ → ℕ → Option BoxFault
place_fault s n i = first (when (small s) MemorySmall ∷ when (nat_le n i) (OutsideZone i) ∷ [])

abbrev pub giving : State → ℕ → ℕ → Outcome
giving s i w = grants (place_fault s (in_size s.profile) i) s
    (record { answer = Ok Done; after = with_words s (slice_set s.words i w) })

abbrev pub taking : State → ℕ → Outcome
taking s i = grants (place_fault s (out_size s.profile) i) s
    (record { answer = Ok (Word (slice_index s.words (out_at s.profile + i))); after = s })

-- the place of the last word of the row in IN, if it has a bit set past the row's end
abbrev pub tail_place : Profile → List ℕ → Option ℕ
tail_place p ws = when (has_tail p.r ws (B p)) (B p + (W p - 1))

-- the two halves of a key, as load reads them in IN
abbrev pub first_half : Profile → List ℕ → List ℕ
first_half p ws = part ws 0 p.d

abbrev pub second_half : Profile → List ℕ → List ℕ
second_half p ws = part ws p.d p.d

-- what is wrong with the positions and the inverse that load reads in IN, looked at word by word
abbrev pub load_input_fault : Profile → List ℕ → Option InputFault
load_input_fault p ws =
    first (
    option_map PositionRange (first_place (λ i. leb p.r (slice_index ws i)) (range_with_len 0 (2 * p.d)))
    ∷ option_map PositionTwice (again_place ws 0 p.d)
    ∷ option_map PositionTwice (again_place ws p.d p.d)
    ∷ option_map InverseTail (tail_place p ws)
    ∷ [])

abbrev pub load_fault : State → Option BoxFault
load_fault s = first (when (small s) MemorySmall ∷ when s.out SlipOut ∷ option_map Input (load_input_fault s.profile s.words) ∷ [])

-- whether the row f at place B of IN is the inverse of the first half: h0·f has bit 0 alone
abbrev pub is_inverse : Profile → List ℕ → Bool
is_inverse p ws = is_none p.r (plus unit (product p.r (first_half p ws) (row_at ws (B p))))

-- the public row g = h1·f
abbrev pub public_row : Profile → List ℕ → Row
public_row p ws = product p.r (second_half p ws) (row_at ws (B p))

-- the words with a row and zeros in OUT, and zeros in IN: how a call leaves them that publishes a row
abbrev pub published : Profile → List ℕ → List ℕ → List ℕ
published p row ws = zeros (over ws (out_at p) (row ++ replicate (W p) 0)) 0 (in_size p)

-- the words after a granted load: KEY holds the positions, OUT the public row and zeros, and IN is zero
abbrev pub loaded_words : Profile → List ℕ → List ℕ
loaded_words p ws = rested p (published p (words_of p.r (public_row p ws)) (over ws (key_at p) (part ws 0 (2 * p.d))))

abbrev pub loading : State → Outcome
loading s = grants (load_fault s) s
    (cond (is_inverse s.profile s.words)
    (record {
      answer = Ok (Rotations (2 * s.profile.d));
      after = record { profile = s.profile; number = s.number; loaded = true; out = s.out; words = loaded_words s.profile s.words };
    })
    (record { answer = Err (Input (NotInverse (B s.profile))); after = with_words s (rested s.profile s.words) }))

-- the positions of an error row of 2r bits that lie in its first half, and those of its second half, as bits of that half
abbrev pub left_half : ℕ → List ℕ → List ℕ
left_half r qs = kept (λ q. ltb q r) qs

abbrev pub right_half : ℕ → List ℕ → List ℕ
right_half r qs = map (λ q. q - r) (kept (λ q. leb r q) qs)

-- the public syndrome e0 + g·e1 of the error row with ones at some positions, under the public row g
abbrev pub public_syndrome : ℕ → List ℕ → Row → Row
public_syndrome r qs g = plus (marks (left_half r qs)) (product r (right_half r qs) g)

-- what is wrong with the positions and the row that seal reads in IN, if anything is
abbrev pub seal_input_fault : Profile → List ℕ → Option InputFault
seal_input_fault p ws =
    first (
    option_map ErrorRange (first_place (λ i. leb (2 * p.r) (slice_index ws i)) (range_with_len 0 p.t))
    ∷ option_map ErrorTwice (again_place ws 0 p.t)
    ∷ option_map PublicTail (tail_place p ws)
    ∷ [])

abbrev pub seal_fault : State → Option BoxFault
seal_fault s = first (when (small s) MemorySmall ∷ when s.out SlipOut ∷ option_map Input (seal_input_fault s.profile s.words) ∷ [])

-- the words after a granted seal: OUT holds the public syndrome and zeros, and IN is zero
abbrev pub sealed_words : Profile → List ℕ → List ℕ
sealed_words p ws = rested p (published p (words_of p.r (public_syndrome p.r (part ws 0 p.t) (row_at ws (B p)))) ws)

abbrev pub sealing : State → Outcome
sealing s = grants (seal_fault s) s (record { answer = Ok (Rotations s.profile.t); after = with_words s (sealed_words s.profile s.words) })

abbrev pub wipe_fault : State → Option BoxFault
wipe_fault s = first (when (small s) MemorySmall ∷ when s.out SlipOut ∷ [])

abbrev pub wiping : State → Outcome
wiping s = grants (wipe_fault s) s
    (record { answer = Ok Done; after = record { profile = s.profile; number = s.number; loaded = false; out = s.out; words = zeros s.words 0 (N s.profile) } })

abbrev pub next : State → Call → Outcome
next s (Give i w) = giving s i w
next s (Take i) = taking s i
next s Load = loading s
next s Seal = sealing s
next s Wipe = wiping s
