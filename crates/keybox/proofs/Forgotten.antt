-- After a granted wipe a box answers as one newly opened. No call looks past the words of the zones,
-- so a box does what a box with these words alone does, and after a wipe they are zero, as after opening.
use Rattle.std.proofs.Common.{◌≡◌, ℕ, ◌+◌, ◌-◌, ◌*◌, ◌≤◌, Bool, true, false, cond, leb, List, [], ◌∷◌, ◌++◌, length, get_or, take, replicate, Some, None, Ok, Option, sym, refl, ap, ◌∙◌, arith, length-take}
use Rattle.std.specs.List.{range_with_len}
use Rattle.std.specs.Option.{option_map}
use Rattle.std.proofs.lemmas.List.{get_or-take}
use Rattle.memory.specs.Words.{over, zeros}
use Rattle.memory.proofs.Words.{length_zeros}
use Rattle.rows.specs.Rows.{unit, plus, product, is_none, words_of, row_at}
use Rattle.rows.specs.Ring.{marks}
use Rattle.rows.specs.Fill.{part}
use Rattle.scheme.specs.declared.profile.Profile.{Profile}
use Rattle.scheme.specs.declared.fault.InputFault.TheVariants.{PositionRange, PositionTwice, InverseTail, ErrorRange, ErrorTwice, PublicTail}
use Rattle.scheme.specs.declared.fault.BoxFault.{BoxFault}
use Rattle.scheme.specs.declared.fault.BoxFault.TheVariants.{MemorySmall, SlipOut, Input}
use Rattle.keybox.specs.declared.call.Call.{Call}
use Rattle.keybox.specs.declared.call.Call.TheVariants.{Give, Take, Load, Seal, Wipe}
use Rattle.keybox.specs.declared.call.Grant.TheVariants.{Done, Rotations}
use Rattle.scheme.specs.Zones.{W, B, in_size, key_at, out_at, work_at, work_size, N}
use Rattle.keybox.specs.Model.{State, Outcome, small, load_fault, first, when, first_place, again, again_place, grants, rested, with_words, load_input_fault, first_half, second_half, is_inverse, public_row, loaded_words, seal_input_fault, public_syndrome, left_half, right_half, sealed_words, wipe_fault, next}
use Rattle.keybox.specs.Runs.{answers, Forgets}
use Rattle.keybox.proofs.Granted.{matched, unmatched}
use Rattle.keybox.proofs.Verdicts.{refusal_number}
use Rattle.keybox.proofs.Public.{keeps}
use Rattle.keybox.proofs.Parts.{part_zeroed, take_over, front_part, front_row, front_tail, product_same, first_place_same}

-- a box with the words of its zones alone
abbrev front : State → State
front s = with_words s (take (N s.profile) s.words)

abbrev fronted : Outcome → Outcome
fronted o = record { answer = o.answer; after = front o.after }

-- what load and seal read lies in the zones: their checks, and the rows that they make
range_front : (p : Profile) (ws : List ℕ) (b n : ℕ) → n ≤ N p
    → first_place (λ i. leb b (get_or ws i 0)) (range_with_len 0 n) ≡ first_place (λ i. leb b (get_or (take (N p) ws) i 0)) (range_with_len 0 n)
range_front p ws b n h = first_place_same _ _ 0 n (λ i l. ap (leb b) (sym (get_or-take (N p) ws i 0 (omega arith))))

again_front : (p : Profile) (ws : List ℕ) (a n : ℕ) → a + n ≤ N p → again_place ws a n ≡ again_place (take (N p) ws) a n
again_front p ws a n h = ap (λ xs. option_map (λ i. a + i) (first_place (again xs) (range_with_len 0 n))) (sym (front_part (N p) ws a n h))

load_input_fault_front : (p : Profile) (ws : List ℕ) → load_input_fault p ws ≡ load_input_fault p (take (N p) ws)
load_input_fault_front p ws =
    let range = range_front p ws p.r (2 * p.d) (omega arith) in
    let left = again_front p ws 0 p.d (omega arith) in
    let right = again_front p ws p.d p.d (omega arith) in
    let tail = sym (front_tail p.r (N p) ws (B p) (omega arith) (omega arith)) in
    λ k. first (
    option_map PositionRange (range k)
    ∷ option_map PositionTwice (left k)
    ∷ option_map PositionTwice (right k)
    ∷ option_map InverseTail (when (tail k) (B p + (W p - 1)))
    ∷ [])

product_front : (p : Profile) (ws ps : List ℕ) → product p.r ps (row_at ws (B p)) ≡ product p.r ps (row_at (take (N p) ws) (B p))
product_front p ws ps = sym (product_same p.r ps _ _ (omega arith) (front_row p.r (N p) ws (B p) (omega arith)))

inverse_front : (p : Profile) (ws : List ℕ) → is_inverse p ws ≡ is_inverse p (take (N p) ws)
inverse_front p ws =
    ap (λ h. is_none p.r (plus unit (product p.r h (row_at ws (B p))))) (sym (front_part (N p) ws 0 p.d (omega arith)))
    ∙ ap (λ x. is_none p.r (plus unit x)) (product_front p ws (first_half p (take (N p) ws)))

public_row_front : (p : Profile) (ws : List ℕ) → public_row p ws ≡ public_row p (take (N p) ws)
public_row_front p ws =
    ap (λ h. product p.r h (row_at ws (B p))) (sym (front_part (N p) ws p.d p.d (omega arith))) ∙ product_front p ws (second_half p (take (N p) ws))

loaded_front : (p : Profile) (ws : List ℕ) → take (N p) (loaded_words p ws) ≡ loaded_words p (take (N p) ws)
loaded_front p ws =
    let positions = sym (front_part (N p) ws 0 (2 * p.d) (omega arith)) in
    let row = public_row_front p ws in
    simp take_over
    (λ k. rested p (zeros (over (over (take (N p) ws) (key_at p) (positions k)) (out_at p) (words_of p.r (row k) ++ replicate (W p) 0)) 0 (in_size p)))

seal_input_fault_front : (p : Profile) (ws : List ℕ) → seal_input_fault p ws ≡ seal_input_fault p (take (N p) ws)
seal_input_fault_front p ws =
    let range = range_front p ws (2 * p.r) p.t (omega arith) in
    let twice = again_front p ws 0 p.t (omega arith) in
    let tail = sym (front_tail p.r (N p) ws (B p) (omega arith) (omega arith)) in
    λ k. first (option_map ErrorRange (range k) ∷ option_map ErrorTwice (twice k) ∷ option_map PublicTail (when (tail k) (B p + (W p - 1))) ∷ [])

syndrome_front : (p : Profile) (ws : List ℕ)
    → public_syndrome p.r (part ws 0 p.t) (row_at ws (B p)) ≡ public_syndrome p.r (part (take (N p) ws) 0 p.t) (row_at (take (N p) ws) (B p))
syndrome_front p ws =
    let qs = part (take (N p) ws) 0 p.t in
    ap (λ xs. public_syndrome p.r xs (row_at ws (B p))) (sym (front_part (N p) ws 0 p.t (omega arith)))
    ∙ ap (plus (marks (left_half p.r qs))) (product_front p ws (right_half p.r qs))

sealed_front : (p : Profile) (ws : List ℕ) → take (N p) (sealed_words p ws) ≡ sealed_words p (take (N p) ws)
sealed_front p ws =
    simp take_over
    (ap (λ x. zeros (zeros (over (take (N p) ws) (out_at p) (words_of p.r x ++ replicate (W p) 0)) 0 (in_size p)) (work_at p) (work_size p)) (syndrome_front p ws))

-- a wipe, whatever it leaves in the words
wiped_front : (s : State) (zs ys : List ℕ) → N s.profile ≤ length s.words → take (N s.profile) zs ≡ ys
    → fronted (grants (wipe_fault s) s (record { answer = Ok Done; after = record { profile = s.profile; number = s.number; loaded = false; out = s.out; words = zs } }))
    ≡ grants (wipe_fault (front s)) (front s) (record { answer = Ok Done; after = record { profile = s.profile; number = s.number; loaded = false; out = s.out; words = ys } })
wiped_front s zs ys room h = grind (arith, length-take)

-- a load, whatever its checks and its product come to
load_fault_front : (s : State) → N s.profile ≤ length s.words → load_fault s ≡ load_fault (front s)
load_fault_front s room =
    let input = load_input_fault_front s.profile s.words in
    let roomy : small s ≡ small (front s) = grind (arith, length-take) in
    λ k. first (when (roomy k) MemorySmall ∷ when s.out SlipOut ∷ option_map Input (input k) ∷ [])

judged_front : (s : State) (b : Bool) → fronted (cond b (matched s) (unmatched s)) ≡ cond b (matched (front s)) (unmatched (front s))
judged_front s true =
    ap (λ ws. record { answer = Ok (Rotations (2 * s.profile.d)); after = record { profile = s.profile; number = s.number; loaded = true; out = s.out; words = ws } }) (loaded_front s.profile s.words)
judged_front s false =
    ap (λ ws. record { answer = (unmatched s).answer; after = with_words s ws }) (take_over (N s.profile) s.words (work_at s.profile) (replicate (work_size s.profile) 0))

load_next : (s : State) (f : Option BoxFault) → f ≡ load_fault (front s)
    → fronted (grants f s (cond (is_inverse s.profile s.words) (matched s) (unmatched s)))
    ≡ grants (load_fault (front s)) (front s) (cond (is_inverse s.profile s.words) (matched (front s)) (unmatched (front s)))
load_next s f e = judged f ∙ ap (λ x. grants x (front s) (cond b (matched (front s)) (unmatched (front s)))) e
  where
    b : Bool
    b = is_inverse s.profile s.words

    judged : (f : Option BoxFault) → fronted (grants f s (cond b (matched s) (unmatched s))) ≡ grants f (front s) (cond b (matched (front s)) (unmatched (front s)))
    judged None = judged_front s b
    judged (Some x) = refl

front_next : (s : State) → N s.profile ≤ length s.words → (c : Call) → fronted (next s c) ≡ next (front s) c
front_next s room (Give i w) = grind (arith, length-take, take_over (N s.profile) s.words i (w ∷ []))
front_next s room (Take i) = grind (arith, length-take, get_or-take)
front_next s room Load =
    load_next s (load_fault s) (load_fault_front s room) ∙ ap (λ b. grants (load_fault (front s)) (front s) (cond b (matched (front s)) (unmatched (front s)))) (inverse_front s.profile s.words)
front_next s room Seal = grind (arith, length-take, sealed_front s.profile s.words, seal_input_fault_front s.profile s.words)
front_next s room Wipe = wiped_front s _ _ room (take_over (N s.profile) s.words 0 (replicate (N s.profile) 0))

-- so a box with the words of its zones alone gives the same answers
front_answers : (s : State) (cs : List Call) → N s.profile ≤ length s.words → answers s cs ≡ answers (front s) cs
front_answers s [] room = refl
front_answers s (c ∷ cs) room =
    let kept = keeps s c in
    let room' : N (next s c).after.profile ≤ length (next s c).after.words = rw (kept.0, kept.1) room in
    λ k. (front_next s room c k).answer ∷ (front_answers (next s c).after cs room' ∙ ap (λ (o : Outcome). answers o.after cs) (front_next s room c)) k

-- boxes that differ at most past the zones answer alike
alike_answers : (s t : State) (cs : List Call) → N s.profile ≤ length s.words → N t.profile ≤ length t.words → front s ≡ front t → answers s cs ≡ answers t cs
alike_answers s t cs h l e = cc (front_answers s cs h, front_answers t cs l)

-- the zones are zero after a wipe, as after opening
zeros_front : (p : Profile) (ws : List ℕ) → N p ≤ length ws → take (N p) (zeros ws 0 (N p)) ≡ replicate (N p) 0
zeros_front p ws h = part_zeroed ws 0 (N p) 0 (N p) (omega arith) (omega arith) (omega arith)

pub forgets : (s : State) → Forgets s
forgets s v ws same cs =
    alike_answers _ _ cs (grind (arith, length_zeros, refusal_number)) (grind (arith, length_zeros)) (grind (arith, zeros_front, length_zeros, refusal_number))
