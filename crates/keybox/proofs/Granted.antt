-- A call is granted, or refused with the box left as it was: what holds of all its outcomes holds of the call.
-- Only a load that finds no inverse works before it refuses; it leaves WORK zero.
use Rattle.std.proofs.Common.{◌≡◌, ◌*◌, ◌≤◌, true, length, Some, None, Ok, Err, Option, refl, arith}
use Rattle.std.proofs.lemmas.Bool.{cond_both}
use Rattle.scheme.specs.declared.fault.InputFault.TheVariants.{NotInverse}
use Rattle.scheme.specs.declared.fault.BoxFault.{BoxFault}
use Rattle.scheme.specs.declared.fault.BoxFault.TheVariants.{Input}
use Rattle.scheme.specs.Zones.{B, N}
use Rattle.keybox.specs.declared.call.Call.TheVariants.{Load}
use Rattle.keybox.specs.declared.call.Grant.TheVariants.{Rotations}
use Rattle.keybox.specs.Accesses.{verdict}
use Rattle.keybox.specs.Model.{State, Outcome, grants, with_words, load_fault, is_inverse, rested, loaded_words, loading, next}
use Rattle.keybox.proofs.Verdicts.{refusal_number}

pub either_way : (P : Outcome → Type 0) (f : Option BoxFault) (s : State) (o : Outcome)
    → ((x : BoxFault) → P (record { answer = Err x; after = s })) → (f ≡ None → P o) → P (grants f s o)
either_way P None s o r g = g refl
either_way P (Some x) s o r g = r x

-- a load that passed its checks: what it leaves where f is the inverse, and where it is not
abbrev pub matched : State → Outcome
matched s = record {
  answer = Ok (Rotations (2 * s.profile.d));
  after = record { profile = s.profile; number = s.number; loaded = true; out = s.out; words = loaded_words s.profile s.words };
}

abbrev pub unmatched : State → Outcome
unmatched s = record { answer = Err (Input (NotInverse (B s.profile))); after = with_words s (rested s.profile s.words) }

pub each_way : (P : Outcome → Type 0) (s : State)
    → ((x : BoxFault) → P (record { answer = Err x; after = s })) → (load_fault s ≡ None → P (unmatched s))
    → (load_fault s ≡ None → is_inverse s.profile s.words ≡ true → P (matched s)) → P (loading s)
each_way P s r u m =
    either_way P (load_fault s) s _ r (λ e. cond_both (is_inverse s.profile s.words) (matched s) (unmatched s) P (m e) (λ _. u e))

-- a load is granted in one way only
pub load_granted : (s : State) → verdict (next s Load).answer ≡ 0 → (load_fault s ≡ None) × (is_inverse s.profile s.words ≡ true)
load_granted s =
    each_way (λ o. verdict o.answer ≡ 0 → (load_fault s ≡ None) × (is_inverse s.profile s.words ≡ true)) s
    (λ f v. absurd (omega (arith, refusal_number f))) (λ _ v. absurd (omega arith)) (λ e i _. (e, i))

-- and only where the memory has the words of the zones
pub load_room : (s : State) → load_fault s ≡ None → N s.profile ≤ length s.words
load_room s e = grind arith
