-- What checks that passed say, each of its own.
use Rattle.std.proofs.Common.{◌≡◌, ℕ, zero, suc, ◌+◌, ◌<◌, ◌≤◌, Bool, true, false, cond, List, [], ◌∷◌, Some, None, Ok, Option, refl, ap, ◌∙◌, inl, inr, arith}
use Rattle.std.specs.List.{range_with_len}
use Rattle.std.specs.Option.{option_map}
use Rattle.std.proofs.lemmas.Bool.{cases_eq}
use Rattle.scheme.specs.declared.fault.InputFault.{InputFault}
use Rattle.scheme.specs.declared.fault.BoxFault.TheVariants.{MemorySmall, SlipOut, Input}
use Rattle.keybox.specs.Device.{granted, checked}
use Rattle.keybox.specs.Model.{first, when, first_place}

-- a check of places that found none
pub none_found : (t : ℕ → Bool) (a n : ℕ) → first_place t (range_with_len a n) ≡ None → (i : ℕ) → a ≤ i → i < a + n → t i ≡ false
none_found t a zero e i low high = absurd (omega arith)
none_found t a (suc n) e i low high = at (t a) refl e (λ rest above. none_found t (a + 1) n rest i above (omega arith))
  where
    at : (b : Bool) → t a ≡ b → cond b (Some a) (first_place t (range_with_len (a + 1) n)) ≡ None
        → (first_place t (range_with_len (a + 1) n) ≡ None → a + 1 ≤ i → t i ≡ false) → t i ≡ false
    at true here found later = let z : ◌≡◌ {A = ℕ} 0 1 = cc in absurd (omega arith)
    at false here found later = elim (cases_eq i a) [ inl same ↦ ap t same ∙ here | inr other ↦ later found (omega arith) ]

-- of checks that all passed, each did
pub all_passed : (f : ℕ → InputFault) (o : Option ℕ) (os : List (Option InputFault)) → first (option_map f o ∷ os) ≡ None → (o ≡ None) × (first os ≡ None)
all_passed f None os e = (refl, e)
all_passed f (Some i) os e = let z : ◌≡◌ {A = ℕ} 0 1 = cc in absurd (omega arith)

pub unset : (b : Bool) (i : ℕ) → when b i ≡ None → b ≡ false
unset false i e = refl
unset true i e = let z : ◌≡◌ {A = ℕ} 0 1 = cc in absurd (omega arith)

-- a check of IN that answered Ok found nothing wrong
pub none_wrong : (o : Option InputFault) (u : Unit {0}) → Ok u ≡ checked o → o ≡ None
none_wrong None u e = refl
none_wrong (Some f) u e = let z : ◌≡◌ {A = ℕ} 0 1 = cc in absurd (omega arith)

-- what two checks and those of IN come to, where all passed
pub all_clear : (a b : Bool) (o : Option InputFault) (u v : Unit {0}) → Ok u ≡ granted (first (when a MemorySmall ∷ when b SlipOut ∷ [])) → Ok v ≡ checked o
    → first (when a MemorySmall ∷ when b SlipOut ∷ option_map Input o ∷ []) ≡ None
all_clear false false None u v e f = refl
all_clear false false (Some x) u v e f = let z : ◌≡◌ {A = ℕ} 0 1 = cc in absurd (omega arith)
all_clear false true o u v e f = let z : ◌≡◌ {A = ℕ} 0 1 = cc in absurd (omega arith)
all_clear true b o u v e f = let z : ◌≡◌ {A = ℕ} 0 1 = cc in absurd (omega arith)
