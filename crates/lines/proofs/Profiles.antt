-- A profile is determined by its numbers, since its ranges hold in one way at most; so a setting that is granted leaves the profile asked for.
use Rattle.std.proofs.Common.{◌≡◌, ℕ, ◌*◌, ◌<◌, ◌≤◌, Bool, true, false, List, length, get_or, Ok, refl, ap, subst}
use denote.Struct.Props.{props}
use Rattle.std.proofs.lemmas.Bool.{both_ways}
use Rattle.scheme.specs.declared.profile.Profile.{Profile}
use Rattle.scheme.specs.Setting.{lawful, Numbers, numbers, chosen_numbers}
use Rattle.lines.specs.Chosen.{chosen, if_lawful, profile_of}

-- the facts of a profile, over its numbers
record Facts (n : Numbers) : Type 0 where
  r_range : (3 ≤ n.r) × (n.r ≤ 16000)
  d_range : (1 ≤ n.d) × (n.d ≤ 63) × (n.d ≤ n.r)
  t_range : (1 ≤ n.t) × (n.t ≤ 255) × (n.t ≤ 2 * n.r)
  k_range : (1 ≤ n.k) × (n.k ≤ 16)
  entries : length n.thresholds ≡ 16
  used : (i : ℕ) → i < n.k → (1 ≤ get_or n.thresholds i 0) × (get_or n.thresholds i 0 ≤ n.d)
  unused : (i : ℕ) → n.k ≤ i → get_or n.thresholds i 0 ≡ 0

abbrev facts : (p : Profile) → Facts (numbers p)
facts p = record {
  r_range = p.r_range;
  d_range = p.d_range;
  t_range = p.t_range;
  k_range = p.k_range;
  entries = p.entries;
  used = p.used;
  unused = p.unused;
}

abbrev made : (n : Numbers) → Facts n → Profile
made n f = record {
  r = n.r;
  d = n.d;
  t = n.t;
  k = n.k;
  thresholds = n.thresholds;
  r_range = f.r_range;
  d_range = f.d_range;
  t_range = f.t_range;
  k_range = f.k_range;
  entries = f.entries;
  used = f.used;
  unused = f.unused;
}

one_way : (n : Numbers) → IsProp (Facts n)
one_way n = hlevel props

pub same_profile : (p q : Profile) → numbers p ≡ numbers q → p ≡ q
same_profile p q e = subst (λ n. (g : Facts n) → made (numbers p) (facts p) ≡ made n g) e (λ g. ap (made (numbers p)) (one_way (numbers p) (facts p) g)) (facts q)

granted : (r d t : ℕ) (ts : List ℕ) (b : Bool) (e : lawful r d t ts ≡ b) → b ≡ true → (p : Profile) → numbers p ≡ chosen_numbers r d t ts
    → Ok p ≡ if_lawful r d t ts b e
granted r d t ts true e h p n = ap Ok (same_profile p (chosen r d t ts e) n)
granted r d t ts false e h p n = absurd (both_ways false refl h)

pub profile_granted : (r d t : ℕ) (ts : List ℕ) → lawful r d t ts ≡ true → (p : Profile) → numbers p ≡ chosen_numbers r d t ts → Ok p ≡ profile_of r d t ts
profile_granted r d t ts h p n = granted r d t ts (lawful r d t ts) refl h p n
