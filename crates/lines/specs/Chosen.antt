-- The profile that a setting asks for.
use Rattle.std.specs.Prelude.{◌≡◌, ℕ, Bool, true, false, List, length, drop, Ok, Err, Result, slice_index, refl}
use Rattle.scheme.specs.declared.profile.Profile.{Profile}
use Rattle.scheme.specs.declared.fault.ProfileFault.{ProfileFault}
use Rattle.scheme.specs.declared.fault.ProfileFault.TheVariants.{OutOfRange}
use Rattle.scheme.specs.Setting.{lawful, entries}
use Rattle.scheme.proofs.Thresholds.{ranges, length_entries, used_entry, unused_entry}

-- lawful numbers as a profile. Its ranges hold since the numbers are lawful
abbrev pub chosen : (r d t : ℕ) (ts : List ℕ) → lawful r d t ts ≡ true → Profile
chosen r d t ts e = record {
  r = r;
  d = d;
  t = t;
  k = length ts;
  thresholds = entries ts;
  r_range = (ranges r d t ts e).r_range;
  d_range = (ranges r d t ts e).d_range;
  t_range = (ranges r d t ts e).t_range;
  k_range = (ranges r d t ts e).k_range;
  entries = length_entries ts (ranges r d t ts e).k_range.1;
  used = used_entry d ts (ranges r d t ts e).thresholds;
  unused = unused_entry ts;
}

abbrev pub if_lawful : (r d t : ℕ) (ts : List ℕ) (b : Bool) → lawful r d t ts ≡ b → Result Profile ProfileFault
if_lawful r d t ts true e = Ok (chosen r d t ts e)
if_lawful r d t ts false e = Err OutOfRange

-- the profile with these numbers, where they are lawful
abbrev pub profile_of : ℕ → ℕ → ℕ → List ℕ → Result Profile ProfileFault
profile_of r d t ts = if_lawful r d t ts (lawful r d t ts) refl

-- r, d, t and the thresholds in one list, as a line has them
abbrev pub profile_from : List ℕ → Result Profile ProfileFault
profile_from ns = profile_of (slice_index ns 0) (slice_index ns 1) (slice_index ns 2) (drop 3 ns)
