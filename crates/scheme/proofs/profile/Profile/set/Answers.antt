-- The ranges of a profile follow from the test that was passed, and the entries from how they were made.
use Rattle.std.proofs.Common.{sym}
use Rattle.scheme.proofs.Thresholds.{ranges, length_entries, used_entry, unused_entry}
use Rattle.scheme.proofs.profile.Profile.set.Goals as goal

pub invariant_of-self : goal.invariant_of-self
invariant_of-self c =
    let h = ranges _ _ _ _ (sym c.if-not-is_lawful.ensures) in
    let made = c.entries.ensures in
    record {
      r_range = h.r_range;
      d_range = h.d_range;
      t_range = h.t_range;
      k_range = h.k_range;
      entries = rw made (length_entries _ h.k_range.1);
      used = rw made (used_entry _ _ h.thresholds);
      unused = rw made (unused_entry _);
    }
