-- The sixteen entries that hold lawful thresholds, and what lawful numbers are one by one.
use Rattle.std.proofs.Common.{◌≡◌, ℕ, ◌*◌, ◌<◌, ◌≤◌, true, ◌&&◌, leb, List, length, get_or, arith, rules}
use Rattle.std.proofs.lemmas.List.Sums.{AllPass-from_list_all}
use Rattle.std.proofs.lemmas.List.Elements.{All-get_or}
use Rattle.std.proofs.lemmas.Grind.{common_steps}
use borrow.Author.Tests.{tests}
use Rattle.scheme.specs.Setting.{all_within, lawful, entries}

pub length_entries : (ts : List ℕ) → length ts ≤ 16 → length (entries ts) ≡ 16
length_entries ts few = grind (arith, common_steps)

pub unused_entry : (ts : List ℕ) (i : ℕ) → length ts ≤ i → get_or (entries ts) i 0 ≡ 0
unused_entry ts i l = grind (arith, common_steps)

all_at : (d : ℕ) (ts : List ℕ) → all_within d ts ≡ true → (i : ℕ) → i < length ts → (1 ≤ get_or ts i 0) × (get_or ts i 0 ≤ d)
all_at d ts h i l =
    let here = All-get_or (λ x. (leb 1 x && leb x d) ≡ true) ts i 0 l (AllPass-from_list_all _ ts h) in (search (rules, tests), search (rules, tests))

pub used_entry : (d : ℕ) (ts : List ℕ) → all_within d ts ≡ true → (i : ℕ) → i < length ts → (1 ≤ get_or (entries ts) i 0) × (get_or (entries ts) i 0 ≤ d)
used_entry d ts h i l = grind (arith, common_steps, all_at d ts h i l)

-- what lawful numbers are, one by one
pub record Ranges (r d t : ℕ) (ts : List ℕ) : Type 0 where
  pub r_range : (3 ≤ r) × (r ≤ 16000)
  pub d_range : (1 ≤ d) × (d ≤ 63) × (d ≤ r)
  pub t_range : (1 ≤ t) × (t ≤ 255) × (t ≤ 2 * r)
  pub k_range : (1 ≤ length ts) × (length ts ≤ 16)
  pub thresholds : all_within d ts ≡ true

pub ranges : (r d t : ℕ) (ts : List ℕ) → lawful r d t ts ≡ true → Ranges r d t ts
ranges r d t ts e =
    record {
      r_range = search (rules, tests);
      d_range = search (rules, tests);
      t_range = search (rules, tests);
      k_range = search (rules, tests);
      thresholds = search (rules, tests);
    }
