-- Which numbers make a profile, and the profile that a place begins with.
use Rattle.std.specs.Prelude.{ℕ, ◌-◌, ◌*◌, Bool, ◌&&◌, List, [], ◌∷◌, ◌++◌, length, replicate, nat_le}
use Rattle.std.specs.List.{list_all}
use Rattle.scheme.specs.declared.profile.Profile.{Profile}

-- every threshold is at least 1 and at most d
abbrev pub all_within : ℕ → List ℕ → Bool
all_within d = list_all (λ x. nat_le 1 x && nat_le x d)

-- a setting is granted exactly where this holds
abbrev pub lawful : ℕ → ℕ → ℕ → List ℕ → Bool
lawful r d t ts = nat_le 3 r && nat_le r 16000 && nat_le 1 d && nat_le d 63 && nat_le d r && nat_le 1 t && nat_le t 255 && nat_le t (2 * r)
    && nat_le 1 (length ts) && nat_le (length ts) 16 && all_within d ts

-- the sixteen entries that hold the thresholds
abbrev pub entries : List ℕ → List ℕ
entries ts = ts ++ replicate (16 - length ts) 0

-- the numbers of a profile
pub record Numbers : Type 0 where
  pub r : ℕ
  pub d : ℕ
  pub t : ℕ
  pub k : ℕ
  pub thresholds : List ℕ

abbrev pub numbers : Profile → Numbers
numbers p = record { r = p.r; d = p.d; t = p.t; k = p.k; thresholds = p.thresholds }

-- the numbers that a granted setting leaves
abbrev pub chosen_numbers : ℕ → ℕ → ℕ → List ℕ → Numbers
chosen_numbers r d t ts = record { r = r; d = d; t = t; k = length ts; thresholds = entries ts }

-- the numbers that a profile place begins with
abbrev pub first_numbers : Numbers
first_numbers = chosen_numbers 4801 45 84 (29 ∷ 27 ∷ 25 ∷ 24 ∷ 23 ∷ 23 ∷ [])
