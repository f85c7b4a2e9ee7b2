-- What lasts over the calls to come, for a box that any calls on a newly opened one have led to.
use Rattle.std.specs.Prelude.{◌≡◌, ℕ, List, ◌++◌, take}
use Rattle.scheme.specs.declared.profile.Profile.{Profile}
use Rattle.keybox.specs.declared.call.Call.{Call}
use Rattle.keybox.specs.Model.{State, opened}
use Rattle.keybox.specs.Runs.{after, Forgets, Rests, KeyHolds, RefusalsChangeNothing}

-- at every point of the calls: WORK rests, KEY holds positions, a refusal changes nothing, and a granted wipe forgets
pub record Lasts (s : State) (cs : List Call) : Type 0 where
  pub work_rests : (p : Profile) (u : ℕ) (ws : List ℕ) (before : List Call) → after (opened p u ws) before ≡ s → (n : ℕ) → Rests p u ws (before ++ take n cs)
  pub key_holds_positions : (p : Profile) (u : ℕ) (ws : List ℕ) (before : List Call) → after (opened p u ws) before ≡ s → (n : ℕ) → KeyHolds p u ws (before ++ take n cs)
  pub refusals_change_nothing : (p : Profile) (u : ℕ) (ws : List ℕ) (before : List Call) → after (opened p u ws) before ≡ s → (n : ℕ) → RefusalsChangeNothing p u ws (before ++ take n cs)
  pub wipe_forgets : (n : ℕ) → Forgets (after s (take n cs))
