-- The trail and the state of a memory after accesses that are made one list after another.
-- They let a proof join the promises of two calls into one promise of the same form.
use Rattle.std.proofs.Common.{◌≡◌, ℕ, List, [], ◌∷◌, ◌++◌, refl}
use Rattle.memory.specs.Access.{Access, Rule, Seen, traced, accessed}

-- the trail of two lists of accesses is that of the second from the trail of the first
pub traced-++ : (rule : Rule) (tr : List ℕ) (xs ys : List Access) → traced rule tr (xs ++ ys) ≡ traced rule (traced rule tr xs) ys
traced-++ rule tr [] ys = refl
traced-++ rule tr (x ∷ xs) ys = traced-++ rule (rule tr x.kind x.address) xs ys

-- accesses that follow on accesses are one list of them
pub accessed_then : (s t u : Seen) (xs ys : List Access) (vs ws : List ℕ) → t ≡ accessed s xs vs → u ≡ accessed t ys ws → u ≡ accessed s (xs ++ ys) ws
accessed_then s t u xs ys vs ws p q = let e = traced-++ s.rule s.trail xs ys in cc
