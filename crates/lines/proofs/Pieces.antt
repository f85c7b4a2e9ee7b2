-- A list split at a separator, from its front on: bytes that are no separator stand before the first piece of what is left.
use Rattle.std.proofs.Common.{◌≡◌, ℕ, ◌<◌, Bool, true, false, eqb, List, [], ◌∷◌, ◌++◌, length, take, drop, Some, Option, sym, refl, ap, ⊎_elim, append_assoc, one-add, arith}
use Rattle.std.specs.List.{onto_first, position_or_len}
use Rattle.std.specs.Option.{option_map}
use Rattle.std.proofs.lemmas.List.Splits.{length-slice_split}
use Rattle.std.proofs.lemmas.Bool.{cases_Bool}
use Rattle.lines.specs.Splitting.{split}
use Rattle.lines.specs.Commands.{headed, parts}

-- some bytes before the first of some pieces
abbrev pub glued : List ℕ → List (List ℕ) → List (List ℕ)
glued bs [] = bs ∷ []
glued bs (p ∷ ps) = (bs ++ p) ∷ ps

pub glued_onto : (bs : List ℕ) (x : ℕ) (ps : List (List ℕ)) → glued bs (onto_first x ps) ≡ glued (bs ++ x ∷ []) ps
glued_onto bs x [] = refl
glued_onto bs x (p ∷ ps) = ap (λ q. q ∷ ps) (sym (append_assoc bs (x ∷ []) p))

pub split_some : (s : ℕ) (xs : List ℕ) → 0 < length (split s xs)
split_some s xs = omega (arith, length-slice_split (λ x. eqb x s) xs)

glued_some : (ps : List (List ℕ)) → 0 < length ps → glued [] ps ≡ ps
glued_some [] h = absurd (omega arith)
glued_some (p ∷ ps) h = refl

pub glued_none : (s : ℕ) (xs : List ℕ) → glued [] (split s xs) ≡ split s xs
glued_none s xs = glued_some (split s xs) (split_some s xs)

abbrev pub is_space : ℕ → Bool
is_space b = eqb b 32

headed_onto : (x : ℕ) (ps : List (List ℕ)) (q : List ℕ) (o : Option (List (List ℕ))) → headed (Some ps) ≡ Some (q, o)
    → headed (Some (onto_first x ps)) ≡ Some (x ∷ q, o)
headed_onto x [] q o e = grind arith
headed_onto x (p ∷ ps) q o e = ap (option_map (λ y. (x ∷ y.0, y.1))) e

-- the bytes before the first space are the first part, and from there the others follow
pub headed_first : (xs : List ℕ) → headed (Some (split 32 xs)) ≡ Some (take (position_or_len is_space xs) xs, parts (drop (position_or_len is_space xs) xs))
headed_first [] = refl
headed_first (x ∷ xs) =
    ⊎_elim
    (λ (e : eqb x 32 ≡ true). simp e refl)
    (λ (e : eqb x 32 ≡ false). simp (e, one-add) (headed_onto x (split 32 xs) _ _ (headed_first xs)))
    (cases_Bool (eqb x 32))
