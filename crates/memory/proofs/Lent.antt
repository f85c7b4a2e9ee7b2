-- A lent list of words and the front of it that addresses reach.
-- A put at an address that reaches a word is a put to the whole list, and any other changes nothing of it.
use Rattle.std.proofs.Common.{◌≡◌, ℕ, ◌<◌, ◌≤◌, List, [], ◌∷◌, ◌++◌, length, get_or, set, sym, refl, ap, ◌∙◌, inl, inr, arith, take-append-drop, length-take, get_or-take, drop-set-lt}
use lib.Seq.{take-set-lt}
use Rattle.std.proofs.lemmas.List.{set_past}
use Rattle.std.proofs.lemmas.Bool.{cases_lt}
use Rattle.memory.specs.Access.{Seen, put, accessed}
use Rattle.memory.specs.Layers.{reached, unreached, written, bare}

-- a bare memory by the words that it reaches and the rest
abbrev parts : ℕ → List ℕ → List ℕ → Seen
parts name ws rest = record { words = ws; trail = []; rule = λ _ _ _. []; outside = rest; home = name ∷ [] }

same_parts : (name : ℕ) {vs ws us xs : List ℕ} → vs ≡ ws → us ≡ xs → parts name vs us ≡ parts name ws xs
same_parts name p q = cc

-- an address that reaches a word
module _ (ws : List ℕ) (a : ℕ) (h : a < length (reached ws)) where
  low : a < 65536
  low = omega (arith, length-take 65536 ws)

  pub reached_in : a < length ws
  reached_in = omega (arith, length-take 65536 ws)

  pub reached_at : get_or (reached ws) a 0 ≡ get_or ws a 0
  reached_at = get_or-take 65536 ws a 0 low

-- a put at such an address
module _ (ws : List ℕ) (a w : ℕ) (h : a < length (reached ws)) where
  reached_set : reached (set ws a w) ≡ set (reached ws) a w
  reached_set = take-set-lt 65536 ws a w (low ws a h)

  unreached_set : unreached (set ws a w) ≡ unreached ws
  unreached_set = drop-set-lt 65536 ws a w (low ws a h)

  pub written_in : written ws a w ≡ set ws a w
  written_in =
      let whole = take-append-drop 65536 (set ws a w) in
      let front = reached_set in
      let rest = unreached_set in
      cc

-- a put at an address that reaches none
pub written_out : (ws : List ℕ) (a w : ℕ) → length (reached ws) ≤ a → written ws a w ≡ ws
written_out ws a w h = ap (λ z. z ++ unreached ws) (set_past (reached ws) a w h) ∙ take-append-drop 65536 ws

-- the memory over the list after a put
pub bare_written : (name : ℕ) (ws : List ℕ) (a w : ℕ) → bare name (written ws a w) ≡ accessed (bare name ws) (put a ∷ []) (set (reached ws) a w)
bare_written name ws a w =
    elim (cases_lt a (length (reached ws))) [
      | inl h ↦ ap (bare name) (written_in ws a w h) ∙ same_parts name (reached_set ws a w h) (unreached_set ws a w h)
      | inr h ↦ ap (bare name) (written_out ws a w h) ∙ same_parts name (sym (set_past (reached ws) a w h)) refl
    ]
