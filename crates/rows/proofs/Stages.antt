-- The stages of a rotation, turn by turn and stage by stage, and what all of them leave: the words as they were, from word t on.
-- A stage may write less and less, since what is read after it lies within n words and those that are still to be shifted over.
use Rattle.std.proofs.Common.{◌≡◌, ℕ, zero, suc, ◌+◌, ◌-◌, ◌*◌, ◌/◌, ◌%◌, ◌^◌, ◌<◌, ◌≤◌, List, [], ◌∷◌, map, length, get_or, set, sym, refl, ap, ◌∙◌, subst, ap₂, inl, inr, one-mul, arith}
use native.Mathlib.Nat.{mod-one, mod-le, two-pow-succ}
use Rattle.std.specs.List.{range_with_len}
use Rattle.std.proofs.lemmas.Nat.{mod-pow-add}
use Rattle.std.proofs.lemmas.List.FromFn.{length-map-range_with_len}
use Rattle.std.proofs.lemmas.Bool.{cases_lt}
use Rattle.memory.specs.Access.{Seen, accessed, get, put}
use Rattle.memory.specs.Words.{over}
use Rattle.memory.proofs.Traces.{accessed_then}
use Rattle.memory.proofs.Words.{over_inside}
use Rattle.rows.specs.Turn.{reach, stage_accesses, stages_accesses}
use Rattle.rows.specs.Masks.{chosen}
use Rattle.rows.specs.Number.{filled, staged, stages_words}
use Rattle.rows.proofs.Loops.{turned, size}
use Rattle.rows.proofs.Filling.{length_filled, filled_more, filled_in, filled_out}

pub stage_none : (s : Seen) (base v d : ℕ) → s ≡ accessed s (stage_accesses base v 0) (filled s.words base (staged s.words base v d) 0)
unfolding stage_accesses filled
stage_none s base v d = refl

pub stage_more : (s t t₁ t₂ u : Seen) (base v d w far near x : ℕ)
    → t ≡ accessed s (stage_accesses base v w) (filled s.words base (staged s.words base v d) w)
    → t₁ ≡ accessed t (get (base + w + v) ∷ []) t.words → far ≡ get_or t.words (base + w + v) 0
    → t₂ ≡ accessed t₁ (get (base + w) ∷ []) t₁.words → near ≡ get_or t₁.words (base + w) 0
    → x ≡ chosen d far near → u ≡ accessed t₂ (put (base + w) ∷ []) (set t₂.words (base + w) x)
    → u ≡ accessed s (stage_accesses base v (w + 1)) (filled s.words base (staged s.words base v d) (w + 1))
unfolding stage_accesses
stage_more s t t₁ t₂ u base v d w far near x p q₁ e₁ q₂ e₂ ex q₃ =
    let ws = s.words in
    let f = staged ws base v d in
    let o₁ = filled_out ws base f w (base + w + v) (inr (omega arith)) in
    let o₂ = filled_out ws base f w (base + w) (inr (omega arith)) in
    let m = filled_more ws base f w in
    let same : t₂.words ≡ t.words = cc in
    let new : set t₂.words (base + w) x ≡ filled ws base f (w + 1) = cc in
    turned s t u (λ k. get (base + k + v) ∷ get (base + k) ∷ put (base + k) ∷ []) w _ (filled ws base f (w + 1)) p
    (accessed_then t t₁ u (get (base + w + v) ∷ []) (get (base + w) ∷ put (base + w) ∷ []) _ (filled ws base f (w + 1)) q₁
    (accessed_then t₁ t₂ u (get (base + w) ∷ []) (put (base + w) ∷ []) _ (filled ws base f (w + 1)) q₂ (q₃ ∙ ap (accessed t₂ (put (base + w) ∷ [])) new)))

-- ---- the stages, one after another

-- before the stage by digit e - 1: what is left to do leads where all k stages lead
pub record Ahead (s t : Seen) (n base d k e : ℕ) : Type 0 where
  pub left : accessed t (stages_accesses n base e) (stages_words n base d e t.words) ≡ accessed s (stages_accesses n base k) (stages_words n base d k s.words)
  pub long : size t ≡ size s

pub ahead_less : (s t u : Seen) (n base d k e e' v digit : ℕ) → e ≡ suc e' → v ≡ 2 ^ e' → digit ≡ d / 2 ^ e' % 2 → Ahead s t n base d k e
    → u ≡ accessed t (stage_accesses base v (reach n v)) (filled t.words base (staged t.words base v digit) (reach n v))
    → Ahead s u n base d k e'
unfolding stages_accesses stages_words
ahead_less s t u n base d k e e' v digit ee ev ed p q =
    let f : ℕ → ℕ = staged t.words base (2 ^ e') (d / 2 ^ e' % 2) in
    let xs = filled t.words base f (reach n (2 ^ e')) in
    let q' : u ≡ accessed t (stage_accesses base (2 ^ e') (reach n (2 ^ e'))) xs =
    q ∙ ap₂ (λ (a b : ℕ). accessed t (stage_accesses base a (reach n a)) (filled t.words base (staged t.words base a b) (reach n a))) ev ed in
    let p' : Ahead s t n base d k (suc e') = subst (Ahead s t n base d k) ee p in
    record {
      left = accessed_then t u _ (stage_accesses base (2 ^ e') (reach n (2 ^ e'))) (stages_accesses n base e') xs _ q' (ap (λ (z : Seen). accessed u (stages_accesses n base e') (stages_words n base d e' z.words)) q') ∙ p'.left;
      long = ap size q' ∙ (length_filled t.words base f (reach n (2 ^ e')) ∙ p'.long);
    }

-- after the last
pub ahead_none : (s t : Seen) (n base d k e : ℕ) → e ≡ 0 → Ahead s t n base d k e → t ≡ accessed s (stages_accesses n base k) (stages_words n base d k s.words)
unfolding stages_accesses stages_words
ahead_none s t n base d k e ee p = (subst (Ahead s t n base d k) ee p).left

-- ---- what they leave

-- from word σ on stands f, as far as n + m words and the two rows reach
abbrev pub There : List ℕ → ℕ → ℕ → ℕ → ℕ → (ℕ → ℕ) → Type 0
There xs b n m σ f = (v : ℕ) → v < n + m → v + σ < 2 * n → get_or xs (b + v) 0 ≡ f (v + σ)

-- a stage by v words: what reads n + v words after it, reads n + 2 v before
stage_there : (xs : List ℕ) (b n v d σ : ℕ) (f : ℕ → ℕ) → b + 2 * n ≤ length xs → d < 2 → v < n → There xs b n (2 * v) σ f
    → There (filled xs b (staged xs b v d) (reach n v)) b n v (σ + d * v) f
stage_there xs b n v zero σ f hb hd hv p = λ u l k.
    let z : u + (σ + 0 * v) ≡ u + σ = omega arith in
    let same = p u (omega arith) (omega arith) in
    elim (cases_lt u (reach n v)) [
      | inl i ↦ rw z (filled_in xs b (staged xs b v 0) (reach n v) u (omega arith) i ∙ same)
      | inr i ↦ rw z (filled_out xs b (staged xs b v 0) (reach n v) (b + u) (inr (omega arith)) ∙ same)
    ]
stage_there xs b n v (suc d) σ f hb hd hv p = λ u l k.
    let one : suc d * v ≡ v = ap (λ z. z * v) (omega arith) ∙ one-mul v in
    let z : u + v + σ ≡ u + (σ + suc d * v) = omega arith in
    let place : b + u + v ≡ b + (u + v) = omega arith in
    filled_in xs b (staged xs b v (suc d)) (reach n v) u (omega arith) (omega arith)
    ∙ (ap (λ a. get_or xs a 0) place ∙ (p (u + v) (omega arith) (omega arith) ∙ ap f z))

-- once the digits of t from e on are done, the words stand from word t - t % 2 ^ e on
digit_done : (t e : ℕ) → t - t % 2 ^ suc e + t / 2 ^ e % 2 * 2 ^ e ≡ t - t % 2 ^ e
digit_done t e =
    let i : 1 + e ≡ suc e = omega arith in
    let split : t % 2 ^ suc e ≡ t / 2 ^ e % 2 * 2 ^ e + t % 2 ^ e = ap (λ z. t % 2 ^ z) (sym i) ∙ mod-pow-add t 1 e in
    omega (arith, mod-le t (2 ^ suc e))

pub stages_there : (n b t e : ℕ) (xs : List ℕ) (f : ℕ → ℕ) → b + 2 * n ≤ length xs → ((i : ℕ) → i < e → 2 ^ i < n)
    → There xs b n (2 ^ e) (t - t % 2 ^ e) f → There (stages_words n b t e xs) b n 1 t f
unfolding stages_words
stages_there n b t zero xs f hb hn p =
    let all : t - t % 1 ≡ t = omega (arith, mod-one t) in
    subst (λ z. There xs b n 1 z f) all p
stages_there n b t (suc e) xs f hb hn p =
    let m : ℕ = reach n (2 ^ e) in
    let d : ℕ = t / 2 ^ e % 2 in
    let twice : 2 ^ suc e ≡ 2 * 2 ^ e = omega (arith, two-pow-succ e) in
    let p' : There xs b n (2 * 2 ^ e) (t - t % 2 ^ suc e) f = subst (λ z. There xs b n z (t - t % 2 ^ suc e) f) twice p in
    stages_there n b t e (filled xs b (staged xs b (2 ^ e) d) m) f (omega (arith, length_filled xs b (staged xs b (2 ^ e) d) m)) (λ i l. hn i (omega arith))
    (subst (λ z. There (filled xs b (staged xs b (2 ^ e) d) m) b n (2 ^ e) z f) (digit_done t e) (stage_there xs b n (2 ^ e) d (t - t % 2 ^ suc e) f hb (omega arith) (hn e (omega arith)) p'))

-- nothing is written outside the two rows
pub stages_over : (n b t e : ℕ) (xs ys : List ℕ) → length ys ≡ 2 * n → over (stages_words n b t e xs) b ys ≡ over xs b ys
unfolding stages_words filled
stages_over n b t zero xs ys h = refl
stages_over n b t (suc e) xs ys h =
    let f : ℕ → ℕ = staged xs b (2 ^ e) (t / 2 ^ e % 2) in
    let m : ℕ = reach n (2 ^ e) in
    stages_over n b t e (filled xs b f m) ys h ∙ over_inside xs b (map f (range_with_len 0 m)) b ys (omega arith) (omega (arith, length-map-range_with_len f 0 m))
