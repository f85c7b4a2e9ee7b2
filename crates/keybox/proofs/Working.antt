-- The rows of WORK, and what becomes of a row that is published.
use Rattle.std.proofs.Common.{◌≡◌, ℕ, ◌+◌, ◌*◌, ◌<◌, ◌≤◌, List, ◌++◌, length, replicate, sym, ap, ◌∙◌, inl, mul-le-mul_right, add-mul, arith, length-append}
use lib.ListN.{length-replicate}
use Rattle.memory.specs.Access.{Seen, accessed}
use Rattle.memory.specs.Words.{over, zeros}
use Rattle.memory.proofs.Traces.{accessed_then}
use Rattle.memory.proofs.Words.{over-++, zeros_comm}
use Rattle.rows.specs.Fill.{part, zero_accesses, copy_accesses}
use Rattle.rows.proofs.Loops.{length_part}
use Rattle.scheme.specs.declared.profile.Profile.{Profile}
use Rattle.keybox.specs.Accesses.{publish_accesses}
use Rattle.keybox.specs.Model.{rested, published}
use Rattle.scheme.specs.Zones.{W, in_size, out_at, out_size, work_at, work_size, work_row, N}

-- each of the twelve rows lies in WORK
pub row_inside : (p : Profile) (i : ℕ) → i < 12 → (work_at p ≤ work_row p i) × (work_row p i + W p ≤ N p)
row_inside p i h =
    let few : (i + 1) * W p ≤ 12 * W p = mul-le-mul_right (W p) (omega arith) in
    let next : (i + 1) * W p ≡ i * W p + 1 * W p = add-mul i 1 (W p) in
    (omega arith, omega arith)

-- a row in OUT, and zeros after it
pub row_and_zeros : (p : Profile) (row ws : List ℕ) → length row ≡ W p → over ws (out_at p) (row ++ replicate (W p) 0) ≡ zeros (over ws (out_at p) row) (out_at p + W p) (W p)
row_and_zeros p row ws long = over-++ ws (out_at p) row (replicate (W p) 0) ∙ ap (λ n. zeros (over ws (out_at p) row) (out_at p + n) (W p)) long

module _ (p : Profile) (i a o w n : ℕ) (s t u v : Seen) (row : a ≡ work_row p i) (out : o ≡ out_at p) (wide : w ≡ W p)
    (copied : t ≡ accessed s (copy_accesses a o w) (over s.words o (part s.words a w)))
    (rest_zeroed : u ≡ accessed t (zero_accesses (o + w) w) (zeros t.words (o + w) w))
    (in_zeroed : v ≡ accessed u (zero_accesses 0 n) (zeros u.words 0 n)) (all : n ≡ in_size p) where
  pub published_is : work_row p i + W p ≤ length s.words → v ≡ accessed s (publish_accesses p i) (published p (part s.words (work_row p i) (W p)) s.words)
  unfolding publish_accesses
  published_is room =
      let laid : t ≡ accessed s (copy_accesses (work_row p i) (out_at p) (W p)) (over s.words (out_at p) (part s.words (work_row p i) (W p))) = cc in
      let held : over s.words (out_at p) (part s.words (work_row p i) (W p)) ≡ t.words = sym (ap (λ z. z.words) laid) in
      let half : u ≡ accessed t (zero_accesses (out_at p + W p) (W p)) (zeros t.words (out_at p + W p) (W p)) = cc in
      let both : zeros t.words (out_at p + W p) (W p) ≡ over s.words (out_at p) (part s.words (work_row p i) (W p) ++ replicate (W p) 0) =
      ap (λ z. zeros z (out_at p + W p) (W p)) (sym held) ∙ sym (row_and_zeros p (part s.words (work_row p i) (W p)) s.words (length_part s.words (work_row p i) (W p) room)) in
      let last : v ≡ accessed u (zero_accesses 0 (in_size p)) (zeros u.words 0 (in_size p)) = cc in
      let done : zeros u.words 0 (in_size p) ≡ published p (part s.words (work_row p i) (W p)) s.words = ap (λ z. zeros z 0 (in_size p)) (ap (λ z. z.words) half ∙ both) in
      accessed_then s t v (copy_accesses (work_row p i) (out_at p) (W p)) (zero_accesses (out_at p + W p) (W p) ++ zero_accesses 0 (in_size p)) _ _ laid
      (accessed_then t u v (zero_accesses (out_at p + W p) (W p)) (zero_accesses 0 (in_size p)) _ _ half (last ∙ ap (accessed u (zero_accesses 0 (in_size p))) done))

-- WORK may be zeroed before a row is published or after
rested_published : (p : Profile) (row ws : List ℕ) → length row ≡ W p → rested p (published p row ws) ≡ published p row (rested p ws)
rested_published p row ws long =
    let whole : length (row ++ replicate {A = ℕ} (W p) 0) ≡ out_size p = simp (length-append, length-replicate) (omega arith) in
    zeros_comm (over ws (out_at p) (row ++ replicate (W p) 0)) 0 (replicate (in_size p) 0) (work_at p) (work_size p) (inl (simp length-replicate (omega arith)))
    ∙ ap (λ z. zeros z 0 (in_size p)) (zeros_comm ws (out_at p) (row ++ replicate (W p) 0) (work_at p) (work_size p) (inl (omega arith)))

-- what was done in WORK before is lost
pub work_lost : (p : Profile) (row us ws : List ℕ) → length row ≡ W p → rested p us ≡ rested p ws → rested p (published p row us) ≡ rested p (published p row ws)
work_lost p row us ws long same = rested_published p row us long ∙ (ap (published p row) same ∙ sym (rested_published p row ws long))
