-- KEY holds positions after any calls on a box that was opened, where a key is loaded: only load writes there, and wipe, which forgets the key.
use Rattle.std.proofs.Common.{◌≡◌, ℕ, ◌*◌, ◌<◌, ◌≤◌, true, List, [], ◌∷◌, ◌++◌, length, replicate, sym, ap, ◌∙◌, subst, inl, inr, arith}
use Rattle.std.proofs.lemmas.List.FromFn.{length-map-range_with_len}
use Rattle.memory.specs.Words.{over}
use Rattle.memory.proofs.Words.{part_out, part_over, part_zeros}
use Rattle.rows.specs.Rows.{row_at, word_of, words_of}
use Rattle.rows.specs.Fill.{part}
use Rattle.rows.proofs.Loops.{length_part}
use Rattle.scheme.specs.declared.profile.Profile.{Profile}
use Rattle.scheme.specs.Zones.{W, B, in_size, key_at, out_at, out_size, work_at, work_size, N}
use Rattle.keybox.specs.declared.call.Call.{Call}
use Rattle.keybox.specs.declared.call.Call.TheVariants.{Give, Take, Load, Seal, Wipe}
use Rattle.keybox.specs.Model.{State, opened, rested, published, place_fault, public_row, loaded_words, public_syndrome, seal_fault, next}
use Rattle.keybox.specs.Runs.{after, Positions, KeyHolds}
use Rattle.keybox.proofs.Granted.{either_way, each_way, load_room}
use Rattle.keybox.proofs.Inverting.{load_input_passed}
use Rattle.keybox.proofs.Keys.{load_positions}
use Rattle.keybox.proofs.Public.{keeps_after}

module _ (p : Profile) where
  -- a row that is published, and what is lost with WORK, leave KEY as it was
  key_published : (row ws : List ℕ) → length row ≡ W p → part (rested p (published p row ws)) (key_at p) (2 * p.d) ≡ part ws (key_at p) (2 * p.d)
  key_published row ws long =
      let both = row ++ replicate (W p) 0 in
      part_zeros (published p row ws) (key_at p) (2 * p.d) (work_at p) (work_size p) (inl (omega arith))
      ∙ part_zeros (over ws (out_at p) both) (key_at p) (2 * p.d) 0 (in_size p) (inr (omega arith))
      ∙ part_out ws (key_at p) (2 * p.d) (out_at p) both (inl (omega arith))

  -- a granted load leaves there what it read
  key_loaded : (ws : List ℕ) → N p ≤ length ws → part (loaded_words p ws) (key_at p) (2 * p.d) ≡ part ws 0 (2 * p.d)
  key_loaded ws room =
      let key = part ws 0 (2 * p.d) in
      let long : length key ≡ 2 * p.d = length_part ws 0 (2 * p.d) (omega arith) in
      key_published (words_of p.r (public_row p ws)) (over ws (key_at p) key) (length-map-range_with_len (word_of p.r (public_row p ws)) 0 (W p))
      ∙ ap (part (over ws (key_at p) key) (key_at p)) (sym long)
      ∙ part_over ws (key_at p) key (omega (arith, long))

-- a box whose KEY holds positions, if a key is loaded
abbrev Holding : State → Type 0
Holding s = s.loaded ≡ true → Positions s.profile.r s.profile.d (part s.words (key_at s.profile) (2 * s.profile.d))

-- words that have the same in KEY hold the same positions
same_key : (p : Profile) (ws vs : List ℕ) → part vs (key_at p) (2 * p.d) ≡ part ws (key_at p) (2 * p.d)
    → Positions p.r p.d (part ws (key_at p) (2 * p.d)) → Positions p.r p.d (part vs (key_at p) (2 * p.d))
same_key p ws vs e h = subst (Positions p.r p.d) (sym e) h

module _ (s : State) (h : Holding s) where
  holds_next : (c : Call) → Holding (next s c).after
  holds_next (Give i w) = either_way (λ o. Holding o.after) (place_fault s (in_size s.profile) i) s _ (λ _. h) (λ e l.
      let early : i < in_size s.profile = grind arith in
      same_key s.profile s.words _ (part_out s.words (key_at s.profile) (2 * s.profile.d) i (w ∷ []) (inr (omega arith))) (h l))
  holds_next (Take i) = either_way (λ o. Holding o.after) (place_fault s (out_size s.profile) i) s _ (λ _. h) (λ _. h)
  holds_next Load = each_way (λ o. Holding o.after) s (λ _. h)
      (λ _ l. same_key s.profile s.words _ (part_zeros s.words (key_at s.profile) (2 * s.profile.d) (work_at s.profile) (work_size s.profile) (inl (omega arith))) (h l))
      (λ e _ _. subst (Positions s.profile.r s.profile.d) (sym (key_loaded s.profile s.words (load_room s e))) (load_positions s.profile s.words (load_input_passed s e)))
  holds_next Seal = either_way (λ o. Holding o.after) (seal_fault s) s _ (λ _. h) (λ _ l.
      let p = s.profile in
      let x = public_syndrome p.r (part s.words 0 p.t) (row_at s.words (B p)) in
      same_key p s.words _ (key_published p (words_of p.r x) s.words (length-map-range_with_len (word_of p.r x) 0 (W p))) (h l))
  holds_next Wipe = grind arith

holds_after : (s : State) (cs : List Call) → Holding s → Holding (after s cs)
holds_after s [] h = h
holds_after s (c ∷ cs) h = holds_after (next s c).after cs (holds_next s h c)

pub key_holds : (p : Profile) (u : ℕ) (ws : List ℕ) (cs : List Call) → KeyHolds p u ws cs
key_holds p u ws cs loaded =
    let kept = keeps_after (opened p u ws) cs in
    let held = holds_after (opened p u ws) cs (λ l. grind arith) loaded in
    subst (λ q. Positions q.r q.d (part (after (opened p u ws) cs).words (key_at q) (2 * q.d))) kept.0 held
