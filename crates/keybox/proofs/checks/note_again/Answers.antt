use Rattle.std.proofs.Common.{◌+◌, get_or, sym, refl, ap, ◌∙◌}
use Rattle.keybox.specs.Accesses.{pair_accesses}
use Rattle.keybox.proofs.Marking.{or_none, pair_step, noted_step, again_test}
use Rattle.keybox.proofs.checks.note_again.Goals as goal

pub loop-i-init : goal.loop-i-init
unfolding pair_accesses
loop-i-init g c = (sym (or_none _), refl)

pub loop-i-preserved : goal.loop-i-preserved
loop-i-preserved g c =
    let same = ap (λ z. z.words) c.loop-i.invariant.1 in
    let word = c.get_within-word.ensures.value ∙ ap (λ z. get_or z (c.args.at + c.loop-i.i) 0) same in
    let kept = ap (λ z. z.words) c.get_within-word.ensures.did ∙ same in (
      noted_step _ _ _ _ _ _ _ _ c.loop-i.invariant.0 (again_test _ _ _ _ _ _ _ c.loop-i-test.true kept word c.stands_in.ensures.value) c.note.ensures,
      pair_step _ _ _ _ _ _ c.loop-i.invariant.1 c.get_within-word.ensures.did c.stands_in.ensures.did,
    )
