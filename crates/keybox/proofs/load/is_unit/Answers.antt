use Rattle.std.proofs.Common.{◌≡◌, ◌+◌, ◌<◌, eqb, length, get_or, refl, ap, ◌∙◌, arith}
use Rattle.scheme.specs.Zones.{W}
use Rattle.keybox.specs.Accesses.{read_accesses}
use Rattle.keybox.proofs.Marking.{read_step, digit_of}
use Rattle.keybox.proofs.Units.{none_wanted, unit_step, all_unit, all_read}
use Rattle.keybox.proofs.load.is_unit.Goals as goal

pub loop-w-init : goal.loop-w-init
unfolding read_accesses
loop-w-init g c = (refl, refl, refl)

pub loop-w-preserved : goal.loop-w-preserved
loop-w-preserved g c =
    let same = ap (λ z. z.words) c.loop-w.invariant.2 in
    let word = c.get_within-word.ensures.value ∙ ap (λ z. get_or z (c.work_row-at.result + c.loop-w.w) 0) same in
    let inside : c.work_row-at.result + c.loop-w.w < length (g.M.Memory.seen c.args.m.now).words = omega (arith, c.work_row-at.ensures.value, c.width-width.ensures.value) in (
      none_wanted _,
      unit_step _ _ _ _ _ _ inside c.loop-w.invariant.1 c.loop-w.invariant.0 word,
      read_step _ _ _ _ _ _ refl c.loop-w.invariant.2 c.get_within-word.ensures.did,
    )

pub returns : goal.returns
returns g c =
    let all : c.loop-w.w ≡ W c.args.profile.now = omega (arith, c.width-width.ensures.value) in
    record {
      value = c.reveal.ensures ∙ ap (λ z. eqb z 1) c.equal.ensures ∙ digit_of _ ∙ all_unit _ _ _ _ _ _ c.work_row-at.ensures.value all c.loop-w.invariant.1;
      did = all_read _ _ _ _ _ _ c.work_row-at.ensures.value all c.loop-w.invariant.2;
    }
