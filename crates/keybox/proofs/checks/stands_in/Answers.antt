use Rattle.std.proofs.Common.{◌+◌, ◌<◌, cond, length, get_or, sym, refl, ap, ◌∙◌, arith}
use Rattle.keybox.specs.Accesses.{read_accesses}
use Rattle.keybox.proofs.Marking.{read_step, earlier_none, found_step}
use Rattle.keybox.proofs.checks.stands_in.Goals as goal

pub loop-j-init : goal.loop-j-init
unfolding read_accesses
loop-j-init g c = (c.no-found.ensures ∙ ap (λ b. cond b 1 0) (sym (earlier_none _ _)), refl)

pub loop-j-preserved : goal.loop-j-preserved
loop-j-preserved g c =
    let same = ap (λ z. z.words) c.loop-j.invariant.1 in
    let word = c.get_within-other.ensures.value ∙ ap (λ z. get_or z (c.args.at + c.loop-j.j) 0) same in
    let inside : c.args.at + c.loop-j.j < length (g.M.Memory.seen c.args.m.now).words = omega arith in (
      c.or-found.ensures ∙ found_step _ _ _ _ _ _ _ inside c.loop-j.invariant.0 word c.equal.ensures,
      read_step _ _ _ _ _ _ refl c.loop-j.invariant.1 c.get_within-other.ensures.did,
    )
