use Rattle.std.proofs.Common.{◌≡◌, ◌-◌, eqb, leb, get_or, refl, ap, ◌∙◌, arith}
use Rattle.keybox.specs.Accesses.{read_accesses}
use Rattle.keybox.proofs.Marking.{read_step, first_step, beyond}
use Rattle.keybox.proofs.checks.first_beyond.Goals as goal

pub loop-i-init : goal.loop-i-init
unfolding read_accesses
loop-i-init g c = (c.none-mark.ensures, refl)

pub loop-i-preserved : goal.loop-i-preserved
loop-i-preserved g c =
    let same = ap (λ z. z.words) c.loop-i.invariant.1 in
    let word = c.get_within-word.ensures.value ∙ ap (λ z. get_or z c.loop-i.i 0) same in
    let test : eqb c.not.result.digit 1 ≡ leb c.args.limit (get_or (g.M.Memory.seen c.args.m.now).words c.loop-i.i 0) =
    ap (λ z. eqb z 1) (c.not.ensures ∙ ap (λ z. 1 - z) c.less.ensures) ∙ (beyond c.get_within-word.result c.args.limit ∙ ap (leb c.args.limit) word) in (
      first_step _ _ _ _ _ c.loop-i.invariant.0 test c.note.ensures,
      read_step _ _ _ _ _ _ (omega arith) c.loop-i.invariant.1 c.get_within-word.ensures.did,
    )
