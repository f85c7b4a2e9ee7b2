-- The first word that is refused is the last.
use Rattle.std.proofs.Common.{sym}
use Rattle.std.proofs.lemmas.Result.{err_from_is_err_and}
use Rattle.keybox.proofs.Driving.{give_stops}
use Rattle.keybox.proofs.lent.give_all.Goals as goal

pub returns-in_err-give : goal.returns-in_err-give
returns-in_err-give g c =
    let p = err_from_is_err_and c.from_residual.result c.from_residual.ensures.1 in
    rw (p.1, p.2) (sym (give_stops _ _ _ _ _ _ _ _ c.loop-i.invariant.gives c.loop-i-test.true c.in_err-give.ensures))
