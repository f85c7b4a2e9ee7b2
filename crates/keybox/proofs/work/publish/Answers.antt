use Rattle.std.proofs.Common.{◌+◌, ◌≤◌, length, ap, arith}
use Rattle.memory.proofs.Words.{length_over}
use Rattle.rows.proofs.Loops.{size}
use Rattle.scheme.specs.Zones.{W, work_row}
use Rattle.keybox.proofs.Working.{row_inside, published_is}
use Rattle.keybox.proofs.work.publish.Goals as goal

pub zero-requires : goal.zero-requires
zero-requires g c =
    let long = simp length_over at (ap size c.copy.ensures.did) in
    record { space = omega arith }

pub zero-requires-2 : goal.zero-requires-2
zero-requires-2 g c =
    let long = simp length_over at (ap size c.copy.ensures.did) in
    let same = simp length_over at (ap size c.zero.ensures.did) in
    record { space = omega arith }

pub returns : goal.returns
returns g c =
    let p = c.args.profile.now in
    let inside = row_inside p c.args.i c.requires.row in
    let room : work_row p c.args.i + W p ≤ length (g.M.Memory.seen c.args.m.now).words = omega arith in
    published_is p c.args.i _ _ _ _ _ _ _ _ c.work_row.ensures.value c.out_at-out.ensures.value c.width-width.ensures.value
    c.copy.ensures.did c.zero.ensures.did c.zero-2.ensures.did (omega arith) room
