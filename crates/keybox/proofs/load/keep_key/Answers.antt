use Rattle.std.proofs.Common.{ap, arith}
use Rattle.memory.proofs.Words.{length_over}
use Rattle.rows.proofs.Loops.{size}
use Rattle.keybox.proofs.Keeping.{kept_is}
use Rattle.keybox.proofs.load.keep_key.Goals as goal

pub publish-requires : goal.publish-requires
publish-requires g c =
    let a = simp length_over at (ap size c.copy.ensures.did) in
    record { room = omega arith; row = omega arith }

pub rest-requires : goal.rest-requires
rest-requires g c =
    let a = simp length_over at (ap size c.copy.ensures.did) in
    let b = simp length_over at (ap size c.publish.ensures) in
    omega arith

pub returns : goal.returns
returns g c =
    kept_is c.args.profile.now _ _ _ _ _ c.key_at.ensures.value c.requires c.copy.ensures.did c.publish.ensures c.rest.ensures
