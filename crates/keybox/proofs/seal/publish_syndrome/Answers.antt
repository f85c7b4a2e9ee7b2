use Rattle.std.proofs.Common.{ap, ◌∙◌, arith, length-set}
use Rattle.memory.proofs.Words.{length_over}
use Rattle.rows.proofs.Loops.{size}
use Rattle.keybox.proofs.Sealing.{sum_fits, sealed_is}
use Rattle.keybox.proofs.seal.publish_syndrome.Goals as goal

pub put_within-requires : goal.put_within-requires
put_within-requires g c =
    let long = simp length_over at (ap size c.rest.ensures) in
    omega (arith, c.work_row.ensures.value)

pub sum-count-requires : goal.sum-count-requires
sum-count-requires g c =
    record {
      fits = sum_fits c.args.profile.now _ _ _ _ _ c.seal_plan.ensures c.work_row.ensures.value c.requires.room c.requires.passed c.rest.ensures c.put_within.ensures.did;
      next = omega (arith, ap (λ q. q.count) c.seal_plan.ensures);
    }

pub publish-requires : goal.publish-requires
publish-requires g c =
    let a = simp length_over at (ap size c.rest.ensures) in
    let b = simp length-set at (ap size c.put_within.ensures.did) in
    let d = simp length_over at (ap size c.sum-count.ensures.did) in
    record { room = omega arith; row = omega arith }

pub rest-requires-2 : goal.rest-requires-2
rest-requires-2 g c =
    let a = simp length_over at (ap size c.rest.ensures) in
    let b = simp length-set at (ap size c.put_within.ensures.did) in
    let d = simp length_over at (ap size c.sum-count.ensures.did) in
    let e = simp length_over at (ap size c.publish.ensures) in
    omega arith

pub returns : goal.returns
returns g c =
    record {
      value = c.sum-count.ensures.count ∙ omega (arith, ap (λ q. q.count) c.seal_plan.ensures);
      did = sealed_is c.args.profile.now _ _ _ _ _ c.seal_plan.ensures c.work_row.ensures.value c.requires.room c.requires.passed
          c.rest.ensures c.put_within.ensures.did _ _ _ c.sum-count.ensures.did c.publish.ensures c.rest-2.ensures;
    }
