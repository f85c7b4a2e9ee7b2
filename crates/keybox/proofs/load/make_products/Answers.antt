use Rattle.std.proofs.Common.{ap, arith}
use Rattle.keybox.proofs.Producing.{first_fits, second_fits, made_is}
use Rattle.keybox.proofs.load.make_products.Goals as goal

pub sum-count-requires : goal.sum-count-requires
sum-count-requires g c =
    record {
      fits = first_fits c.args.profile.now _ _ c.requires.room c.requires.passed c.rest.ensures _ c.load_plan.ensures;
      next = omega (arith, ap (λ q. q.count) c.load_plan.ensures);
    }

pub sum-requires : goal.sum-requires
sum-requires g c =
    record {
      fits = second_fits c.args.profile.now _ _ c.requires.room c.requires.passed c.rest.ensures _ _ c.load_plan.ensures c.sum-count.ensures.did _ c.load_plan-2.ensures;
      next = omega (arith, ap (λ q. q.count) c.load_plan.ensures, ap (λ q. q.count) c.load_plan-2.ensures, c.sum-count.ensures.count);
    }

pub returns : goal.returns
returns g c =
    let one = ap (λ q. q.count) c.load_plan.ensures in
    let two = ap (λ q. q.count) c.load_plan-2.ensures in
    record {
      value = omega (arith, one, two, c.sum-count.ensures.count, c.sum.ensures.count);
      did = made_is c.args.profile.now _ _ c.requires.room c.requires.passed c.rest.ensures _ _ c.load_plan.ensures c.sum-count.ensures.did _ _ c.load_plan-2.ensures c.sum.ensures.did;
    }
