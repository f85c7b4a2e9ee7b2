-- The loan comes back under its own name, so the lender knows what the box left.
use Rattle.std.proofs.Common.{rules}
use Rattle.keybox.specs.Lent.{given_then}
use Rattle.keybox.proofs.Loans.{lent_end}
use Rattle.keybox.proofs.lent.call_over.Goals as goal

pub returns : goal.returns
returns g c =
    let o = c.open-keybox.ensures in
    let ends = lent_end c.args.profile c.args.unit _ (g.M.Memory.seen c.args.memory.now) (λ p. given_then p c.args.input.now c.args.call) _ _ (g.M.Memory.seen c.open-keybox.result.memory.now) o.state o.seen _ _ _ (g.M.Memory.seen c.give_and_call.new.keybox.memory.now) c.give_and_call.ensures in
    record { result = ends.0; seen = search rules }
