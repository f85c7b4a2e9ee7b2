-- A rest that is not empty has a part, or begins with no space.
use Rattle.lines.proofs.Arguments.{alone_at}
use Rattle.lines.proofs.parse.alone.Goals as goal

pub returns : goal.returns
returns c = rw (c.then_some.ensures, c.is_empty.ensures) (alone_at c.args.order c.args.parts.rest.now)
