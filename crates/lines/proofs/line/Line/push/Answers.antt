-- With room the byte is the last one kept; without, what is kept stays.
use Rattle.std.proofs.Common.{rules}
use Rattle.lines.proofs.Keeping.{kept_more, kept_full}
use Rattle.lines.proofs.line.Line.push.Goals as goal

pub returns-then-self-lt121 : goal.returns-then-self-lt121
returns-then-self-lt121 c =
    record { number = search rules; bytes = kept_more 121 c.args.self.now.bytes c.args.self.now.len c.args.byte (search rules) (search rules); len = search rules }

pub returns-else-self-lt121 : goal.returns-else-self-lt121
returns-else-self-lt121 c =
    record { number = search rules; bytes = kept_full 121 c.args.self.now.bytes c.args.self.now.len c.args.byte (search rules) (search rules) (search rules); len = search rules }
