use Rattle.std.proofs.Common.{◌+◌, ◌≤◌, length, arith}
use Rattle.memory.proofs.Windows.{length_window}
use Rattle.memory.proofs.window.Window.shows.Goals as goal

pub returns-in-Some : goal.returns-in-Some
returns-in-Some g c =
    let s = g.M.Memory.seen c.args.self.now.below in
    let sum = c.in-Some.ensures in
    let fits : c.args.self.now.base + c.args.self.now.len ≤ length s.words = omega arith in
    let length = length_window c.args.self.now.base c.args.self.now.len s in
    record { value = grind arith; bound = omega arith }
