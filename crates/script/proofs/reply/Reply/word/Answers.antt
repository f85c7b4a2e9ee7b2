-- Each turn adds the highest digit that is left.
use Rattle.std.proofs.Common.{◌≡◌, [], ◌∷◌, ◌++◌, ap, length, ◌∙◌, arith, rules, length-append}
use Rattle.script.specs.Printing.{said}
use Rattle.script.proofs.Writing.{digit_more}
use Rattle.script.proofs.reply.Reply.word.Goals as goal

pub loop-k-preserved : goal.loop-k-preserved
loop-k-preserved c =
    let one : c.push.new.self.bytes ≡ said c.loop-k.self ++ c.unwrap.result ∷ [] = search rules in
    record {
      digits = digit_more _ _ _ _ c.loop-k-test.true (search rules) ∙ c.loop-k.invariant.digits;
      room = grind (arith, ap length one, length-append);
    }
