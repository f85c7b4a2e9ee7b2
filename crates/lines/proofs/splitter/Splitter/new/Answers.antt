-- The law holds of every input, so it holds where a splitter begins.
use Rattle.lines.proofs.Coming.{comes_to_its_lines}
use Rattle.lines.proofs.splitter.Splitter.new.Goals as goal

pub returns-clause-law : goal.returns-clause-law
returns-clause-law c = comes_to_its_lines
