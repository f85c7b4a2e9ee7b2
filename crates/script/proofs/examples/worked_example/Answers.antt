-- The example is a fact of the definitions.
use Rattle.script.proofs.Worked.{the_example_holds}
use Rattle.script.proofs.examples.worked_example.Goals as goal

pub returns : goal.returns
returns c = the_example_holds
