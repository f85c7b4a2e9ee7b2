-- What no trail may show and what lasts hold of every box and every list of calls.
use Rattle.keybox.proofs.Hiding.{hides}
use Rattle.keybox.proofs.Lasts.{lasts}
use Rattle.keybox.proofs.device.KeyBox.run.Goals as goal

pub returns-then-capacity-len-clause-hides : goal.returns-then-capacity-len-clause-hides
returns-then-capacity-len-clause-hides g c = hides _ _

pub returns-then-capacity-len-clause-lasts : goal.returns-then-capacity-len-clause-lasts
returns-then-capacity-len-clause-lasts g c = lasts _ _

pub returns-clause-hides : goal.returns-clause-hides
returns-clause-hides g c = hides _ _

pub returns-clause-lasts : goal.returns-clause-lasts
returns-clause-lasts g c = lasts _ _
