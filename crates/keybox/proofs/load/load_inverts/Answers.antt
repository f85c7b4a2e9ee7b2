use Rattle.keybox.proofs.Inverting.{load_inverts}
use Rattle.keybox.proofs.load.load_inverts.Goals as goal

pub returns : goal.returns
returns c = load_inverts
