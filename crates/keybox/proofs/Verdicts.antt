-- A refusal has a number other than the 0 of a grant.
use Rattle.std.proofs.Common.{◌≤◌, arith}
use Rattle.scheme.specs.declared.fault.BoxFault.{BoxFault}
use Rattle.scheme.specs.Faults.{number}

pub refusal_number : (f : BoxFault) → 1 ≤ number f
refusal_number f = grind arith
