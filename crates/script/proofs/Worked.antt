-- The example follows from the definitions alone.
use Rattle.std.proofs.Common.{refl}
use Rattle.std.specs.Fmt.{digits}
use Rattle.rows.specs.Fill.{zero_accesses}
use Rattle.script.specs.Example.{TheExampleHolds}

pub the_example_holds : TheExampleHolds
unfolding digits zero_accesses
the_example_holds = refl
