-- The numbers that kinds of access bring to a tape's trail.
use Rattle.std.specs.Prelude.{ℕ}
use Rattle.memory.specs.declared.tape.Kind.{Kind}
use Rattle.memory.specs.declared.tape.Kind.TheVariants.{Get, Put}

abbrev pub kind_number : Kind → ℕ
kind_number Get = 0
kind_number Put = 1
