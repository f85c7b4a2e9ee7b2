-- The number, the layer and the place of each refusal.
use Rattle.std.specs.Prelude.{ℕ}
use Rattle.scheme.specs.declared.fault.Layer.{Layer}
use Rattle.scheme.specs.declared.fault.Layer.TheVariants.{Profile as profile, Input as input, Box as box}
use Rattle.scheme.specs.declared.fault.Told.{Told}
use Rattle.scheme.specs.declared.fault.ProfileFault.{ProfileFault}
use Rattle.scheme.specs.declared.fault.ProfileFault.TheVariants.{OutOfRange}
use Rattle.scheme.specs.declared.fault.InputFault.{InputFault}
use Rattle.scheme.specs.declared.fault.InputFault.TheVariants.{PositionRange, PositionTwice, InverseTail, NotInverse, ErrorRange, ErrorTwice, PublicTail}
use Rattle.scheme.specs.declared.fault.BoxFault.{BoxFault}
use Rattle.scheme.specs.declared.fault.BoxFault.TheVariants.{MemorySmall, OutsideZone, SlipOut, Input}

-- what a refusal tells
abbrev pub told : ℕ → Layer → ℕ → Told
told n l p = record { number = n; layer = l; place = p }

abbrev pub profile_told : ProfileFault → Told
profile_told OutOfRange = told 1 profile 0

abbrev pub input_told : InputFault → Told
input_told (PositionRange p) = told 6 input p
input_told (PositionTwice p) = told 7 input p
input_told (InverseTail p) = told 8 input p
input_told (NotInverse p) = told 9 input p
input_told (ErrorRange p) = told 10 input p
input_told (ErrorTwice p) = told 11 input p
input_told (PublicTail p) = told 12 input p

abbrev pub box_told : BoxFault → Told
box_told MemorySmall = told 2 box 0
box_told (OutsideZone p) = told 3 box p
box_told SlipOut = told 4 box 0
box_told (Input f) = input_told f

-- the number of a refusal of a call
abbrev pub number : BoxFault → ℕ
number f = (box_told f).number
