-- The number, the layer and the place of each refusal of a line. Those of the profile and of the box stay as they are.
use Rattle.scheme.specs.declared.fault.Layer.TheVariants.{Line as line}
use Rattle.scheme.specs.declared.fault.Told.{Told}
use Rattle.scheme.specs.Faults.{told, profile_told, box_told}
use Rattle.script.specs.declared.fault.LineFault.{LineFault}
use Rattle.script.specs.declared.fault.LineFault.TheVariants.{Malformed, NoProfile, Profile, Box}

abbrev pub line_told : LineFault → Told
line_told Malformed = told 20 line 0
line_told NoProfile = told 21 line 0
line_told (Profile f) = profile_told f
line_told (Box f) = box_told f
