-- What a mark says: the place that was noted first, if any was.
use Rattle.std.specs.Prelude.{ℕ, cond, Some, None, Option, ◌==◌}
use Rattle.keybox.specs.declared.mark.Mark.{Mark}

abbrev pub marked : Mark → Option ℕ
marked m = cond (m.found.digit == 1) (Some m.place) None

-- the first of two places that is there
abbrev pub or_else : Option ℕ → Option ℕ → Option ℕ
or_else (Some i) o = Some i
or_else None o = o
