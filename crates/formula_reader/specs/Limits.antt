-- These are the limits of formulas.
use Rattle.std.specs.Prelude.{ℕ}

-- At most this many `(`, `!` and `[` of formulas inside may be open at once, because each is one call deeper for the
-- reader.
abbrev pub most_nested : ℕ
most_nested = 64

-- `F<=` and `U<=` have at most this many steps, because each is a sweep over all states of a model.
abbrev pub most_steps : ℕ
most_steps = 1000000
