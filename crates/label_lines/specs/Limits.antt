-- These are the limits of label files and owner files.
use Rattle.std.specs.Prelude.{ℕ}

-- A header has at most this many labels: each label keeps a mark for each state.
abbrev pub most_labels : ℕ
most_labels = 1000

-- A header has at most this many players: games have a few.
abbrev pub most_players : ℕ
most_players = 64

-- This is the greatest index of a header: six digits suffice for its items.
abbrev pub greatest_index : ℕ
greatest_index = 999999

-- A name has at most this many bytes, as in formulas.
abbrev pub longest_name : ℕ
longest_name = 255
