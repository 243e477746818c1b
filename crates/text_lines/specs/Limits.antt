-- This module defines the limit of a text.
use Rattle.std.specs.Prelude.{ℕ}

-- A text that is read has at most this many bytes, 256 MiB. A longer text is refused, and a longer certificate before
-- it is looked at.
abbrev pub most_bytes : ℕ
most_bytes = 268435456
