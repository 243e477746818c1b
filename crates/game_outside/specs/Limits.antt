-- This module defines the limit of a call.
use Rattle.std.specs.Prelude.{ℕ}

-- `read_all` and a text by lines take at most this many bytes in one call. The piece of `read_all` lies on the stack.
abbrev pub piece_size : ℕ
piece_size = 4096
