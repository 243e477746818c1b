-- These are the limits of texts and tokens.
use Rattle.std.specs.Prelude.{ℕ}

-- A text has at most this many bytes: what people write is far shorter.
abbrev pub longest : ℕ
longest = 4096

-- A quoted name has at most this many bytes, as in label files.
abbrev pub longest_name : ℕ
longest_name = 255
