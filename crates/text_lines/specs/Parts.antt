-- This module defines the parts of bytes before and after the first occurrence of a byte.
use Rattle.std.specs.Prelude.{◌==◌, ◌+◌, ℕ, List, take, drop, position, Option, option_map}

-- These are the bytes before the byte at a place, and the bytes after it.
abbrev pub parted_at : List ℕ → ℕ → List ℕ × List ℕ
parted_at bytes k = (take k bytes, drop (k + 1) bytes)

-- These are the bytes before the first occurrence of this byte, and the bytes after it.
abbrev pub split_first : ℕ → List ℕ → Option (List ℕ × List ℕ)
split_first x bytes = option_map (parted_at bytes) (position (λ b. b == x) bytes)
