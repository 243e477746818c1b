-- The lines of the states that are left.
use Rattle.std.proofs.Common.{◌≡◌, ◌<◌, ◌+◌, ◌-◌, ℕ, suc, List, ◌++◌, map, refl, arith}
use Rattle.std.specs.List.{range_with_len}
use Rattle.plan_text.specs.Entries.{Entry}
use Rattle.plan_text.specs.Written.{entry_text, entry_lines, entry_lines_by}

-- the first of them
pub lines_more : (Entry : Type 0) (line_text : ℕ → Entry → List ℕ) (f : ℕ → Entry) (s n : ℕ) → s < n
    → entry_lines_by line_text s (map f (range_with_len s (n - s)))
    ≡ line_text s (f s) ++ entry_lines_by line_text (s + 1) (map f (range_with_len (s + 1) (n - (s + 1))))
lines_more Entry line_text f s n within = let more : n - s ≡ suc (n - (s + 1)) = omega arith in rw more refl

pub entry_lines_more : (f : ℕ → Entry) (s n : ℕ) → s < n → entry_lines s (map f (range_with_len s (n - s)))
    ≡ entry_text s (f s) ++ entry_lines (s + 1) (map f (range_with_len (s + 1) (n - (s + 1))))
entry_lines_more = lines_more Entry entry_text
