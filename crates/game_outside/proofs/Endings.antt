-- Bytes that are cut at the first LF.
use Rattle.std.proofs.Common.{◌≡◌, ◌≤◌, ◌+◌, ◌-◌, ℕ, List, [], ◌∷◌, ◌++◌, take, drop, Some, None, sym, ap, ◌∙◌, arith}
use Rattle.std.proofs.Common.{add-one, length}
use Rattle.std.proofs.lemmas.List.{drop-drop, drop-take, length-take, length-drop}
use Rattle.memchr.specs.Find.{IsFirstByte, is_byte}
use Rattle.text_lines.specs.Laws.{IsEndOf}
use Rattle.text_lines.proofs.Endings as ending
use Rattle.game_outside.specs.LineTexts.{IsCut, IsUncut}

pub without_lf : (line line' held held' : List ℕ) → IsFirstByte (is_byte 10) held None → line' ≡ line ++ held
    → held' ≡ [] → IsUncut line line' held held'
without_lf line line' held held' nowhere grown none =
    record { no_lf = ending.without_lf held nowhere; grown = grown; none = none }

pub cut_at_lf : (line line' held held' : List ℕ) (place : ℕ) → IsFirstByte (is_byte 10) held (Some place)
    → line' ≡ line ++ take place held → held' ≡ drop (place + 1) held → IsCut line line' held held'
cut_at_lf line line' held held' place first grown rest =
    let at = ending.cut_at_lf held place first in
    record {
      front = take place held;
      no_lf = at.no_lf;
      parts = at.parts ∙ ap (λ t. take place held ++ 10 ∷ t) (ap (λ k. drop k held) (sym (add-one place)) ∙ sym rest);
      grown = grown;
    }

-- what is held of a piece, less its first bytes
pub drop_held : (bytes : List ℕ) (begin end count : ℕ) → begin + count ≤ end
    → take (end - (begin + count)) (drop (begin + count) bytes) ≡ drop count (take (end - begin) (drop begin bytes))
drop_held bytes begin end count within =
    ap (λ t. take (end - (begin + count)) t) (sym (drop-drop count begin bytes))
    ∙ sym (drop-take count (end - (begin + count)) (drop begin bytes))
    ∙ ap (λ k. drop count (take k (drop begin bytes))) (omega (arith, within))

-- what is held of a piece once the bytes before this end of it were passed on
pub end_held : (bytes : List ℕ) (begin end : ℕ) (rest : List ℕ) → begin ≤ end → end ≤ length bytes
    → IsEndOf rest (take (end - begin) (drop begin bytes))
    → take (end - (end - length rest)) (drop (end - length rest) bytes) ≡ rest
end_held bytes begin end rest order within ends =
    let held : List ℕ = take (end - begin) (drop begin bytes) in
    let many : length held ≡ end - begin = omega (
      arith,
      length-take (end - begin) (drop begin bytes),
      length-drop begin bytes,
      order,
      within,
    ) in
    ap (λ k. take (end - k) (drop k bytes)) (omega (arith, many, order, ends.within))
    ∙ drop_held bytes begin end (length held - length rest) (omega (arith, many, order)) ∙ sym ends.bytes
