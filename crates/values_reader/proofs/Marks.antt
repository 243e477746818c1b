-- The last mark of a line.
use Rattle.std.proofs.Common.{◌≡◌, ◌<◌, ◌≤◌, ◌∙◌, ℕ, zero, suc, true, List, [], ◌∷◌, length, take, drop, get_or, Some}
use Rattle.std.proofs.Common.{None, ap, ap₂, sym, subst, cond, arith}
use Rattle.values_reader.specs.Lines.{is_mark, behind_byte, split_last}

last_mark : (line : List ℕ) (k : ℕ) → k < length line → is_mark (get_or line k 0) ≡ true
    → split_last (drop (suc k) line) ≡ None → split_last line ≡ Some (take k line, drop (suc k) line)
last_mark [] k inside is none = absurd (omega arith)
last_mark (b ∷ line) zero inside is none = ap (behind_byte b line) none ∙ ap (λ t. cond t (Some ([], line)) None) is
last_mark (b ∷ line) (suc k) inside is none = ap (behind_byte b line) (last_mark line k (omega arith) is none)

-- a mark behind which there is none
pub split_at_mark : (line front back : List ℕ) (k p q : ℕ) → p ≡ suc k → q ≡ suc k → p ≤ length line
    → is_mark (get_or line k 0) ≡ true → split_last (drop p line) ≡ None → front ≡ take k line → back ≡ drop q line
    → split_last line ≡ Some (front, back)
split_at_mark line front back k p q behind same inside is none is_front is_back =
    let ends = subst (λ (m : ℕ). split_last (drop m line) ≡ None) behind none in
    let rest = is_back ∙ ap (λ (m : ℕ). drop m line) same in
    last_mark line k (omega (arith, behind, inside)) is ends
    ∙ ap₂ (λ (f b : List ℕ). Some (f, b)) (sym is_front) (sym rest)
