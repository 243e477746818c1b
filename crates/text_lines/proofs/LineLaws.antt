-- The laws of lines: what stands before an ending is a line.
use Rattle.std.proofs.Common.{◌≡◌, ◌≢◌, ◌<◌, ℕ, List, [], ◌∷◌, ◌++◌, length, ap, ◌∙◌, refl, false, arith, eqb, ◌&&◌}
use Rattle.std.proofs.Common.{◌||◌, Bool}
use Rattle.std.proofs.lemmas.Bool.{ne_eqb}
use Rattle.std.proofs.lemmas.Bool.Decides.{nat_tests}
use Rattle.text_lines.specs.Text.{lines_of, prepend, begins_lf}
use Rattle.text_lines.specs.Laws.{HasNo, EndsInNoCr}
use Rattle.text_lines.proofs.Texts.{in_line}

before_no_lf : (b : ℕ) (v : Bool) → b ≢ 10 → v ≡ false → (eqb b 10 || (eqb b 13 && v)) ≡ false
before_no_lf b v h e = grind (arith, nat_tests)

no_cr : (b : ℕ) (v : Bool) → b ≢ 10 → b ≢ 13 → (eqb b 10 || (eqb b 13 && v)) ≡ false
no_cr b v h e = grind (arith, nat_tests)

pub lines_of-lf : (line rest : List ℕ) → HasNo 10 line → EndsInNoCr line
    → lines_of (line ++ 10 ∷ rest) ≡ line ∷ lines_of rest
lines_of-lf [] rest h e = refl
lines_of-lf (b ∷ []) rest h e = in_line b (10 ∷ rest) (no_cr b (begins_lf (10 ∷ rest)) h.0 e)
lines_of-lf (b ∷ c ∷ line) rest h e =
    in_line b (c ∷ line ++ 10 ∷ rest) (before_no_lf b (eqb c 10) h.0 (ne_eqb c 10 h.1.0))
    ∙ ap (λ ls. prepend (b ∷ []) ls) (lines_of-lf (c ∷ line) rest h.1 e)

pub lines_of-crlf : (line rest : List ℕ) → HasNo 10 line → lines_of (line ++ 13 ∷ 10 ∷ rest) ≡ line ∷ lines_of rest
lines_of-crlf [] rest h = refl
lines_of-crlf (b ∷ []) rest h = in_line b (13 ∷ 10 ∷ rest) (before_no_lf b false h.0 refl)
lines_of-crlf (b ∷ c ∷ line) rest h =
    in_line b (c ∷ line ++ 13 ∷ 10 ∷ rest) (before_no_lf b (eqb c 10) h.0 (ne_eqb c 10 h.1.0))
    ∙ ap (λ ls. prepend (b ∷ []) ls) (lines_of-crlf (c ∷ line) rest h.1)

pub lines_of-last : (line : List ℕ) → HasNo 10 line → 0 < length line → lines_of line ≡ line ∷ []
lines_of-last [] h some = absurd (omega arith)
lines_of-last (b ∷ []) h some = in_line b [] (before_no_lf b false h.0 refl)
lines_of-last (b ∷ c ∷ line) h some =
    in_line b (c ∷ line) (before_no_lf b (eqb c 10) h.0 (ne_eqb c 10 h.1.0))
    ∙ ap (λ ls. prepend (b ∷ []) ls) (lines_of-last (c ∷ line) h.1 (omega arith))
