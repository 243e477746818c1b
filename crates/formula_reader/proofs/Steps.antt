-- Numbers of steps.
use Rattle.std.proofs.Common.{◌≡◌, inl, inr, ℕ, List, [], ◌∷◌, true, Some, None}
use Rattle.std.proofs.lemmas.Bool.{and_parts}
use Rattle.text_lines.specs.Text.{is_digit, all_digits, value_onto, number_of}
use Rattle.formula_tokens.specs.Reading.{is_number}
use Rattle.formula_tokens.proofs.Spans.{chosen}

-- a whole number begins with a digit
pub steps_number : (token : List ℕ) (k : ℕ) → number_of token ≡ Some k → is_number token ≡ true
steps_number [] k e = cc e
steps_number (b ∷ bytes) k e =
    elim (chosen (all_digits (b ∷ bytes)) (Some (value_onto 0 (b ∷ bytes))) None (Some k) e) [
      | inl t ↦ let parts = and_parts (is_digit b) (all_digits bytes) t.0 in parts.0
      | inr t ↦ cc t.1
    ]
