-- The first of some words, and those behind it.
use Rattle.std.proofs.Common.{◌≡◌, ◌∙◌, ◌≤◌, ◌-◌, ℕ, List, [], ◌∷◌, length, get_or, take, drop, map, ap, ap₂, arith}
use Rattle.std.proofs.lemmas.List.{take_all}

module _ {A : Type 0} (bytes : A → List ℕ) where
  pub first_and_rest : (words : List A) (first : A) (word : List ℕ) → 1 ≤ length words → first ≡ get_or words 0 first
      → word ≡ bytes first → word ∷ map bytes (take (length words - 1) (drop 1 words)) ≡ map bytes words
  first_and_rest [] first word many is spelled = absurd (omega arith)
  first_and_rest (x ∷ words) first word many is spelled =
      let rest : take (length (x ∷ words) - 1) words ≡ words = take_all (length (x ∷ words) - 1) words (omega arith) in
      ap₂ (λ (w : List ℕ) (ws : List A). w ∷ map bytes ws) (spelled ∙ ap bytes is) rest
