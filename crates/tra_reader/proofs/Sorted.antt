-- Transitions put in order.
use Rattle.std.proofs.Common.{◌≡◌, ◌∙◌, inl, inr, ℕ, List, [], ◌∷◌, arith, sym}
use Rattle.std.specs.List.{filter}
use Rattle.transition_lines.specs.Limits.{most_stated_choices}
use Rattle.transition_lines.specs.declared.line.Transition.{Transition}
use Rattle.transition_lines.specs.Choices.{transitions_of}
use Rattle.transition_lines.specs.Order.{From, has, place_of, transition_place}
use Rattle.std.proofs.lemmas.Bool.{cases_lt}
use Rattle.transition_lines.proofs.Ends.{AreSmall, of_at, none_of_high}

pub same_transitions : (ts us : List Transition) → AreSmall ts → AreSmall us
    → ((q : ℕ) → filter (has transition_place q) ts ≡ filter (has transition_place q) us) → (s k : ℕ)
    → transitions_of ts s k ≡ transitions_of us s k
same_transitions ts us small_ts small_us same s k = elim (cases_lt k most_stated_choices) [
  | inl low ↦ of_at ts s k small_ts low ∙ same (place_of s k) ∙ sym (of_at us s k small_us low)
  | inr high ↦ none_of_high ts s k small_ts high ∙ sym (none_of_high us s k small_us high)
]

pub from_nought : (ts : List Transition) → From transition_place 0 ts
from_nought [] = tt
from_nought (t ∷ ts) = (omega arith, from_nought ts)
