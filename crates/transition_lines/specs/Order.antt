-- Transitions are ordered by state and choice.
use Rattle.std.specs.Prelude.{◌<◌, ◌≤◌, ℕ, ◌+◌, ◌*◌, ◌==◌, Bool, List, [], ◌∷◌}
use Rattle.transition_lines.specs.declared.line.Transition.{Transition}
use Rattle.transition_lines.specs.Limits.{most_stated_choices}

-- Every transition that is read from a line keeps this if there are n states.
pub record IsWithin (n : ℕ) (transition : Transition) : Type 0 where
  pub source_in : transition.source < n
  pub choice_in : transition.choice < most_stated_choices
  pub destination_in : transition.destination < n

-- This is the place of a choice in the order of all choices.
abbrev pub place_of : ℕ → ℕ → ℕ
place_of s k = most_stated_choices * s + k

-- This is the place of the choice of a transition, in the order of all choices.
abbrev pub transition_place : Transition → ℕ
transition_place transition = place_of transition.source transition.choice

module _ {X : Type 0} (key : X → ℕ) where
  -- The key is q.
  abbrev pub has : ℕ → X → Bool
  has q x = key x == q

  -- No key is below q.
  abbrev pub From : ℕ → List X → Type 0
  From q [] = Unit {0}
  From q (x ∷ xs) = (q ≤ key x) × From q xs

  -- The keys do not fall.
  abbrev pub Rises : List X → Type 0
  Rises [] = Unit {0}
  Rises (x ∷ xs) = From (key x) xs × Rises xs
