-- This module defines the flags of choices, one for each choice of a game.
use Rattle.std.specs.Prelude.{◌≡◌, ℕ, ◌+◌, ◌<◌, ◌↔◌, Bool, true, false, List, length, slice_index_or}
use Rattle.game_model.specs.Game.{Distribution, choices_of, choices_below}

-- The choices of a game are numbered: those of a state follow those of all states below it.
abbrev pub number : List (List Distribution) → ℕ → ℕ → ℕ
number game s c = choices_below game s + c

-- The flag of a choice is the one at its number.
abbrev pub flag : List (List Distribution) → List Bool → ℕ → ℕ → Bool
flag game flags s c = slice_index_or flags (number game s c) false

-- Each choice has one flag, which is an answer that a test may give for it.
pub record AreAnswers (game : List (List Distribution)) (Answers : ℕ → ℕ → Bool → Type 0)
    (flags : List Bool) : Type 0 where
  pub many : length flags ≡ choices_below game (length game)
  pub each : (s c : ℕ) → s < length game → c < length (choices_of game s) → Answers s c (flag game flags s c)

-- A choice is flagged exactly if the fact holds for it.
abbrev pub AreFlags : List (List Distribution) → (ℕ → ℕ → Type 0) → List Bool → Type 0
AreFlags game P flags = AreAnswers game (λ s c b. (b ≡ true) ↔ P s c) flags

-- The flags are answers for the choices before choice c of state s.
pub record AreAnswersBefore (game : List (List Distribution)) (Answers : ℕ → ℕ → Bool → Type 0) (s c : ℕ)
    (flags : List Bool) : Type 0 where
  pub many : length flags ≡ number game s c
  pub before : (t d : ℕ) → t < s → d < length (choices_of game t) → Answers t d (flag game flags t d)
  pub here : (d : ℕ) → d < c → Answers s d (flag game flags s d)
