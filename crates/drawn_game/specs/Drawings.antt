-- This module defines drawings: values that are drawn, one draw after another. At the start the last draw is the seed.
use Rattle.std.specs.Prelude.{ℕ, zero, suc, ◌*◌, ◌%◌, List, [], ◌∷◌, ◌++◌}
use Rattle.drawn_game.specs.Limits.{multiplier, modulus}

-- This is the draw after a draw (Lehmer 1951; Park and Miller, Random number generators: good ones are hard to find,
-- CACM 1988).
unfoldable pub next_draw : ℕ → ℕ
next_draw x = x * multiplier % modulus

-- An outcome has the value that was drawn, and the last draw.
pub record Outcome (X : Type 0) : Type 0 where
  pub value : X
  pub last : ℕ

-- A drawing goes on from the last draw.
abbrev pub Drawing : Type 0 → Type 0
Drawing X = ℕ → Outcome X

-- This drawing is one draw.
abbrev pub draw : Drawing ℕ
draw x = record { value = next_draw x; last = next_draw x }

-- This drawing gives a value, with no draw.
abbrev pub done : {X : Type 0} → X → Drawing X
done value x = record { value = value; last = x }

-- A drawing is followed by one that may depend on its value.
infixl 10 ◌>>=◌
abbrev pub ◌>>=◌ : {X Y : Type 0} → Drawing X → (X → Drawing Y) → Drawing Y
(one >>= more) x = more (one x).value (one x).last

-- A drawing is made this many times, one after another.
abbrev pub times : {X : Type 0} → ℕ → Drawing X → Drawing (List X)
times zero one = done []
times (suc k) one = do
  front ← times k one
  last ← one
  done (front ++ last ∷ [])
