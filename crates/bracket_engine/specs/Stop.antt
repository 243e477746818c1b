-- This module defines the guesses that may end a run before the asked rounds: they settle the threshold at the initial
-- states.
use Rattle.std.specs.Prelude.{◌≡◌, ℕ, ◌-◌, ◌<◌, ◌≤◌, Bool, true, false, List, length, All, Option, Some, None, min}
use Rattle.std.specs.Prelude.{slice_index, IfSome}
use Rattle.std.specs.Int.{is_power_of_two}
use Rattle.game_model.specs.Limits.{unit}
use Rattle.game_model.specs.Query.{Query, states}
use Rattle.game_model.specs.Rounded.{down_steps, IsBelow, IsInductive}
use Rattle.formula_reader.specs.declared.formula.Bound.{Bound}
use Rattle.verdicts.specs.Verdict.{verdict_of, is_settling, is_asking}
use Rattle.upper_guess.specs.Guess.{IsFirstGuess}
use Rattle.bracket_engine.specs.declared.stopping.SettlingGuess.{SettlingGuess}

-- Lower and upper bounds settle the threshold at each of these states.
abbrev pub AreSettledAt : Bound → List ℕ → (ℕ → ℕ) → (ℕ → ℕ) → Type 0
AreSettledAt bound initial lower upper = All (λ s. is_settling (verdict_of bound (lower s) (upper s)) ≡ true) initial

-- A run of this many rounds goes on no longer than it has to. If the bound is a threshold, let r be the first of the
-- numbers 1, 2, 4, 8 and so on for which r down steps of the question and of the swapped question settle the threshold
-- at each of these states. Then at most r rounds are made.
abbrev pub EndsWhereSettled : Query → Query → Bound → List ℕ → ℕ → Type 0
EndsWhereSettled q swapped_question bound initial rounds =
    is_asking bound ≡ false → (r : ℕ) → is_power_of_two r ≡ true
    → AreSettledAt bound initial (down_steps q r) (λ s. unit - down_steps swapped_question r s) → rounds ≤ r

-- The value is the lesser of the unit less a swapped value and of a guess.
abbrev pub upper_from : (ℕ → ℕ) → (ℕ → ℕ) → ℕ → ℕ
upper_from swapped_value guess s = min (unit - swapped_value s) (guess s)

-- A table of values is inductive.
pub record IsUpper (q : Query) (table : List ℕ) : Type 0 where
  pub many : length table ≡ states q
  pub units : All (λ v. v ≤ unit) table
  pub inductive : IsInductive q (slice_index table)

-- A guess is made over lower bounds that are nowhere above the present ones. With the present ones and the swapped
-- values it settles the threshold at the initial states.
pub record IsSettlingGuess (q : Query) (zero : List Bool) (bound : Bound) (initial : List ℕ)
    (lower swapped_value : ℕ → ℕ) (kept : SettlingGuess) : Type 0 where
  pub below : IsBelow q (slice_index kept.lower.items) lower
  pub first : IsFirstGuess q zero (slice_index kept.lower.items) kept.guess.items
  pub upper : IsUpper q kept.guess.items
  pub settles : AreSettledAt bound initial lower (upper_from swapped_value (slice_index kept.guess.items))

-- The kept guess, if any, is the first guess over its lower bounds, and it is inductive.
abbrev pub IsKeptGuess : Query → List Bool → Option SettlingGuess → Type 0
IsKeptGuess q zero kept =
    IfSome kept (λ one. IsFirstGuess q zero (slice_index one.lower.items) one.guess.items × IsUpper q one.guess.items)

-- An upper table is made from a guess and these parts: swapped values for which the unit less each of them is
-- inductive, and a guess that was kept, if any.
pub record AreUpperParts (q : Query) (zero : List Bool) (swapped_values : List ℕ) (kept : Option SettlingGuess) :
    Type 0 where
  pub many : length swapped_values ≡ states q
  pub unlost : IsInductive q (λ s. unit - slice_index swapped_values s)
  pub kept_guess : IsKeptGuess q zero kept

-- The value is the guess, or the lesser of it and the guess that was kept, if any.
abbrev pub with_kept : Option SettlingGuess → (ℕ → ℕ) → ℕ → ℕ
with_kept None guess s = guess s
with_kept (Some kept) guess s = min (guess s) (slice_index kept.guess.items s)

-- The table is the guess over lower bounds, or the lesser of it and the guess that was kept, if any.
pub record IsLeastGuess (q : Query) (zero : List Bool) (lower : ℕ → ℕ) (kept : Option SettlingGuess)
    (least : List ℕ) : Type 0 where
  pub guess : List ℕ
  pub first : IsFirstGuess q zero lower guess
  pub each : (s : ℕ) → s < states q → slice_index least s ≡ with_kept kept (slice_index guess) s
  pub upper : IsUpper q least

-- The table is the least of the unit less the swapped values, of the guess over lower bounds, and of the guess that was
-- kept, if any.
pub record IsUpperFrom (q : Query) (zero : List Bool) (lower swapped_value : ℕ → ℕ) (kept : Option SettlingGuess)
    (upper : List ℕ) : Type 0 where
  pub guess : List ℕ
  pub first : IsFirstGuess q zero lower guess
  pub each : (s : ℕ) → s < states q → slice_index upper s ≡ upper_from swapped_value
      (with_kept kept (slice_index guess)) s
  pub table : IsUpper q upper
