-- These definitions give the answer of `make`: it summarises the bracket of a game that a seed draws.
use Rattle.std.specs.Prelude.{◌≡◌, ℕ, Bool, false, List, [], ◌∷◌, ◌++◌, codes, count_by, sum_by, if◌then◌else◌}
use Rattle.game_model.specs.Query.{Query}
use Rattle.game_model.specs.Dual.{IsZeroSet}
use Rattle.drawn_game.specs.Rules.{drawn_game}
use Rattle.drawn_game.specs.Asked.{question_of}
use Rattle.formula_reader.specs.declared.formula.Bound.TheVariants.{AskMax}
use Rattle.bracket_engine.specs.declared.bounds.Bracket.{Bracket}
use Rattle.bracket_engine.specs.BracketOfRun.{IsBracketOfRun}
use Rattle.output.specs.declared.status.Status.{Status}
use Rattle.output.specs.declared.status.Status.TheVariants.{Fine, SomeUndecided}
use Rattle.output.specs.Refusals.{numbered}

-- The sum of a table is taken over all states, in units.
abbrev pub sum_of : List ℕ → ℕ
sum_of table = sum_by (λ v. v) table

-- The line ends with the sums of the lower and the upper table if the run is settled, and else with the word
-- `unsettled`.
abbrev pub ending : Bool → List ℕ → List ℕ → List ℕ
ending stable lower upper = if stable then numbered (codes " lower ") (sum_of lower)
    ++ (numbered (codes " upper ") (sum_of upper) ++ codes " settled\n") else codes " unsettled\n"

-- The line `model seed A states N zero Z`, with its ending, says that Z states have value 0.
abbrev pub summary_text : ℕ → ℕ → ℕ → Bool → List ℕ → List ℕ → List ℕ
summary_text seed states zeros stable lower upper =
    numbered (codes "model seed ") seed ++ (numbered (codes " states ") states
    ++ (numbered (codes " zero ") zeros ++ ending stable lower upper))

-- The status is `Fine` if the run is settled, and else `SomeUndecided`.
abbrev pub status_made : Bool → Status
status_made stable = if stable then Fine else SomeUndecided

-- This is the question about the game of this many states that a seed draws.
abbrev pub drawn_question : ℕ → ℕ → Query
drawn_question seed states = question_of (drawn_game seed states)

-- The text and the status are the answer of `make`. They are those of a bracket of the drawn question after at most the
-- asked rounds, and after all of them if it is not settled.
pub record IsMade (seed states asked : ℕ) (text : List ℕ) (status : Status) : Type 0 where
  -- The marked states are those whose every k-step value is 0.
  pub zero : List Bool
  pub is_zero : IsZeroSet (drawn_question seed states) zero
  pub found : Bracket
  pub is_found : IsBracketOfRun (drawn_question seed states) zero AskMax (0 ∷ []) asked found
  pub written : text ≡ summary_text seed states (count_by (λ marked. marked) zero) found.stable
      found.plan.lower.items found.plan.upper.items
  pub ends : status ≡ status_made found.stable
  pub completed : found.stable ≡ false → found.rounds ≡ asked
