-- This module says what the solver hands out.
use Rattle.std.specs.Prelude.{◌≡◌, ◌≤◌, List, Option, vec_len}
use Rattle.fractions.specs.Fraction.{Fraction}
use Rattle.game_model.specs.Query.{Query, states}
use Rattle.plan_solver.specs.Tables.{IsTable}
use Rattle.reward_units.specs.declared.rounded.Rounding.TheVariants.{Down, Up}
use Rattle.reward_units.specs.Rounded.{exact_in, paid_units, ArePaidUnits}
use Rattle.reward_units.specs.Units.{most_places}
use Rattle.reward_solver.specs.declared.search.RewardCandidates.{RewardCandidates}

-- The candidates have the rewards of a table in units of so many places, rounded both ways. Each table of values has an
-- entry for each state, of at most the unit, and each state has a choice and a reply.
pub record AreCandidates (question : Query) (table : List (Option Fraction)) (c : RewardCandidates) : Type 0 where
  pub places : c.places ≤ most_places
  pub low : ArePaidUnits question.game (paid_units Down (exact_in question.game table) c.places) c.low.items
  pub high : ArePaidUnits question.game (paid_units Up (exact_in question.game table) c.places) c.high.items
  pub lower : IsTable (states question) c.lower.items
  pub choices : vec_len c.choices ≡ states question
  pub upper : IsTable (states question) c.upper.items
  pub replies : vec_len c.replies ≡ states question
