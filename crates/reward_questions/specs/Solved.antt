-- This module says what a question of expected rewards is solved with.
use Rattle.std.specs.Prelude.{◌≤◌, List, Option}
use Rattle.game_model.specs.Query.{Query, states}
use Rattle.fractions.specs.Fraction.{Fraction}
use Rattle.almost_sure.specs.Values.{AreAlmostSure}
use Rattle.expected_rewards.specs.Turned.{turned}
use Rattle.reward_check.specs.Parts.{IsAccepted}
use Rattle.reward_units.specs.Units.{most_places}
use Rattle.reward_units.specs.Rounded.{exact_in, paid_units, ArePaidUnits}
use Rattle.reward_units.specs.declared.rounded.Rounding.TheVariants.{Down, Up}
use Rattle.solved_rewards.specs.declared.solved.SolvedRewards.{SolvedRewards}
use Rattle.solved_rewards.specs.Solved.{certificate_of, HasStates, HasNoMore}

-- The certificate is accepted, and its lower value is a number exactly where the minimiser reaches a goal almost
-- surely. Its rewards are those of the table, in units of so many places, rounded down and rounded up. Only the states
-- that need a choice or a reply have one.
pub record IsSolvedQuestion (q : Query) (table : List (Option Fraction)) (solved : SolvedRewards) : Type 0 where
  pub accepted : IsAccepted (certificate_of q solved)
  pub finite : AreAlmostSure (turned q) solved.finite.items
  pub lists : HasStates (states q) solved
  pub places : solved.places ≤ most_places
  pub low : ArePaidUnits q.game (paid_units Down (exact_in q.game table) solved.places) solved.low.items
  pub high : ArePaidUnits q.game (paid_units Up (exact_in q.game table) solved.places) solved.high.items
  pub plans : HasNoMore q solved
