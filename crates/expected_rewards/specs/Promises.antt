-- This module defines what tables of rewards promise against every strategy, with any memory and with dice.
use Rattle.std.specs.Prelude.{◌≡◌, ℕ, ◌+◌, ◌*◌, ◌^◌, ◌<◌, ◌≤◌, Bool, true, false, List, [], Option}
use Rattle.game_model.specs.declared.game.Side.TheVariants.{Max, Min}
use Rattle.game_model.specs.Query.{Query, states}
use Rattle.game_model.specs.Values.{denominator}
use Rattle.strategies.specs.Strategies.{Strategy, IsStrategyOf, reach, by_plan}
use Rattle.expected_rewards.specs.Rewards.{Rewards, expected}
use Rattle.expected_rewards.specs.Tables.{is_finite}

-- The k turns of a play can go in this many ways.
abbrev pub all_ways : Query → ℕ → ℕ → ℕ
all_ways q faces k = (faces * denominator q.game) ^ k

-- With the minimiser's plan, from a finite state no strategy of the maximiser is expected to collect more than the
-- table, however many turns are made.
abbrev pub PaysAtMost : Query → Rewards → List Bool → List (Option ℕ) → (ℕ → ℕ) → Type 0
PaysAtMost q rewards finite plan upper = (faces k s : ℕ) (opponent : Strategy) → IsStrategyOf q Max opponent
    → s < states q → is_finite finite s ≡ true →
    expected q rewards faces opponent (by_plan q plan) k [] s ≤ upper s * all_ways q faces k

-- With the minimiser's plan, from a finite state a goal is reached almost surely: for each m there is a number of turns
-- within which the probability is at least 1 - 1/m, whatever the maximiser does.
abbrev pub EndsSurely : Query → List Bool → List (Option ℕ) → Type 0
EndsSurely q finite plan = (m : ℕ) → 1 ≤ m → (k : ℕ) × ((faces s : ℕ) (opponent : Strategy)
    → IsStrategyOf q Max opponent → s < states q → is_finite finite s ≡ true →
    m * all_ways q faces k ≤ m * reach q faces opponent (by_plan q plan) k [] s + all_ways q faces k)

-- With the maximiser's plan, whatever the minimiser does, what is expected from a finite state falls short of the table
-- by at most a multiple of the probability that no goal is reached. So it does not fall short if a goal is reached
-- almost surely.
pub record PaysAtLeast (q : Query) (rewards : Rewards) (finite : List Bool) (plan : List (Option ℕ))
    (lower : ℕ → ℕ) : Type 0 where
  pub most : ℕ
  pub pays : (faces k s : ℕ) (opponent : Strategy) → IsStrategyOf q Min opponent → s < states q
      → is_finite finite s ≡ true →
      lower s * all_ways q faces k + most * reach q faces (by_plan q plan) opponent k [] s
      ≤ expected q rewards faces (by_plan q plan) opponent k [] s + most * all_ways q faces k

-- With the maximiser's plan, from a state that is not finite a goal is missed with a probability of at least 1/most,
-- whatever the minimiser does and however many turns are made. So what is expected is infinite.
pub record MissesAlways (q : Query) (finite : List Bool) (plan : List (Option ℕ)) : Type 0 where
  pub most : ℕ
  pub misses : (faces k s : ℕ) (opponent : Strategy) → IsStrategyOf q Min opponent → s < states q
      → is_finite finite s ≡ false →
      most * reach q faces (by_plan q plan) opponent k [] s + all_ways q faces k ≤ most * all_ways q faces k

-- These are bounds of the value of a game of rewards, if a play that comes to no goal counts as infinite. With its
-- replies the minimiser holds the maximiser to the upper table, over rewards that may be rounded up, from each state
-- that has an upper bound. With its choices the maximiser is paid the lower table, over rewards that may be rounded
-- down, from each finite state, and infinity from the others. Neither plan needs memory or dice, and each serves
-- whatever the other side does.
pub record AreRewardBounds (q : Query) (low high : Rewards) (finite bounded : List Bool)
    (choices replies : List (Option ℕ)) (lower upper : ℕ → ℕ) : Type 0 where
  pub held : PaysAtMost q high bounded replies upper
  pub ends : EndsSurely q bounded replies
  pub assured : PaysAtLeast q low finite choices lower
  pub endless : MissesAlways q finite choices

-- Two strategies reach a goal almost surely: for each m there is a number of turns within which the probability is at
-- least 1 - 1/m.
abbrev pub IsSureFrom : Query → ℕ → Strategy → Strategy → ℕ → Type 0
IsSureFrom q faces greatest least s = (m : ℕ) → 1 ≤ m → (k : ℕ) × (
    m * all_ways q faces k ≤ m * reach q faces greatest least k [] s + all_ways q faces k)

-- For each m there is a number of turns within which two strategies are expected to collect `units` units, less 1/m.
abbrev pub PaysFrom : Query → Rewards → ℕ → Strategy → Strategy → ℕ → ℕ → Type 0
PaysFrom q rewards faces greatest least s units = (m : ℕ) → 1 ≤ m → (k : ℕ) × (
    m * units * all_ways q faces k ≤ m * expected q rewards faces greatest least k [] s + all_ways q faces k)
