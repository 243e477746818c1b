-- These definitions say how the states of a round are shared out, and what a part of it leaves.
use Rattle.std.specs.Prelude.{◌≡◌, ℕ, ◌+◌, ◌*◌, ◌/◌, ◌<◌, ◌≤◌, Bool, List, length}
use Rattle.game_model.specs.Game.{Distribution, edges_below}
use Rattle.game_model.specs.Query.{Query}
use Rattle.game_model.specs.Rounded.{down_step}
use Rattle.step_core.specs.Word.{value_at}
use Rattle.value_words.specs.Passes.{PassSeat, GrewSeat}
use Rattle.predecessors.specs.Marks.{IsMarked}

-- A round has at most this many workers.
abbrev pub most_workers : ℕ
most_workers = 64

-- This is the worker of a state, out of `workers`: it depends on how many of all edges are below the state.
abbrev pub worker_of : List (List Distribution) → ℕ → ℕ → ℕ
worker_of game workers s = edges_below game s * workers / edges_below game (length game)

-- The states before this one belong to earlier workers. It and the states after it belong to this worker or to later
-- ones.
pub record BeginsBlock (game : List (List Distribution)) (workers worker first : ℕ) : Type 0 where
  pub within : first ≤ length game
  pub before : (s : ℕ) → s < first → worker_of game workers s < worker
  pub behind : (s : ℕ) → first ≤ s → s < length game → worker ≤ worker_of game workers s

-- The workers have taken the states from `low` up to and not including `high`. Each marked state is seen with at least
-- the down step of what was seen before. The exchanges that were won are no more than these states. The pass has all
-- its parts again, if it had one for each worker.
pub record IsSwept (q : Query) (marks : List Bool) (workers low high : ℕ) (old new : PassSeat)
    (raises : ℕ) : Type 0 where
  pub grew : GrewSeat old new
  pub step : (s : ℕ) → low ≤ s → s < high → IsMarked marks s
      → down_step q (value_at old.me.0.seen) s ≤ value_at new.me.0.seen s
  pub won : new.me.0.won ≡ old.me.0.won + raises
  pub few : low + raises ≤ high
  pub parts : workers ≤ old.me.0.parts → new.me.0.parts ≡ old.me.0.parts
