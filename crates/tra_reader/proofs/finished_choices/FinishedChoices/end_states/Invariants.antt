use Rattle.std.proofs.Common.{◌≤◌, ◌-◌, ℕ, List}
use Rattle.transition_lines.specs.declared.line.Transition.{Transition}
use Rattle.transition_lines.specs.Order.{place_of}
use Rattle.tra_reader.specs.inside.GrowingGames.{place_behind, AreFinishedBefore}
use Rattle.tra_reader.proofs.finished_choices.FinishedChoices.end_states.Given as goal

abbrev pub invariant-loop-self : goal.invariant-loop-self
invariant-loop-self l = record {
  low : l.self.state ≤ l.to;
  place : (place : ℕ) → place_behind l.fn.self ≤ place → place_of l.to 0 ≤ place → place_behind l.self ≤ place;
  made : (n place : ℕ) (transitions : List Transition) → l.to ≤ n → place_of l.to 0 ≤ place
      → AreFinishedBefore n transitions place l.fn.self → AreFinishedBefore n transitions place l.self;
}

abbrev pub decreases-loop-self : goal.decreases-loop-self
decreases-loop-self l = l.to - l.self.state
