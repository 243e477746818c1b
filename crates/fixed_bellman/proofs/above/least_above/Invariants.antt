use Rattle.std.proofs.Common.{ℕ, ◌<◌, ◌≤◌, length}
use Rattle.game_model.specs.Game.{choices_of, choice_of}
use Rattle.game_model.specs.Limits.{unit}
use Rattle.game_model.specs.Rounded.{down_value}
use Rattle.fixed_bellman.proofs.above.least_above.Given as goal

abbrev pub invariant-loop-choice : goal.invariant-loop-choice
invariant-loop-choice g l =
    let game = l.question.game in
    let seen = g.V.Values.seen l.values in record {
      onward : g.V.Values.onward l.values l.fn.pass l.pass;
      floor : l.floor ≤ l.best;
      units : l.best ≤ unit;
      low : (c : ℕ) × (c < length (choices_of game l.state))
          × (down_value (seen l.fn.pass) (choice_of game l.state c) ≤ l.best);
      given : (c : ℕ) → c < l.choice → l.best ≤ down_value (seen l.pass) (choice_of game l.state c);
    }
