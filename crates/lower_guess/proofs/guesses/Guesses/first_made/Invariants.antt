use Rattle.std.proofs.Common.{◌≡◌, ℕ, ◌<◌, length}
use Rattle.std.specs.Prelude.{slice_index}
use Rattle.game_model.specs.Query.{states}
use Rattle.lower_guess.specs.inside.Marks.{AreQuiet}
use Rattle.lower_guess.specs.inside.OfGuesses.{IsTableOf, IsRefusedOf}
use Rattle.lower_guess.proofs.guesses.Guesses.first_made.Given as goal

abbrev pub invariant-loop-steps : goal.invariant-loop-steps
invariant-loop-steps l = record {
  table : IsTableOf l.self l.steps l.table.items;
  many : length l.marks.items ≡ states l.self.question.now;
  quiet : AreQuiet l.self.question.now l.marks.items (slice_index l.table.items);
  refused : (j : ℕ) → j < l.steps → IsRefusedOf l.self j;
}
