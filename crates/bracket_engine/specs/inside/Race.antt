-- This module defines when the rounds of two races are over: one on a question, and one on its swapped question.
use Rattle.std.specs.Prelude.{◌≡◌, ℕ, ◌<◌, ◌≤◌, ◌⊎◌, Bool, true, List, Option, None, IfSome, is_some}
use Rattle.game_model.specs.Query.{Query}
use Rattle.game_model.specs.Rounded.{IsSettled}
use Rattle.step_core.specs.Word.{value_at}
use Rattle.formula_reader.specs.declared.formula.Bound.{Bound}
use Rattle.verdicts.specs.Verdict.{is_asking}
use Rattle.marked_rounds.specs.DirtySet.{read_of}
use Rattle.marked_rounds.specs.Rounds.{IsRaced, IsRacing}
use Rattle.bracket_engine.specs.declared.race.Raced.{Raced}
use Rattle.bracket_engine.specs.declared.race.Racers.{Racers}
use Rattle.bracket_engine.specs.declared.stopping.SettlingGuess.{SettlingGuess}
use Rattle.bracket_engine.specs.Stop.{EndsWhereSettled, IsSettlingGuess}

-- The rounds of two races that left these values are over, after at most the asked rounds. They end early only if the
-- last round changed nothing on either, or if a guess settled the threshold at the initial states.
pub record IsEnd (q swapped_question : Query) (zero : List Bool) (bound : Bound) (initial : List ℕ) (asked : ℕ)
    (lower swapped_value : ℕ → ℕ) (rounds : ℕ) (still : Bool) (guess : Option SettlingGuess) : Type 0 where
  pub few : rounds ≤ asked
  pub quiet : still ≡ true → IsSettled q lower × IsSettled swapped_question swapped_value
  pub kept : IfSome guess (IsSettlingGuess q zero bound initial lower swapped_value)
  pub none : is_asking bound ≡ true → guess ≡ None
  pub early : rounds < asked → (still ≡ true) ⊎ (is_some guess ≡ true)
  pub in_time : EndsWhereSettled q swapped_question bound initial rounds

-- Two races made equally many rounds, and the values that were read last show that their rounds are over.
pub record HaveRaced {P C : Type 0} {h i : _} (q swapped_question : Query) (zero : List Bool) (bound : Bound)
    (initial : List ℕ) (asked : ℕ) (racers : Racers P C h i) : Type 0 where
  pub lower : IsRacing q racers.rounds racers.lower.pass racers.lower.dirty
  pub swapped : IsRacing swapped_question racers.rounds racers.swapped.pass racers.swapped.dirty
  pub end : IsEnd q swapped_question zero bound initial asked (read_of racers.lower.dirty)
      (read_of racers.swapped.dirty) racers.rounds racers.quiet racers.kept

-- These are the closed words of two races whose rounds are over.
pub record AreOver (q swapped_question : Query) (zero : List Bool) (bound : Bound) (initial : List ℕ) (asked : ℕ)
    (raced : Raced) : Type 0 where
  pub words : IsRaced q raced.words raced.rounds
  pub swapped_words : IsRaced swapped_question raced.swapped_words raced.rounds
  pub end : IsEnd q swapped_question zero bound initial asked (value_at raced.words) (value_at raced.swapped_words)
      raced.rounds raced.quiet raced.kept
