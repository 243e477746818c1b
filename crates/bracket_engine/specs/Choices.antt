-- These definitions are about the choices of a bracket.
use Rattle.std.specs.Prelude.{◌≡◌, ℕ, ◌<◌, ◌==◌, ◌||◌, true, List, length, slice_index, slice_index_or, Option, Some}
use Rattle.std.specs.Prelude.{None, if◌then◌else◌}
use Rattle.game_model.specs.declared.game.Side.TheVariants.{Min}
use Rattle.game_model.specs.Query.{Query, states, is_goal, is_dead, side_at}
use Rattle.step_core.specs.Word.{value_in, choice_in}
use Rattle.step_core.specs.Events.{on_side}

-- A plan needs the choice of a word at a state of the maximiser that is neither goal nor dead, if the value is
-- positive.
abbrev pub choice_of_word : Query → ℕ → ℕ → Option ℕ
choice_of_word q s word =
    if is_goal q s || is_dead q s then None else on_side (side_at q s)
    (if value_in word == 0 then None else Some (choice_in word)) None

-- Each state has an entry. It is none at a goal, a dead state, a state of the minimiser and a state whose lower entry
-- is 0.
pub record AreChoices (q : Query) (lower : List ℕ) (choices : List (Option ℕ)) : Type 0 where
  pub as_many : length choices ≡ states q
  pub none_at_goals : (s : ℕ) → s < states q → is_goal q s ≡ true → slice_index_or choices s None ≡ None
  pub none_at_deads : (s : ℕ) → s < states q → is_dead q s ≡ true → slice_index_or choices s None ≡ None
  pub none_at_least : (s : ℕ) → s < states q → side_at q s ≡ Min → slice_index_or choices s None ≡ None
  pub none_at_zero : (s : ℕ) → s < states q → slice_index lower s ≡ 0 → slice_index_or choices s None ≡ None
