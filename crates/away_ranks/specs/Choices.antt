-- This module defines which choices the maximiser has.
use Rattle.std.specs.Prelude.{◌≡◌, ℕ, ◌<◌, Bool, false, List, length, slice_index_or, Option, None, IsSomeAnd}
use Rattle.game_model.specs.declared.game.Side.TheVariants.{Max}
use Rattle.game_model.specs.Game.{choices_of}
use Rattle.game_model.specs.Query.{Query, states, side_at}
use Rattle.expected_rewards.specs.Tables.{is_finite}

-- The maximiser has a choice in range at each of its states that is not finite.
abbrev pub HasChoices : Query → List Bool → List (Option ℕ) → Type 0
HasChoices q finite choices = (s : ℕ) → s < states q → side_at q s ≡ Max → is_finite finite s ≡ false →
    IsSomeAnd (slice_index_or choices s None) (λ c. c < length (choices_of q.game s))
