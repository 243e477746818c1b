-- This module defines the lower side and the upper side of a bracket.
use Rattle.std.specs.Prelude.{ℕ, Bool, List, Option, slice_index}
use Rattle.game_model.specs.Query.{Query}
use Rattle.game_model.specs.Ranks.{Ranked, ReachesUnder}
use Rattle.inductive_check.specs.Replies.{AreReplies, AreFirstReplies, HoldsUnder}
use Rattle.rank_certificate.specs.Layers.{AreLayered}
use Rattle.lower_guess.specs.declared.guess.LowerGuess.{LowerGuess}
use Rattle.bracket_engine.specs.declared.upper.UpperSide.{UpperSide}
use Rattle.bracket_engine.specs.declared.stopping.SettlingGuess.{SettlingGuess}
use Rattle.bracket_engine.specs.Choices.{AreChoices}
use Rattle.bracket_engine.specs.Lower.{IsLowerTable}
use Rattle.bracket_engine.specs.Stop.{IsUpperFrom}

-- The lower side is a lower table over a base, with choices and ranks that prove it.
pub record IsLowerSide (q : Query) (zero : List Bool) (base : List ℕ) (side : LowerGuess) : Type 0 where
  pub lower : IsLowerTable q zero base side.values.items side.plan.choices.items side.plan.ranks.items
  pub choices : AreChoices q side.values.items side.plan.choices.items
  pub ranked : Ranked q side.values.items side.plan.choices.items side.plan.ranks.items
  pub layered : AreLayered q side.values.items side.plan.choices.items side.plan.ranks.items
  pub reached : ReachesUnder q side.plan.choices.items (slice_index side.values.items)

-- The upper side is an upper table from a base, swapped values and a guess that was kept, if any, and the replies to
-- it.
pub record IsUpperSide (q : Query) (zero : List Bool) (base swapped_value : ℕ → ℕ) (kept : Option SettlingGuess)
    (side : UpperSide) : Type 0 where
  pub upper : IsUpperFrom q zero base swapped_value kept side.table.items
  pub first : AreFirstReplies q (slice_index side.table.items) side.replies.items
  pub good : AreReplies q (slice_index side.table.items) side.replies.items
  pub holds : HoldsUnder q side.replies.items (slice_index side.table.items)
