-- Each list of a certificate is made of its sources.
use Rattle.std.specs.Prelude.{◌≡◌, ℕ, ◌<◌, ◌||◌, Bool, true, false, List, length, slice_index, slice_index_or}
use Rattle.std.specs.Prelude.{Option, None, IsSome, slice_get}
use Rattle.game_model.specs.declared.game.Side.TheVariants.{Max}
use Rattle.game_model.specs.Query.{Query, states, is_goal, side_at}
use Rattle.game_model.specs.Tables.{IsTable}
use Rattle.expected_rewards.specs.Tables.{is_finite, AreAwayRanks}
use Rattle.reward_check.specs.Certificates.{Certificate, flat_rewards}
use Rattle.reward_check.specs.Parts.{IsAccepted}
use Rattle.solved_rewards.specs.declared.merge.MergedLists.{MergedLists}
use Rattle.solved_rewards.specs.declared.sources.Sources.{Sources}
use Rattle.solved_rewards.specs.Away.{HasAwayChoices}
use Rattle.solved_rewards.specs.Paid.{IsLowerOf}
use Rattle.solved_rewards.specs.Values.{value_of, NeedsChoice, NeedsReply}

-- The away choices and ranks prove that the states that are not marked are not finite.
pub record ProvesAway (sources : Sources) : Type 0 where
  pub choices : HasAwayChoices sources.question.now sources.finite.now sources.away_choices.now
  pub ranks : AreAwayRanks sources.question.now sources.finite.now sources.away_choices.now
      (slice_index sources.away_ranks.now)

-- The goals and the states of the list are marked.
pub record AreBounded (q : Query) (found list : List Bool) : Type 0 where
  pub many : length list ≡ states q
  pub each : (s : ℕ) → s < states q → is_finite list s ≡ (is_goal q s || is_finite found s)

-- A state of the maximiser that is neither goal nor finite has the away choice. One that is finite, and whose lower
-- value is above 0, has the choice of the solver. Only these states need a choice.
pub record IsChoiceAt (sources : Sources) (lower : List ℕ) (s : ℕ) (choice : Option ℕ) : Type 0 where
  pub away_one : is_goal sources.question.now s ≡ false → side_at sources.question.now s ≡ Max
      → is_finite sources.finite.now s ≡ false → choice ≡ slice_index_or sources.away_choices.now s None
  pub solver_one : is_goal sources.question.now s ≡ false → side_at sources.question.now s ≡ Max
      → is_finite sources.finite.now s ≡ true → 0 < slice_index lower s
      → choice ≡ slice_get sources.candidates.now.choices.items s
  pub needed : IsSome choice → NeedsChoice sources.question.now sources.finite.now lower s

-- The list has these choices.
pub record AreChoices (sources : Sources) (lower : List ℕ) (list : List (Option ℕ)) : Type 0 where
  pub many : length list ≡ states sources.question.now
  pub each : (s : ℕ) → s < states sources.question.now → IsChoiceAt sources lower s (slice_index_or list s None)

-- These are the replies of the minimiser.
pub record AreReplies (q : Query) (bounded : List Bool) (list : List (Option ℕ)) : Type 0 where
  pub many : length list ≡ states q
  pub needed : (s : ℕ) → s < states q → IsSome (slice_index_or list s None) → NeedsReply q bounded s

-- The list has the away ranks at states that are not finite.
pub record AreRanks (q : Query) (finite : List Bool) (away list : List ℕ) : Type 0 where
  pub many : length list ≡ states q
  pub each : (s : ℕ) → s < states q → is_finite finite s ≡ false → slice_index list s ≡ slice_index away s

-- The lists are merged from sources: the states that are found to have an upper value, and a candidate for the lower
-- values.
pub record AreMerged (sources : Sources) (found : List Bool) (below : List ℕ) (lists : MergedLists) : Type 0 where
  pub bounded : AreBounded sources.question.now found lists.bounded.items
  pub lower : IsTable sources.question.now (value_of sources.question.now sources.finite.now below) lists.lower.items
  pub upper : IsTable sources.question.now
      (value_of sources.question.now lists.bounded.items sources.candidates.now.upper.items) lists.upper.items
  pub choices : AreChoices sources lists.lower.items lists.choices.items
  pub replies : AreReplies sources.question.now lists.bounded.items lists.replies.items
  pub ranks : AreRanks sources.question.now sources.finite.now sources.away_ranks.now lists.ranks.items

-- The lists and the sources say this certificate.
abbrev pub merged : Sources → MergedLists → Certificate
merged sources lists = record {
  question = sources.question.now;
  low = flat_rewards sources.question.now.game sources.candidates.now.low.items;
  high = flat_rewards sources.question.now.game sources.candidates.now.high.items;
  finite = sources.finite.now;
  bounded = lists.bounded.items;
  lower = slice_index lists.lower.items;
  upper = slice_index lists.upper.items;
  choices = lists.choices.items;
  replies = lists.replies.items;
  ranks = lists.ranks.items;
}

-- The check refuses what is merged.
pub record IsRefused (sources : Sources) (found : List Bool) (below : List ℕ) : Type 0 where
  pub lists : MergedLists
  pub are : AreMerged sources found below lists
  pub refused : ¬ IsAccepted (merged sources lists)

-- The lists are merged from sources, with the candidate for the lower values unless its choices do not pay it.
pub record AreFilled (sources : Sources) (lists : MergedLists) : Type 0 where
  pub found : List Bool
  pub below : List ℕ
  pub are : AreMerged sources found below lists
  pub lower : IsLowerOf sources.question.now sources.finite.now sources.candidates.now lists.lower.items
