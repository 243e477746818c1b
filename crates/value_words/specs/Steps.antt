-- These definitions say what each step makes of a table.
use Rattle.std.specs.Prelude.{◌≡◌, ℕ, ◌<◌, List, [], ◌∷◌, ◌++◌, slice_index, slice_set}
use Rattle.game_model.specs.Query.{Query, states}
use Rattle.step_core.specs.Word.{value_in, choice_in, value_at}
use Rattle.fixed_bellman.specs.Given.{IsFree, IsGivenBy}
use Rattle.value_words.specs.declared.rule.Sight.{Sight}
use Rattle.value_words.specs.Shown.{Shared}
use Rattle.value_words.specs.Rule.{halved, copied, joined, spent}

-- The word that was seen is exchanged for one of greater value, which its choice gives over all that was seen.
pub record IsOffer (q : Query) (seen : List ℕ) (state from to : ℕ) : Type 0 where
  pub inside : state < states q
  pub free : IsFree q state
  pub is_from : slice_index seen state ≡ from
  pub raised : value_in from < value_in to
  pub given : IsGivenBy q (value_at seen) state (value_in to) (choice_in to)

-- After a split of one pass there is a second one.
abbrev pub after_split : Shared → ℕ → Sight → Shared
after_split s id v = record s { views = slice_set s.views id (halved v) ++ copied v ∷ [] }

-- After a join one pass has both sights, and the other is spent.
abbrev pub after_join : Shared → ℕ → Sight → ℕ → Sight → Shared
after_join s id v other w = record s { views = slice_set (slice_set s.views id (joined v w)) other spent }
