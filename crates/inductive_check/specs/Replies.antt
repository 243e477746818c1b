-- These definitions say what replies of the minimiser are, and what they hold every opponent to.
use Rattle.std.specs.Prelude.{◌≡◌, ℕ, ◌*◌, ◌^◌, ◌<◌, ◌≤◌, true, List, length, slice_index_or, Option, None, IsSomeAnd}
use Rattle.game_model.specs.declared.game.Side.TheVariants.{Max, Min}
use Rattle.game_model.specs.Game.{choices_of}
use Rattle.game_model.specs.Query.{Query, states, is_goal, is_dead, side_at}
use Rattle.game_model.specs.Values.{denominator}
use Rattle.game_model.specs.Limits.{unit}
use Rattle.game_model.specs.Plans.{numerator_under}
use Rattle.fixed_bellman.specs.Given.{IsFree}
use Rattle.inductive_check.specs.Held.{IsHeldAt, IsFirstHeld}

-- The state is one of the minimiser, and neither goal nor dead.
pub record NeedsReply (q : Query) (s : ℕ) : Type 0 where
  pub free : IsFree q s
  pub least : side_at q s ≡ Min

-- A reply is given, in range, and held to the entry of the state.
abbrev pub IsReply : Query → (ℕ → ℕ) → ℕ → Option ℕ → Type 0
IsReply q table s reply = IsSomeAnd reply (λ choice. (choice < length (choices_of q.game s))
    × IsHeldAt q table s choice)

-- Each state that needs a reply has one.
abbrev pub AreReplies : Query → (ℕ → ℕ) → List (Option ℕ) → Type 0
AreReplies q table replies = (s : ℕ) → s < states q → NeedsReply q s → IsReply q table s (slice_index_or replies s None)

-- This is the first state that needs a reply and has none.
pub record IsFirstWithoutReply (q : Query) (table : ℕ → ℕ) (replies : List (Option ℕ)) (s : ℕ) : Type 0 where
  pub inside : s < states q
  pub needs : NeedsReply q s
  pub none : ¬ IsReply q table s (slice_index_or replies s None)
  pub before : (t : ℕ) → t < s → NeedsReply q t → IsReply q table t (slice_index_or replies t None)

-- If the state needs a reply, this is the first choice that is held. Elsewhere it is none.
pub record IsFirstReply (q : Query) (table : ℕ → ℕ) (s : ℕ) (reply : Option ℕ) : Type 0 where
  pub first : NeedsReply q s → IsSomeAnd reply (IsFirstHeld q table s)
  pub none_at_goals : is_goal q s ≡ true → reply ≡ None
  pub none_at_deads : is_dead q s ≡ true → reply ≡ None
  pub none_at_greatest : side_at q s ≡ Max → reply ≡ None

-- Each state has such a reply.
pub record AreFirstReplies (q : Query) (table : ℕ → ℕ) (replies : List (Option ℕ)) : Type 0 where
  pub as_many : length replies ≡ states q
  pub each : (s : ℕ) → s < states q → IsFirstReply q table s (slice_index_or replies s None)

-- If the minimiser plays these replies, no opponent, of any memory, is above the table at any horizon.
abbrev pub HoldsUnder : Query → List (Option ℕ) → (ℕ → ℕ) → Type 0
HoldsUnder q replies table = (k s : ℕ) → s < states q
    → unit * numerator_under q Min replies k s ≤ table s * denominator q.game ^ k
