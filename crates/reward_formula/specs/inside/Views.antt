-- This definition is about what is read of a reward.
use Rattle.std.specs.Prelude.{ℕ, List, Option}
use Rattle.formula_tokens.specs.declared.cursor.Cursor.{Cursor}
use Rattle.formula_tokens.specs.Cursor.{tokens_at}
use Rattle.formula_tokens.specs.Tokens.{Tokens}
use Rattle.reward_formula.specs.declared.formula.RewardBound.{RewardBound}
use Rattle.reward_formula.specs.Grammar.{Reward, reward_of}

-- This was read of a reward: its name and the bound on it, and the tokens behind them.
abbrev pub reward_at : Option (List ℕ) × RewardBound × Cursor → Reward × Tokens
reward_at read = (reward_of read.0 read.1, tokens_at read.2)
