use Rattle.formula_tokens.proofs.Reaching.{before_token}
use Rattle.formula_tokens.proofs.laws.blanks_before_tokens_are_free.Goals as goal

pub returns : goal.returns
returns c = before_token
