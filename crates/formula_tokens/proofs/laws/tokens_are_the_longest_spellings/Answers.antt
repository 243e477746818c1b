use Rattle.formula_tokens.proofs.Cutting.{tokens_cut, cut_read}
use Rattle.formula_tokens.proofs.laws.tokens_are_the_longest_spellings.Goals as goal

pub returns : goal.returns
returns c = λ text tokens. (tokens_cut text tokens, λ d. cut_read text tokens d 0)
