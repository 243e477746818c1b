use Rattle.reward_text.proofs.ReadBack.{read_back}
use Rattle.reward_text.proofs.laws.reward_certificates_are_read_back.Goals as goal

pub returns : goal.returns
returns c = read_back
