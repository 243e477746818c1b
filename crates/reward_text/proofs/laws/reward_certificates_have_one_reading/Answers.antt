use Rattle.reward_text.proofs.ReadBack.{one_reading}
use Rattle.reward_text.proofs.laws.reward_certificates_have_one_reading.Goals as goal

pub returns : goal.returns
returns c = one_reading
