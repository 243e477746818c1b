use Rattle.reward_verdicts.proofs.Reading.{report-one}
use Rattle.reward_verdicts.proofs.laws.reward_reports_have_one_reading.Goals as goal

pub returns : goal.returns
returns c = λ places. report-one places (λ a b r s. c.values_have_one_reading.ensures.before_a_space places a b r s)
