use Rattle.reward_values.proofs.Reading.{value-one, value-one_before}
use Rattle.reward_values.proofs.laws.values_have_one_reading.Goals as goal

pub returns-clause-alone : goal.returns-clause-alone
returns-clause-alone c = value-one

pub returns-clause-before_a_space : goal.returns-clause-before_a_space
returns-clause-before_a_space c = value-one_before
