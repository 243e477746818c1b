use Rattle.solved_plans.proofs.SurePlans.{sure-plan}
use Rattle.solved_plans.proofs.laws.almost_sure_states_have_a_plan.Goals as goal

pub returns : goal.returns
returns c = λ q sure values posed almost table. sure-plan q sure values posed almost table
