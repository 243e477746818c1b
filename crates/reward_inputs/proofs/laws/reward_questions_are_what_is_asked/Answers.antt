use Rattle.reward_inputs.proofs.Asking.{said_asks, asks_said}
use Rattle.reward_inputs.proofs.laws.reward_questions_are_what_is_asked.Goals as goal

pub returns : goal.returns
returns c = λ sources asked question. (said_asks sources asked question, asks_said sources asked question)
