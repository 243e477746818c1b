use Rattle.inputs.proofs.Asking.{said_asks, asks_said}
use Rattle.inputs.proofs.laws.questions_are_what_is_asked.Goals as goal

pub returns : goal.returns
returns c = λ paths sources asked problem.
    (said_asks paths sources asked problem, asks_said paths sources asked problem)
