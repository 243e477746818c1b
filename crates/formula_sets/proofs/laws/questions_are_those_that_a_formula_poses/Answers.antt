use Rattle.formula_sets.proofs.Asking.{pose-found, pose-again}
use Rattle.formula_sets.proofs.AskingNext.{pose_next-found, pose_next-again}
use Rattle.formula_sets.proofs.laws.questions_are_those_that_a_formula_poses.Goals as goal

pub returns-clause-until : goal.returns-clause-until
returns-clause-until c = λ game l o f p flat. (pose-found game l o f p flat, pose-again game l o f p)

pub returns-clause-next : goal.returns-clause-next
returns-clause-next c = λ game l o f p flat. (pose_next-found game l o f p flat, pose_next-again game l o f p)
