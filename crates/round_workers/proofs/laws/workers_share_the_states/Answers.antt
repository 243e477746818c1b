use Rattle.round_workers.proofs.Blocks.{worker_of-below, worker_of-rises}
use Rattle.round_workers.proofs.laws.workers_share_the_states.Goals as goal

pub returns-clause-one : goal.returns-clause-one
returns-clause-one c = worker_of-below

pub returns-clause-rising : goal.returns-clause-rising
returns-clause-rising c = λ game workers s t h le _. worker_of-rises game workers s t h le
