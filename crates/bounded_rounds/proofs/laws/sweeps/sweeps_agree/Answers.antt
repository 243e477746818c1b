use Rattle.bounded_rounds.proofs.Parts.{IsSweep-one}
use Rattle.bounded_rounds.proofs.laws.sweeps.sweeps_agree.Goals as goal

pub returns : goal.returns
returns c = IsSweep-one
