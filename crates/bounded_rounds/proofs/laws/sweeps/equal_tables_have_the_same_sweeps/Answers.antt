use Rattle.bounded_rounds.proofs.Parts.{IsSweep-same}
use Rattle.bounded_rounds.proofs.laws.sweeps.equal_tables_have_the_same_sweeps.Goals as goal

pub returns : goal.returns
returns c = IsSweep-same
