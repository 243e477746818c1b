use Rattle.bracket_engine.proofs.Agreeing.{settled-upper-agree}
use Rattle.bracket_engine.proofs.laws.settled_upper_bounds_agree.Goals as goal

pub returns : goal.returns
returns c = settled-upper-agree
