use Rattle.bracket_engine.proofs.Agreeing.{settled-agree}
use Rattle.bracket_engine.proofs.laws.settled_bases_agree.Goals as goal

pub returns : goal.returns
returns c = settled-agree
