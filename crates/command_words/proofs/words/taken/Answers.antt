use Rattle.clap.proofs.WalkLemmas.{both}
use Rattle.command_words.proofs.words.taken.Goals as goal

pub returns-in-Ok : goal.returns-in-Ok
returns-in-Ok c = record {
  no_fault = c.in-Ok.ensures.kinds c.requires;
  rows = (c.in-Ok.ensures.matches (both _ _ c.requires).0).0;
  parsed = c.in-Ok.ensures.parsed;
}
