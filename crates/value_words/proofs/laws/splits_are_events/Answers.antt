use Rattle.value_words.proofs.Events.{split-event}
use Rattle.value_words.proofs.laws.splits_are_events.Goals as goal

pub returns : goal.returns
returns c = split-event
