use Rattle.value_words.proofs.Events.{join-event}
use Rattle.value_words.proofs.laws.joins_are_events.Goals as goal

pub returns : goal.returns
returns c = join-event
